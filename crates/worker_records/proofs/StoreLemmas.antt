-- Loads and stores are made.
use Rattle.std.proofs.Common.{◌≡◌, ◌≢◌, ℕ, zero, suc, ◌+◌, ◌<◌, ◌≤◌, ◌⊎◌, inl, inr, Bool, true, false, eqb, cond, List, Option, Some, None, refl, sym, ap, ◌∙◌, subst, arith}
use mathlib.Core.Logic.{dite}
use native.Mathlib.Decide.{ℕ_discrete}
use Rattle.std.proofs.lemmas.Bool.{ne_eqb}
use Rattle.std.proofs.Common.{eq-eqb}
use Rattle.std.specs.Prelude.{bit_xor}
use Rattle.pl_base.specs.declared.widths.LoadWidth.{LoadWidth}
use Rattle.pl_base.specs.declared.widths.StoreWidth.{StoreWidth}
use Rattle.pl_base.specs.Widths.{load_bytes, store_bytes}
use Rattle.pl_event.specs.declared.event.Kind.TheVariants.{Ld, St}
use Rattle.lifeguard.specs.declared.guard.Name.{Name}
use Rattle.lifeguard.specs.declared.guard.Name.TheVariants as name
use Rattle.lifeguard.specs.Plain.{load_bits, loaded_mask}
use Rattle.order_core.specs.declared.course.Op.{Op}
use Rattle.order_core.specs.Core.{IsNextWrite}
use Rattle.order_core.specs.Course.{At, Planned, course_of, operation_of}
use Rattle.order_core.specs.Lanes.{HasValueOf}
use Rattle.order_core.proofs.Known.{Known, known}
use Rattle.guard_table.specs.declared.view.View.{View}
use Rattle.guard_table.specs.Puts.{IsPutOf}
use Rattle.guard_table.specs.Views.{known_core}
use Rattle.worker_laws.specs.Runs.{IsKind, IsRun, Run, before, masks_before}
use Rattle.worker_laws.specs.Reads.{directory_of, stored_word, value_at, value_read, value_write, word_of}
use Rattle.worker_laws.specs.Kept.{IsReady, Parts}
use Rattle.worker_laws.proofs.Loading.{puts_flip, puts_store, write_next}
use Rattle.shadow_frames.specs.Words.{shadow_word}
use Rattle.worker_records.specs.Accesses.{put_of}
use Rattle.worker_records.specs.Steps.{IsWriteOf}
use Rattle.worker_records.proofs.AccessLemmas.{word_is}

module _ (p : Run) (v : View) (n : ℕ) (parts : Parts) (ready : IsReady p v.hart v n parts) (width : StoreWidth) (rv rb addr : ℕ) (is : IsKind p v.hart (n + 1) (St width rv rb addr)) (other : p.rules.name ≢ name.Addr)
    (some : (before p v.hart (n + 1)).words (directory_of addr) ≢ 0) where
  k : Known (course_of p.plan)
  k = known (course_of p.plan) ready.run.lawful

  abbrev stored : ℕ → ℕ
  stored = stored_word p.rules ((before p v.hart (n + 1)).state.masks v.hart rv) width addr

  abbrev o : Op
  o = value_write p.plan.log.block (before p v.hart (n + 1)).words addr stored

  next : (at : ℕ) × IsNextWrite (course_of p.plan) (known_core v) v.hart at (operation_of v.hart (n + 1) (value_at p.rules.name + 1) o)
  next = write_next p ready.run k v.hart v n parts ready.kept ready.next width rv rb addr is other some

  puts : (x : ℕ) → HasValueOf (value_read p.plan.log.block (before p v.hart (n + 1)).words addr) x
      → IsPutOf (course_of p.plan) next.0 (operation_of v.hart (n + 1) (value_at p.rules.name + 1) o) (put_of p.plan.log.block x (stored x))
  puts x has = dite (ℕ_discrete p.plan.log.block 16)
      (λ e. subst (λ (b : Bool). IsPutOf (course_of p.plan) next.0 (operation_of v.hart (n + 1) (value_at p.rules.name + 1) o) (cond b (put_of 16 x (stored x)) (put_of 4 x (stored x)))) (sym (eq-eqb p.plan.log.block 16 e))
      (puts_store p ready.run k v.hart v n parts ready.kept ready.next width rv rb addr is other some x has next.0 next.1.0 e))
      (λ ne. subst (λ (b : Bool). IsPutOf (course_of p.plan) next.0 (operation_of v.hart (n + 1) (value_at p.rules.name + 1) o) (cond b (put_of 16 x (stored x)) (put_of 4 x (stored x)))) (sym (ne_eqb p.plan.log.block 16 ne))
      (puts_flip p ready.run k v.hart v n parts ready.kept ready.next width rv rb addr is other some x has next.0 next.1.0))

  module _ (plan : Planned) (same : plan ≡ p.plan) (op : ℕ) (is_op : op ≡ value_at p.rules.name) (word d : ℕ) (at_word : word ≡ shadow_word d addr) (is_d : d ≡ (before p v.hart (n + 1)).words (directory_of addr))
      (x : ℕ) (has : HasValueOf (value_read p.plan.log.block (before p v.hart (n + 1)).words addr) x) (mask after : ℕ) (is_mask : mask ≡ masks_before p v.hart (n + 1) rv) (is_after : after ≡ stored_word p.rules mask width addr x)
      (block : ℕ) (is_block : block ≡ p.plan.log.block) where
    after_is : after ≡ stored x
    after_is = is_after ∙ ap (λ (z : ℕ). stored_word p.rules z width addr x) is_mask

    pub write_may : IsWriteOf plan v (n + 1) (op + 1) word (put_of block x after) o
    write_may = subst (λ (z : Planned). IsWriteOf z v (n + 1) (op + 1) word (put_of block x after) o) (sym same)
        (subst (λ (z : ℕ). IsWriteOf p.plan v (n + 1) (z + 1) word (put_of block x after) o) (sym is_op)
        (subst (λ (z : ℕ). IsWriteOf p.plan v (n + 1) (value_at p.rules.name + 1) word (put_of z x after) o) (sym is_block)
        (subst (λ (z : ℕ). IsWriteOf p.plan v (n + 1) (value_at p.rules.name + 1) word (put_of p.plan.log.block x z) o) (sym after_is)
        (record {
          at = next.0;
          word_is = word_is (before p v.hart (n + 1)).words addr ∙ sym (at_word ∙ ap (λ (z : ℕ). shadow_word z addr) is_d);
          next = next.1;
          puts = puts x has;
        }))))
