-- The reads of a held load.
use Rattle.std.proofs.Common.{◌≡◌, ◌≢◌, ℕ, ◌+◌, ◌-◌, ◌*◌, ◌/◌, ◌%◌, ◌^◌, ◌<◌, ◌≤◌, true, false, refl, sym, ap, ◌∙◌, subst, arith}
use Rattle.std.proofs.Math.Logic.{∥∥₁_elim}
use denote.Struct.Props.{props}
use Rattle.pl_base.specs.Widths.{load_bytes}
use Rattle.pl_event.specs.Records.{line_number}
use Rattle.lifeguard.specs.State.{nibble_at}
use Rattle.order_core.specs.declared.course.Op.{Op}
use Rattle.order_core.specs.Course.{Planned, course_of}
use Rattle.order_core.specs.Lanes.{HasValueOf}
use Rattle.order_core.proofs.Known.{known}
use Rattle.guard_table.specs.declared.view.View.{View}
use Rattle.inherit_track.specs.declared.state.Held.{Held}
use Rattle.inherit_track.specs.declared.state.RegState.{RegState}
use Rattle.inherit_track.specs.declared.state.RegState.TheVariants as reg
use Rattle.inherit_track.specs.States.{IsResolved}
use Rattle.shadow_frames.specs.Words.{WordsRepresent, nibble_of, shadow_word}
use Rattle.worker_laws.specs.Runs.{IsRun, Run, before, masks_before}
use Rattle.worker_laws.specs.Reads.{IsHeld, directory_of, directory_read, mask_in, value_at, value_read}
use Rattle.worker_laws.specs.Kept.{Kept, Parts}
use Rattle.worker_laws.proofs.Reading.{own_lane, read_nibble, whole_word}
use Rattle.worker_laws.proofs.Steady.{nibble_below}
use Rattle.worker_laws.proofs.Turning.{kept_resolved}
use Rattle.worker_records.specs.Steps.{IsReadOf}
use Rattle.worker_records.specs.Words.{HasLowNibbles}
use Rattle.worker_records.proofs.AccessLemmas.{word_is}

module _ (p : Run) (run : IsRun p) (v : View) (n : ℕ) (parts : Parts) (kept : Kept p v.hart v n parts) (r : ℕ) (from : Held) (lt : r < 34) (e : parts.states r ≡ reg.Held from) (plan : Planned) (same : plan ≡ p.plan) where
  pub held : IsHeld p v.hart v n from (masks_before p v.hart (n + 1) r)
  held = kept.right.held r from lt e

  abbrev w : ℕ → ℕ
  w = (before p v.hart from.number).words

  pub directory_may : (word : ℕ) → word ≡ directory_of from.addr → IsReadOf plan v from.number 0 word false p (directory_read (before p v.hart from.number).words from.addr)
  directory_may word at = record { plan_is = sym same; able = held.directory; word_is = sym at; check_is = refl }

  pub low : (before p v.hart from.number).words (directory_of from.addr) ≤ 512
  low = ∥∥₁_elim (run.represents (line_number p.plan.log.lines v.hart from.number - 1)) (hlevel props) (λ (st : WordsRepresent (before p v.hart from.number).words (before p v.hart from.number).state.bytes).
      st.low (from.addr / 16 / 256) (let l : from.addr < 16777216 = held.near in omega arith))

  module _ (word : ℕ) (at : word ≡ directory_of from.addr) (d : ℕ) (wide : d < 2 ^ 64) (found : (q : Run) (o : Op) → IsReadOf plan v from.number 0 word false q o → HasValueOf o d) where
    pub directory_is : d ≡ (before p v.hart from.number).words (directory_of from.addr)
    directory_is = whole_word (directory_read (before p v.hart from.number).words from.addr) d refl wide (run.wide_words (line_number p.plan.log.lines v.hart from.number - 1) (directory_of from.addr))
        (found p (directory_read (before p v.hart from.number).words from.addr) (directory_may word at))

    pub directory_some : 1 ≤ d
    directory_some =
        let some : (before p v.hart from.number).words (directory_of from.addr) ≡ 0 → ⊥ = held.some_page in
        let is : d ≡ (before p v.hart from.number).words (directory_of from.addr) = directory_is in
        omega arith

    pub directory_low : d ≤ 512
    directory_low = subst (λ (z : ℕ). z ≤ 512) (sym directory_is) low

    module _ (op shadow : ℕ) (is_op : op ≡ value_at p.rules.name) (is_shadow : shadow ≡ shadow_word d from.addr) where
      pub value_may : IsReadOf plan v from.number op shadow false p (value_read p.plan.log.block (before p v.hart from.number).words from.addr)
      value_may = subst (λ (z : ℕ). IsReadOf plan v from.number z shadow false p (value_read p.plan.log.block (before p v.hart from.number).words from.addr)) (sym is_op)
          (record {
            plan_is = sym same;
            able = held.value;
            word_is = word_is (before p v.hart from.number).words from.addr ∙ sym (is_shadow ∙ ap (λ (z : ℕ). shadow_word z from.addr) directory_is);
            check_is = refl;
          })

      module _ (x : ℕ) (got : (q : Run) (o : Op) → IsReadOf plan v from.number op shadow false q o → HasValueOf o x) where
        has : HasValueOf (value_read p.plan.log.block (before p v.hart from.number).words from.addr) x
        has = got p (value_read p.plan.log.block (before p v.hart from.number).words from.addr) value_may

        pub low_nibbles : HasLowNibbles x from.addr (load_bytes from.width)
        low_nibbles i l =
            let f : from.addr % 4 + load_bytes from.width ≤ 4 = held.narrow in
            let s : nibble_at (before p v.hart from.number).state.bytes (from.addr + i) ≡ nibble_of x (from.addr % 16 + i)
            = ∥∥₁_elim (run.represents (line_number p.plan.log.lines v.hart from.number - 1)) (hlevel props) (λ (st : WordsRepresent (before p v.hart from.number).words (before p v.hart from.number).state.bytes).
            read_nibble (before p v.hart from.number).words (before p v.hart from.number).state.bytes st from.addr held.near held.some_page x (has (from.addr % 16 / 4) (omega arith) (own_lane p.plan.log.block from.addr)) i (omega arith)) in
            subst (λ (z : ℕ). z < 8) s (nibble_below (before p v.hart from.number).state.bytes (run.range (line_number p.plan.log.lines v.hart from.number - 1)).nibbles (from.addr + i))

        pub kept_after : (mask : ℕ) (states : ℕ → RegState) → mask ≡ mask_in p.rules from.width x from.addr → IsResolved from mask parts.states states → Kept p v.hart v n (record parts { states = states })
        kept_after mask states is resolved = kept_resolved p run (known (course_of p.plan) run.lawful) v.hart v n parts kept r from lt e x states has
            (subst (λ (z : ℕ). IsResolved from z parts.states states) is resolved)
