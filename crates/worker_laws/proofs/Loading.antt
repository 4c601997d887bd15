-- A load or a store is taken.
use Rattle.std.proofs.Common.{◌≡◌, ◌≢◌, ℕ, ◌+◌, ◌-◌, ◌*◌, ◌/◌, ◌%◌, ◌<◌, ◌≤◌, ◌⊎◌, inl, inr, List, [], Some, None, refl, sym, ap, ◌∙◌, subst, arith}
use Rattle.std.proofs.Math.Logic.{∥∥₁_elim}
use denote.Struct.Props.{props}
use Rattle.std.specs.Prelude.{bit_xor, slice_get}
use mathlib.Core.Logic.{dite}
use native.Mathlib.Decide.{ℕ_discrete}
use Rattle.pl_base.specs.declared.widths.LoadWidth.{LoadWidth}
use Rattle.pl_base.specs.declared.widths.LoadWidth.TheVariants as load
use Rattle.pl_base.specs.declared.widths.StoreWidth.{StoreWidth}
use Rattle.pl_base.specs.Widths.{load_bytes, store_bytes}
use Rattle.pl_event.specs.declared.event.Kind.TheVariants.{Ld, St}
use Rattle.pl_event.specs.Records.{line_number}
use Rattle.pl_event.specs.Runs.{IsBlockSize}
use Rattle.lifeguard.specs.declared.guard.Name.{Name}
use Rattle.lifeguard.specs.declared.guard.Name.TheVariants as name
use Rattle.lifeguard.specs.Plain.{loaded_mask}
use Rattle.order_core.specs.declared.course.Op.{Op}
use Rattle.order_core.specs.Core.{IsNextWrite}
use Rattle.order_core.specs.Course.{At, course_of, operation_of}
use Rattle.order_core.specs.Lawful.{IsLawful}
use Rattle.order_core.specs.Lanes.{HasValueOf, Meets}
use Rattle.order_core.specs.Shapes.{Shape}
use Rattle.order_core.specs.Turns.{HasComeTo}
use Rattle.order_core.proofs.Known.{Known}
use Rattle.guard_table.specs.declared.put.Put.TheVariants.{Flip, Store}
use Rattle.guard_table.specs.declared.view.View.{View}
use Rattle.guard_table.specs.Puts.{IsPutOf}
use Rattle.guard_table.specs.Views.{known_core, wrote}
use Rattle.inherit_track.specs.declared.state.Held.{Held}
use Rattle.inherit_track.specs.declared.state.RegState.{RegState}
use Rattle.inherit_track.specs.declared.state.RegState.TheVariants as reg
use Rattle.inherit_track.specs.States.{LiesIn, with_state}
use Rattle.shadow_frames.specs.Words.{WordsRepresent}
use Rattle.worker_laws.specs.Runs.{IsFlush, IsKind, IsRun, Run, before, reach_in}
use Rattle.worker_laws.specs.Reads.{IsHeld, directory_of, load_in, stored_word, value_at, value_read, value_write}
use Rattle.worker_laws.specs.Kept.{AreCounted, AreFound, HasTaken, IsNext, Kept, Parts}
use Rattle.worker_laws.proofs.Access as access
use Rattle.worker_laws.proofs.Keeping.{IsRight, calm, lasts_now, right_next, right_same, right_set, right_wrote}
use Rattle.worker_laws.proofs.Opening.{come_wrote, next_write}
use Rattle.worker_laws.proofs.Own.{event_masks}
use Rattle.worker_laws.proofs.Putting.{flip_put, store_put}
use Rattle.worker_laws.proofs.Reading.{store_meets, store_misses}
use Rattle.worker_laws.proofs.Steady.{directory_lasts}
use Rattle.worker_laws.proofs.Taking.{come, same_states, taken_next}

small : (n : Name) → value_at n + 1 + 1 < 4294967295
small name.Addr = omega arith
small name.Taint = omega arith
small name.Mem = omega arith

addr_not_taint : (n : Name) → n ≡ name.Addr → n ≢ name.Taint
addr_not_taint n e f = let g : name.Addr ≡ name.Taint = sym e ∙ f in cc

-- a load of the same block lies in it
some_bytes : (width : LoadWidth) → 1 ≤ load_bytes width
some_bytes load.B = omega arith
some_bytes load.H = omega arith
some_bytes load.W = omega arith
some_bytes load.Bu = omega arith
some_bytes load.Hu = omega arith

lies : (block addr : ℕ) (s : Held) → IsBlockSize block → s.addr / block ≡ addr / block → LiesIn (block * (addr / block)) block s
lies block addr s (inl b) = subst (λ (z : ℕ). s.addr / z ≡ addr / z → LiesIn (z * (addr / z)) z s) (sym b) (λ e. in_16 s.addr (load_bytes s.width) (some_bytes s.width) e)
  where
    in_16 : (a len : ℕ) → 1 ≤ len → a / 16 ≡ addr / 16 → (a < 16 * (addr / 16) + 16) × (16 * (addr / 16) < a + len)
    in_16 a len one e = (omega arith, omega arith)
lies block addr s (inr b) = subst (λ (z : ℕ). s.addr / z ≡ addr / z → LiesIn (z * (addr / z)) z s) (sym b) (λ e. in_4 s.addr (load_bytes s.width) (some_bytes s.width) e)
  where
    in_4 : (a len : ℕ) → 1 ≤ len → a / 4 ≡ addr / 4 → (a < 4 * (addr / 4) + 4) × (4 * (addr / 4) < a + len)
    in_4 a len one e = (omega arith, omega arith)

module _ (p : Run) (run : IsRun p) (k : Known (course_of p.plan)) (h : ℕ) (v : View) (n : ℕ) (parts : Parts) (kept : Kept p h v n parts) (next : IsNext p h v n) where
  from_one : 1 ≤ n + 1
  from_one = omega arith

  abbrev w : ℕ → ℕ
  w = (before p h (n + 1)).words

  first : HasComeTo (course_of p.plan) (known_core v) h (n + 1) 0
  first = come p run k h v n kept.taken next

  module _ (addr : ℕ) (rest : List Shape) (is : access.IsAccess p run h (n + 1) addr rest) where
    -- on a page that is not mapped, and under an address check, nothing is written
    no_page : (before p h (n + 1)).words (directory_of addr) ≡ 0 → HasTaken p h v (n + 1)
    no_page e = taken_next p run k h v n 1 next.within next.near (omega arith) (access.come_end p run h (n + 1) k from_one next.within addr rest is v first) (access.no_more p run h (n + 1) k from_one next.within addr rest is e)

    by_addr : (before p h (n + 1)).words (directory_of addr) ≢ 0 → p.rules.name ≡ name.Addr → HasTaken p h v (n + 1)
    by_addr some e = taken_next p run k h v n 2 next.within next.near (omega arith) (access.come_two p run h (n + 1) k from_one next.within addr rest is some v first (addr_not_taint p.rules.name e)) (access.addr_done p run h (n + 1) k from_one next.within addr rest is some e)

    pub unwritten : ((before p h (n + 1)).words (directory_of addr) ≡ 0) ⊎ (p.rules.name ≡ name.Addr) → HasTaken p h v (n + 1)
    unwritten (inl e) = no_page e
    unwritten (inr e) = dite (ℕ_discrete ((before p h (n + 1)).words (directory_of addr)) 0) no_page (λ some. by_addr some e)

  -- ---- loads

  module _ (width : LoadWidth) (rd rb addr : ℕ) (is : IsKind p h (n + 1) (Ld width rd rb addr)) where
    abbrev ops : access.IsAccess p run h (n + 1) addr []
    ops = access.load_access p run h (n + 1) width rd rb addr from_one next.within is

    load_taken : HasTaken p h v (n + 1)
    load_taken = dite (ℕ_discrete ((before p h (n + 1)).words (directory_of addr)) 0) (no_page addr [] ops) (λ some. by some p.rules.name refl)
      where
        other : (a b : Name) → a ≡ p.rules.name → (a ≡ name.Addr → ⊥) → p.rules.name ≢ name.Addr
        other a b e f g = f (e ∙ g)

        taint_not : name.Taint ≡ name.Addr → ⊥
        taint_not z = cc

        mem_not : name.Mem ≡ name.Addr → ⊥
        mem_not z = cc

        by_value : (before p h (n + 1)).words (directory_of addr) ≢ 0 → p.rules.name ≢ name.Addr → HasTaken p h v (n + 1)
        by_value some not =
            let l : value_at p.rules.name + 1 + 1 < 4294967295 = small p.rules.name in
            let e : 0 + 1 + value_at p.rules.name ≡ value_at p.rules.name + 1 = omega arith in
            taken_next p run k h v n (value_at p.rules.name + 1) next.within next.near (omega arith)
            (access.after_value p run h (n + 1) k from_one next.within addr [] ops some v first not)
            (ap (slice_get (p.plan.operations h (n + 1))) (sym e) ∙ access.rest_there p run h (n + 1) k from_one next.within addr [] ops some 0 None not refl)

        by : (before p h (n + 1)).words (directory_of addr) ≢ 0 → (x : Name) → x ≡ p.rules.name → HasTaken p h v (n + 1)
        by some name.Addr e = by_addr addr [] ops some (sym e)
        by some name.Taint e = by_value some (other name.Taint name.Addr e taint_not)
        by some name.Mem e = by_value some (other name.Mem name.Addr e mem_not)

    -- its register represents its mask: known, or held
    pub kept_load : (x : RegState) (after : Parts) → IsRight p h v (n + 1) x (loaded_mask p.rules width (before p h (n + 1)).state.bytes addr)
        → ((r : ℕ) → after.states r ≡ with_state parts.states rd x r) → AreFound p h after.look (n + 1) → AreCounted p h (n + 1) after → Kept p h v (n + 1) after
    kept_load x after right states found counted = record {
      taken = load_taken;
      right = same_states p h v (n + 1) (n + 1 + 1) (with_state parts.states rd x) after.states states
          (right_set p h v (n + 1) (n + 1) (n + 1 + 1) rd (loaded_mask p.rules width (before p h (n + 1)).state.bytes addr) x parts.states
          (right_next p h v n (n + 1) parts.states (calm p h (n + 1) (Ld width rd rb addr) is refl) kept.right) right (λ r. event_masks p run h (n + 1) (Ld width rd rb addr) r is));
      found = found;
      counted = counted;
    }

    -- the read of the value is left for later
    pub held_load : p.rules.name ≢ name.Addr → (before p h (n + 1)).words (directory_of addr) ≢ 0 → IsHeld p h v (n + 1) (record { addr = addr; width = width; number = n + 1 }) (loaded_mask p.rules width (before p h (n + 1)).state.bytes addr)
    held_load other some =
        let near = access.near p run h (n + 1) (Ld width rd rb addr) (record { addr = addr; width = load_bytes width }) is refl in
        record {
          source = ap load_in is;
          near = near.0;
          narrow = near.1;
          past = omega arith;
          some_page = some;
          directory = access.directory_able p run h (n + 1) k from_one next.within addr [] ops v first;
          value = access.value_able p run h (n + 1) k from_one next.within addr [] ops some v first other;
          mask_is = refl;
          lasts = directory_lasts p run h (n + 1) from_one next.within (calm p h (n + 1) (Ld width rd rb addr) is refl) (directory_of addr) (low addr near.0);
        }
      where
        low : (a : ℕ) → a < 16777216 → directory_of a < 4113
        low a l = omega arith

  -- ---- stores

  module _ (width : StoreWidth) (rv rb addr : ℕ) (is : IsKind p h (n + 1) (St width rv rb addr)) where
    abbrev rest : List Shape
    rest = access.store_rest p run h (n + 1) width rv addr

    abbrev stored : ℕ → ℕ
    stored = stored_word p.rules ((before p h (n + 1)).state.masks h rv) width addr

    abbrev write : Op
    write = value_write p.plan.log.block (before p h (n + 1)).words addr stored

    abbrev parts_of : access.IsAccess p run h (n + 1) addr rest
    parts_of = access.store_access p run h (n + 1) width rv rb addr from_one next.within is

    still : IsFlush p h (n + 1) → ⊥
    still = calm p h (n + 1) (St width rv rb addr) is refl

    -- a store that writes nothing
    pub kept_unwritten : (after : Parts) → ((before p h (n + 1)).words (directory_of addr) ≡ 0) ⊎ (p.rules.name ≡ name.Addr) → ((r : ℕ) → after.states r ≡ parts.states r)
        → AreFound p h after.look (n + 1) → AreCounted p h (n + 1) after → Kept p h v (n + 1) after
    kept_unwritten after none states found counted = record {
      taken = unwritten addr rest parts_of none;
      right = same_states p h v (n + 1) (n + 1 + 1) parts.states after.states states
          (right_same p h v (n + 1) (n + 1) (n + 1 + 1) parts.states (right_next p h v n (n + 1) parts.states still kept.right) (λ r. event_masks p run h (n + 1) (St width rv rb addr) r is));
      found = found;
      counted = counted;
    }

    module _ (other : p.rules.name ≢ name.Addr) (some : (before p h (n + 1)).words (directory_of addr) ≢ 0) where
      write_there : slice_get (p.plan.operations h (n + 1)) (value_at p.rules.name + 1) ≡ Some write
      write_there =
          let e : 0 + 1 + value_at p.rules.name ≡ value_at p.rules.name + 1 = omega arith in
          ap (slice_get (p.plan.operations h (n + 1))) (sym e) ∙ access.rest_there p run h (n + 1) k from_one next.within addr rest parts_of some 0 (Some write) other refl

      at_write : HasComeTo (course_of p.plan) (known_core v) h (n + 1) (value_at p.rules.name + 1)
      at_write = access.after_value p run h (n + 1) k from_one next.within addr rest parts_of some v first other

      -- the write is the hart's next
      pub write_next : (q : ℕ) × IsNextWrite (course_of p.plan) (known_core v) h q (operation_of h (n + 1) (value_at p.rules.name + 1) write)
      write_next = next_write p k h v (n + 1) (value_at p.rules.name + 1) write (access.listed p run h (n + 1) k from_one next.within addr rest parts_of (value_at p.rules.name + 1) write write_there) at_write refl

      wrote_taken : HasTaken p h (wrote v) (n + 1)
      wrote_taken =
          let e : 1 + 1 + value_at p.rules.name ≡ value_at p.rules.name + 1 + 1 = omega arith in
          taken_next p run k h (wrote v) n (value_at p.rules.name + 1 + 1) next.within next.near (small p.rules.name)
          (come_wrote p k h v (n + 1) (value_at p.rules.name + 1) write (access.listed p run h (n + 1) k from_one next.within addr rest parts_of (value_at p.rules.name + 1) write write_there) at_write refl)
          (ap (slice_get (p.plan.operations h (n + 1))) (sym e) ∙ access.rest_there p run h (n + 1) k from_one next.within addr rest parts_of some 1 None other refl)

      -- what the store may put, where the read of the value found x
      module _ (x : ℕ) (has : HasValueOf (value_read p.plan.log.block (before p h (n + 1)).words addr) x) (at : ℕ) (there : At (course_of p.plan) at (operation_of h (n + 1) (value_at p.rules.name + 1) write)) where
        value_here : slice_get (p.plan.operations h (n + 1)) (value_at p.rules.name) ≡ Some (value_read p.plan.log.block (before p h (n + 1)).words addr)
        value_here = access.value_there p run h (n + 1) k from_one next.within addr rest parts_of some other

        fits : (addr < 16777216) × (addr % 4 + store_bytes width ≤ 4)
        fits = access.near p run h (n + 1) (St width rv rb addr) (record { addr = addr; width = store_bytes width }) is refl

        pub puts_store : p.plan.log.block ≡ 16 → IsPutOf (course_of p.plan) at (operation_of h (n + 1) (value_at p.rules.name + 1) write) (Store (stored x))
        puts_store block = store_put p run k h (n + 1) (value_at p.rules.name) from_one next.within ((before p h (n + 1)).state.masks h rv) width addr fits.1 (before p h (n + 1)).words value_here write_there x has at there block

        pub puts_flip : IsPutOf (course_of p.plan) at (operation_of h (n + 1) (value_at p.rules.name + 1) write) (Flip (bit_xor x (stored x)))
        puts_flip = flip_put p run k h (n + 1) (value_at p.rules.name) from_one next.within ((before p h (n + 1)).state.masks h rv) width addr fits.1 (before p h (n + 1)).words value_here write_there x has at there

      -- where no held load lies in its block
      module _ (apart : (r : ℕ) (s : Held) → parts.states r ≡ reg.Held s → LiesIn (p.plan.log.block * (addr / p.plan.log.block)) p.plan.log.block s → ⊥) where
        clashes : (r : ℕ) (s : Held) (y : ℕ) → parts.states r ≡ reg.Held s → IsHeld p h v n s y → Meets write (value_read p.plan.log.block (before p h s.number).words s.addr) → ⊥
        clashes r s y e i meet =
            let near = access.near p run h (n + 1) (St width rv rb addr) (record { addr = addr; width = store_bytes width }) is refl in
            ∥∥₁_elim run.lawful (hlevel props) (λ (l : IsLawful (course_of p.plan)).
            ∥∥₁_elim (run.represents (line_number p.plan.log.lines h (n + 1) - 1)) (hlevel props) (λ (st : WordsRepresent (before p h (n + 1)).words (before p h (n + 1)).state.bytes).
            apart r s e (lies p.plan.log.block addr s l.log.opening.block
            (store_meets (before p h (n + 1)).words (before p h s.number).words (before p h (n + 1)).state.bytes st p.plan.log.block addr s.addr stored near.0 i.near some i.some_page
            (lasts_now p h n (record { addr = addr; width = store_bytes width }) (λ q. q.words (directory_of s.addr) ≡ (before p h s.number).words (directory_of s.addr)) i.lasts next.within (ap reach_in is))
            meet l.log.opening.block))))

        pub kept_store : (after : Parts) → ((r : ℕ) → after.states r ≡ parts.states r) → AreFound p h after.look (n + 1) → AreCounted p h (n + 1) after → Kept p h (wrote v) (n + 1) after
        kept_store after states found counted = record {
          taken = wrote_taken;
          right = same_states p h (wrote v) (n + 1) (n + 1 + 1) parts.states after.states states
              (right_same p h (wrote v) (n + 1) (n + 1) (n + 1 + 1) parts.states
              (right_next p h (wrote v) n (n + 1) parts.states still
              (right_wrote p h k v n (n + 1) write_next.0 (operation_of h (n + 1) (value_at p.rules.name + 1) write) parts.states write_next.1
              (λ r s y e i. ((λ meet. store_misses (before p h (n + 1)).words (before p h s.number).words p.plan.log.block addr s.addr stored i.near meet), (λ meet. clashes r s y e i meet)))
              kept.right))
              (λ r. event_masks p run h (n + 1) (St width rv rb addr) r is));
          found = found;
          counted = counted;
        }
