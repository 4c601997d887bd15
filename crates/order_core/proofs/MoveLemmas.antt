-- Each step on what is kept is the step of the core.
use Rattle.std.proofs.Common.{◌≡◌, ℕ, ◌+◌, ◌<◌, ◌≤◌, true, false, length, List, Some, slice_get, slice_index, slice_set, refl, sym, ap, ◌∙◌, subst, inl, inr, arith}
use Rattle.std.proofs.lemmas.List.{length-set}
use mathlib.Core.Logic.{dite}
use native.Mathlib.Decide.{ℕ_discrete}
use Rattle.order_core.specs.declared.course.Course.{Course}
use Rattle.order_core.specs.declared.course.Op.{Op}
use Rattle.order_core.specs.declared.course.Operation.{Operation}
use Rattle.order_core.specs.declared.place.Place.{Place}
use Rattle.order_core.specs.declared.state.HartState.{HartState}
use Rattle.order_core.specs.declared.state.CoreState.{CoreState}
use Rattle.order_core.specs.declared.steps.Act.TheVariants.{Perform}
use Rattle.order_core.specs.Course.{Planned, At, course_of, length_of, operation_of}
use Rattle.order_core.specs.Core.{Core, IsMet, MayRead, put, after_see, after_advertise}
use Rattle.order_core.specs.Lanes.{Lands}
use Rattle.order_core.specs.Lawful.{IsName}
use Rattle.order_core.specs.inner.Places.{place, ClashesBetween}
use Rattle.order_core.specs.Runs.{IsAllowed, Makes}
use Rattle.order_core.specs.States.{hart_in, core_in, core_of}
use Rattle.order_core.specs.inner.Kept.{IsKept, Fits}
use Rattle.order_core.proofs.HartLemmas.{only_one, is_next, may_write, may_read, clear_read, seen_kept}
use Rattle.order_core.proofs.Known.{Known}
use Rattle.order_core.proofs.Named.{op_at}
use Rattle.order_core.proofs.Ranks.{put_here, put_else, put_same}
use Rattle.order_core.proofs.StateLemmas.{core_set, number_set, kept_set}

module _ (plan : Planned) (k : Known (course_of plan)) where
  abbrev c : Course
  c = course_of plan

  module _ (s : CoreState) (fits : Fits c s) (h : ℕ) (low : h < c.log.harts) where
    abbrev own : HartState
    own = hart_in s.harts h

    abbrev core : Core
    core = core_of s

    pub in_eight : h < 8
    in_eight = let e : c.log.harts ≤ 8 = k.harts in omega arith

    in_list : h < length s.harts
    in_list = let e : length s.harts ≡ 8 = fits.harts.eight in let l : h < 8 = in_eight in omega arith

    pub kept : IsKept c h own
    kept = fits.harts.each h low

    below : (u : ℕ) → slice_index own.seen u ≤ (hart_in s.harts u).progress
    below u = fits.harts.seen h u

    module _ (of : ℕ) (other : of < c.log.harts) where
      abbrev number : ℕ
      number = (hart_in s.harts of).progress

      abbrev looked : HartState
      looked = record own { seen = slice_set own.seen of number }

      of_low : of < length own.seen
      of_low = let e : length own.seen ≡ 8 = kept.eight in let l : c.log.harts ≤ 8 = k.harts in omega arith

      look_at : (u : ℕ) → (slice_index own.seen u ≤ slice_index looked.seen u) × (slice_index looked.seen u ≤ (hart_in s.harts u).progress)
      look_at u = subst (λ (f : ℕ → ℕ). (slice_index own.seen u ≤ f u) × (f u ≤ (hart_in s.harts u).progress)) (sym (number_set own.seen of number of_low))
          (dite (ℕ_discrete u of)
          (λ e. subst (λ (z : ℕ). (slice_index own.seen z ≤ put (slice_index own.seen) of number z) × (put (slice_index own.seen) of number z ≤ (hart_in s.harts z).progress)) (sym e)
          (let n : put (slice_index own.seen) of number of ≡ number = put_here (slice_index own.seen) of number in let l : slice_index own.seen of ≤ number = below of in (omega arith, omega arith)))
          (λ ne. let n : put (slice_index own.seen) of number u ≡ slice_index own.seen u = put_else (slice_index own.seen) of u number ne in let l : slice_index own.seen u ≤ (hart_in s.harts u).progress = below u in (omega arith, omega arith)))

      pub see_fits : Fits c (record s { harts = slice_set s.harts h looked })
      see_fits = record {
        harts = kept_set c s.harts fits.harts h looked in_eight (seen_kept plan k h own kept looked.seen (length-set own.seen of number ∙ kept.eight) (λ u. (look_at u).0)) (omega arith) (λ u. (look_at u).1);
        words = fits.words;
      }

      pub see_made : core_of (record s { harts = slice_set s.harts h looked }) ≡ after_see core h of
      see_made = core_set s.harts s.words.items h looked in_list ∙ (λ i. record {
        written = put_same core.written h own.written refl i;
        progress = put_same core.progress h own.progress refl i;
        seen = put core.seen h (number_set own.seen of number of_low i);
        word = core.word;
      })

    -- a change of what was found to be met, and of a progress word that does not fall
    pub kept_fits : (x : HartState) → IsKept c h x → own.progress ≤ x.progress → x.seen ≡ own.seen → Fits c (record s { harts = slice_set s.harts h x })
    kept_fits x is up same = record {
      harts = kept_set c s.harts fits.harts h x in_eight is up (λ u. subst (λ (z : List ℕ). slice_index z u ≤ (hart_in s.harts u).progress) (sym same) (below u));
      words = fits.words;
    }

    pub advertise_made : (upto met : ℕ) → core_of (record s { harts = slice_set s.harts h (record own { progress = upto; met = met }) }) ≡ after_advertise core h upto
    advertise_made upto met = core_set s.harts s.words.items h (record own { progress = upto; met = met }) in_list ∙ (λ i. record {
      written = put_same core.written h own.written refl i;
      progress = put core.progress h upto;
      seen = put_same core.seen h (slice_index own.seen) refl i;
      word = core.word;
    })

    pub read_made : (met : ℕ) → core_of (record s { harts = slice_set s.harts h (record own { met = met }) }) ≡ core
    read_made met = core_set s.harts s.words.items h (record own { met = met }) in_list ∙ (λ i. record {
      written = put_same core.written h own.written refl i;
      progress = put_same core.progress h own.progress refl i;
      seen = put_same core.seen h (slice_index own.seen) refl i;
      word = core.word;
    })

    write_made : (to : Place) (met w v : ℕ) (ws : List ℕ) → ws ≡ slice_set s.words.items w v → w < length s.words.items
        → core_in (slice_set s.harts h (record own { written = own.written + 1; next = to; met = met })) ws ≡ record core { written = put core.written h (own.written + 1); word = put core.word w v }
    write_made to met w v ws is inside = core_set s.harts ws h (record own { written = own.written + 1; next = to; met = met }) in_list ∙ (λ i. record {
      written = put core.written h (own.written + 1);
      progress = put_same core.progress h own.progress refl i;
      seen = put_same core.seen h (slice_index own.seen) refl i;
      word = (ap slice_index is ∙ number_set s.words.items w v inside) i;
    })

    -- what is not allowed at an operation whose needs were not seen
    pub not_met : (n i : ℕ) → (IsMet c (slice_index own.seen) h n → ⊥) → IsAllowed c core h (Perform n i) → ⊥
    not_met n i missing (p, a, name, inl w) = missing (subst (λ (z : ℕ). IsMet c (slice_index own.seen) h z) name.1 w.4)
    not_met n i missing (p, a, name, inr r) = missing (subst (λ (z : ℕ). IsMet c (slice_index own.seen) h z) name.1 r.3)

    module _ (n i : ℕ) (o : Op) (from : 1 ≤ n) (top : n ≤ length_of c h) (there : slice_get (plan.operations h n) i ≡ Some o) where
      abbrev a : Operation
      a = operation_of h n i o

      pub found : (p : ℕ) × At c p a
      found = op_at plan h n i o from top there

      pub word_inside : o.word < length s.words.items
      word_inside = let l : o.word < length c.opening = (k.inside found.0 a found.1).what.high in let e : length s.words.items ≡ length c.opening = fits.words in omega arith

      pub lanes_low : o.lanes ≤ 15
      lanes_low = (k.inside found.0 a found.1).what.lanes.1

      pub op_low : i < 4294967295
      op_low = (k.inside found.0 a found.1).op

      is_op : (p : ℕ) (b : Operation) → At c p b → IsName h n i b → b ≡ a
      is_op p b at name = only_one plan k h n i p b o there at name

      module _ (writes : o.write ≡ true) where
        pub not_next : (place n i ≡ place own.next.number own.next.op → ⊥) → IsAllowed c core h (Perform n i) → ⊥
        not_next apart (p, b, name, inl w) = apart ((λ d. place (sym name.1 d) (sym name.2 d)) ∙ is_next plan k h own kept p b w)
        not_next apart (p, b, name, inr r) = let f : true ≡ false = sym writes ∙ (sym (ap (λ (z : Operation). z.what.write) (is_op p b r.0 name)) ∙ r.1) in absurd (cc)

        pub written : (to : Place) (met v : ℕ) (ws : List ℕ) → ws ≡ slice_set s.words.items o.word v → Lands o (slice_index s.words.items o.word) v
            → place n i ≡ place own.next.number own.next.op → IsMet c (slice_index own.seen) h met → n ≤ met
            → Makes c core h (Perform n i) (core_in (slice_set s.harts h (record own { written = own.written + 1; next = to; met = met })) ws)
        written to met v ws is lands same met_is le = (
          found.0,
          a,
          (refl, refl, refl),
          inl (
            may_write plan k h own kept n i met found.0 a found.1 (refl, refl, refl) writes same (let l : i < 4294967295 = op_low in omega arith) met_is le,
            v,
            lands,
            write_made to met o.word v ws is word_inside,
          ),
        )

      module _ (reads : o.write ≡ false) where
        pub not_above : n ≤ own.progress → IsAllowed c core h (Perform n i) → ⊥
        not_above le (p, b, name, inl w) = let f : false ≡ true = sym reads ∙ (sym (ap (λ (z : Operation). z.what.write) (is_op p b w.0 name)) ∙ w.1) in absurd (cc)
        not_above le (p, b, name, inr r) = let up : own.progress < b.number = r.4 in let e : b.number ≡ n = name.1 in absurd (omega arith)

        abbrev pub IsClear : Type 0
        IsClear = (ClashesBetween c h o (place n i) (place own.next.number own.next.op) → ⊥) × (ClashesBetween c h o (place own.next.number own.next.op) (place n i) → ⊥)

        pub not_clear : (IsClear → ⊥) → IsAllowed c core h (Perform n i) → ⊥
        not_clear clash (p, b, name, inl w) = let f : false ≡ true = sym reads ∙ (sym (ap (λ (z : Operation). z.what.write) (is_op p b w.0 name)) ∙ w.1) in absurd (cc)
        not_clear clash (p, b, name, inr r) =
            let e : b ≡ a = is_op p b r.0 name in
            clash (clear_read plan k h own kept n i p o (subst (At c p) e r.0) reads (subst (λ (z : Operation). MayRead c h own.written own.progress (slice_index own.seen) p z) e r))

        pub read : (met : ℕ) → IsMet c (slice_index own.seen) h met → n ≤ met → own.progress < n → IsClear
            → Makes c core h (Perform n i) (core_of (record s { harts = slice_set s.harts h (record own { met = met }) }))
        read met is le up clear = (
          found.0,
          a,
          (refl, refl, refl),
          inr (may_read plan k h own kept n i found.0 o found.1 reads met is le up clear, read_made met),
        )
