-- Each word step keeps the rule, and tells what it says.
use Rattle.std.proofs.Common.{◌≡◌, ℕ, ◌+◌, ◌-◌, ◌<◌, ◌≤◌, List, length, get_or, refl, sym, ap, ◌∙◌, subst, arith}
use Rattle.std.specs.List.{Contains}
use mathlib.Core.Option.{none}
use Rattle.atomic_table.specs.Table.{Step, keeps, step, Allows, Splits, Joins, Final, Seen}
use Rattle.atomic_table.specs.Seated.{TableId}
use Rattle.atomic_table.proofs.Lists.{set_else}
use Rattle.order_core.specs.declared.course.Course.{Course}
use Rattle.order_core.specs.declared.course.Operation.{Operation}
use Rattle.order_core.specs.Lanes.{HasValueOf}
use Rattle.order_core.specs.Course.{length_of}
use Rattle.order_core.specs.Lawful.{IsLawful}
use Rattle.order_core.specs.Core.{IsPassed, IsOpen, IsNextWrite, opening_core}
use Rattle.guard_table.specs.declared.put.Put.{Put}
use Rattle.guard_table.specs.declared.view.View.{View}
use Rattle.guard_table.specs.declared.view.Role.TheVariants.{OfHead, OfHart, OfNote}
use Rattle.guard_table.specs.Views.{made_seat, fresh_view, freed_seat, told_by, learnt_from, looked, advertised, wrote, spent_view, known_core, HasEight}
use Rattle.guard_table.specs.Rule.{HoldsCore}
use Rattle.guard_table.specs.Puts.{IsPutOf, after_put}
use Rattle.guard_table.specs.Seats.{AreLastWords}
use Rattle.guard_table.specs.Laws.{after_step, opening_table}
use Rattle.guard_table.specs.inner.Plays.{Held, IsSeen, IsAdvertised, IsRead, IsWritten}
use Rattle.order_core.proofs.KnownLaws as core
use Rattle.guard_table.proofs.PutLemmas.{lands}
use Rattle.guard_table.proofs.SeatLemmas as seats
use Rattle.guard_table.proofs.StepLemmas as steps

module _ (c : Course) where
  pub starts : ∥ IsLawful c ∥₁ → HoldsCore c (opening_table c)
  starts law = record { lawful = law; core = opening_core c; represented = seats.opens c law }

  pub sees : (slots id x : ℕ) (me : Held) → me.0.role ≡ OfHart → HasEight me.0 → x < c.log.harts → Allows (HoldsCore c) slots id me (x + 1) (λ n. n) (IsSeen (step slots (x + 1) 0 0 none) me)
  sees slots id x me role eight inside s r _ at _ =
      let v : View = me.0 in
      let n : ℕ = get_or s.words (x + 1) 0 in
      let same : x ≡ x + 1 - 1 = omega arith in (
        looked x n v,
        keeps,
        tt,
        record { lawful = r.lawful; core = _; represented = steps.see_represents c r.lawful s r.core r.represented id v at role eight x inside },
        (
          ap (λ (z : ℕ). (looked z n v, me.1)) same,
          subst (λ (z : ℕ). get_or v.seen z 0 ≤ n) same (steps.see_finds c r.lawful s r.core r.represented id v at role eight x inside).0,
          subst (λ (z : ℕ). get_or v.learnt z 0 ≤ n) same (steps.see_finds c r.lawful s r.core r.represented id v at role eight x inside).1,
        ),
      )

  pub advertises : (slots id upto : ℕ) (me : Held) → me.0.role ≡ OfHart → me.0.progress ≤ upto → IsPassed c me.0.written (λ u. get_or me.0.seen u 0) me.0.hart upto
      → Allows (HoldsCore c) slots id me (me.0.hart + 1) (λ _. upto) (λ _. IsAdvertised (step slots (me.0.hart + 1) upto 0 none) me upto)
  advertises slots id upto me role rises passed s r _ at _ = (
    advertised upto me.0,
    keeps,
    tt,
    record { lawful = r.lawful; core = _; represented = steps.advertise_represents c r.lawful s r.core r.represented id me.0 at role upto rises passed },
    refl,
  )

  pub advertises_at : (slots id h upto : ℕ) (me : Held) → me.0.role ≡ OfHart → me.0.hart ≡ h → me.0.progress ≤ upto → IsPassed c me.0.written (λ u. get_or me.0.seen u 0) me.0.hart upto
      → Allows (HoldsCore c) slots id me (h + 1) (λ _. upto) (λ _. IsAdvertised (step slots (h + 1) upto 0 none) me upto)
  advertises_at slots id h upto me role own rises passed = subst (λ (z : ℕ). Allows (HoldsCore c) slots id me (z + 1) (λ _. upto) (λ _. IsAdvertised (step slots (z + 1) upto 0 none) me upto)) own (advertises slots id upto me role rises passed)

  pub reads : (slots id i : ℕ) (me : Held) → me.0.role ≡ OfHart → Allows (HoldsCore c) slots id me i (λ n. n) (IsRead (step slots i 0 0 none) me)
  reads slots id i me role s r _ at _ =
      let v : View = me.0 in (
        v,
        keeps,
        tt,
        record { lawful = r.lawful; core = _; represented = steps.load_represents c r.lawful s r.core r.represented id v at role i },
        (
          refl,
          λ p a may on. subst (λ (z : ℕ). HasValueOf a.what (get_or s.words z 0)) on
              (steps.read_finds c r.lawful s r.core r.represented id v at role p a
              (subst (λ (z : Course). IsOpen z (known_core v) v.hart p a) (steps.own c r.lawful s r.core r.represented id v at role).course may)),
        ),
      )

  pub writes : (slots id i : ℕ) (me : Held) (p : ℕ) (a : Operation) (put : Put) (st : Step (Unit {0})) (told : ℕ → ℕ) → me.0.role ≡ OfHart → a.what.word ≡ i → IsNextWrite c (known_core me.0) me.0.hart p a → IsPutOf c p a put
      → Allows (HoldsCore c) slots id me i (after_put put) (λ x. IsWritten st me (told x))
  writes slots id i me p a put st told role on next is s r _ at _ = (
    wrote me.0,
    keeps,
    tt,
    subst (λ (z : ℕ). HoldsCore c (after_step s id z (after_put put (get_or s.words z 0)) (wrote me.0))) on
        (record { lawful = r.lawful; core = _; represented = steps.write_represents c r.lawful s r.core r.represented id me.0 at role p a next (after_put put) (lands c p a put is) }),
    refl,
  )

  pub makes : (id h : ℕ) (v : View) → v.role ≡ OfHead → h < c.log.harts → (Contains v.made h → ⊥) → Splits (HoldsCore c) id v (made_seat h v) (fresh_view h v)
  makes id h v role inside new s r at = record { lawful = r.lawful; core = r.core; represented = seats.makes c s r.core r.represented id v at role h inside new }

  pub tells : (id : ℕ) (v : View) → v.role ≡ OfHart → Splits (HoldsCore c) id v v (told_by v)
  tells id v role s r at = record { lawful = r.lawful; core = r.core; represented = seats.tells c s r.core r.represented id v at role }

  pub learns : (id : ℕ) (v : View) (other : ℕ) (w : View) → v.role ≡ OfHart → w.role ≡ OfNote → Joins (HoldsCore c) id v other w (learnt_from w v) spent_view
  learns id v other w role told s r at apart there =
      let was = sym (set_else s.views id other (learnt_from w v) apart) ∙ there in
      record { lawful = r.lawful; core = r.core; represented = seats.learns c s r.core r.represented id v at other w was role told }

  pub takes_back : (id : ℕ) (v : View) (other : ℕ) (w : View) → v.role ≡ OfHead → w.role ≡ OfHart → w.progress ≡ length_of c w.hart → Joins (HoldsCore c) id v other w (freed_seat w.hart v) spent_view
  takes_back id v other w role of_hart full s r at apart there =
      let was = sym (set_else s.views id other (freed_seat w.hart v) apart) ∙ there in
      record { lawful = r.lawful; core = r.core; represented = seats.takes_back c s r.core r.represented id v at other w was role of_hart full }

  pub closes : (id : ℕ) (v : View) (ws : List ℕ) (xs : List (Unit {0})) → v.role ≡ OfHead → ((h : ℕ) → h < c.log.harts → Contains v.freed h) → Final (Seen (HoldsCore c) id v) ws xs → AreLastWords c ws
  closes id v ws xs role all end = subst (AreLastWords c) end.2 (seats.ends c end.0 end.1.0 id v end.1.1 role all)

-- the table of a seat has as many words as its course
pub as_many : (t t' : TableId) (c c' : Course) → t' ≡ t → c' ≡ c → t'.words ≡ length c'.opening → t.words ≡ length c.opening
as_many t t' c c' same on words = ap (λ (z : TableId). z.words) (sym same) ∙ (words ∙ ap (λ (z : Course). length z.opening) on)

-- and so more than 8
pub nine_words : (c : Course) → ∥ IsLawful c ∥₁ → 9 ≤ length c.opening
nine_words c law = (core.table c law).size.0
