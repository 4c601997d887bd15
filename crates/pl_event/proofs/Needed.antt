-- What a record needs that no notice names.
use Rattle.std.proofs.Common.{◌≡◌, ◌≢◌, ◌∙◌, ℕ, zero, suc, ◌+◌, ◌<◌, ◌≤◌, ◌⊎◌, List, length, map, set, get_or, get_or-set_same, get_or-set_other, length-set, slice_index, slice_index_or, Option, Some, None, refl, sym, ap, subst, inl, inr, arith}
use Rattle.std.proofs.lemmas.List.{ext_get_or}
use mathlib.Core.Logic.{dite}
use native.Mathlib.Decide.{ℕ_discrete}
use Rattle.pl_event.specs.declared.heads.Heads.{Heads}
use Rattle.pl_event.specs.declared.log.Line.{Line}
use Rattle.pl_event.specs.declared.log.Point.{Point}
use Rattle.pl_event.specs.Records.{records_before}
use Rattle.pl_event.specs.Edges.{arc_of, IsNotice, IsAfter, IsFlow}
use Rattle.pl_event.specs.Needs.{IsMost, need_of, needs_of, eight_harts}
use Rattle.pl_event.specs.Heads.{IsNext, Tells}
use Rattle.pl_event.specs.inner.Later.{later}
use Rattle.pl_event.proofs.Before.{is_need, most_after, most_notice, need_alone}

-- a list of eight that has at each index what a function gives there
pub eight_of : (f : ℕ → Option ℕ) (xs : List (Option ℕ)) → length xs ≡ 8 → ((u : ℕ) → u < 8 → get_or xs u None ≡ f u) → xs ≡ map f eight_harts
eight_of f xs long each = ext_get_or None xs (map f eight_harts) long (λ u l. each u (omega arith) ∙ sym (at u (let s : u < length xs = l in omega arith)))
  where
    at : (u : ℕ) → u < 8 → get_or (map f eight_harts) u None ≡ f u
    at zero l = refl
    at (suc zero) l = refl
    at (suc (suc zero)) l = refl
    at (suc (suc (suc zero))) l = refl
    at (suc (suc (suc (suc zero)))) l = refl
    at (suc (suc (suc (suc (suc zero))))) l = refl
    at (suc (suc (suc (suc (suc (suc zero)))))) l = refl
    at (suc (suc (suc (suc (suc (suc (suc zero))))))) l = refl
    at (suc (suc (suc (suc (suc (suc (suc (suc u)))))))) l = absurd (omega arith)

abbrev some_point : Point → Option Point
some_point p = Some p

module _ (harts : ℕ) (g : List Line) (flow : IsFlow harts g) (i h : ℕ) (l : Line) (next : IsNext g i h l)
    (s : Heads) (st : Tells s g i) (low : h < 8) (named : slice_index s.awaited h ≤ slice_index s.records h) where
  abbrev m : ℕ
  m = records_before h g i + 1

  -- no hart's last record is a notice of it
  pub no_notice : (u : ℕ) → u < 8 → IsMost (λ n. IsNotice g u n h m) None
  no_notice u below = (most_notice harts g flow i h l next s st u below).1 (λ p is x y.
      let bound : p.number ≤ slice_index s.awaited p.hart = st.awaited u p is (subst (λ (z : ℕ). z < 8) (sym x) low) in
      let there : slice_index s.awaited p.hart ≡ slice_index s.awaited h = ap (λ (z : ℕ). slice_index s.awaited z) x in
      let count : slice_index s.records h ≡ records_before h g i = st.records h low in
      let number : p.number ≡ records_before h g i + 1 = y in
      omega arith)

  -- its hart's last record is no notice
  pub no_after : slice_index_or s.notices h None ≡ None → (u : ℕ) → IsMost (λ n. IsAfter g u n h m) None
  no_after none u = (most_after harts g flow i h l next s st u low).1 (λ p is x. absurd (let e : None ≡ some_point p = sym none ∙ is in cc))

  -- neither bears on it
  pub unnoticed : slice_index_or s.notices h None ≡ None → (u n : ℕ) → u < 8 → (IsNotice g u n h m ⊎ IsAfter g u n h m) → ⊥
  unnoticed none u n below (inl notice) = no_notice u below n notice
  unnoticed none u n below (inr after) = no_after none u n after

  -- without a notice its arcs are its needs
  pub needs_arcs : (xs : List (Option ℕ)) → length xs ≡ 8 → xs ≡ l.arcs → slice_index_or s.notices h None ≡ None → xs ≡ needs_of g h m
  needs_arcs xs long same none = eight_of (λ u. need_of g u h m) xs long (λ u below.
      ap (λ (z : List (Option ℕ)). get_or z u None) same ∙ sym (need_alone harts g flow i h l next u (λ n. unnoticed none u n below)))

  -- after a notice the event that it names is needed too
  need_after : (p : Point) → slice_index_or s.notices h None ≡ Some p → (u : ℕ) → u < 8 → p.hart ≡ u → later (arc_of l u) (Some p.number) ≡ need_of g u h m
  need_after p is u below at = is_need harts g flow i h l next u (arc_of l u) None (Some p.number) refl (no_notice u below)
      ((most_after harts g flow i h l next s st u low).0 p is at)

  need_other : (p : Point) → slice_index_or s.notices h None ≡ Some p → (u : ℕ) → u < 8 → p.hart ≢ u → arc_of l u ≡ need_of g u h m
  need_other p is u below other = sym (need_alone harts g flow i h l next u (λ n. neither n))
    where
      apart : (q : Point) → slice_index_or s.notices h None ≡ Some q → q.hart ≡ u → ⊥
      apart q there at = let e : some_point p ≡ some_point q = sym is ∙ there in let same : p ≡ q = cc in other (ap (λ (z : Point). z.hart) same ∙ at)

      neither : (n : ℕ) → (IsNotice g u n h m ⊎ IsAfter g u n h m) → ⊥
      neither n (inl notice) = no_notice u below n notice
      neither n (inr after) = (most_after harts g flow i h l next s st u low).1 apart n after

  pub needs_event : (p : Point) → slice_index_or s.notices h None ≡ Some p → p.hart < 8 → (xs : List (Option ℕ)) → length xs ≡ 8 → xs ≡ l.arcs
      → (number : Option ℕ) → number ≡ later (slice_index_or xs p.hart None) (Some p.number) → set xs p.hart number ≡ needs_of g h m
  needs_event p is own xs long same number is_number = eight_of (λ u. need_of g u h m) (set xs p.hart number) (length-set xs p.hart number ∙ long) (λ u below.
      dite (ℕ_discrete u p.hart)
      (λ here.
      ap (λ (z : ℕ). get_or (set xs p.hart number) z None) here ∙ (get_or-set_same xs p.hart number None (omega arith)
      ∙ (is_number ∙ (ap (λ (z : List (Option ℕ)). later (slice_index_or z p.hart None) (Some p.number)) same
      ∙ (need_after p is p.hart own refl ∙ ap (λ (z : ℕ). need_of g z h m) (sym here))))))
      (λ ne. get_or-set_other xs p.hart u number None ne ∙ (ap (λ (z : List (Option ℕ)). get_or z u None) same ∙ need_other p is u below (λ e. ne (sym e)))))

  pub needs_no_event : (p : Point) → slice_index_or s.notices h None ≡ Some p → 8 ≤ p.hart → (xs : List (Option ℕ)) → length xs ≡ 8 → xs ≡ l.arcs → xs ≡ needs_of g h m
  needs_no_event p is far xs long same = eight_of (λ u. need_of g u h m) xs long (λ u below.
      ap (λ (z : List (Option ℕ)). get_or z u None) same ∙ need_other p is u below (λ e. let at : p.hart ≡ u = e in omega arith))
