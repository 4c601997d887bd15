-- Lists place by place.
use Rattle.std.proofs.Common.{◌≡◌, ℕ, ◌+◌, ◌<◌, List, [], ◌∷◌, ◌++◌, length, map, get_or, inl, inr, refl, sym, ap, ◌∙◌, subst, arith}
use Rattle.std.proofs.Math.ListN.{set}
use Rattle.std.proofs.lemmas.Bool.{cases_lt, cases_eq}
use Rattle.std.proofs.lemmas.List.{get_or-set_same, get_or-set_other, get_or_append_left, get_or_push, length-append}

-- a fact on old and new elements below a place, and at it
pub changed_more : {X : Type 0} (R : X → X → Type 0) (old xs : List X) (k : ℕ) (x : X) → k < length xs
    → ((j : ℕ) (d : X) → j < k → R (get_or old j d) (get_or xs j d)) → ((d : X) → R (get_or old k d) x)
    → (j : ℕ) (d : X) → j < k + 1 → R (get_or old j d) (get_or (set xs k x) j d)
changed_more R old xs k x inside below here j d lt =
    elim (cases_eq j k) [
      | inl e ↦ subst (λ i. R (get_or old i d) (get_or (set xs k x) i d)) (sym e) (subst (R (get_or old k d)) (sym (get_or-set_same xs k x d inside)) (here d))
      | inr ne ↦ subst (R (get_or old j d)) (sym (get_or-set_other xs k j x d ne)) (below j d (omega (arith, ne)))
    ]

-- a fact on the elements of two lists, and on one more of each
pub pushed_more : {X Y : Type 0} (R : X → Y → Type 0) (xs : List X) (ys : List Y) (x : X) (y e : Y) → length ys ≡ length xs
    → ((j : ℕ) (d : X) → j < length xs → R (get_or xs j d) (get_or ys j e)) → R x y
    → (j : ℕ) (d : X) → j < length (xs ++ x ∷ []) → R (get_or (xs ++ x ∷ []) j d) (get_or (ys ++ y ∷ []) j e)
pushed_more R xs ys x y e same below here j d lt =
    elim (cases_lt j (length xs)) [
      | inl low ↦ rw (get_or_append_left xs (x ∷ []) d j low, get_or_append_left ys (y ∷ []) e j (omega (arith, same))) (below j d low)
      | inr high ↦
          let at : j ≡ length xs = omega (arith, length-append xs (x ∷ [])) in
          subst (λ v. R v (get_or (ys ++ y ∷ []) j e)) (sym (get_or_push xs x d j (sym at)))
          (subst (R x) (sym (get_or_push ys y e j (same ∙ sym at))) here)
    ]

pub map_same : {X : Type 0} (xs : List X) → map (λ x. x) xs ≡ xs
map_same [] = refl
map_same (x ∷ xs) = ap (λ ys. x ∷ ys) (map_same xs)

pub map_map : {X Y Z : Type 0} (f : Y → Z) (g : X → Y) (xs : List X) → map f (map g xs) ≡ map (λ x. f (g x)) xs
map_map f g [] = refl
map_map f g (x ∷ xs) = ap (λ ys. f (g x) ∷ ys) (map_map f g xs)
