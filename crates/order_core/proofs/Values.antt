-- Where operations are filled from the words as they are, each read has what the writes before it leave.
use Rattle.std.proofs.Common.{◌≡◌, ℕ, zero, suc, ◌+◌, ◌<◌, Bool, true, false, ◌&&◌, ltb, eqb, List, [], ◌∷◌, ◌++◌, refl, sym, ap, ◌∙◌, subst, arith, eq-eqb, lt-ltb, le-ltb, if◌then◌else◌}
use mathlib.Core.Option.{some, some-injective, some-ne-none}
use lib.ListN.{get_elem?}
use Rattle.order_core.specs.declared.course.Operation.{Operation}
use Rattle.order_core.specs.Lanes.{lane, covers}
use Rattle.order_core.specs.Course.{left_in, before, tagged}
use Rattle.order_core.specs.Core.{put}
use Rattle.order_core.specs.Shapes.{Shape, fill, after_shape, after_shapes, IsFitting, AreFitting, IsFilled, after_operation, AreFilled}
use Rattle.order_core.proofs.Ranks.{eqb_is, left_none, put_here, put_else}

-- the lane of a word after an operation
chosen_lane : (w : ℕ → ℕ) (x : Operation) (u j : ℕ) → j < 4 → IsFilled w x → (b : Bool) → b ≡ true → (if b && (x.what.write && (eqb x.what.word u && covers x.what.lanes j)) then lane j x.what.value else lane j (w u)) ≡ lane j (after_operation w x u)
chosen_lane w x u j four fit true t = by x.what.write refl (eqb x.what.word u) refl (covers x.what.lanes j) refl
  where
    by : (m : Bool) → x.what.write ≡ m → (n : Bool) → eqb x.what.word u ≡ n → (v : Bool) → covers x.what.lanes j ≡ v
        → (if m && (n && v) then lane j x.what.value else lane j (w u)) ≡ lane j ((if m then put w x.what.word x.what.value else w) u)
    by false is n e v f = refl
    by true is true e true f = ap (lane j) (sym (subst (λ (z : ℕ). put w x.what.word x.what.value z ≡ x.what.value) (eqb_is x.what.word u e) (put_here w x.what.word x.what.value)))
    by true is true e false f = ap (λ (z : ℕ). lane j (w z)) (sym (eqb_is x.what.word u e)) ∙ (sym (fit.1 is j four f) ∙ ap (lane j) (sym (subst (λ (z : ℕ). put w x.what.word x.what.value z ≡ x.what.value) (eqb_is x.what.word u e) (put_here w x.what.word x.what.value))))
    by true is false e v f = ap (lane j) (sym (put_else w x.what.word u x.what.value (λ s. (let g : true ≡ false = sym (eq-eqb x.what.word u (sym s)) ∙ e in cc))))
chosen_lane w x u j four fit false t = absurd (let f : false ≡ true = t in cc)

value_at : (w : ℕ → ℕ) (xs : List Operation) (k p t : ℕ) (a : Operation) (j : ℕ) → j < 4 → AreFilled w xs → get_elem? xs p ≡ some a → a.what.write ≡ false → t ≡ k + p → lane j a.what.value ≡ left_in (before t) k xs a.what.word j (lane j (w a.what.word))
value_at w [] k p t a j four f e r is = absurd (some-ne-none a (sym e))
value_at w (x ∷ xs) k zero t a j four f e r is =
    let s : x ≡ a = some-injective x a e in
    let v : a.what.value ≡ w a.what.word = subst (λ (z : Operation). z.what.value ≡ w z.what.word) s (f.0.0 (ap (λ (z : Operation). z.what.write) s ∙ r)) in
    ap (lane j) v ∙ sym (left_none (before t) k (x ∷ xs) a.what.word j (lane j (w a.what.word)) (λ i q b at le wr on cov. le-ltb q t (omega arith)))
value_at w (x ∷ xs) k (suc p) t a j four f e r is =
    value_at (after_operation w x) xs (suc k) p t a j four f.1 e r (omega arith)
    ∙ sym (ap (left_in (before t) (suc k) xs a.what.word j) (chosen_lane w x a.what.word j four f.0 (ltb k t) (lt-ltb k t (omega arith))))

-- the law on values of a list that is filled from the opening words
pub values_hold : (w : ℕ → ℕ) (xs : List Operation) → AreFilled w xs → (p : ℕ) (a : Operation) → get_elem? xs p ≡ some a → a.what.write ≡ false → (j : ℕ) → j < 4 → lane j a.what.value ≡ left_in (before p) 0 xs a.what.word j (lane j (w a.what.word))
values_hold w xs f p a at r j four = value_at w xs 0 p p a j four f at r (omega arith)

finds : (s : Shape) (x : ℕ) (b : Bool) → b ≡ false → (if b then s.change x else x) ≡ x
finds s x true n = absurd (let f : true ≡ false = n in cc)
finds s x false n = refl

leaves : (s : Shape) → IsFitting s → (x : ℕ) (b : Bool) → s.write ≡ b → b ≡ true → (j : ℕ) → j < 4 → covers s.lanes j ≡ false → lane j (if b then s.change x else x) ≡ lane j x
leaves s fit x true w n j four free = fit w x j four free
leaves s fit x false w n j four free = refl

goes : (w : ℕ → ℕ) (s : Shape) (b : Bool) → (if b then put w s.word (s.change (w s.word)) else w) ≡ (if b then put w s.word (if b then s.change (w s.word) else w s.word) else w)
goes w s true = refl
goes w s false = refl

-- the operations of a record, filled from shapes that fit
pub filled_tagged : (h m i : ℕ) (w : ℕ → ℕ) (ss : List Shape) (rest : List Operation) → AreFitting ss → AreFilled (after_shapes w ss) rest → AreFilled w (tagged h m i (fill w ss) ++ rest)
filled_tagged h m i w [] rest fit f = f
filled_tagged h m i w (s ∷ ss) rest fit f = (
  (finds s (w s.word) s.write, leaves s fit.0 (w s.word) s.write refl),
  subst (λ (z : ℕ → ℕ). AreFilled z (tagged h m (suc i) (fill (after_shape w s) ss) ++ rest)) (goes w s s.write) (filled_tagged h m (suc i) (after_shape w s) ss rest fit.1 f),
)

abbrev pub after_operations : (ℕ → ℕ) → List Operation → (ℕ → ℕ)
after_operations w [] = w
after_operations w (a ∷ rest) = after_operations (after_operation w a) rest

-- what all operations of a filled list leave is in the words after them
pub left_end : (w : ℕ → ℕ) (xs : List Operation) (k u j : ℕ) → j < 4 → AreFilled w xs → left_in (λ p a. true) k xs u j (lane j (w u)) ≡ lane j (after_operations w xs u)
left_end w [] k u j four f = refl
left_end w (x ∷ xs) k u j four f = ap (left_in (λ p a. true) (suc k) xs u j) (chosen_lane w x u j four f.0 true refl) ∙ left_end (after_operation w x) xs (suc k) u j four f.1

-- the words after the operations of a record are those after its shapes
pub after_filled : (w : ℕ → ℕ) (h m i : ℕ) (ss : List Shape) (rest : List Operation) → after_operations w (tagged h m i (fill w ss) ++ rest) ≡ after_operations (after_shapes w ss) rest
after_filled w h m i [] rest = refl
after_filled w h m i (s ∷ ss) rest = ap (λ (v : ℕ → ℕ). after_operations v (tagged h m (suc i) (fill (after_shape w s) ss) ++ rest)) (sym (goes w s s.write)) ∙ after_filled (after_shape w s) h m (suc i) ss rest
