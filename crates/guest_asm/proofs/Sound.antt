-- What holds of lines that break no rule.
use Rattle.std.proofs.Common.{◌≡◌, ℕ, suc, zero, ◌<◌, ◌≤◌, Bool, true, false, not, ◌&&◌, ◌||◌, cond, ltb, leb, List, [], ◌∷◌, ◌++◌, length, Option, Some, None, Ok, Err, refl, sym, subst, arith}
use Rattle.std.specs.List.{All, list_all, cons_option}
use Rattle.std.proofs.lemmas.Bool.{and_parts, not-false, leb-true, ltb-true}
use Rattle.std.proofs.lemmas.List.{append-nil}
use Rattle.std.proofs.lemmas.List.Elements.{All-push, filter_map-append}
use Rattle.guest_asm.specs.declared.number.Number.{Number}
use Rattle.guest_asm.specs.declared.statement.Statement.{Statement}
use Rattle.guest_asm.specs.declared.statement.Statement.TheVariants as statement
use Rattle.guest_asm.specs.declared.cause.JobCause.{JobCause}
use Rattle.guest_asm.specs.declared.cause.JobCause.TheVariants as cause
use Rattle.guest_asm.specs.Numbers.{is_within}
use Rattle.guest_asm.specs.Lines.{Meaning, line_of}
use Rattle.guest_asm.specs.Rules.{statements_of, place_of, labels_of, harts_in, is_good_harts, breaks_harts, repeats, is_again, has_stray_label, is_misplaced, is_misaligned, overfills, is_out_of_range, is_turn, on_statement, broken, broken_at, lacks}
use Rattle.guest_asm.specs.Jobs.{first_pass, judged_meaning, unless_broken, behind, ◌>>=◌, IsSmall}

-- no test of six passes
pub record AreFalse (a b c d e f : Bool) : Type 0 where
  pub harts : a ≡ false
  pub twice : b ≡ false
  pub range : c ≡ false
  pub section : d ≡ false
  pub align : e ≡ false
  pub full : f ≡ false

none_found : (a b c d e f : Bool)
    → cond a (Some cause.Harts) (cond b (Some cause.Twice) (cond c (Some cause.Range) (cond d (Some cause.Section) (cond e (Some cause.Align) (cond f (Some cause.Full) None))))) ≡ None
    → AreFalse a b c d e f
none_found true b c d e f h = absurd cc
none_found false true c d e f h = absurd cc
none_found false false true d e f h = absurd cc
none_found false false false true e f h = absurd cc
none_found false false false false true f h = absurd cc
none_found false false false false false true h = absurd cc
none_found false false false false false false h = record { harts = refl; twice = refl; range = refl; section = refl; align = refl; full = refl }

pub unbroken : (before : List Meaning) (m : Meaning) → broken before m ≡ None
    → AreFalse (on_statement (breaks_harts (statements_of before)) m.statement)
    (is_again (labels_of before) m.label || on_statement (repeats (statements_of before)) m.statement)
    (on_statement (is_out_of_range (harts_in (statements_of before))) m.statement)
    (has_stray_label (place_of before) m || on_statement (is_misplaced (place_of before).section) m.statement)
    (on_statement (is_misaligned (place_of before)) m.statement)
    (on_statement (overfills (place_of before)) m.statement)
unfolding broken_at
unbroken before m h = none_found _ _ _ _ _ _ h

-- the numbers of statements are in their ranges
pub record Sound (statements : List Statement) : Type 0 where
  pub few : harts_in statements ≤ 8
  pub some : 0 < length statements → 1 ≤ harts_in statements
  pub ranges : All (λ s. is_out_of_range (harts_in statements) s ≡ false) statements

good_harts : (s : Statement) → is_good_harts s ≡ true → (n : Number) × (s ≡ statement.Harts n) × (1 ≤ n.bits) × (n.bits ≤ 8)
good_harts (statement.Harts n) h =
    let parts = and_parts (not n.negative && leb 1 n.bits) (leb n.bits 8) h in
    let low = and_parts (not n.negative) (leb 1 n.bits) parts.0 in
    (n, refl, leb-true _ _ low.1, leb-true _ _ parts.1)
good_harts (statement.Rr q) h = absurd cc
good_harts (statement.List turns) h = absurd cc
good_harts (statement.Seed n q) h = absurd cc
good_harts (statement.Steps n) h = absurd cc
good_harts (statement.Input bytes) h = absurd cc
good_harts (statement.Entry n) h = absurd cc
good_harts statement.Text h = absurd cc
good_harts statement.Data h = absurd cc
good_harts (statement.Word numbers) h = absurd cc
good_harts (statement.Byte numbers) h = absurd cc
good_harts (statement.Space n) h = absurd cc
good_harts (statement.Code c) h = absurd cc

-- the first statement gives the harts
harts-push : (first : Statement) (before : List Statement) (s : Statement) → harts_in (first ∷ (before ++ s ∷ [])) ≡ harts_in (first ∷ before)
harts-push (statement.Harts n) before s = refl
harts-push (statement.Rr q) before s = refl
harts-push (statement.List turns) before s = refl
harts-push (statement.Seed n q) before s = refl
harts-push (statement.Steps n) before s = refl
harts-push (statement.Input bytes) before s = refl
harts-push (statement.Entry n) before s = refl
harts-push statement.Text before s = refl
harts-push statement.Data before s = refl
harts-push (statement.Word numbers) before s = refl
harts-push (statement.Byte numbers) before s = refl
harts-push (statement.Space n) before s = refl
harts-push (statement.Code c) before s = refl

one_of : {X : Type 0} (P : X → Type 0) (x : X) → P x → All P (x ∷ [])
one_of P x h zero d k = h
one_of P x h (suc i) d k = absurd (omega arith)

sound_first : (n : Number) → 1 ≤ n.bits → n.bits ≤ 8 → Sound (statement.Harts n ∷ [])
sound_first n low high = record {
  few = high;
  some = λ _. low;
  ranges = one_of (λ s. is_out_of_range n.bits s ≡ false) (statement.Harts n) refl;
}

sound-push : (before : List Statement) (s : Statement) → Sound before → breaks_harts before s ≡ false → is_out_of_range (harts_in before) s ≡ false → Sound (before ++ s ∷ [])
sound-push [] s sound harts range =
    let good = good_harts s (not-false _ harts) in
    subst (λ (x : Statement). Sound (x ∷ [])) (sym good.1) (sound_first good.0 good.2 good.3)
sound-push (first ∷ before) s sound harts range =
    let same = harts-push first before s in
    record {
      few = omega (arith, same, sound.few);
      some = λ h. omega (arith, same, sound.some (omega arith));
      ranges = subst (λ (h : ℕ). All (λ x. is_out_of_range h x ≡ false) (first ∷ (before ++ s ∷ []))) (sym same)
          (All-push (λ x. is_out_of_range (harts_in (first ∷ before)) x ≡ false) (first ∷ before) s sound.ranges range);
    }

line-push : (before : List Meaning) (m : Meaning) → statements_of (before ++ m ∷ []) ≡ statements_of before ++ cons_option m.statement []
line-push before m = filter_map-append (λ (x : Meaning). x.statement) before (m ∷ [])

sound-line : (before : List Statement) (o : Option Statement) → Sound before → on_statement (breaks_harts before) o ≡ false → on_statement (is_out_of_range (harts_in before)) o ≡ false
    → Sound (before ++ cons_option o [])
sound-line before None sound harts range = subst Sound (sym (append-nil before)) sound
sound-line before (Some s) sound harts range = sound-push before s sound harts range

pub sound-meaning : (before : List Meaning) (m : Meaning) → Sound (statements_of before) → broken before m ≡ None → Sound (statements_of (before ++ m ∷ []))
sound-meaning before m sound none =
    let rules = unbroken before m none in
    subst Sound (sym (line-push before m)) (sound-line (statements_of before) m.statement sound rules.harts rules.range)

-- lines that passed the first pass
pub record Passed (lines : List Meaning) : Type 0 where
  pub sound : Sound (statements_of lines)
  pub complete : lacks (statements_of lines) (place_of lines).words ≡ false

sound_none : Sound []
sound_none = record { few = omega arith; some = λ h. absurd (omega arith); ranges = λ k d h. absurd (omega arith) }

passed-end : (before lines : List Meaning) → Sound (statements_of before) → first_pass before [] ≡ Ok lines → Passed lines
passed-end before lines sound h = by (lacks (statements_of before) (place_of before).words) refl h
  where
    by : (t : Bool) → lacks (statements_of before) (place_of before).words ≡ t → behind before (cond t (Err cause.Missing) (Ok before)) ≡ Ok lines → Passed lines
    by true e k = absurd cc
    by false e k =
        let same : before ≡ lines = cc in
        subst Passed same (record { sound = sound; complete = e })

-- what holds of the lines after one more
abbrev Onward : List (List ℕ) → List Meaning → List Meaning → Type 0
Onward texts before lines = (m : Meaning) → Sound (statements_of (before ++ m ∷ [])) → first_pass (before ++ m ∷ []) texts ≡ Ok lines → Passed lines

passed_rule : (texts : List (List ℕ)) (before lines : List Meaning) → Sound (statements_of before) → Onward texts before lines → (m : Meaning) (o : Option JobCause) → broken before m ≡ o
    → (behind before (unless_broken m o) >>= λ x. first_pass (before ++ x ∷ []) texts) ≡ Ok lines → Passed lines
passed_rule texts before lines sound onward m None e k = onward m (sound-meaning before m sound e) k
passed_rule texts before lines sound onward m (Some c) e k = absurd cc

passed_line : (texts : List (List ℕ)) (before lines : List Meaning) → Sound (statements_of before) → Onward texts before lines → (o : Option Meaning)
    → (behind before (judged_meaning before o) >>= λ x. first_pass (before ++ x ∷ []) texts) ≡ Ok lines → Passed lines
passed_line texts before lines sound onward None k = absurd cc
passed_line texts before lines sound onward (Some m) k = passed_rule texts before lines sound onward m (broken before m) refl k

passed-from : (texts : List (List ℕ)) (before lines : List Meaning) → Sound (statements_of before) → first_pass before texts ≡ Ok lines → Passed lines
passed-from [] before lines sound h = passed-end before lines sound h
passed-from (text ∷ texts) before lines sound h =
    passed_line texts before lines sound (λ m s k. passed-from texts (before ++ m ∷ []) lines s k) (line_of text) h

pub passed : (texts : List (List ℕ)) (lines : List Meaning) → first_pass [] texts ≡ Ok lines → Passed lines
passed texts lines h = passed-from texts [] lines sound_none h

-- each element passes
all_from : {X : Type 0} (p : X → Bool) (Q : X → Type 0) → ((x : X) → p x ≡ true → Q x) → (xs : List X) → list_all p xs ≡ true → All Q xs
all_from p Q f [] e k d h = absurd (omega arith)
all_from p Q f (x ∷ xs) e zero d h = f x (and_parts (p x) (list_all p xs) e).0
all_from p Q f (x ∷ xs) e (suc k) d h = all_from p Q f xs (and_parts (p x) (list_all p xs) e).1 k d (omega arith)

within_high : (low high : ℕ) (n : Number) → is_within low high n ≡ true → n.bits ≤ high
within_high low high n h = leb-true _ _ (and_parts (not n.negative && leb low n.bits) (leb n.bits high) h).1

hart_below : (harts : ℕ) (n : Number) → (not n.negative && ltb n.bits harts) ≡ true → n.bits < harts
hart_below harts n h = ltb-true _ _ (and_parts (not n.negative) (ltb n.bits harts) h).1

pub small_from : (harts : ℕ) (s : Statement) → harts ≤ 8 → is_out_of_range harts s ≡ false → IsSmall s
small_from harts (statement.Byte numbers) few h =
    all_from (is_within 0 255) (λ n. n.bits < 256) (λ n e. omega (arith, within_high 0 255 n e)) numbers (not-false _ h)
small_from harts (statement.List turns) few h =
    all_from (is_turn harts) (λ t. t.hart.bits < 256) (λ t e. omega (arith, hart_below harts t.hart (and_parts (not t.hart.negative && ltb t.hart.bits harts) (is_within 1 250000 t.count) e).0)) turns (not-false _ h)
small_from harts (statement.Entry hart) few h = omega (arith, hart_below harts hart (not-false _ h))
small_from harts (statement.Harts n) few h = tt
small_from harts (statement.Rr q) few h = tt
small_from harts (statement.Seed n q) few h = tt
small_from harts (statement.Steps n) few h = tt
small_from harts (statement.Input bytes) few h = tt
small_from harts statement.Text few h = tt
small_from harts statement.Data few h = tt
small_from harts (statement.Word numbers) few h = tt
small_from harts (statement.Space n) few h = tt
small_from harts (statement.Code c) few h = tt
