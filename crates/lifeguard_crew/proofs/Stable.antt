-- A stable sort by place, as a list of reports sees it.
use Rattle.std.proofs.Common.{◌≡◌, ℕ, Bool, true, false, List, [], ◌∷◌, refl, sym, ◌∙◌, arith, eq-eqb, lt_of_not-le}
use Rattle.std.specs.Prelude.{◌==◌, nat_lt, cond, not, ◌&&◌, filter, if◌then◌else◌}
use Rattle.std.specs.Ordering.{is_lt, nat_cmp}
use Rattle.std.specs.List.Sorted.{ties, IsStableByKey}
use Rattle.std.proofs.lemmas.Bool.{ne_eqb}
use borrow.Author.Tests.{lt-ltb, le-ltb}
use Rattle.std.specs.declared.cmp.Ordering.TheVariants.{Less, Equal, Greater}
use mathlib.Core.Logic.{dite}
use native.Mathlib.Decide.{ℕ_discrete, dec_le}
use Rattle.lifeguard.specs.declared.report.Report.{Report}
use Rattle.lifeguard.specs.declared.report.ReportKind.TheVariants.{Access}
use Rattle.lifeguard_crew.specs.Merges.{reports_at}

same_tests : (f g : Report → Bool) → ((r : Report) → f r ≡ g r) → (rs : List Report) → filter f rs ≡ filter g rs
same_tests f g e [] = refl
same_tests f g e (r ∷ rs) = λ i. if e r i then r ∷ same_tests f g e rs i else same_tests f g e rs i

lt_of : (a b : Bool) → is_lt (cond a Less (cond b Equal Greater)) ≡ a
lt_of true b = refl
lt_of false true = refl
lt_of false false = refl

lt_is : (m n : ℕ) → is_lt (nat_cmp m n) ≡ nat_lt m n
lt_is m n = lt_of (nat_lt m n) (m == n)

both_off : (a b : Bool) → a ≡ false → b ≡ false → (not a && not b) ≡ true
both_off a b p q = rw (p, q) refl

first_on : (a b : Bool) → a ≡ true → (not a && not b) ≡ false
first_on a b p = rw p refl

second_on : (a b : Bool) → b ≡ true → (not a && not b) ≡ false
second_on true b q = refl
second_on false b q = rw q refl

tie_is : (m n : ℕ) → (not (is_lt (nat_cmp m n)) && not (is_lt (nat_cmp n m))) ≡ (n == m)
tie_is m n = dite (ℕ_discrete n m)
    (λ same. both_off (is_lt (nat_cmp m n)) (is_lt (nat_cmp n m)) (lt_is m n ∙ le-ltb m n (omega arith)) (lt_is n m ∙ le-ltb n m (omega arith)) ∙ sym (eq-eqb n m same))
    (λ other. dite (dec_le n m)
    (λ le. second_on (is_lt (nat_cmp m n)) (is_lt (nat_cmp n m)) (lt_is n m ∙ lt-ltb n m (omega arith)) ∙ sym (ne_eqb n m other))
    (λ more. first_on (is_lt (nat_cmp m n)) (is_lt (nat_cmp n m)) (lt_is m n ∙ lt-ltb m n (lt_of_not-le more)) ∙ sym (ne_eqb n m other)))

pub stable_at : (before after : List Report) → IsStableByKey (λ (r : Report). r.place) nat_cmp before after
    → (place : ℕ) → reports_at place after ≡ reports_at place before
stable_at before after stable place =
    let test : Report → Bool = ties (λ (x y : Report). is_lt (nat_cmp x.place y.place)) (record { place = place; hart = 0; event = 0; kind = Access; addr = 0 }) in
    let same : (r : Report) → test r ≡ (r.place == place) = λ r. tie_is place r.place in
    sym (same_tests test (λ r. r.place == place) same after)
    ∙ (stable (record { place = place; hart = 0; event = 0; kind = Access; addr = 0 }) ∙ same_tests test (λ r. r.place == place) same before)
