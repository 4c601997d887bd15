-- The passes tell the lowest line with a fault, and the first cause found there.
use Rattle.std.proofs.Common.{◌≡◌, ◌≢◌, ℕ, ◌+◌, ◌<◌, ◌≤◌, inl, inr, Bool, true, false, cond, List, [], ◌∷◌, ◌++◌, length, map, get_or, Option, Some, None, Result, Ok, Err, refl, ap, ◌∙◌, sym, subst, arith}
use Rattle.std.proofs.lemmas.List.{length-append, append-nil}
use Rattle.guest_asm.specs.declared.cause.JobCause.{JobCause}
use Rattle.guest_asm.specs.declared.cause.JobCause.TheVariants as cause
use Rattle.guest_asm.specs.declared.cause.JobFault.{JobFault}
use Rattle.guest_asm.specs.Lines.{Meaning, line_of}
use Rattle.guest_asm.specs.Rules.{statements_of, place_of, labels_of, is_again, breaks, broken, broken_at, lacks}
use Rattle.guest_asm.specs.Faults.{meanings, rank, Breaks, EndLacks, FirstFinds, IsLowest}
use Rattle.guest_asm.specs.Jobs.{first_pass, judged, judged_meaning, unless_broken, behind, fault_at, ◌>>=◌}

-- the causes in their order
abbrev table : List JobCause
table = cause.Form ∷ cause.Harts ∷ cause.Twice ∷ cause.Range ∷ cause.Section ∷ cause.Align ∷ cause.Full ∷ cause.Missing ∷ cause.Label ∷ cause.Far ∷ []

at_rank : (c : JobCause) → get_or table (rank c) cause.Form ≡ c
at_rank cause.Form = refl
at_rank cause.Harts = refl
at_rank cause.Twice = refl
at_rank cause.Range = refl
at_rank cause.Section = refl
at_rank cause.Align = refl
at_rank cause.Full = refl
at_rank cause.Missing = refl
at_rank cause.Label = refl
at_rank cause.Far = refl

pub same_rank : (c d : JobCause) → rank c ≡ rank d → c ≡ d
same_rank c d e = sym (at_rank c) ∙ ap (λ (n : ℕ). get_or table n cause.Form) e ∙ at_rank d

-- a pass tells one fault
pub one_lowest : (Finds : ℕ → JobCause → Type 0) (f g : JobFault) → IsLowest Finds f → IsLowest Finds g → f ≡ g
one_lowest Finds f g a b =
    let line : f.line ≡ g.line = omega (arith, a.lowest g.line g.cause b.found, b.lowest f.line f.cause a.found) in
    let low = a.first g.cause (subst (λ (n : ℕ). Finds n g.cause) (sym line) b.found) in
    let high = b.first f.cause (subst (λ (n : ℕ). Finds n f.cause) line a.found) in
    let same : f.cause ≡ g.cause = same_rank f.cause g.cause (omega (arith, low, high)) in
    ap (λ (n : ℕ). fault_at n f.cause) line ∙ ap (fault_at g.line) same

-- what a test finds first, where it is tried on the causes in their order
pub record IsLeast (P : JobCause → Type 0) (c : JobCause) : Type 0 where
  pub holds : P c
  pub least : (d : JobCause) → P d → rank c ≤ rank d

module _ (p : JobCause → Bool) where
  abbrev From : ℕ → Type 0
  From k = (d : JobCause) → p d ≡ true → k ≤ rank d

  further : (k : ℕ) (c : JobCause) → rank c ≡ k → p c ≡ false → From k → From (k + 1)
  further k c e none low d h =
      let other : rank d ≢ k = λ (r : rank d ≡ k). let both : false ≡ true = sym none ∙ ap p (same_rank c d (e ∙ sym r)) ∙ h in absurd cc in
      omega (arith, low d h)

  stopped : (c x : JobCause) → Some c ≡ Some x → p c ≡ true → From (rank c) → IsLeast (λ d. p d ≡ true) x
  stopped c x e h low = let same : c ≡ x = cc in subst (IsLeast (λ d. p d ≡ true)) same (record { holds = h; least = low })

  module _ (form : p cause.Form ≡ false) where
    from_one : From 1
    from_one = further 0 cause.Form refl form (λ d h. omega arith)

    tried : (x : JobCause) (a b c d e f : Bool) → p cause.Harts ≡ a → p cause.Twice ≡ b → p cause.Range ≡ c → p cause.Section ≡ d → p cause.Align ≡ e → p cause.Full ≡ f
        → cond a (Some cause.Harts) (cond b (Some cause.Twice) (cond c (Some cause.Range) (cond d (Some cause.Section) (cond e (Some cause.Align) (cond f (Some cause.Full) None))))) ≡ Some x
        → IsLeast (λ d. p d ≡ true) x
    tried x true b c d e f h1 h2 h3 h4 h5 h6 k = stopped cause.Harts x k h1 from_one
    tried x false true c d e f h1 h2 h3 h4 h5 h6 k = stopped cause.Twice x k h2 (further 1 cause.Harts refl h1 from_one)
    tried x false false true d e f h1 h2 h3 h4 h5 h6 k =
        stopped cause.Range x k h3 (further 2 cause.Twice refl h2 (further 1 cause.Harts refl h1 from_one))
    tried x false false false true e f h1 h2 h3 h4 h5 h6 k =
        stopped cause.Section x k h4 (further 3 cause.Range refl h3 (further 2 cause.Twice refl h2 (further 1 cause.Harts refl h1 from_one)))
    tried x false false false false true f h1 h2 h3 h4 h5 h6 k =
        stopped cause.Align x k h5 (further 4 cause.Section refl h4 (further 3 cause.Range refl h3 (further 2 cause.Twice refl h2 (further 1 cause.Harts refl h1 from_one))))
    tried x false false false false false true h1 h2 h3 h4 h5 h6 k =
        stopped cause.Full x k h6
        (further 5 cause.Align refl h5 (further 4 cause.Section refl h4 (further 3 cause.Range refl h3 (further 2 cause.Twice refl h2 (further 1 cause.Harts refl h1 from_one)))))
    tried x false false false false false false h1 h2 h3 h4 h5 h6 k = absurd cc

  untried : (a b c d e f : Bool) → p cause.Harts ≡ a → p cause.Twice ≡ b → p cause.Range ≡ c → p cause.Section ≡ d → p cause.Align ≡ e → p cause.Full ≡ f
      → cond a (Some cause.Harts) (cond b (Some cause.Twice) (cond c (Some cause.Range) (cond d (Some cause.Section) (cond e (Some cause.Align) (cond f (Some cause.Full) None))))) ≡ None
      → (x : JobCause) → p cause.Form ≡ false → p cause.Missing ≡ false → p cause.Label ≡ false → p cause.Far ≡ false → p x ≡ false
  untried true b c d e f h1 h2 h3 h4 h5 h6 k x n1 n2 n3 n4 = absurd cc
  untried false true c d e f h1 h2 h3 h4 h5 h6 k x n1 n2 n3 n4 = absurd cc
  untried false false true d e f h1 h2 h3 h4 h5 h6 k x n1 n2 n3 n4 = absurd cc
  untried false false false true e f h1 h2 h3 h4 h5 h6 k x n1 n2 n3 n4 = absurd cc
  untried false false false false true f h1 h2 h3 h4 h5 h6 k x n1 n2 n3 n4 = absurd cc
  untried false false false false false true h1 h2 h3 h4 h5 h6 k x n1 n2 n3 n4 = absurd cc
  untried false false false false false false h1 h2 h3 h4 h5 h6 k cause.Form n1 n2 n3 n4 = n1
  untried false false false false false false h1 h2 h3 h4 h5 h6 k cause.Harts n1 n2 n3 n4 = h1
  untried false false false false false false h1 h2 h3 h4 h5 h6 k cause.Twice n1 n2 n3 n4 = h2
  untried false false false false false false h1 h2 h3 h4 h5 h6 k cause.Range n1 n2 n3 n4 = h3
  untried false false false false false false h1 h2 h3 h4 h5 h6 k cause.Section n1 n2 n3 n4 = h4
  untried false false false false false false h1 h2 h3 h4 h5 h6 k cause.Align n1 n2 n3 n4 = h5
  untried false false false false false false h1 h2 h3 h4 h5 h6 k cause.Full n1 n2 n3 n4 = h6
  untried false false false false false false h1 h2 h3 h4 h5 h6 k cause.Missing n1 n2 n3 n4 = n2
  untried false false false false false false h1 h2 h3 h4 h5 h6 k cause.Label n1 n2 n3 n4 = n3
  untried false false false false false false h1 h2 h3 h4 h5 h6 k cause.Far n1 n2 n3 n4 = n4

abbrev broken_by : List Meaning → Meaning → JobCause → Bool
broken_by before m c = breaks (statements_of before) (place_of before) (is_again (labels_of before) m.label) m c

broken_first : (before : List Meaning) (m : Meaning) (c : JobCause) → broken before m ≡ Some c → IsLeast (Breaks before (Some m)) c
unfolding broken_at
broken_first before m c h = tried (broken_by before m) refl c _ _ _ _ _ _ refl refl refl refl refl refl h

broken_none : (before : List Meaning) (m : Meaning) → broken before m ≡ None → (c : JobCause) → Breaks before (Some m) c → ⊥
unfolding broken_at
broken_none before m h c b =
    let none : broken_by before m c ≡ false = untried (broken_by before m) _ _ _ _ _ _ refl refl refl refl refl refl h c refl refl refl refl in
    let both : false ≡ true = sym none ∙ b in
    absurd cc

unless_err : (before : List Meaning) (m : Meaning) (o : Option JobCause) (c : JobCause) → broken before m ≡ o → unless_broken m o ≡ Err c → IsLeast (Breaks before (Some m)) c
unless_err before m None c e h = absurd cc
unless_err before m (Some d) c e h = let same : d ≡ c = cc in broken_first before m c (e ∙ ap Some same)

unless_ok : (before : List Meaning) (m n : Meaning) (o : Option JobCause) → broken before m ≡ o → unless_broken m o ≡ Ok n → (m ≡ n) × ((c : JobCause) → Breaks before (Some m) c → ⊥)
unless_ok before m n None e h = (cc, broken_none before m e)
unless_ok before m n (Some d) e h = absurd cc

-- the cause that is told of a line
judged_err : (before : List Meaning) (o : Option Meaning) (c : JobCause) → judged_meaning before o ≡ Err c → IsLeast (Breaks before o) c
judged_err before None c h =
    let same : cause.Form ≡ c = cc in
    subst (IsLeast (Breaks before None)) same (record { holds = refl; least = λ d b. omega arith })
judged_err before (Some m) c h = unless_err before m (broken before m) c refl h

judged_ok : (before : List Meaning) (o : Option Meaning) (m : Meaning) → judged_meaning before o ≡ Ok m → (o ≡ Some m) × ((c : JobCause) → Breaks before o c → ⊥)
judged_ok before None m h = absurd cc
judged_ok before (Some n) m h = let k = unless_ok before n m (broken before n) refl h in (ap Some k.0, k.1)

-- lists that are the same up to a place
pub split_same : {A : Type 0} (a b : List A) (x y : A) (r s : List A) → length a ≡ length b → a ++ x ∷ r ≡ b ++ y ∷ s → (a ≡ b) × (x ≡ y)
split_same [] [] x y r s l e = (refl, cc)
split_same [] (y0 ∷ ys) x y r s l e = absurd (omega arith)
split_same (x0 ∷ xs) [] x y r s l e = absurd (omega arith)
split_same (x0 ∷ xs) (y0 ∷ ys) x y r s l e =
    let head : x0 ≡ y0 = cc in
    let tail : xs ++ x ∷ r ≡ ys ++ y ∷ s = cc in
    let k = split_same xs ys x y r s (omega arith) tail in
    let front : xs ≡ ys = k.0 in
    (cc, k.1)

pub same_lines : (a b : List Meaning) → map Some a ≡ map Some b → a ≡ b
same_lines [] [] e = refl
same_lines [] (y0 ∷ ys) e = absurd cc
same_lines (x0 ∷ xs) [] e = absurd cc
same_lines (x0 ∷ xs) (y0 ∷ ys) e =
    let head : x0 ≡ y0 = cc in
    let tail : map Some xs ≡ map Some ys = cc in
    let front : xs ≡ ys = same_lines xs ys tail in
    cc

pub length-lines : (a : List Meaning) → length (map Some a) ≡ length a
length-lines [] = refl
length-lines (x0 ∷ xs) = omega (arith, length-lines xs)

moved : (a : List Meaning) (m : Meaning) (r : List (Option Meaning)) → map Some a ++ Some m ∷ r ≡ map Some (a ++ m ∷ []) ++ r
moved [] m r = refl
moved (x0 ∷ xs) m r = ap (λ (more : List (Option Meaning)). Some x0 ∷ more) (moved xs m r)

-- nothing is found above a line
abbrev pub IsClean : (ℕ → JobCause → Type 0) → ℕ → Type 0
IsClean Finds n = (line : ℕ) (c : JobCause) → Finds line c → n ≤ line

abbrev pub FindsNone : (ℕ → JobCause → Type 0) → Type 0
FindsNone Finds = (line : ℕ) (c : JobCause) → Finds line c → ⊥

module _ (bytes : List ℕ) where
  -- what is found at the line after these
  found_there : (before : List Meaning) (o : Option Meaning) (r : List (Option Meaning)) → meanings bytes ≡ map Some before ++ o ∷ r
      → (c : JobCause) → FirstFinds bytes (length before + 1) c → Breaks before o c
  found_there before o r e c (inl l) =
      let same = split_same (map Some before) (map Some l.before) o l.here r l.rest (omega (arith, l.counted, length-lines before, length-lines l.before)) (sym e ∙ l.stands) in
      subst (λ (b : List Meaning). Breaks b o c) (sym (same_lines before l.before same.0))
      (subst (λ (x : Option Meaning). Breaks l.before x c) (sym same.1) l.broken)
  found_there before o r e c (inr l) =
      absurd (omega (arith, l.counted, length-lines before, length-lines l.lines, length-append (map Some before) (o ∷ r), ap length (sym e ∙ l.stands)))

  -- what is found at the end
  found_last : (lines : List Meaning) → meanings bytes ≡ map Some lines → (line : ℕ) (c : JobCause) → length lines < line → FirstFinds bytes line c → EndLacks bytes line c
  found_last lines e line c low (inl l) =
      absurd (omega (arith, l.counted, low, length-lines lines, length-lines l.before, length-append (map Some l.before) (l.here ∷ l.rest), ap length (sym e ∙ l.stands)))
  found_last lines e line c low (inr l) = l

  abbrev pub FirstTold : Result (List Meaning) JobFault → Type 0
  FirstTold (Ok lines) = (meanings bytes ≡ map Some lines) × FindsNone (FirstFinds bytes)
  FirstTold (Err fault) = IsLowest (FirstFinds bytes) fault

  told_end : (before : List Meaning) → meanings bytes ≡ map Some before → IsClean (FirstFinds bytes) (length before + 1)
      → (t : Bool) → lacks (statements_of before) (place_of before).words ≡ t → FirstTold (behind before (cond t (Err cause.Missing) (Ok before)))
  told_end before e clean true h = record {
    found = inr (record { lines = before; stands = e; counted = refl; missing = refl; incomplete = h });
    lowest = clean;
    first = λ c f. let last = found_last before e (length before + 1) c (omega arith) f in omega (arith, ap rank last.missing);
  }
  told_end before e clean false h = (
    e,
    λ line c f.
        let last = found_last before e line c (omega (arith, clean line c f)) f in
        let same : before ≡ last.lines = same_lines before last.lines (sym e ∙ last.stands) in
        let both : false ≡ true = sym h ∙ ap (λ (ls : List Meaning). lacks (statements_of ls) (place_of ls).words) same ∙ last.incomplete in
        absurd cc,
  )

  told_line : (before : List Meaning) (text : List ℕ) (texts : List (List ℕ)) → meanings bytes ≡ map Some before ++ line_of text ∷ map line_of texts → IsClean (FirstFinds bytes) (length before + 1)
      → ((m : Meaning) → meanings bytes ≡ map Some (before ++ m ∷ []) ++ map line_of texts → IsClean (FirstFinds bytes) (length (before ++ m ∷ []) + 1) → FirstTold (first_pass (before ++ m ∷ []) texts))
      → (r : Result Meaning JobCause) → judged before text ≡ r → FirstTold (behind before r >>= λ m. first_pass (before ++ m ∷ []) texts)
  told_line before text texts e clean onward (Err c) h =
      let least = judged_err before (line_of text) c h in
      record {
        found = inl (record { before = before; here = line_of text; rest = map line_of texts; stands = e; counted = refl; broken = least.holds });
        lowest = clean;
        first = λ d f. least.least d (found_there before (line_of text) (map line_of texts) e d f);
      }
  told_line before text texts e clean onward (Ok m) h =
      let good = judged_ok before (line_of text) m h in
      onward m (e ∙ ap (λ (o : Option Meaning). map Some before ++ o ∷ map line_of texts) good.0 ∙ moved before m (map line_of texts))
      (λ line c f.
      let other : line ≢ length before + 1 = λ (q : line ≡ length before + 1). good.1 c (found_there before (line_of text) (map line_of texts) e c (subst (λ (n : ℕ). FirstFinds bytes n c) q f)) in
      omega (arith, clean line c f, length-append before (m ∷ [])))

  pub first_told : (texts : List (List ℕ)) (before : List Meaning) → meanings bytes ≡ map Some before ++ map line_of texts → IsClean (FirstFinds bytes) (length before + 1) → FirstTold (first_pass before texts)
  first_told [] before e clean = told_end before (e ∙ append-nil (map Some before)) clean (lacks (statements_of before) (place_of before).words) refl
  first_told (text ∷ texts) before e clean =
      told_line before text texts e clean (λ m k n. first_told texts (before ++ m ∷ []) k n) (judged before text) refl
