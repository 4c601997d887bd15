-- The second pass tells the lowest line with a fault, and the two passes together the fault of the text.
use Rattle.std.proofs.Common.{◌≡◌, ◌≢◌, ℕ, ◌+◌, ◌^◌, ◌≤◌, inl, inr, Bool, true, false, cond, List, [], ◌∷◌, ◌++◌, length, map, Option, Some, None, Result, Ok, Err, refl, ap, ◌∙◌, sym, subst, arith, ℤ}
use Rattle.std.specs.Option.{option_map}
use Rattle.std.proofs.lemmas.List.{length-append, append-nil, append_assoc}
use Rattle.std.proofs.lemmas.List.Sums.{fold-append}
use Rattle.core_sim.specs.declared.job.Job.{Job}
use Rattle.rv_isa.specs.declared.instruction.Instr.{Instr}
use Rattle.rv_isa.specs.declared.instruction.Instr.TheVariants as instr
use Rattle.guest_asm.specs.declared.code.Code.{Code}
use Rattle.guest_asm.specs.declared.code.Code.TheVariants as code
use Rattle.guest_asm.specs.declared.statement.Statement.{Statement}
use Rattle.guest_asm.specs.declared.statement.Statement.TheVariants as statement
use Rattle.guest_asm.specs.declared.scan.Place.{Place}
use Rattle.guest_asm.specs.declared.cause.JobCause.{JobCause}
use Rattle.guest_asm.specs.declared.cause.JobCause.TheVariants as cause
use Rattle.guest_asm.specs.declared.cause.JobFault.{JobFault}
use Rattle.guest_asm.specs.declared.cause.JobRefused.{JobRefused}
use Rattle.guest_asm.specs.declared.cause.JobRefused.TheVariants as refused
use Rattle.guest_asm.specs.Texts.{lines_of}
use Rattle.guest_asm.specs.Lines.{Meaning}
use Rattle.guest_asm.specs.Rules.{start, after, place_of, labels_of, text_address}
use Rattle.guest_asm.specs.Faults.{meanings, rank, FirstFinds, SecondFinds, IsLowest, IsUndefined, IsOutOfReach, Strays, target, reach_of, is_far}
use Rattle.guest_asm.specs.Jobs.{Placed, Cell, near, instructions, statement_cells, row_cells, row_with, rows_from, rows_of, on_line, fault_at, first_pass, second_pass, passes, HasFault, IsJobText, IfFault, ◌>>=◌}
use Rattle.guest_asm.proofs.Faults.{same_lines, split_same, one_lowest, FindsNone, IsClean, FirstTold, first_told}

-- an offset that reaches, and one that does not
far_off : (f : ℤ → Instr) (t : Bool) (z : ℤ) (c : JobCause) → near (option_map (λ off. (f off, None)) (cond t None (Some z))) ≡ Err c → (c ≡ cause.Far) × (t ≡ true)
far_off f true z c e = (cc, refl)
far_off f false z c e = absurd cc

near_off : (f : ℤ → Instr) (t : Bool) (z : ℤ) (cells : List Cell) → near (option_map (λ off. (f off, None)) (cond t None (Some z))) ≡ Ok cells → t ≡ false
near_off f true z cells e = absurd cc
near_off f false z cells e = refl

-- where a statement has no words, its offset does not reach
pub record IsFarOff (at to : ℕ) (s : Statement) (c : JobCause) : Type 0 where
  pub told : c ≡ cause.Far
  pub reach : ℕ
  pub reaches : reach_of s ≡ Some reach
  pub far : is_far reach at to ≡ true

code_err : (at to : ℕ) (k : Code) (c : JobCause) → near (instructions at to k) ≡ Err c → IsFarOff at to (statement.Code k) c
code_err at to (code.One i) c e = absurd cc
code_err at to (code.Two i j) c e = absurd cc
code_err at to (code.Jump rd) c e =
    let k = far_off (λ off. instr.Jal rd off) (is_far (2 ^ 20) at to) _ c e in
    record { told = k.0; reach = 2 ^ 20; reaches = refl; far = k.1 }
code_err at to (code.Branch o rs1 rs2) c e =
    let k = far_off (λ off. instr.Branch o rs1 rs2 off) (is_far (2 ^ 12) at to) _ c e in
    record { told = k.0; reach = 2 ^ 12; reaches = refl; far = k.1 }
code_err at to (code.Address rd) c e = absurd cc

cells_err : (r : Placed) (to : ℕ) (s : Statement) (c : JobCause) → statement_cells r to s ≡ Err c → IsFarOff r.at to s c
cells_err r to (statement.Code k) c e = code_err r.at to k c e
cells_err r to (statement.Word numbers) c e = absurd cc
cells_err r to (statement.Harts n) c e = absurd cc
cells_err r to (statement.Rr q) c e = absurd cc
cells_err r to (statement.List turns) c e = absurd cc
cells_err r to (statement.Seed n q) c e = absurd cc
cells_err r to (statement.Steps n) c e = absurd cc
cells_err r to (statement.Input bytes) c e = absurd cc
cells_err r to (statement.Entry n) c e = absurd cc
cells_err r to statement.Text c e = absurd cc
cells_err r to statement.Data c e = absurd cc
cells_err r to (statement.Byte numbers) c e = absurd cc
cells_err r to (statement.Space n) c e = absurd cc

abbrev Reaches : ℕ → ℕ → Statement → Type 0
Reaches at to s = (reach : ℕ) → reach_of s ≡ Some reach → is_far reach at to ≡ false

code_ok : (at to : ℕ) (k : Code) (cells : List Cell) → near (instructions at to k) ≡ Ok cells → Reaches at to (statement.Code k)
code_ok at to (code.One i) cells e reach h = absurd cc
code_ok at to (code.Two i j) cells e reach h = absurd cc
code_ok at to (code.Jump rd) cells e reach h =
    let same : 2 ^ 20 ≡ reach = cc in
    subst (λ (n : ℕ). is_far n at to ≡ false) same (near_off (λ off. instr.Jal rd off) (is_far (2 ^ 20) at to) _ cells e)
code_ok at to (code.Branch o rs1 rs2) cells e reach h =
    let same : 2 ^ 12 ≡ reach = cc in
    subst (λ (n : ℕ). is_far n at to ≡ false) same (near_off (λ off. instr.Branch o rs1 rs2 off) (is_far (2 ^ 12) at to) _ cells e)
code_ok at to (code.Address rd) cells e reach h = absurd cc

cells_ok : (r : Placed) (to : ℕ) (s : Statement) (cells : List Cell) → statement_cells r to s ≡ Ok cells → Reaches r.at to s
cells_ok r to (statement.Code k) cells e reach h = code_ok r.at to k cells e reach h
cells_ok r to (statement.Word numbers) cells e reach h = absurd cc
cells_ok r to (statement.Harts n) cells e reach h = absurd cc
cells_ok r to (statement.Rr q) cells e reach h = absurd cc
cells_ok r to (statement.List turns) cells e reach h = absurd cc
cells_ok r to (statement.Seed n q) cells e reach h = absurd cc
cells_ok r to (statement.Steps n) cells e reach h = absurd cc
cells_ok r to (statement.Input bytes) cells e reach h = absurd cc
cells_ok r to (statement.Entry n) cells e reach h = absurd cc
cells_ok r to statement.Text cells e reach h = absurd cc
cells_ok r to statement.Data cells e reach h = absurd cc
cells_ok r to (statement.Byte numbers) cells e reach h = absurd cc
cells_ok r to (statement.Space n) cells e reach h = absurd cc

-- a label without an address is named, and defined nowhere
nowhere : (labels : List (List ℕ × ℕ)) (m : Meaning) (s : Statement) (o : Option (List ℕ)) → m.statement ≡ Some s → m.named ≡ o → target labels o ≡ None → IsUndefined labels m
nowhere labels m s None e n t = absurd cc
nowhere labels m s (Some name) e n t = record { statement = s; name = name; stated = e; named = n; undefined = t }

module _ (labels : List (List ℕ × ℕ)) (at : ℕ) (m : Meaning) where
  -- no label comes before it
  from_label : (c : JobCause) → Strays labels at m c → 8 ≤ rank c
  from_label cause.Label h = omega arith
  from_label cause.Far h = omega arith
  from_label cause.Form h = absurd h
  from_label cause.Harts h = absurd h
  from_label cause.Twice h = absurd h
  from_label cause.Range h = absurd h
  from_label cause.Section h = absurd h
  from_label cause.Align h = absurd h
  from_label cause.Full h = absurd h
  from_label cause.Missing h = absurd h

  module _ (to : ℕ) (is : target labels m.named ≡ Some to) where
    defined : IsUndefined labels m → ⊥
    defined u =
        let both : Some to ≡ None = sym is ∙ ap (target labels) u.named ∙ u.undefined in
        absurd cc

    from_far : (c : JobCause) → Strays labels at m c → 9 ≤ rank c
    from_far cause.Label h = absurd (defined h)
    from_far cause.Far h = omega arith
    from_far cause.Form h = absurd h
    from_far cause.Harts h = absurd h
    from_far cause.Twice h = absurd h
    from_far cause.Range h = absurd h
    from_far cause.Section h = absurd h
    from_far cause.Align h = absurd h
    from_far cause.Full h = absurd h
    from_far cause.Missing h = absurd h

    reached : (s : Statement) → m.statement ≡ Some s → Reaches at to s → IsOutOfReach labels at m → ⊥
    reached s e near o =
        let there : s ≡ o.statement = let k : Some s ≡ Some o.statement = sym e ∙ o.stated in cc in
        let place : to ≡ o.to = let k : Some to ≡ Some o.to = sym is ∙ o.named in cc in
        let fits : is_far o.reach at to ≡ false = near o.reach (ap reach_of there ∙ o.reaches) in
        let both : false ≡ true = sym fits ∙ ap (is_far o.reach at) place ∙ o.far in
        absurd cc

    strays_not : (s : Statement) → m.statement ≡ Some s → Reaches at to s → (c : JobCause) → Strays labels at m c → ⊥
    strays_not s e near cause.Label h = defined h
    strays_not s e near cause.Far h = reached s e near h
    strays_not s e near cause.Form h = h
    strays_not s e near cause.Harts h = h
    strays_not s e near cause.Twice h = h
    strays_not s e near cause.Range h = h
    strays_not s e near cause.Section h = h
    strays_not s e near cause.Align h = h
    strays_not s e near cause.Full h = h
    strays_not s e near cause.Missing h = h

  unstated : m.statement ≡ None → (c : JobCause) → Strays labels at m c → ⊥
  unstated e cause.Label h = let k : None ≡ Some h.statement = sym e ∙ h.stated in absurd cc
  unstated e cause.Far h = let k : None ≡ Some h.statement = sym e ∙ h.stated in absurd cc
  unstated e cause.Form h = h
  unstated e cause.Harts h = h
  unstated e cause.Twice h = h
  unstated e cause.Range h = h
  unstated e cause.Section h = h
  unstated e cause.Align h = h
  unstated e cause.Full h = h
  unstated e cause.Missing h = h

module _ (bytes : List ℕ) (lines : List Meaning) (meant : meanings bytes ≡ map Some lines) where
  abbrev labels : List (List ℕ × ℕ)
  labels = labels_of lines

  found : (before : List Meaning) (m : Meaning) (rest : List Meaning) → lines ≡ before ++ m ∷ rest → (c : JobCause) → Strays labels (text_address (place_of before)) m c → SecondFinds bytes (length before + 1) c
  found before m rest e c h = record {
    before = before;
    here = m;
    rest = rest;
    stands = meant ∙ ap (map Some) e;
    counted = refl;
    strays = subst (λ (ls : List Meaning). Strays (labels_of ls) (text_address (place_of before)) m c) e h;
  }

  found_there : (before : List Meaning) (m : Meaning) (rest : List Meaning) → lines ≡ before ++ m ∷ rest → (c : JobCause) → SecondFinds bytes (length before + 1) c → Strays labels (text_address (place_of before)) m c
  found_there before m rest e c f =
      let whole : lines ≡ f.before ++ f.here ∷ f.rest = same_lines lines (f.before ++ f.here ∷ f.rest) (sym meant ∙ f.stands) in
      let same = split_same before f.before m f.here rest f.rest (omega (arith, f.counted)) (sym e ∙ whole) in
      subst (λ (x : Meaning). Strays labels (text_address (place_of before)) x c) (sym same.1)
      (subst (λ (b : List Meaning). Strays labels (text_address (place_of b)) f.here c) (sym same.0)
      (subst (λ (ls : List Meaning). Strays (labels_of ls) (text_address (place_of f.before)) f.here c) (sym whole) f.strays))

  abbrev Told : Result (List Cell) JobFault → Type 0
  Told (Ok cells) = FindsNone (SecondFinds bytes)
  Told (Err fault) = IsLowest (SecondFinds bytes) fault

  told_with : (cells : List Cell) (r : Result (List Cell) JobFault) → Told r → Told (r >>= λ more. Ok (cells ++ more))
  told_with cells (Ok more) h = h
  told_with cells (Err fault) h = h

  -- one line, and the lines after it
  module _ (before : List Meaning) (m : Meaning) (rest : List Meaning) (e : lines ≡ before ++ m ∷ rest) (clean : IsClean (SecondFinds bytes) (length before + 1)) where
    abbrev at : ℕ
    at = text_address (place_of before)

    told_err : (c : JobCause) → Strays labels at m c → ((d : JobCause) → Strays labels at m d → rank c ≤ rank d) → IsLowest (SecondFinds bytes) (fault_at (length before + 1) c)
    told_err c h least = record {
      found = found before m rest e c h;
      lowest = clean;
      first = λ d f. least d (found_there before m rest e d f);
    }

    cleaner : ((c : JobCause) → Strays labels at m c → ⊥) → IsClean (SecondFinds bytes) (length before + 1 + 1)
    cleaner none line c f =
        let other : line ≢ length before + 1 = λ (q : line ≡ length before + 1). none c (found_there before m rest e c (subst (λ (n : ℕ). SecondFinds bytes n c) q f)) in
        omega (arith, clean line c f)

    module _ (r : Result (List Cell) JobFault) (onward : IsClean (SecondFinds bytes) (length before + 1 + 1) → Told r) where
      abbrev row : Statement → Placed
      row s = record { line = length before + 1; at = at; section = (place_of before).section; statement = s; named = m.named }

      told_cells : (s : Statement) (to : ℕ) → m.statement ≡ Some s → target labels m.named ≡ Some to → (k : Result (List Cell) JobCause) → statement_cells (row s) to s ≡ k
          → Told (on_line (length before + 1) k >>= λ cells. r >>= λ more. Ok (cells ++ more))
      told_cells s to stated is (Ok cells) k = told_with cells r (onward (cleaner (strays_not labels at m to is s stated (cells_ok (row s) to s cells k))))
      told_cells s to stated is (Err c) k =
          let far = cells_err (row s) to s c k in
          subst (λ (x : JobCause). IsLowest (SecondFinds bytes) (fault_at (length before + 1) x)) (sym far.told)
          (told_err cause.Far (record { statement = s; reach = far.reach; to = to; stated = stated; reaches = far.reaches; named = is; far = far.far }) (from_far labels at m to is))

      told_target : (s : Statement) → m.statement ≡ Some s → (o : Option ℕ) → target labels m.named ≡ o
          → Told (on_line (length before + 1) (row_cells (row s) o) >>= λ cells. r >>= λ more. Ok (cells ++ more))
      told_target s stated None is = told_err cause.Label (nowhere labels m s m.named stated refl is) (from_label labels at m)
      told_target s stated (Some to) is = told_cells s to stated is (statement_cells (row s) to s) refl

  told_statement : (before : List Meaning) (m : Meaning) (rest : List Meaning) → lines ≡ before ++ m ∷ rest → IsClean (SecondFinds bytes) (length before + 1)
      → (rows : List Placed) → (IsClean (SecondFinds bytes) (length before + 1 + 1) → Told (second_pass labels rows))
      → (o : Option Statement) → m.statement ≡ o → Told (second_pass labels (row_with (length before + 1) (place_of before) m.named o ++ rows))
  told_statement before m rest e clean rows onward None stated = onward (cleaner before m rest e clean (unstated labels (text_address (place_of before)) m stated))
  told_statement before m rest e clean rows onward (Some s) stated =
      told_target before m rest e clean (second_pass labels rows) onward s stated (target labels m.named) refl

  second_told : (rest before : List Meaning) (n : ℕ) (place : Place) → n ≡ length before + 1 → place ≡ place_of before → lines ≡ before ++ rest → IsClean (SecondFinds bytes) n
      → Told (second_pass labels (rows_from n place rest))
  second_told [] before n place count here e clean = λ line c f.
      let whole : lines ≡ f.before ++ f.here ∷ f.rest = same_lines lines (f.before ++ f.here ∷ f.rest) (sym meant ∙ f.stands) in
      absurd (omega (arith, count, clean line c f, f.counted, length-append f.before (f.here ∷ f.rest), ap length (sym whole ∙ e ∙ append-nil before)))
  second_told (m ∷ rest) before n place count here e clean =
      subst (λ (k : ℕ). Told (second_pass labels (row_with k place m.named m.statement ++ rows_from (n + 1) (after place m) rest))) (sym count)
      (subst (λ (p : Place). Told (second_pass labels (row_with (length before + 1) p m.named m.statement ++ rows_from (n + 1) (after place m) rest))) (sym here)
      (told_statement before m rest e (subst (IsClean (SecondFinds bytes)) count clean) (rows_from (n + 1) (after place m) rest)
      (λ further.
      second_told rest (before ++ m ∷ []) (n + 1) (after place m) (omega (arith, count, length-append before (m ∷ [])))
      (ap (λ (p : Place). after p m) here ∙ sym (fold-append after start before (m ∷ []))) (e ∙ sym (append_assoc before (m ∷ []) rest))
      (subst (λ (k : ℕ). IsClean (SecondFinds bytes) (k + 1)) (sym count) further))
      m.statement refl))

-- the two passes tell the fault, or find none
abbrev Verdict : List ℕ → Result (List Meaning) JobFault → Type 0
Verdict bytes (Ok lines) = FindsNone (FirstFinds bytes) × FindsNone (SecondFinds bytes)
Verdict bytes (Err fault) = HasFault bytes fault

after_second : (bytes : List ℕ) (lines : List Meaning) (meant : meanings bytes ≡ map Some lines) → FindsNone (FirstFinds bytes) → (r : Result (List Cell) JobFault) → Told bytes lines meant r
    → Verdict bytes (r >>= λ cells. Ok lines)
after_second bytes lines meant none (Ok cells) told = (none, told)
after_second bytes lines meant none (Err fault) told = inr (record { none_first = none; second = told })

after_first : (bytes : List ℕ) (r : Result (List Meaning) JobFault) → FirstTold bytes r
    → Verdict bytes (r >>= λ lines. second_pass (labels_of lines) (rows_of lines) >>= λ cells. Ok lines)
after_first bytes (Err fault) told = inl told
after_first bytes (Ok lines) told =
    after_second bytes lines told.0 told.1 (second_pass (labels_of lines) (rows_of lines))
    (second_told bytes lines told.0 lines [] 1 start refl refl refl (λ line c f. omega (arith, f.counted)))

from_one : (bytes : List ℕ) → IsClean (FirstFinds bytes) 1
from_one bytes line c (inl f) = omega (arith, f.counted)
from_one bytes line c (inr f) = omega (arith, f.counted)

verdict : (bytes : List ℕ) → Verdict bytes (passes bytes)
verdict bytes = after_first bytes (first_pass [] (lines_of bytes)) (first_told bytes (lines_of bytes) [] refl (from_one bytes))

pub passes_err : (bytes : List ℕ) (fault : JobFault) → passes bytes ≡ Err fault → HasFault bytes fault
passes_err bytes fault e = subst (Verdict bytes) e (verdict bytes)

-- a text has one fault
pub one_fault : (bytes : List ℕ) (f g : JobFault) → HasFault bytes f → HasFault bytes g → f ≡ g
one_fault bytes f g (inl a) (inl b) = one_lowest (FirstFinds bytes) f g a b
one_fault bytes f g (inl a) (inr b) = absurd (b.none_first f.line f.cause a.found)
one_fault bytes f g (inr a) (inl b) = absurd (a.none_first g.line g.cause b.found)
one_fault bytes f g (inr a) (inr b) = one_lowest (SecondFinds bytes) f g a.second b.second

faultless : (bytes : List ℕ) (fault : JobFault) → FindsNone (FirstFinds bytes) → FindsNone (SecondFinds bytes) → HasFault bytes fault → ⊥
faultless bytes fault first second (inl a) = first fault.line fault.cause a.found
faultless bytes fault first second (inr a) = second fault.line fault.cause a.second.found

-- a text with a fault is no job
pub no_job : (bytes : List ℕ) (job : Job) (fault : JobFault) → IsJobText bytes job → HasFault bytes fault → ⊥
no_job bytes job fault text has =
    let none = subst (Verdict bytes) text.passed (verdict bytes) in
    faultless bytes fault none.0 none.1 has

pub fault_no_job : {T : Type 0} (bytes : List ℕ) (r : Result T JobRefused) → IfFault r (HasFault bytes) → IfFault r (λ _. (job : Job) → IsJobText bytes job → ⊥)
fault_no_job bytes (Ok x) h = h
fault_no_job bytes (Err refused.NoMemory) h = h
fault_no_job bytes (Err (refused.Fault fault)) h = λ job text. no_job bytes job fault text h
