-- Not all workers are stuck: line by line, what a record needs is taken, and was heard.
use Rattle.std.proofs.Common.{◌≡◌, ℕ, zero, suc, ◌+◌, ◌<◌, ◌≤◌, List, [], ◌∷◌, length, slice_index, refl, ap, ◌∙◌, subst, arith, ⊎_elim}
use Rattle.std.proofs.Math.Logic.{∥∥₁_elim}
use Rattle.std.proofs.Props.{props}
use mathlib.Core.Option.{some}
use mathlib.Core.Logic.{dite}
use native.Mathlib.Decide.{ℕ_discrete, dec_le}
use lib.ListN.{get_elem?}
use Rattle.pl_event.specs.declared.log.Line.{Line}
use Rattle.pl_event.specs.Numbers.{hart_of}
use Rattle.pl_event.specs.Needs.{IsNeed}
use Rattle.pl_event.specs.Records.{records_before, IsRecord}
use Rattle.pl_event.proofs.Places.{before_none, before_own, before_other}
use Rattle.pl_event.proofs.Edges.{source_before}
use Rattle.pl_event.proofs.Sources.{need_edge}
use Rattle.order_core.specs.declared.course.Course.{Course}
use Rattle.order_core.specs.Course.{length_of}
use Rattle.order_core.specs.Lawful.{IsLawful}
use Rattle.order_core.proofs.Progress.{line_inside, need_within}
use Rattle.turn_worker.specs.Workers.{WorkerView, IsSound, size}
use Rattle.turn_worker.specs.Turns.{IsWaiting}
use Rattle.turn_worker.specs.Crews.{IsCrew, HaveHeard, IsThrough, IsStuck}

at_place : {A : Type 0} (xs : List A) (i : ℕ) → i < length xs → (x : A) × (get_elem? xs i ≡ some x)
at_place [] i lt = absurd (omega arith)
at_place (x ∷ xs) zero lt = (x, refl)
at_place (x ∷ xs) (suc i) lt = at_place xs i (omega arith)

module _ {W : Type 0} (view : W → WorkerView) (c : Course) (law : IsLawful c) (ws : List W) (crew : IsCrew view c ws) (heard : HaveHeard view ws)
    (stuck : (k : ℕ) (w : W) → get_elem? ws k ≡ some w → IsStuck (view w)) where
  abbrev g : List Line
  g = c.log.lines

  -- the records of the first i lines are taken
  abbrev Taken : ℕ → Type 0
  Taken i = (k : ℕ) (w : W) → get_elem? ws k ≡ some w → records_before k g i ≤ (view w).taken

  size_is : (k : ℕ) (w : W) → get_elem? ws k ≡ some w → size (view w) ≡ length_of c k
  size_is k w here = ap (λ (z : Course). length_of z (view w).seat.hart) (crew.course k w here) ∙ ap (length_of c) (crew.hart k w here)

  no_wait : (i k : ℕ) (w : W) (l : Line) → Taken i → get_elem? ws k ≡ some w → IsRecord g i k ((view w).taken + 1) l → (u need seen : ℕ) → IsWaiting (view w) u need seen → ⊥
  no_wait i k w l taken here is u need seen waits =
      let v : WorkerView = view w in
      let mine : IsNeed g u need v.seat.hart (v.seat.progress + 1) = subst (λ (z : Course). IsNeed z.log.lines u need v.seat.hart (v.seat.progress + 1)) (crew.course k w here) waits.waits.needs in
      let own : IsNeed g u need k (v.seat.progress + 1) = subst (λ (z : ℕ). IsNeed g u need z (v.seat.progress + 1)) (crew.hart k w here) mine in
      let needs : IsNeed g u need k (v.taken + 1) = subst (λ (z : ℕ). IsNeed g u need k (z + 1)) waits.told own in
      let other = need_within c law u need k (v.taken + 1) needs in
      let before : need ≤ records_before u g i = source_before c.log.harts g law.log.flow i k (v.taken + 1) u need l is (need_edge c.log.harts g law.log.flow u need k (v.taken + 1) needs) in
      let all = crew.size in
      let within : u < c.log.harts = other.1 in
      let one = at_place ws u (omega arith) in
      let theirs : records_before u g i ≤ (view one.0).taken = taken u one.0 one.1 in
      let told : (view one.0).taken ≤ slice_index v.seat.learnt u = heard u k one.0 w one.1 here other.0 in
      let learnt : slice_index v.seat.learnt u ≤ seen = waits.learnt in
      let loaded : slice_index v.seat.seen u ≡ seen = waits.loaded in
      let low : slice_index v.seat.seen u < need = waits.waits.unseen in
      omega arith

  next : (i : ℕ) (l : Line) → get_elem? g i ≡ some l → Taken i → Taken (i + 1)
  next i l at taken k w here = dite (ℕ_discrete (hart_of l.what) k)
      (λ own. let more : records_before k g (i + 1) ≡ records_before k g i + 1 = before_own g i k l at own in
      let before : records_before k g i ≤ (view w).taken = taken k w here in
      dite (dec_le (records_before k g i + 1) (view w).taken) (λ le. omega arith) (λ no.
      let same : records_before k g i ≡ (view w).taken = omega arith in
      let is : IsRecord g i k ((view w).taken + 1) l = record { at = at; hart = own; number = ap (λ (z : ℕ). z + 1) same } in
      let inside : (view w).taken + 1 ≤ length_of c k = line_inside c law i k ((view w).taken + 1) l is in
      absurd (⊎_elim
      (λ (e : IsThrough (view w)). let all : size (view w) ≡ length_of c k = size_is k w here in let t : (view w).taken ≡ size (view w) = e in omega arith)
      (λ (s : (u : ℕ) × (need : ℕ) × (seen : ℕ) × IsWaiting (view w) u need seen). no_wait i k w l taken here is s.0 s.1 s.2 s.3)
      (stuck k w here))))
      (λ other. let same : records_before k g (i + 1) ≡ records_before k g i = before_other g i k l at other in
      let before : records_before k g i ≤ (view w).taken = taken k w here in
      omega arith)

  all_taken : (i : ℕ) → i ≤ length g → Taken i
  all_taken zero le = λ k w here. let none : records_before k g 0 ≡ 0 = before_none g k in omega arith
  all_taken (suc i) le =
      let line = at_place g i (omega arith) in
      let more : i + 1 ≡ suc i = omega arith in
      subst Taken more (next i line.0 line.1 (all_taken i (omega arith)))

  through : (k : ℕ) (w : W) → get_elem? ws k ≡ some w → (view w).taken ≤ size (view w) → IsThrough (view w)
  through k w here within =
      let all : length_of c k ≤ (view w).taken = all_taken (length g) (omega arith) k w here in
      let same : size (view w) ≡ length_of c k = size_is k w here in
      omega arith

pub all_through : {W : Type 0} (view : W → WorkerView) → ((w : W) → IsSound (view w)) → (c : Course) (ws : List W) → IsCrew view c ws → HaveHeard view ws → ((k : ℕ) (w : W) → get_elem? ws k ≡ some w → IsStuck (view w))
    → (k : ℕ) (w : W) → get_elem? ws k ≡ some w → IsThrough (view w)
all_through view sound c ws crew heard stuck k w here =
    let lawful : ∥ IsLawful c ∥₁ = subst (λ (z : Course). ∥ IsLawful z ∥₁) (crew.course k w here) (sound w).lawful in
    let p : IsProp (IsThrough (view w)) = hlevel props in
    ∥∥₁_elim lawful p (λ law. through view c law ws crew heard stuck k w here (sound w).within)
