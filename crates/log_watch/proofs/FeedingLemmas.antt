-- A line goes to the worker of its hart.
use Rattle.std.proofs.Common.{◌≡◌, ◌≢◌, ℕ, zero, suc, ◌+◌, ◌<◌, [], ◌∷◌, ◌++◌, List, length, take, drop, filter, set, get_or, length-set, map, refl, sym, ap, ◌∙◌, subst, ⊎_elim, arith}
use Rattle.std.proofs.Math.Seq.{take-append_seam}
use Rattle.std.proofs.lemmas.List.{length-map}
use mathlib.Core.Option.{some, some-injective, some-ne-none}
use mathlib.Core.Logic.{dite}
use native.Mathlib.Decide.{ℕ_discrete}
use lib.ListN.{get_elem?}
use Rattle.atomic_table.proofs.Lists.{at_map, at_set}
use Rattle.pl_event.specs.declared.fed.Fed.{Fed}
use Rattle.pl_event.specs.declared.log.Line.{Line}
use Rattle.pl_event.specs.Feeds.{fed_at, feds_from, feds_of}
use Rattle.pl_event.specs.Numbers.{hart_of, is_of}
use Rattle.pl_event.proofs.Before.{told_own, told_other}
use Rattle.turn_worker.specs.Workers.{WorkerView, stream_of}
use Rattle.lifeguard_crew.proofs.Same.{of_map}
use Rattle.ring_feed.proofs.Pairs.{at_get}
use Rattle.log_watch.specs.Feeding.{AreEmpty, AreFedUpTo, AreUnfed, Begins, IsFedBy, IsPushed, MayPush}

module _ {F : Type 0} (view : F → WorkerView) (piece : F → List Fed) (lines : List Line) (starts : List WorkerView) (at : ℕ) (fs : List F)
    (are : AreFedUpTo view piece lines starts at fs) (line : Line) (there : get_elem? lines at ≡ some line) (h : ℕ) (own : hart_of line.what ≡ h) (low : h < length fs)
    (fed : Fed) (is : fed ≡ fed_at lines at line) where
  -- its worker may be fed the line
  pub may_push : MayPush view piece h fed fs
  may_push f here =
      let start = get_or starts h (view f) in
      let first = at_get starts h (view f) (let s : length fs ≡ length starts = are.size in omega arith) in
      let told = are.fed h start f first here in
      let more = told_own h lines at line told.0 (told.0 ++ fed ∷ []) (feds_of h lines) fed own there is told.2 refl in
      (start, told.0, told.1, ap (take (length (told.0 ++ fed ∷ []))) (are.streams h start first ∙ sym more) ∙ take-append_seam (told.0 ++ fed ∷ []) _)

  -- after that all were fed up to the next line
  pub pushed : (new : List F) → IsPushed view piece h fed fs new → AreFedUpTo view piece lines starts (at + 1) new
  pushed new more = record {
    size = ap length more.set ∙ (length-set fs h more.feeding ∙ are.size);
    streams = are.streams;
    fed = λ k start f first here. ⊎_elim
        (λ (same : (k ≡ h) × (more.feeding ≡ f)). of_hart k start f first same.0 same.1)
        (λ (other : (k ≢ h) × (get_elem? fs k ≡ some f)).
        let told = are.fed k start f first other.1 in
        (told.0, told.1, told_other k lines at line told.0 told.0 (feds_of k lines) (λ e. other.0 (sym e ∙ own)) there told.2 refl))
        (at_set fs h k more.feeding f (subst (λ (z : List F). get_elem? z k ≡ some f) more.set here));
  }
    where
      of_hart : (k : ℕ) (start : WorkerView) (f : F) → get_elem? starts k ≡ some start → k ≡ h → more.feeding ≡ f
          → (told : List Fed) × IsFedBy start (view f) (piece f) told × (told ++ filter (λ (x : Fed). is_of k x.line) (feds_from lines (at + 1) (drop (at + 1) lines)) ≡ feds_of k lines)
      of_hart k start f first same e =
          let old = get_or fs h more.feeding in
          let here = at_get fs h more.feeding low in
          let told = are.fed h start old (subst (λ (z : ℕ). get_elem? starts z ≡ some start) same first) here in (
            told.0 ++ fed ∷ [],
            subst (λ (z : F). IsFedBy start (view z) (piece z) (told.0 ++ fed ∷ [])) e (more.grown old here start told.0 told.1),
            subst (λ (z : ℕ). (told.0 ++ fed ∷ []) ++ filter (λ (x : Fed). is_of z x.line) (feds_from lines (at + 1) (drop (at + 1) lines)) ≡ feds_of z lines) (sym same)
                (told_own h lines at line told.0 (told.0 ++ fed ∷ []) (feds_of h lines) fed own there is told.2 refl),
          )

-- what is at a place is within the list
pub place_low : {A : Type 0} (xs : List A) (k : ℕ) (x : A) → get_elem? xs k ≡ some x → k < length xs
place_low [] k x at = absurd (some-ne-none x (sym at))
place_low (y ∷ xs) zero x at = omega arith
place_low (y ∷ xs) (suc k) x at = let l : k < length xs = place_low xs k x at in omega arith

-- before the first line
pub first_fed : {F W : Type 0} (worker : F → W) (view : W → WorkerView) (piece : F → List Fed) (lines : List Line) (workers : List W) (fs : List F) → AreUnfed view lines workers
    → map worker fs ≡ workers → AreEmpty piece fs → AreFedUpTo (λ f. view (worker f)) piece lines (map view workers) 0 fs
first_fed {F} {W} worker view piece lines workers fs unfed are empty = record {
  size = sym (length-map fs worker) ∙ (ap length are ∙ sym (length-map workers view));
  streams = λ k start at. let w = of_map view workers k start at in subst (λ (v : WorkerView). stream_of v ≡ feds_of k lines) w.2 (unfed k w.0 w.1).1;
  fed = λ k start f first here.
      let w = of_map view workers k start first in
      let at : get_elem? workers k ≡ some (worker f) = subst (λ (z : List W). get_elem? z k ≡ some (worker f)) are (at_map worker fs k f here) in
      let same : w.0 ≡ worker f = some-injective w.0 (worker f) (sym w.1 ∙ at) in
      ([], subst (λ (v : WorkerView). IsFedBy v (view (worker f)) (piece f) []) (ap view (sym same) ∙ w.2) (none k f at here), refl);
}
  where
    none : (k : ℕ) (f : F) → get_elem? workers k ≡ some (worker f) → get_elem? fs k ≡ some f → IsFedBy (view (worker f)) (view (worker f)) (piece f) []
    none k f at here = record { same = refl; all = λ i. (unfed k (worker f) at).0 i ++ empty k f here i }
