-- The harts of a run, and their ends one by one.
use Rattle.std.proofs.Common.{◌≡◌, ℕ, ◌+◌, ◌<◌, List, [], ◌∷◌, ◌++◌, length, take, get_or}
use Rattle.std.proofs.Common.{refl, sym, ap, subst, ◌∙◌, arith}
use Rattle.std.specs.Prelude.{IfSome, slice_get, Option}
use Rattle.std.proofs.lemmas.List.{map_more, length-set}
use Rattle.std.proofs.lemmas.Option.{slice_get-get_or}
use Rattle.core_sim.specs.declared.hart.HartEnd.{HartEnd}
use Rattle.core_sim.specs.declared.hart.Standing.{Standing}
use Rattle.core_sim.specs.declared.job.Job.{Job}
use Rattle.core_sim.specs.Entries.{Entry, harts_after}
use Rattle.core_sim.specs.Start.{begin_from, standing_at}
use Rattle.paralog_top.specs.Runs.{ends_of}

-- one more hart's end
pub ends_more : (harts : List Standing) (k : ℕ) (ends : List HartEnd) (next : HartEnd) → k < length harts
    → IfSome (slice_get harts k) (λ hart. next ≡ hart.end) → ends ≡ ends_of (take k harts)
    → ends ++ next ∷ [] ≡ ends_of (take (k + 1) harts)
ends_more harts k ends next within given so_far =
    let none : Standing = standing_at 0 0 in
    let is : next ≡ (get_or harts k none).end =
    subst (λ (found : Option Standing). IfSome found (λ hart. next ≡ hart.end))
    (slice_get-get_or harts k none within) given in
    ap (λ (all : List HartEnd). all ++ next ∷ []) so_far
    ∙ ap (λ (e : HartEnd). ends_of (take k harts) ++ e ∷ []) is
    ∙ sym (map_more (λ (hart : Standing). hart.end) harts k none within)

length_begin : (first : ℕ) (entries : List ℕ) → length (begin_from first entries) ≡ length entries
length_begin first [] = refl
length_begin first (entry ∷ entries) = omega (arith, length_begin (first + 1) entries)

-- no step changes how many harts there are
pub length_harts : (job : Job) (entries : List Entry)
    → length (harts_after job entries) ≡ length (take job.harts job.entries)
length_harts job [] = length_begin 0 (take job.harts job.entries)
length_harts job (e ∷ before) = length-set (harts_after job before) e.hart e.act.next ∙ length_harts job before
