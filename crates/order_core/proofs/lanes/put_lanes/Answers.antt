use Rattle.std.proofs.Common.{◌≡◌, ℕ, subst, sym}
use Rattle.order_core.specs.declared.course.Op.{Op}
use Rattle.order_core.specs.Lanes.{covers, Lands}
use Rattle.order_core.proofs.Words.{joined_lanes, picked, lands}
use Rattle.order_core.proofs.lanes.put_lanes.Goals as goal

pub returns : goal.returns
unfolding covers
returns c =
    let o : Op = c.args.op in
    let x : ℕ = c.args.word in
    let p : c.lane_after-a.result ≡ picked o x 0 = c.lane_after-a.ensures in
    let q : c.lane_after-b.result ≡ picked o x 1 = c.lane_after-b.ensures in
    let r : c.lane_after-c.result ≡ picked o x 2 = c.lane_after-c.ensures in
    let s : c.lane_after-d.result ≡ picked o x 3 = c.lane_after-d.ensures in
    subst (λ (z : ℕ). Lands o x z) (sym (λ i. joined_lanes (p i) (q i) (r i) (s i))) (lands o x)
