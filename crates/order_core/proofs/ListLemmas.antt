-- The records of a hart in a plan that is given by lists.
use Rattle.std.proofs.Common.{◌≡◌, ℕ, zero, suc, ◌<◌, List, [], ◌∷◌, length, get_or, Vec, Global, slice_get, Some, sym, ap, arith}
use Rattle.order_core.specs.declared.record_plan.RecordPlan.{RecordPlan}
use Rattle.order_core.specs.Lists.{stream_of}

pub stream_at : (vs : List (Vec RecordPlan Global)) (h : ℕ) (v : Vec RecordPlan Global) → h < length vs → v ≡ get_or vs h v → v.items ≡ stream_of vs h
stream_at [] h v l e = absurd (omega arith)
stream_at (x ∷ vs) zero v l e = ap (λ (z : Vec RecordPlan Global). z.items) e
stream_at (x ∷ vs) (suc h) v l e = stream_at vs h v (omega arith) e

pub record_there : (rs : List RecordPlan) (m : ℕ) (r : RecordPlan) → m < length rs → r ≡ get_or rs m r → slice_get rs m ≡ Some r
record_there [] m r l e = absurd (omega arith)
record_there (x ∷ rs) zero r l e = ap (λ (z : RecordPlan). Some z) (sym e)
record_there (x ∷ rs) (suc m) r l e = record_there rs m r (omega arith) e
