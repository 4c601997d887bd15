use Rattle.std.proofs.Common.{◌≡◌, ℕ, ◌/◌, ◌%◌, ◌^◌, ◌<◌, ◌≤◌, false, true, ap, arith, lt_of_not-le}
use Rattle.std.proofs.Math.Nat.{div-eq_of_lt}
use Rattle.std.proofs.Math.Pow.{pow_mono}
use mathlib.Core.Logic.{dite}
use native.Mathlib.Decide.{dec_le}
use Rattle.order_core.proofs.lanes.share_lane.Goals as goal

-- lanes below 16 name no lane from 4 on
no_lane : (a j : ℕ) → a ≤ 15 → 4 ≤ j → a / 2 ^ j % 2 ≡ 1 → ⊥
no_lane a j low high e =
    let up : 2 ^ 4 ≤ 2 ^ j = pow_mono high in
    let nothing : a / 2 ^ j ≡ 0 = div-eq_of_lt (omega arith) in
    let z : a / 2 ^ j % 2 ≡ 0 = ap (λ (n : ℕ). n % 2) nothing in
    omega arith

pub returns : goal.returns
returns c = (
  (λ f. let t : false ≡ true = f in cc),
  λ t. dite (dec_le 4 t.0) (λ high. absurd (no_lane c.args.a t.0 c.requires high t.1))
      (λ low. absurd (c.loop-j.invariant t.0 (let s : t.0 < 4 = lt_of_not-le low in omega arith) t.1 t.2)),
)
