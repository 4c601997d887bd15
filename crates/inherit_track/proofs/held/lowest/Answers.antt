use Rattle.std.proofs.Common.{◌<◌, ◌^◌, w64, arith}
use Rattle.std.specs.Int.{trailing_zeros}
use Rattle.std.proofs.lemmas.Nat.Bits.{bit_at-trailing_zeros}
use Rattle.inherit_track.proofs.HeldLemmas.{bit_below}
use Rattle.inherit_track.proofs.held.lowest.Goals as goal

pub returns-clause-is_in : goal.returns-clause-is_in
returns-clause-is_in c = (let small : c.args.set < 2 ^ 64 = omega arith in bit_at-trailing_zeros w64 c.args.set c.requires small).1

pub returns-clause-few : goal.returns-clause-few
returns-clause-few c n lt =
    let small : c.args.set < 2 ^ 64 = omega arith in
    bit_below c.args.set (trailing_zeros w64 c.args.set) n (bit_at-trailing_zeros w64 c.args.set c.requires small).1 lt
