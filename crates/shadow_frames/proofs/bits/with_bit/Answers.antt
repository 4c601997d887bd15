use Rattle.std.proofs.Common.{◌≡◌, ◌+◌, ◌*◌, ◌%◌, ◌^◌, ◌<◌, arith}
use Rattle.std.proofs.lemmas.Nat.{one_shl}
use Rattle.shadow_frames.proofs.BitLemmas.{set_fits}
use Rattle.shadow_frames.proofs.bits.with_bit.Goals as goal

pub overflow_add-result : goal.overflow_add-result
overflow_add-result c =
    let l : c.args.word + 2 ^ c.args.at < 2 ^ 64 = set_fits c.args.word c.args.at 64 c.ranges.word.fits c.requires.small c.requires.free in
    let e : (1 * 2 ^ c.args.at) % 2 ^ 64 ≡ 2 ^ c.args.at = one_shl c.args.at 64 c.requires.small in
    grind arith
