use Rattle.std.proofs.Common.{arith, ◌-◌, drop, sym, subst}
use Rattle.std.specs.Prelude.{IsAscii}
use Rattle.std.proofs.lemmas.List.{length-drop, take_all}
use Rattle.std.proofs.lemmas.Str.{IsUtf8-from_ascii}
use Rattle.log_text.proofs.digits.push_hex.Goals as goal

pub unreachable-requires : goal.unreachable-requires
unreachable-requires c =
    let start = c.write_hex-start.result in
    let digits = drop start c.write_hex-start.new.buffer in
    let long = length-drop start c.write_hex-start.new.buffer in
    let whole = take_all (64 - start) digits (omega (arith, long, c.write_hex-start.array_long)) in
    c.in-Err.ensures.cases.0 (IsUtf8-from_ascii _ (subst IsAscii (sym whole) c.write_hex-start.ensures.ascii))
