use Rattle.std.proofs.Common.{◌≡◌, ◌<◌, ◌^◌, drop}
use Rattle.guest_asm.proofs.Digits.{run}
use Rattle.guest_asm.proofs.number.digits_of.Given as goal

abbrev pub invariant-digits : goal.invariant-digits
invariant-digits l = record {
  told : run l.base l.value (drop l.byte-index l.text) ≡ run l.base 0 l.text;
  fits : l.value < 2 ^ 32;
}
