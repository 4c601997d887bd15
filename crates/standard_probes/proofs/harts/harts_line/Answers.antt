use Rattle.std.proofs.Common.{◌≡◌, ℕ, ◌∷◌, ◌++◌, List, string_bytes, ap, sym, subst, ◌∙◌, arith}
use Rattle.std.specs.Prelude.{codes, slice_index}
use Rattle.std.specs.Fmt.{decimal}
use Rattle.std.specs.List.{flat_map}
use Rattle.lifeguard.specs.State.{span}
use Rattle.standard_probes.specs.ProbeLines.{counted, harts_text}
use Rattle.standard_probes.proofs.Tallying.{pieces-more}
use Rattle.standard_probes.proofs.harts.harts_line.Goals as goal

pub loop-hart-preserved : goal.loop-hart-preserved
loop-hart-preserved c =
    let piece : ℕ → List ℕ = λ hart. counted (104 ∷ decimal hart) (slice_index c.args.counts.now hart) in
    c.in_ok-write_hart.ensures ∙ ap (λ bytes. bytes ++ piece c.loop-hart.hart) c.loop-hart.invariant ∙ sym (pieces-more (codes "probe harts") piece c.loop-hart.hart)

pub returns : goal.returns
unfolding harts_text
returns c =
    let piece : ℕ → List ℕ = λ hart. counted (104 ∷ decimal hart) (slice_index c.args.counts.now hart) in
    let all : c.loop-hart.hart ≡ 256 = omega arith in
    subst (λ n. string_bytes c.loop-hart.out ≡ codes "probe harts" ++ flat_map piece (span 0 n)) all c.loop-hart.invariant
