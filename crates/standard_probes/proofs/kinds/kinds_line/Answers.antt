use Rattle.std.proofs.Common.{◌≡◌, ℕ, [], ◌++◌, List, string_bytes, ap, sym, subst, ◌∙◌, arith}
use Rattle.std.specs.Prelude.{codes, slice_index, slice_index_or}
use Rattle.std.specs.List.{flat_map}
use Rattle.lifeguard.specs.State.{span}
use Rattle.standard_probes.specs.ProbeLines.{counted, kind_words, kinds_text}
use Rattle.standard_probes.proofs.Tallying.{pieces-more}
use Rattle.standard_probes.proofs.kinds.kinds_line.Goals as goal

pub loop-number-preserved : goal.loop-number-preserved
loop-number-preserved c =
    let count = slice_index c.args.counts.now in
    let piece : ℕ → List ℕ = λ kind. counted (slice_index_or kind_words kind []) (count kind) in
    let number = c.loop-number.number in
    c.in_ok-write_counted.ensures ∙ ap (λ word. string_bytes c.loop-number.out ++ counted word (count number)) c.kind_word.ensures
    ∙ ap (λ bytes. bytes ++ piece number) c.loop-number.invariant ∙ sym (pieces-more (codes "probe kinds") piece number)

pub returns : goal.returns
unfolding kinds_text
returns c =
    let piece : ℕ → List ℕ = λ kind. counted (slice_index_or kind_words kind []) (slice_index c.args.counts.now kind) in
    let all : c.loop-number.number ≡ 16 = omega arith in
    subst (λ n. string_bytes c.loop-number.out ≡ codes "probe kinds" ++ flat_map piece (span 0 n)) all c.loop-number.invariant
