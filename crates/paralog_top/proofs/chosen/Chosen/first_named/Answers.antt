use Rattle.std.proofs.Common.{◌<◌, ◌∙◌, ◌∷◌, [], ap, sym, length, map, string_bytes, arith}
use Rattle.std.proofs.lemmas.List.{get_or-map, length-append, length-map}
use Rattle.paralog_top.specs.ProbeNames.{place_named}
use Rattle.paralog_top.proofs.ChosenLemmas.{first_more, named_more, unknown}
use Rattle.paralog_top.proofs.chosen.Chosen.first_named.Goals as goal

pub returns-in_err-place_of : goal.returns-in_err-place_of
returns-in_err-place_of g c =
    let meanings = map (λ b. (goal.Probe-dyn g (b.vtable, b.value)).meaning b.value) c.args.probes.now in
    let names = c.args.names.now in
    let k = c.loop-name.name-index in
    let item = c.name-item.result in
    let within : k < length names = omega (arith, c.loop-name-test.true) in
    let many = length-map names string_bytes in
    let same = get_or-map string_bytes names k item (string_bytes item) within
    ∙ (ap string_bytes (sym c.name-item.is) ∙ sym c.as_str.ensures.value) in
    rw c.from_residual.ensures (λ places first e. unknown meanings (map string_bytes names) places k (string_bytes item)
    (omega (arith, many, within)) (ap (place_named meanings) same ∙ sym c.in_err-place_of.ensures) first e)

pub loop-name-preserved : goal.loop-name-preserved
loop-name-preserved g c =
    let meanings = map (λ b. (goal.Probe-dyn g (b.vtable, b.value)).meaning b.value) c.args.probes.now in
    let names = c.args.names.now in
    let k = c.loop-name.name-index in
    let item = c.name-item.result in
    let place = c.in_ok-place_of.field-0 in
    let before = c.loop-name.chosen in
    let after = c.push.new.self in
    let within : k < length names = omega (arith, c.loop-name-test.true) in
    let means = ap (place_named meanings) (sym c.as_str.ensures.value) ∙ sym c.in_ok-place_of.ensures in
    let grown = ap length c.push.ensures ∙ length-append before (place ∷ []) in
    record {
      many = omega (arith, grown, c.loop-name.invariant.many);
      named = named_more meanings string_bytes names k item place before after within c.name-item.is means
          c.push.ensures c.loop-name.invariant.named;
      first = first_more meanings (string_bytes item) place before after means c.push.ensures
          c.loop-name.invariant.first;
    }
