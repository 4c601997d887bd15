use Rattle.std.proofs.Common.{map, string_bytes}
use Rattle.paralog_top.proofs.ChosenLemmas.{choose}
use Rattle.paralog_top.proofs.chosen.Chosen.parse.Goals as goal

pub returns-then-may_name : goal.returns-then-may_name
returns-then-may_name g c =
    let meanings = map (λ b. (goal.Probe-dyn g (b.vtable, b.value)).meaning b.value) c.args.probes.now in
    let may = c.may_name.ensures.0 c.if-may_name.true in
    choose meanings (map string_bytes c.args.names.now) may.0 may.1 may.2 c.first_named.result c.first_named.ensures
