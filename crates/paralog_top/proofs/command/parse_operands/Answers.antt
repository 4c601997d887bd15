use Rattle.std.proofs.Common.{map, string_bytes}
use Rattle.paralog_top.proofs.OneCommand.{no_generated, no_monitor, no_probe, no_watch}
use Rattle.paralog_top.proofs.command.parse_operands.Goals as goal

pub returns-in_err-guard-in-probe : goal.returns-in_err-guard-in-probe
returns-in_err-guard-in-probe g c =
    let meanings = map (λ b. (goal.Probe-dyn g (b.vtable, b.value)).meaning b.value) c.args.probes.now in
    rw (c.from_residual-in_err-guard-in-probe.ensures, c.in-probe.is)
    (no_probe meanings (map string_bytes c.args.operands.now) c.in_err-guard-in-probe.ensures)

pub returns-in_err-seed-in-gen : goal.returns-in_err-seed-in-gen
returns-in_err-seed-in-gen g c =
    let meanings = map (λ b. (goal.Probe-dyn g (b.vtable, b.value)).meaning b.value) c.args.probes.now in
    rw (c.from_residual-in_err-seed-in-gen.ensures, c.in-gen.is)
    (no_generated meanings (map string_bytes c.args.operands.now) c.in_err-seed-in-gen.ensures)

pub returns-in_err-guard-in-watch : goal.returns-in_err-guard-in-watch
returns-in_err-guard-in-watch g c =
    let meanings = map (λ b. (goal.Probe-dyn g (b.vtable, b.value)).meaning b.value) c.args.probes.now in
    rw (c.from_residual-in_err-guard-in-watch.ensures, c.in-watch.is)
    (no_watch meanings (map string_bytes c.args.operands.now) c.in_err-guard-in-watch.ensures)

pub returns-in_err-guard-in-monitor : goal.returns-in_err-guard-in-monitor
returns-in_err-guard-in-monitor g c =
    let meanings = map (λ b. (goal.Probe-dyn g (b.vtable, b.value)).meaning b.value) c.args.probes.now in
    rw (c.from_residual-in_err-guard-in-monitor.ensures, c.in-monitor.is)
    (no_monitor meanings (map string_bytes c.args.operands.now) c.in_err-guard-in-monitor.ensures)
