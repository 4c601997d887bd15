use Rattle.std.proofs.Common.{◌∙◌, ap}
use mathlib.Core.Path.{fun_ext}
use Rattle.standard_probes.specs.ProbeLines.{kinds_text}
use Rattle.standard_probes.proofs.kinds.KindProbeProbe.finish.Goals as goal

pub returns : goal.returns
returns c = λ seen tallies. ap (λ bytes. bytes.items) c.into_bytes.ensures.value ∙ c.in_ok-line.ensures ∙ ap kinds_text (fun_ext tallies)
