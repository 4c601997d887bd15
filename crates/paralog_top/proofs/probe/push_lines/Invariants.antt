use Rattle.std.proofs.Common.{◌≡◌, ◌++◌, map, take}
use Rattle.std.specs.List.{flat_map}
use Rattle.paralog_top.specs.Results.{line_at}
use Rattle.paralog_top.proofs.probe.push_lines.Given as goal

abbrev pub invariant-loop-place : goal.invariant-loop-place
invariant-loop-place l =
    l.text.items
    ≡ l.initial.text.items ++ flat_map (line_at (map (λ line. line.items) l.lines)) (take l.place-index l.places)
