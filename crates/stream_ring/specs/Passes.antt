-- What a pass has offered or taken, and which ring it is of.
use Rattle.std.specs.Prelude.{◌≡◌, List}
use Rattle.crossbeam_queue.specs.Passes.{view, IsPassOf}
use Rattle.pl_event.specs.declared.fed.Fed.{Fed}
use Rattle.stream_ring.specs.declared.ends.Ring.{Ring}
use Rattle.stream_ring.specs.declared.ends.SendPass.{SendPass}
use Rattle.stream_ring.specs.declared.ends.TakePass.{TakePass}

module _ {N : Type 0} where
  abbrev pub offered : SendPass N → List Fed
  offered p = (view p.pass).sent

  abbrev pub taken : TakePass N → List Fed
  taken p = (view p.pass).got

  -- the pass is of this ring
  abbrev pub IsSendOf : Ring N → SendPass N → Type 0
  IsSendOf r p = IsPassOf r.queue p.pass × ((view p.pass).hart ≡ r.hart)

  abbrev pub IsTakeOf : Ring N → TakePass N → Type 0
  IsTakeOf r p = IsPassOf r.queue p.pass × ((view p.pass).hart ≡ r.hart)
