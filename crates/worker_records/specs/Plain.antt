-- Kinds that reach no memory.
use Rattle.std.specs.Prelude.{ℕ, Bool, true, false, Option, Some, None}
use Rattle.pl_event.specs.declared.event.Kind.{Kind}
use Rattle.pl_event.specs.declared.event.Kind.TheVariants.{Im, Br, Jr, Bf, Ex, Ft}
use Rattle.worker_records.specs.declared.state.Found.{Found}

-- nothing was found
abbrev pub found_none : Found
found_none = record { touched = None; sent = None }

-- the register that such an event clears
abbrev pub cleared : Kind → Option ℕ
cleared (Im rd) = Some rd
cleared (Jr rd rs) = Some rd
cleared (Bf addr) = Some 10
cleared _ = None

-- it changes no register
abbrev pub is_still : Kind → Bool
is_still (Br r1 r2) = true
is_still Ex = true
is_still (Ft cause addr) = true
is_still _ = false
