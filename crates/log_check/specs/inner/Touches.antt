-- What an event touches, as the check keeps it.
use Rattle.std.specs.Prelude.{Option, Some, None}
use Rattle.pl_event.specs.Conflicts.{Access}
use Rattle.log_check.specs.declared.conflicts.Touched.{Touched}

-- the access that touches this
abbrev pub access_in : Option Touched → Option Access
access_in None = None
access_in (Some touched) = Some (record { block = touched.block; store = touched.is_store })
