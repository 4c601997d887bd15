-- The kinds of event that other harts are told of.
use Rattle.std.specs.Prelude.{Bool, true, false}
use Rattle.pl_event.specs.declared.event.Kind.{Kind}
use Rattle.pl_event.specs.declared.event.Kind.TheVariants.{Ld, St, Op, Mv, Im, Br, Jr, Al, Fr, Bf, Mp, Um, Rd, Wr, Ex, Ft}

-- a block allocated or freed, pages mapped or unmapped, bytes from or to the outside
abbrev pub is_alert_kind : Kind → Bool
is_alert_kind (Ld width rd rb addr) = false
is_alert_kind (St width rv rb addr) = false
is_alert_kind (Op rd r1 r2) = false
is_alert_kind (Mv rd rs) = false
is_alert_kind (Im rd) = false
is_alert_kind (Br r1 r2) = false
is_alert_kind (Jr rd rs) = false
is_alert_kind (Al addr len) = true
is_alert_kind (Fr addr len) = true
is_alert_kind (Bf addr) = false
is_alert_kind (Mp page count) = true
is_alert_kind (Um page count) = true
is_alert_kind (Rd addr len) = true
is_alert_kind (Wr addr len) = true
is_alert_kind Ex = false
is_alert_kind (Ft cause addr) = false
