-- An event makes at most three reports.
use Rattle.std.specs.Prelude.{ℕ, ◌+◌, ◌≤◌, Bool, true, false, List, [], ◌++◌, length, Option, Some, None, if◌then◌else◌}
use Rattle.std.proofs.Common.{arith, length-append, lit≤}
use Rattle.pl_event.specs.declared.event.Kind.{Kind}
use Rattle.pl_event.specs.declared.event.Kind.TheVariants.{Ld, St, Op, Mv, Im, Br, Jr, Al, Fr, Bf, Mp, Um, Rd, Wr, Ex, Ft}
use Rattle.lifeguard.specs.declared.report.Report.{Report}
use Rattle.lifeguard.specs.declared.report.ReportKind.{ReportKind}
use Rattle.lifeguard.specs.declared.report.ReportKind.TheVariants as report
use Rattle.lifeguard.specs.declared.report.EventPlace.{EventPlace}
use Rattle.lifeguard.specs.Rules.{Rules}
use Rattle.lifeguard.specs.State.{State, Bytes}
use Rattle.lifeguard.specs.Plain.{reported, register_report, marked_register, bad_touch, bad_sent, is_taint, misdeed, misdeed_report, misdeeds, reports_of}

reported_few : (at : EventPlace) (kind : ReportKind) (found : Option ℕ) → length (reported at kind found) ≤ 1
reported_few at kind None = lit≤ tt
reported_few at kind (Some addr) = lit≤ tt

misdeed_few : (at : EventPlace) (deed : Option (ReportKind × ℕ)) → length (misdeed_report at deed) ≤ 1
misdeed_few at None = lit≤ tt
misdeed_few at (Some deed) = lit≤ tt

-- a check that leaves misdeeds out makes no more of them
chosen_few : (at : EventPlace) (left_out : Bool) (deed : Option (ReportKind × ℕ)) → length (if left_out then [] else misdeed_report at deed) ≤ 1
chosen_few at true deed = lit≤ tt
chosen_few at false deed = misdeed_few at deed

chosen_none : (at : EventPlace) (left_out : Bool) → length (if left_out then [] else misdeed_report at None) ≤ 0
chosen_none at true = lit≤ tt
chosen_none at false = lit≤ tt

-- what goes outside is no misdeed
last_few : (rules : Rules) (at : EventPlace) (kind : Kind) (bytes : Bytes) → length (reported at report.Undef (bad_sent rules bytes kind)) + length (misdeeds rules at kind) ≤ 1
last_few rules at (Ld width rd rb addr) bytes = omega (arith, chosen_none at (is_taint rules.name))
last_few rules at (St width rv rb addr) bytes = omega (arith, chosen_none at (is_taint rules.name))
last_few rules at (Op rd r1 r2) bytes = omega (arith, chosen_none at (is_taint rules.name))
last_few rules at (Mv rd rs) bytes = omega (arith, chosen_none at (is_taint rules.name))
last_few rules at (Im rd) bytes = omega (arith, chosen_none at (is_taint rules.name))
last_few rules at (Br r1 r2) bytes = omega (arith, chosen_none at (is_taint rules.name))
last_few rules at (Jr rd rs) bytes = omega (arith, chosen_none at (is_taint rules.name))
last_few rules at (Al addr len) bytes = omega (arith, chosen_none at (is_taint rules.name))
last_few rules at (Fr addr len) bytes = omega (arith, chosen_none at (is_taint rules.name))
last_few rules at (Bf addr) bytes = omega (arith, chosen_few at (is_taint rules.name) (Some (report.BadFree, addr)))
last_few rules at (Mp page count) bytes = omega (arith, chosen_none at (is_taint rules.name))
last_few rules at (Um page count) bytes = omega (arith, chosen_none at (is_taint rules.name))
last_few rules at (Rd addr len) bytes = omega (arith, chosen_none at (is_taint rules.name))
last_few rules at (Wr addr len) bytes =
    omega (arith, chosen_none at (is_taint rules.name), reported_few at report.Undef (bad_sent rules bytes (Wr addr len)))
last_few rules at Ex bytes = omega (arith, chosen_none at (is_taint rules.name))
last_few rules at (Ft cause addr) bytes = omega (arith, chosen_few at (is_taint rules.name) (misdeed (Ft cause addr)))

four_few : (a b c d : List Report) → length a ≤ 1 → length b ≤ 1 → length c + length d ≤ 1 → length (a ++ b ++ c ++ d) ≤ 3
four_few a b c d first second last = simp length-append (omega arith)

pub reports_few : (rules : Rules) (at : EventPlace) (kind : Kind) (state : State) → length (reports_of rules at kind state) ≤ 3
reports_few rules at kind state =
    four_few (reported at (register_report kind) (marked_register rules state.masks at.hart kind)) (reported at report.Access (bad_touch rules state.bytes kind))
    (reported at report.Undef (bad_sent rules state.bytes kind)) (misdeeds rules at kind)
    (reported_few at (register_report kind) (marked_register rules state.masks at.hart kind)) (reported_few at report.Access (bad_touch rules state.bytes kind))
    (last_few rules at kind state.bytes)
