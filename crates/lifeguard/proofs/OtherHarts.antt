-- An event changes no mask of another hart, and no report is added to another hart's.
use Rattle.std.specs.Prelude.{◌≡◌, ◌≢◌, ℕ, Bool, true, false, ◌==◌, List, [], ◌++◌, Option, Some, None, if◌then◌else◌}
use Rattle.std.proofs.Common.{refl, sym, ap, ◌∙◌, append-nil}
use Rattle.std.proofs.lemmas.Bool.{ne_eqb}
use Rattle.std.proofs.lemmas.List.Elements.{filter-append}
use Rattle.pl_event.specs.declared.event.Kind.{Kind}
use Rattle.pl_event.specs.declared.event.Kind.TheVariants.{Ld, St, Op, Mv, Im, Br, Jr, Al, Fr, Bf, Mp, Um, Rd, Wr, Ex, Ft}
use Rattle.lifeguard.specs.declared.report.Report.{Report}
use Rattle.lifeguard.specs.declared.report.ReportKind.{ReportKind}
use Rattle.lifeguard.specs.declared.report.ReportKind.TheVariants as report
use Rattle.lifeguard.specs.declared.report.EventPlace.{EventPlace}
use Rattle.lifeguard.specs.Rules.{Rules}
use Rattle.lifeguard.specs.State.{State, Bytes, Masks, with_mask}
use Rattle.lifeguard.specs.Plain.{rule, masks_after, loaded_mask, reported, register_report, marked_register, bad_touch, bad_sent, is_taint, misdeed, misdeed_report, misdeeds, reports_of}
use Rattle.lifeguard.specs.Ranges.{reports_on}

with_other : (hart register mask : ℕ) (masks : Masks) (h r : ℕ) → h ≢ hart → with_mask hart register mask masks h r ≡ masks h r
unfolding with_mask
with_other hart register mask masks h r ne = rw (ne_eqb h hart ne) refl

module _ (rules : Rules) (hart : ℕ) (bytes : Bytes) (masks : Masks) (h r : ℕ) (ne : h ≢ hart) where
  set : (register mask : ℕ) → with_mask hart register mask masks h r ≡ masks h r
  set register mask = with_other hart register mask masks h r ne

  masks_keep : (kind : Kind) → masks_after rules hart kind bytes masks h r ≡ masks h r
  masks_keep (Ld width rd rb addr) = set rd (loaded_mask rules width bytes addr)
  masks_keep (St width rv rb addr) = refl
  masks_keep (Op rd r1 r2) = set rd (rules.joins (masks hart r1) (masks hart r2))
  masks_keep (Mv rd rs) = set rd (masks hart rs)
  masks_keep (Im rd) = set rd 0
  masks_keep (Br r1 r2) = refl
  masks_keep (Jr rd rs) = set rd 0
  masks_keep (Al addr len) = set 10 0
  masks_keep (Fr addr len) = set 10 0
  masks_keep (Bf addr) = set 10 0
  masks_keep (Mp page count) = set 10 0
  masks_keep (Um page count) = set 10 0
  masks_keep (Rd addr len) = set 10 0
  masks_keep (Wr addr len) = set 10 0
  masks_keep Ex = refl
  masks_keep (Ft cause addr) = refl

pub other_masks : (rules : Rules) (at : EventPlace) (kind : Kind) (state : State) (hart register : ℕ) → hart ≢ at.hart → (rule rules at kind state).masks hart register ≡ state.masks hart register
unfolding rule
other_masks rules at kind state hart register ne = masks_keep rules at.hart state.bytes state.masks hart register ne kind

module _ (at : EventPlace) (hart : ℕ) (ne : hart ≢ at.hart) where
  none_reported : (kind : ReportKind) (found : Option ℕ) → reports_on hart (reported at kind found) ≡ []
  none_reported kind None = refl
  none_reported kind (Some addr) = rw (ne_eqb at.hart hart (λ e. ne (sym e))) refl

  no_misdeed : (deed : Option (ReportKind × ℕ)) → reports_on hart (misdeed_report at deed) ≡ []
  no_misdeed None = refl
  no_misdeed (Some deed) = rw (ne_eqb at.hart hart (λ e. ne (sym e))) refl

  chosen : (left_out : Bool) (deed : Option (ReportKind × ℕ)) → reports_on hart (if left_out then [] else misdeed_report at deed) ≡ []
  chosen true deed = refl
  chosen false deed = no_misdeed deed

  joined : (a b : List Report) → reports_on hart a ≡ [] → reports_on hart b ≡ [] → reports_on hart (a ++ b) ≡ []
  joined a b e f = filter-append (λ (report : Report). report.hart == hart) a b ∙ rw (e, f) refl

  none_of : (rules : Rules) (kind : Kind) (state : State) → reports_on hart (reports_of rules at kind state) ≡ []
  none_of rules kind state =
      let register = reported at (register_report kind) (marked_register rules state.masks at.hart kind) in
      let access = reported at report.Access (bad_touch rules state.bytes kind) in
      let sent = reported at report.Undef (bad_sent rules state.bytes kind) in
      joined (register ++ access ++ sent) (misdeeds rules at kind)
      (joined (register ++ access) sent
      (joined register access (none_reported (register_report kind) (marked_register rules state.masks at.hart kind)) (none_reported report.Access (bad_touch rules state.bytes kind)))
      (none_reported report.Undef (bad_sent rules state.bytes kind)))
      (chosen (is_taint rules.name) (misdeed kind))

pub other_reports : (rules : Rules) (at : EventPlace) (kind : Kind) (state : State) (hart : ℕ) → hart ≢ at.hart → reports_on hart (rule rules at kind state).reports ≡ reports_on hart state.reports
unfolding rule
other_reports rules at kind state hart ne =
    filter-append (λ (report : Report). report.hart == hart) state.reports (reports_of rules at kind state)
    ∙ ap (λ (ys : List Report). reports_on hart state.reports ++ ys) (none_of at hart ne rules kind state) ∙ append-nil (reports_on hart state.reports)
