-- The fields of a run's events are valid.
use Rattle.std.proofs.Common.{◌≡◌, ℕ, ◌+◌, ◌<◌, Bool, true, false, Option, Some, None, sym, ap, ◌∙◌, subst}
use Rattle.std.proofs.Math.Logic.{∥∥₁_elim}
use denote.Struct.Props.{props}
use Rattle.pl_event.specs.declared.event.Kind.{Kind}
use Rattle.pl_event.specs.declared.event.Kind.TheVariants.{Ld, St, Op, Mv, Im, Br, Jr, Al, Fr, Bf, Mp, Um, Rd, Wr, Ex, Ft}
use Rattle.pl_event.specs.declared.log.Line.{Line}
use Rattle.pl_event.specs.declared.log.Record.{Record}
use Rattle.pl_event.specs.declared.log.Record.TheVariants as entry
use Rattle.pl_event.specs.Records.{record_of, IsRecord}
use Rattle.pl_event.specs.Runs.{IsSoundLine, IsSoundRecord}
use Rattle.pl_event.specs.Valid.{HasValidFields}
use Rattle.pl_event.proofs.MappedPages.{line_holds}
use Rattle.pl_event.proofs.Sources.{at_position}
use Rattle.order_core.specs.Course.{course_of}
use Rattle.order_core.specs.Lawful.{IsLawful}
use Rattle.worker_laws.specs.Runs.{IsKind, IsRun, Run, kind_in, kind_of}
use Rattle.worker_laws.proofs.Keeping.{some_is}
use Rattle.worker_laws.proofs.Own.{a_line}

module _ (p : Run) (run : IsRun p) (h m : ℕ) where
  fields_in : IsLawful (course_of p.plan) → (k : Kind) → IsKind p h m k → HasValidFields k
  fields_in lawful k is = by t.0.what (line_holds (IsSoundLine p.plan.log.harts) p.plan.log.lines lawful.log.sound s.0 t.0 s.1.at).1 (sym (ap kind_in t.1) ∙ is)
    where
      t : (l : Line) × (record_of p.plan.log.lines h m ≡ Some l)
      t = a_line p run h m k is

      s : (i : ℕ) × IsRecord p.plan.log.lines i h m t.0
      s = at_position p.plan.log.lines h m t.0 t.1

      by : (x : Record) → IsSoundRecord p.plan.log.harts t.0.arcs x → kind_of x ≡ Some k → HasValidFields k
      by (entry.Event e) sound kind = subst HasValidFields (some_is e.kind k kind) sound.1
      by (entry.Notice g point) sound kind = absurd (let f : None ≡ Some k = kind in cc)

  pub valid_fields : (k : Kind) → IsKind p h m k → HasValidFields k
  valid_fields (Ld width rd rb addr) is = ∥∥₁_elim run.lawful (hlevel props) (λ (l : IsLawful (course_of p.plan)). fields_in l (Ld width rd rb addr) is)
  valid_fields (St width rv rb addr) is = ∥∥₁_elim run.lawful (hlevel props) (λ (l : IsLawful (course_of p.plan)). fields_in l (St width rv rb addr) is)
  valid_fields (Op rd r1 r2) is = ∥∥₁_elim run.lawful (hlevel props) (λ (l : IsLawful (course_of p.plan)). fields_in l (Op rd r1 r2) is)
  valid_fields (Mv rd rs) is = ∥∥₁_elim run.lawful (hlevel props) (λ (l : IsLawful (course_of p.plan)). fields_in l (Mv rd rs) is)
  valid_fields (Im rd) is = ∥∥₁_elim run.lawful (hlevel props) (λ (l : IsLawful (course_of p.plan)). fields_in l (Im rd) is)
  valid_fields (Br r1 r2) is = ∥∥₁_elim run.lawful (hlevel props) (λ (l : IsLawful (course_of p.plan)). fields_in l (Br r1 r2) is)
  valid_fields (Jr rd rs) is = ∥∥₁_elim run.lawful (hlevel props) (λ (l : IsLawful (course_of p.plan)). fields_in l (Jr rd rs) is)
  valid_fields (Al addr len) is = ∥∥₁_elim run.lawful (hlevel props) (λ (l : IsLawful (course_of p.plan)). fields_in l (Al addr len) is)
  valid_fields (Fr addr len) is = ∥∥₁_elim run.lawful (hlevel props) (λ (l : IsLawful (course_of p.plan)). fields_in l (Fr addr len) is)
  valid_fields (Bf addr) is = ∥∥₁_elim run.lawful (hlevel props) (λ (l : IsLawful (course_of p.plan)). fields_in l (Bf addr) is)
  valid_fields (Mp page count) is = ∥∥₁_elim run.lawful (hlevel props) (λ (l : IsLawful (course_of p.plan)). fields_in l (Mp page count) is)
  valid_fields (Um page count) is = ∥∥₁_elim run.lawful (hlevel props) (λ (l : IsLawful (course_of p.plan)). fields_in l (Um page count) is)
  valid_fields (Rd addr len) is = ∥∥₁_elim run.lawful (hlevel props) (λ (l : IsLawful (course_of p.plan)). fields_in l (Rd addr len) is)
  valid_fields (Wr addr len) is = ∥∥₁_elim run.lawful (hlevel props) (λ (l : IsLawful (course_of p.plan)). fields_in l (Wr addr len) is)
  valid_fields Ex is = tt
  valid_fields (Ft cause addr) is = ∥∥₁_elim run.lawful (hlevel props) (λ (l : IsLawful (course_of p.plan)). fields_in l (Ft cause addr) is)
