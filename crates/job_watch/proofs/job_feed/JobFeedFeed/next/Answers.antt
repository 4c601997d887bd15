use Rattle.std.proofs.Common.{◌≡◌, [], ◌∷◌, Option, sym, ◌∙◌, subst}
use Rattle.std.specs.Prelude.{MatchOption, suc}
use Rattle.pl_event.specs.declared.fed.Fed.{Fed}
use Rattle.pl_event.specs.declared.log.Log.{Log}
use Rattle.run_log.proofs.Picking.{picked_is}
use Rattle.job_watch.specs.declared.phase.Phase.{Phase}
use Rattle.job_watch.specs.Runs.{lines_from, log_of, picked}
use Rattle.job_watch.specs.Sources.{IsAt, IsFirst, IsIn}
use Rattle.job_watch.proofs.Steps.{first_of, none_of}
use Rattle.job_watch.proofs.job_feed.JobFeedFeed.next.Goals as goal

pub returns-in-Ok-Some-clause-ok : goal.returns-in-Ok-Some-clause-ok
returns-in-Ok-Some-clause-ok c =
    let f = c.self.inside in
    let job = f.run.job.now in
    let is = c.self.invariant in
    let new = c.next.new.self in
    let now = subst (λ (x : Phase). IsIn job is.log f.at x f.source.recording f.source.heads f.source.step.items f.source.handed) c.in-Going.is is.is_in in
    let told = subst (λ (o : Option Fed). MatchOption o (lines_from is.log f.at ≡ []) (λ fed. IsFirst is.log f.at fed × IsAt job is.log (suc f.at) new.recording new.heads new.step.items new.handed))
    c.in-Ok-Some.field-0-is (c.in-Ok-Some.ensures job is.log f.at now) in
    sym c.self.view_is ∙ first_of (log_of job f.run.one f.run.there) is.log (picked_is job f.run.one (picked job f.run.one f.run.there) is.log is.log_of_run) f.at c.in-Ok-Some.fed told.0

pub returns-in-Ok-None-clause-ok : goal.returns-in-Ok-None-clause-ok
returns-in-Ok-None-clause-ok c =
    let f = c.self.inside in
    let job = f.run.job.now in
    let is = c.self.invariant in
    let new = c.next.new.self in
    let now = subst (λ (x : Phase). IsIn job is.log f.at x f.source.recording f.source.heads f.source.step.items f.source.handed) c.in-Going.is is.is_in in
    let told = subst (λ (o : Option Fed). MatchOption o (lines_from is.log f.at ≡ []) (λ fed. IsFirst is.log f.at fed × IsAt job is.log (suc f.at) new.recording new.heads new.step.items new.handed))
    c.in-Ok-None.field-0-is (c.in-Ok-None.ensures job is.log f.at now) in
    let none = none_of (log_of job f.run.one f.run.there) is.log (picked_is job f.run.one (picked job f.run.one f.run.there) is.log is.log_of_run) f.at told in
    (sym c.self.view_is ∙ none, none)

pub returns-in-Over-clause-ok : goal.returns-in-Over-clause-ok
returns-in-Over-clause-ok c =
    let f = c.self.inside in
    let job = f.run.job.now in
    let is = c.self.invariant in
    let now = subst (λ (x : Phase). IsIn job is.log f.at x f.source.recording f.source.heads f.source.step.items f.source.handed) c.in-Over.is is.is_in in
    let none = none_of (log_of job f.run.one f.run.there) is.log (picked_is job f.run.one (picked job f.run.one f.run.there) is.log is.log_of_run) f.at now in
    (sym c.self.view_is ∙ none, sym c.self.view_is ∙ none)
