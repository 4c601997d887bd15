use Rattle.replay_probes.proofs.played.step_record.Goals as goal

pub returns-in_ok-step-in-Event-clause-plays : goal.returns-in_ok-step-in-Event-clause-plays
returns-in_ok-step-in-Event-clause-plays g c = λ pages meanings events plays. rw c.in-Event.is (c.in_ok-step-in-Event.ensures.plays pages meanings events plays)
