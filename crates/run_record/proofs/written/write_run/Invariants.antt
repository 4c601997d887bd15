use Rattle.std.proofs.Common.{◌≡◌, ◌-◌, suc, true, false, cond}
use Rattle.std.specs.Prelude.{string_bytes}
use Rattle.run_record.specs.Texts.{IsRecordText}
use Rattle.run_record.specs.Writing.{IsWriting}
use Rattle.run_record.proofs.written.write_run.Given as goal

abbrev pub invariant-steps : goal.invariant-steps
invariant-steps l = record {
  writing : l.going ≡ true → IsWriting l.job l.recording (string_bytes l.text);
  written : l.going ≡ false → IsRecordText l.job (string_bytes l.text);
}

abbrev pub decreases-steps : goal.decreases-steps
decreases-steps l = cond l.going (suc (l.job.steps - l.recording.machine.steps)) 0
