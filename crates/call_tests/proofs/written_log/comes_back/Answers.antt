use Rattle.log_text.proofs.WriteLemmas.{writable}
use Rattle.log_text.specs.WellFormed.{IsLogText}
use Rattle.call_tests.proofs.written_log.comes_back.Goals as goal

-- what was read is well-formed
pub write_log-written-requires : goal.write_log-written-requires
write_log-written-requires g c =
    let text : IsLogText c.as_bytes.result.now c.in-Ok.log = rw c.in-Ok.is at c.read_log-read.ensures.ok in
    writable c.in-Ok.log text.formed
