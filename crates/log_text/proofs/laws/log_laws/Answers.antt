use Rattle.std.proofs.Common.{arith}
use Rattle.log_grammar.specs.Form.{most_written}
use Rattle.log_text.proofs.RunOfText.{run_of_text, numbers_of_text, short_of}
use Rattle.log_text.proofs.TextOfRun.{writable_of, formed_of, numbers_to}
use Rattle.log_text.proofs.WriteLemmas.{writable}
use Rattle.log_text.proofs.laws.log_laws.Goals as goal

pub returns-clause-formed : goal.returns-clause-formed
returns-clause-formed c log = ((λ formed. (run_of_text log (writable log formed), short_of log formed)), (λ t. formed_of log t.0 t.1))

pub returns-clause-written : goal.returns-clause-written
returns-clause-written c log = ((λ written. (run_of_text log written, numbers_of_text log written)), (λ t. writable_of log t.0 t.1))

pub returns-clause-short : goal.returns-clause-short
returns-clause-short c = λ log run short. writable_of log run (numbers_to log run most_written (omega (arith, short)))
