use Rattle.std.proofs.Common.{[], ◌++◌, drop, refl, subst}
use Rattle.std.proofs.lemmas.List.{append-nil}
use Rattle.pl_event.specs.declared.log.Log.{Log}
use Rattle.log_text.specs.declared.reader.Header.{Header}
use Rattle.log_text.specs.Reading.{IsReadBy, last_bytes, opened}
use Rattle.log_text.proofs.ReaderLemmas.{first_fault, no_log}
use Rattle.log_text.proofs.RowLaws.{parts_if}
use Rattle.log_text.proofs.read.read_log.Goals as goal

pub read_opened-requires-clause-read : goal.read_opened-requires-clause-read
read_opened-requires-clause-read c =
    subst (λ b. IsReadBy c.in-Ok.header.reader b (drop c.in-Ok.header.len c.args.bytes.now ++ []) (opened c.in-Ok.header)) (append-nil c.args.bytes.now) (c.in-Ok.ensures.ok [] (last_bytes refl))

pub returns-in-Ok-clause-parts : goal.returns-in-Ok-clause-parts
returns-in-Ok-clause-parts c = parts_if c.read_opened.result c.args.bytes.now c.read_opened.ensures.ok

pub returns-in-Err-clause-fault : goal.returns-in-Err-clause-fault
returns-in-Err-clause-fault c = first_fault Header Log c.in-Err.refused c.args.bytes.now (c.in-Err.ensures.fault [] (last_bytes refl))

pub returns-in-Err-clause-none : goal.returns-in-Err-clause-none
returns-in-Err-clause-none c = no_log Header Log c.in-Err.refused c.args.bytes.now (c.in-Err.ensures.fault [] (last_bytes refl))
