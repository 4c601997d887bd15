use Rattle.std.proofs.Common.{string_bytes}
use Rattle.whence_top.proofs.Parsing.{no_count}
use Rattle.whence_top.proofs.asked.Asked.parse.Goals as goal

pub returns-else-may_ask : goal.returns-else-may_ask
returns-else-may_ask c =
    no_count string_bytes c.args.words.now c.may_ask.result c.may_ask.ensures c.if-may_ask.false
