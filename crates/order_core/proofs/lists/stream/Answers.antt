use Rattle.std.proofs.Common.{◌∙◌}
use Rattle.order_core.proofs.ListLemmas.{stream_at}
use Rattle.order_core.proofs.lists.stream.Goals as goal

pub returns : goal.returns
returns c = c.as_slice.ensures.value ∙ stream_at c.args.streams.now c.args.hart c.index-streams-hart.result c.requires c.index-streams-hart.is
