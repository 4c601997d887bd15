use Rattle.std.proofs.Common.{string_bytes}
use Rattle.whence_top.proofs.Parsing.{not_first, one_left, spells_more}
use Rattle.whence_top.proofs.asked.+parse_more.Goals as goal

pub returns-in_err-parse_pair-in-len2-up : goal.returns-in_err-parse_pair-in-len2-up
returns-in_err-parse_pair-in-len2-up t c =
    rw c.from_residual.ensures
    (not_first string_bytes c.args.words.now c.hart-item.result c.number-item.result c.in-len2-up.len_at_least
    c.hart-item.is c.number-item.is c.as_bytes.result.now c.as_bytes-in-len2-up.result.now c.as_bytes.ensures.value
    c.as_bytes-in-len2-up.ensures.value c.in_err-parse_pair-in-len2-up.ensures)

pub returns-in_default : goal.returns-in_default
returns-in_default t c = λ pairs all e.
    one_left string_bytes c.args.words.now c.in_default.len_at_least c.in_default.len_below pairs e

pub returns-in_ok-parse_pair-in-len2-up : goal.returns-in_ok-parse_pair-in-len2-up
returns-in_ok-parse_pair-in-len2-up t c =
    let h = c.parse_more.ensures in
    spells_more string_bytes c.args.words.now c.hart-item.result c.number-item.result c.in-len2-up.len_at_least
    c.hart-item.is c.number-item.is c.as_bytes.result.now c.as_bytes-in-len2-up.result.now c.as_bytes.ensures.value
    c.as_bytes-in-len2-up.ensures.value c.in_ok-parse_pair-in-len2-up.field-0 c.in_ok-parse_pair-in-len2-up.ensures
    c.args.asked c.push.new.self c.push.ensures c.parse_more.result h
