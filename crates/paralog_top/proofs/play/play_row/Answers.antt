use Rattle.std.proofs.Common.{◌∙◌, sym}
use Rattle.std.proofs.lemmas.Result.{err_from_is_err_and}
use Rattle.pl_event.specs.Numbers.{events_of}
use Rattle.log_text.specs.Reading.{HasRead, with_line, line_of}
use Rattle.log_text.proofs.StreamLemmas.{taken_within}
use Rattle.log_text.specs.Streaming.{StreamsRow}
use Rattle.paralog_top.proofs.PlayLemmas.{given_row, valid_row, has_room, plays_row, plays_all}
use Rattle.paralog_top.proofs.play.play_row.Goals as goal

pub play_record-requires-clause-valid : goal.play_record-requires-clause-valid
play_record-requires-clause-valid g c =
    let some = c.requires.playing in
    let now = g.S.Source.left c.next.new.source in
    let log = some.playing.log in
    let row = c.in-Ok-Some.row in
    let reads = given_row c.in-Ok-Some.field-0 row (StreamsRow some.limit some.began now c.next.new.self log)
    c.in-Ok-Some.field-0-is (c.in-Ok-Some.ensures.row some.limit some.began log some.playing.read) in
    valid_row (g.P.Player.harts c.args.player.now) some.limit some.began now c.next.new.self log row
    some.playing.same reads

pub play_record-requires-clause-room : goal.play_record-requires-clause-room
play_record-requires-clause-room g c =
    let some = c.requires.playing in
    let now = g.S.Source.left c.next.new.source in
    let log = some.playing.log in
    let row = c.in-Ok-Some.row in
    let reads = given_row c.in-Ok-Some.field-0 row (StreamsRow some.limit some.began now c.next.new.self log)
    c.in-Ok-Some.field-0-is (c.in-Ok-Some.ensures.row some.limit some.began log some.playing.read) in
    has_room (g.P.Player.harts c.args.player.now) some.limit some.began now (g.P.Player.has_played c.args.player.now)
    c.next.new.self log some.meanings row some.playing.played reads

pub returns-in_ok-play_record-in-Ok-Some-clause-more : goal.returns-in_ok-play_record-in-Ok-Some-clause-more
returns-in_ok-play_record-in-Ok-Some-clause-more g c = λ limit began meanings playing _.
    let now = g.S.Source.left c.next.new.source in
    let log = playing.log in
    let row = c.in-Ok-Some.row in
    let after = c.play_record.new.player in
    let reads = given_row c.in-Ok-Some.field-0 row (StreamsRow limit began now c.next.new.self log)
    c.in-Ok-Some.field-0-is (c.in-Ok-Some.ensures.row limit began log playing.read) in
    plays_row (g.P.Player.harts after) limit began now (g.P.Player.has_played after meanings) c.next.new.self log row
    (playing.same ∙ sym c.play_record.ensures.harts) reads
    (c.in_ok-play_record-in-Ok-Some.ensures.plays meanings log.pages (events_of log.lines) playing.played)

pub returns-in_err-play_record-in-Ok-Some-clause-end : goal.returns-in_err-play_record-in-Ok-Some-clause-end
returns-in_err-play_record-in-Ok-Some-clause-end g c = λ limit began meanings playing.
    let now = g.S.Source.left c.next.new.source in
    let log = playing.log in
    let row = c.in-Ok-Some.row in
    let stream = c.next.new.self in
    let p = err_from_is_err_and c.from_residual.result c.from_residual.ensures.1 in
    let reads = given_row c.in-Ok-Some.field-0 row (StreamsRow limit began now stream log)
    c.in-Ok-Some.field-0-is (c.in-Ok-Some.ensures.row limit began log playing.read) in
    rw (p.1, p.2) (taken_within limit began now stream.buffer
    (λ bytes rest. HasRead stream.reader bytes rest (with_line log (line_of stream.reader row))) reads.read)

pub returns-in-Ok-None-clause-over : goal.returns-in-Ok-None-clause-over
returns-in-Ok-None-clause-over g c = λ limit began meanings playing _.
    let over = c.in-Ok-None.ensures.over limit began playing.log playing.read in
    let was = rw c.in-Ok-None.field-0-is at over in
    let player = c.args.player.now in
    plays_all (g.P.Player.harts player) limit began (g.S.Source.left c.next.new.source)
    (g.P.Player.has_played player meanings) playing.log playing.same playing.played was

pub returns-in-Err-clause-end : goal.returns-in-Err-clause-end
returns-in-Err-clause-end g c = λ limit began meanings playing.
    c.in-Err.ensures.end limit began playing.log playing.read
