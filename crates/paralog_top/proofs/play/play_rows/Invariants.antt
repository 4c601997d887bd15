use Rattle.std.proofs.Common.{◌≡◌, ℕ, suc, true, false, cond, List}
use Rattle.std.specs.declared.option.Option.{Option}
use Rattle.log_text.specs.Streaming.{bytes_ahead}
use Rattle.replay_probes.specs.Meaning.{Meaning}
use Rattle.paralog_top.specs.inner.Playing.{IsPlaying, IsPlayingSome, WasPlayed}
use Rattle.paralog_top.proofs.play.play_rows.Given as goal

abbrev pub invariant-rows : goal.invariant-rows
invariant-rows g l =
    let player = g.P.Player in
    let first = l.initial.player in
    let began = g.S.Source.left l.initial.source in
    let now = g.S.Source.left l.source in
    record {
      rules : player.rules l.player ≡ player.rules first;
      some : l.reading ≡ true → IsPlayingSome (player.has_played l.player) (player.harts l.player) now l.stream;
      going : l.reading ≡ true → (limit : ℕ) (start : Option (List ℕ)) (meanings : List Meaning)
          → IsPlaying (player.has_played first meanings) (player.harts first) limit start began l.initial.stream
          → IsPlaying (player.has_played l.player meanings) (player.harts l.player) limit start now l.stream;
      over : l.reading ≡ false → (limit : ℕ) (start : Option (List ℕ)) (meanings : List Meaning)
          → IsPlaying (player.has_played first meanings) (player.harts first) limit start began l.initial.stream
          → WasPlayed (player.has_played l.player meanings) (player.harts l.player) limit start now;
      calm : g.S.Source.faults l.source ≡ g.S.Source.faults l.initial.source;
    }

abbrev pub decreases-rows : goal.decreases-rows
decreases-rows g l = cond l.reading (suc (bytes_ahead l.stream.buffer)) 0
