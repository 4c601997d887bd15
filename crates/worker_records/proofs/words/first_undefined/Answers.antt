use Rattle.std.proofs.Common.{ℕ, ◌+◌, Bool, sym, ap, ◌∙◌}
use Rattle.std.specs.Prelude.{Some}
use Rattle.lifeguard.specs.State.{nibble_at}
use Rattle.worker_records.proofs.WordLemmas.{here_first, next_passed, none_at_all, none_yet}
use Rattle.worker_records.proofs.words.first_undefined.Goals as goal

pub loop-i-init : goal.loop-i-init
loop-i-init g c bytes tells = none_yet (λ a. (g.L.Lifeguard.rules c.args.guard).bad_value (nibble_at bytes a)) c.args.addr c.args.len

pub loop-i-preserved : goal.loop-i-preserved
loop-i-preserved g c bytes tells =
    let p : ℕ → Bool = λ a. (g.L.Lifeguard.rules c.args.guard).bad_value (nibble_at bytes a) in
    next_passed p c.args.addr c.args.len c.loop-i.i c.loop-i-test.true
    (ap (g.L.Lifeguard.rules c.args.guard).bad_value ((tells c.loop-i.i c.loop-i-test.true).0 ∙ sym c.nibble_in.ensures) ∙ (sym c.bad_value.ensures ∙ c.if-bad_value.false))
    (c.loop-i.invariant bytes tells)

pub returns-then-bad_value : goal.returns-then-bad_value
returns-then-bad_value g c bytes tells =
    let p : ℕ → Bool = λ a. (g.L.Lifeguard.rules c.args.guard).bad_value (nibble_at bytes a) in
    ap (λ (z : ℕ). Some (c.args.addr + z)) c.from.ensures
    ∙ here_first p c.args.addr c.args.len c.loop-i.i c.loop-i-test.true
    (ap (g.L.Lifeguard.rules c.args.guard).bad_value ((tells c.loop-i.i c.loop-i-test.true).0 ∙ sym c.nibble_in.ensures) ∙ (sym c.bad_value.ensures ∙ c.if-bad_value.true))
    (c.loop-i.invariant bytes tells)

pub returns : goal.returns
returns g c bytes tells = none_at_all (λ a. (g.L.Lifeguard.rules c.args.guard).bad_value (nibble_at bytes a)) c.args.addr c.args.len c.loop-i.i c.loop-i-test.false (c.loop-i.invariant bytes tells)
