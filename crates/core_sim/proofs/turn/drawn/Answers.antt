use Rattle.std.proofs.Common.{◌≡◌, ℕ, ◌/◌, ◌%◌, ◌≤◌, Some, length, slice_get, get_or, ◌∙◌, ap, sym, arith}
use Rattle.std.proofs.lemmas.List.{nil_from_length}
use Rattle.core_sim.specs.Harts.{live_harts}
use Rattle.core_sim.specs.declared.turn.Turn.{Turn}
use Rattle.core_sim.specs.declared.turn.Place.TheVariants.{Drawn}
use Rattle.core_sim.proofs.Lives.{length_live, index_of_get}
use Rattle.core_sim.proofs.turn.drawn.Goals as goal

pub returns-then-count-eq0 : goal.returns-then-count-eq0
returns-then-count-eq0 c = nil_from_length _ (length_live c.args.harts.now ∙ sym c.count_live-count.ensures ∙ c.if-count-eq0.true)

pub returns-in_err-hart : goal.returns-in_err-hart
returns-in_err-hart c =
    let count : length (live_harts c.args.harts.now) ≡ c.count_live-count.result = length_live c.args.harts.now ∙ sym c.count_live-count.ensures in
    let none : length (live_harts c.args.harts.now) ≤ c.args.x / 65536 % c.count_live-count.result = c.in_err-hart.ensures.none in
    absurd (omega arith)

pub returns : goal.returns
returns c =
    let count : c.count_live-count.result ≡ length (live_harts c.args.harts.now) = c.count_live-count.ensures ∙ sym (length_live c.args.harts.now) in
    let there : slice_get (live_harts c.args.harts.now) (c.args.x / 65536 % c.count_live-count.result) ≡ Some c.in_ok-hart.hart = c.in_ok-hart.ensures.nth in
    let found = index_of_get (live_harts c.args.harts.now) (c.args.x / 65536 % c.count_live-count.result) c.in_ok-hart.hart there in
    let hart : c.in_ok-hart.hart ≡ get_or (live_harts c.args.harts.now) (c.args.x / 65536 % length (live_harts c.args.harts.now)) 0 =
    sym found.0 ∙ ap (λ (n : ℕ). get_or (live_harts c.args.harts.now) (c.args.x / 65536 % n) 0) count in
    record {
      turn_is = ap (λ (h : ℕ). let t : Turn = record { hart = h; left = c.args.q; place = Drawn c.args.x c.args.q } in t) hart;
      live = found.1;
      within = c.in_ok-hart.ensures.within;
    }
