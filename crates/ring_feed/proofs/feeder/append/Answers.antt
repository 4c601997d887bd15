use Rattle.std.proofs.Common.{◌≡◌, ◌<◌, ◌∷◌, ℕ, List, length, get_or, refl, ◌∙◌, subst, arith}
use Rattle.std.proofs.lemmas.Result.{IfOk-weaker}
use Rattle.pl_event.specs.Numbers.{hart_of}
use Rattle.ring_feed.specs.declared.outlet.Outlet.{Outlet}
use Rattle.ring_feed.specs.Outlets.{IsOutlet}
use Rattle.ring_feed.proofs.Outlets.{rings_set, room_set, taken_set}
use Rattle.ring_feed.proofs.Pairs.{at_get}
use Rattle.ring_feed.proofs.feeder.append.Goals as goal

pub bounds-outlets-hart : goal.bounds-outlets-hart
bounds-outlets-hart g c =
    let within : hart_of c.args.fed.line.what < g.N.RunName.log.harts = c.requires.outlets.1.within 0 c.args.fed refl in
    omega (arith, within, c.requires.outlets.1.size)

pub append-requires-clause-room : goal.append-requires-clause-room
append-requires-clause-room g c =
    let os : List (Outlet g.row.N.Denot) = c.args.outlets.now in
    let within : hart_of c.args.fed.line.what < g.N.RunName.log.harts = c.requires.outlets.1.within 0 c.args.fed refl in
    let h : ℕ = c.from-hart.result in
    let low : h < length os = omega (arith, within, c.requires.outlets.1.size) in
    c.requires.room h (get_or os h c.index-outlets-hart.result) (at_get os h c.index-outlets-hart.result low)

pub append-requires-clause-outlet : goal.append-requires-clause-outlet
append-requires-clause-outlet g c =
    let os : List (Outlet g.row.N.Denot) = c.args.outlets.now in
    let are = c.requires.outlets.1 in
    let within : hart_of c.args.fed.line.what < g.N.RunName.log.harts = are.within 0 c.args.fed refl in
    let h : ℕ = c.from-hart.result in
    let own : h ≡ hart_of c.args.fed.line.what = c.from-hart.ensures ∙ c.record_hart.ensures in
    let low : h < length os = omega (arith, within, are.size) in
    let o : Outlet g.row.N.Denot = get_or os h c.index-outlets-hart.result in (
      c.requires.outlets.0,
      subst (λ (z : ℕ). IsOutlet g.N.RunName.log (c.args.fed ∷ c.requires.outlets.0) z o) own (are.each h o (at_get os h c.index-outlets-hart.result low)),
    )

pub returns-clause-rings : goal.returns-clause-rings
returns-clause-rings g c =
    let os : List (Outlet g.row.N.Denot) = c.args.outlets.now in
    let within : hart_of c.args.fed.line.what < g.N.RunName.log.harts = c.requires.outlets.1.within 0 c.args.fed refl in
    let h : ℕ = c.from-hart.result in
    let low : h < length os = omega (arith, within, c.requires.outlets.1.size) in
    let o : Outlet g.row.N.Denot = get_or os h c.index-outlets-hart.result in
    IfOk-weaker c.append.result _ _ (λ on same. rings_set os h o c.append.new.self (at_get os h c.index-outlets-hart.result low) same) c.append.ensures.ring

pub returns-clause-outlets : goal.returns-clause-outlets
returns-clause-outlets g c =
    let os : List (Outlet g.row.N.Denot) = c.args.outlets.now in
    let within : hart_of c.args.fed.line.what < g.N.RunName.log.harts = c.requires.outlets.1.within 0 c.args.fed refl in
    let h : ℕ = c.from-hart.result in
    let own : h ≡ hart_of c.args.fed.line.what = c.from-hart.ensures ∙ c.record_hart.ensures in
    let low : h < length os = omega (arith, within, c.requires.outlets.1.size) in
    let o : Outlet g.row.N.Denot = get_or os h c.index-outlets-hart.result in
    IfOk-weaker c.append.result _ _
    (λ on step rest are. taken_set g.N.RunName.log c.args.fed rest os h o c.append.new.self own (at_get os h c.index-outlets-hart.result low) (step rest) are)
    c.append.ensures.outlet

pub returns-clause-room : goal.returns-clause-room
returns-clause-room g c =
    IfOk-weaker c.append.result _ _ (λ on room e. room_set c.args.outlets.now c.from-hart.result c.append.new.self c.requires.room (room e)) c.append.ensures.room
