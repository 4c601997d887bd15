use Rattle.std.proofs.Common.{rules, ◌≡◌, ◌+◌, ◌<◌, ℕ, [], ◌∷◌, ◌++◌, List, length, take, get_or, sym, ap, ◌∙◌, subst, arith}
use Rattle.std.proofs.lemmas.Iterator.Adapters.{YieldsList-from_vec}
use Rattle.std.proofs.lemmas.Iterator.Consumers.{YieldsList-end, YieldsList-turn}
use Rattle.std.proofs.lemmas.List.{length_push, map_push, take_more}
use mathlib.Core.Option.{some}
use lib.ListN.{get_elem?}
use Rattle.pl_event.specs.Feeds.{feds}
use Rattle.stream_ring.specs.declared.ends.Ring.{Ring}
use Rattle.ring_feed.specs.declared.outlet.Outlet.{Outlet}
use Rattle.ring_feed.specs.Outlets.{IsOutlet, ring_of, rings_of}
use Rattle.ring_feed.proofs.Outlets.{feds_within, outlet_push}
use Rattle.ring_feed.proofs.Pairs.{at_here, map_self}
use Rattle.ring_feed.proofs.rings.outlets_of.Goals as goal

pub new-outlet-requires : goal.new-outlet-requires
new-outlet-requires g c =
    let vec = YieldsList-from_vec c.args.sends.items (search rules) (search rules) in
    let turn = YieldsList-turn vec c.loop-pass.yielded c.loop-pass.pass-iterator c.loop-pass.yielded_by _ c.next.new.self c.in-Some.pass c.in-Some.is c.next.ensures.steps in
    let n : ℕ = length c.loop-pass.yielded in
    let rings : List (Ring g.row.N.Denot) = c.args.rings.now in
    let ring : Ring g.row.N.Denot = c.index-rings-len.result in
    let low : n < length rings = omega (arith, turn.0, c.requires.sends.size) in
    let at : c.len.result ≡ n = omega arith in
    let here : ring ≡ get_or rings n ring = subst (λ (z : ℕ). ring ≡ get_or rings z ring) at c.index-rings-len.is in
    let both = c.requires.sends.of n ring c.in-Some.pass (at_here rings n ring low here) (at_here c.args.sends.items n c.in-Some.pass turn.0 turn.1) in
    record { of = both.0; fresh = both.1 }

pub loop-pass-preserved : goal.loop-pass-preserved
loop-pass-preserved g c =
    let vec = YieldsList-from_vec c.args.sends.items (search rules) (search rules) in
    let turn = YieldsList-turn vec c.loop-pass.yielded c.loop-pass.pass-iterator c.loop-pass.yielded_by _ c.next.new.self c.in-Some.pass c.in-Some.is c.next.ensures.steps in
    let os : List (Outlet g.row.N.Denot) = c.loop-pass.outlets.items in
    let o : Outlet g.row.N.Denot = c.new-outlet.result in
    let rings : List (Ring g.row.N.Denot) = c.args.rings.now in
    let ring : Ring g.row.N.Denot = c.index-rings-len.result in
    let i : ℕ = length os in
    let push : c.push.new.self.items ≡ os ++ o ∷ [] = c.in_ok-push.ensures.items in
    let at : c.len.result ≡ i = omega arith in
    let low : i < length rings = omega (arith, turn.0, c.requires.sends.size) in
    let here : ring ≡ get_or rings i ring = subst (λ (z : ℕ). ring ≡ get_or rings z ring) at c.index-rings-len.is in
    let hart : ring.hart ≡ i = c.requires.rings.hart i ring (at_here rings i ring low here) in
    let more : take (i + 1) rings ≡ take i rings ++ ring ∷ [] = take_more rings i ring low ∙ ap (λ (z : Ring g.row.N.Denot). take i rings ++ z ∷ []) (sym here) in
    let long : length (os ++ o ∷ []) ≡ i + 1 = length_push os o in
    let now : rings_of (os ++ o ∷ []) ≡ take (length (os ++ o ∷ [])) rings =
    map_push ring_of os o
    ∙ ap (λ (z : List (Ring g.row.N.Denot) × Ring g.row.N.Denot). z.0 ++ z.1 ∷ []) (λ k. (c.loop-pass.invariant.rings k, c.new-outlet.ensures.ring k))
    ∙ sym more ∙ ap (λ (z : ℕ). take z rings) (sym long) in
    record {
      size = omega (arith, ap length push, long, length_push c.loop-pass.yielded c.in-Some.pass, c.loop-pass.invariant.size);
      rings = subst (λ (z : List (Outlet g.row.N.Denot)). rings_of z ≡ take (length z) rings) (sym push) now;
      each = subst (λ (z : List (Outlet g.row.N.Denot)). (k : ℕ) (p : Outlet g.row.N.Denot) → get_elem? z k ≡ some p
          → IsOutlet g.N.RunName.log (feds g.N.RunName.log.lines) k p) (sym push)
          (outlet_push g.N.RunName.log (feds g.N.RunName.log.lines) os o c.loop-pass.invariant.each
          (subst (λ (z : ℕ). IsOutlet g.N.RunName.log (feds g.N.RunName.log.lines) z o) hart c.new-outlet.ensures.outlet));
    }

pub returns-clause-outlets : goal.returns-clause-outlets
returns-clause-outlets g c =
    let vec = YieldsList-from_vec c.args.sends.items (search rules) (search rules) in
    let last = YieldsList-end vec c.loop-pass.yielded c.loop-pass.pass-iterator c.loop-pass.yielded_by _ c.next.new.self c.in-None.is c.next.ensures.steps in
    let all : c.loop-pass.yielded ≡ c.args.sends.items = sym (map_self c.loop-pass.yielded) ∙ last.0 in
    record {
      few = c.requires.log.few;
      within = feds_within g.N.RunName.log c.requires.log;
      size = c.loop-pass.invariant.size ∙ (ap length all ∙ (c.requires.sends.size ∙ c.requires.rings.size));
      each = c.loop-pass.invariant.each;
    }
