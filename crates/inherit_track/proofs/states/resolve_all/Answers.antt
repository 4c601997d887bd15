use Rattle.std.proofs.Common.{◌≡◌, ◌<◌, true, false, slice_set, sym, ap, ◌∙◌, arith}
use Rattle.std.proofs.lemmas.List.{get_or-set_same}
use Rattle.inherit_track.specs.declared.state.RegState.{RegState}
use Rattle.inherit_track.specs.declared.state.RegState.TheVariants as reg
use Rattle.inherit_track.specs.inner.Held.{is_held}
use Rattle.inherit_track.specs.States.{state_in}
use Rattle.inherit_track.proofs.ResolveLemmas.{resolved_none, resolved_next, held_still, held_no_more}
use Rattle.inherit_track.proofs.states.resolve_all.Goals as goal

pub loop-left-init : goal.loop-left-init
loop-left-init c = resolved_none c.args.from c.args.mask c.args.states.now c.args.held.now c.told-states c.requires.sound c.requires.held

pub bounds-states-r : goal.bounds-states-r
bounds-states-r c = c.lowest-r.ensures.few 34 c.loop-left.invariant.few

pub bounds-states-r-in-loop-left : goal.bounds-states-r-in-loop-left
bounds-states-r-in-loop-left c = c.lowest-r.ensures.few 34 c.loop-left.invariant.few

pub bounds-states-r-in-loop-left-2 : goal.bounds-states-r-in-loop-left-2
bounds-states-r-in-loop-left-2 c = c.lowest-r.ensures.few 34 c.loop-left.invariant.few

pub loop-left-preserved : goal.loop-left-preserved
loop-left-preserved c =
    let n = c.lowest-r.result in
    let new = c.loop-left.states in
    let x : RegState = c.resolved.result in
    let left = c.loop-left.left in
    let next = c.without-left.result in
    let held = c.loop-left.held in
    let done = c.loop-left.invariant in
    let gone = c.without-left.ensures in
    let inside : n < 34 = c.lowest-r.ensures.few 34 done.few in
    let less : next < left = gone.less c.lowest-r.ensures.is_in in
    let range = c.resolved.ensures.range (done.sound.range n) c.requires.mask in
    let at : state_in (slice_set new n x) n ≡ x = get_or-set_same new n x (reg.Known 0) (let long = done.long in omega arith) in
    let still : is_held x ≡ true = sym (c.is_held.ensures ∙ ap is_held at) ∙ c.if-not-is_held.false in
    resolved_next left next n c.args.from c.args.mask c.args.states.now new held done inside c.lowest-r.ensures.is_in gone.here gone.others less x c.resolved.ensures.known c.resolved.ensures.others range
    held (held_still left next n c.args.from c.args.mask c.args.states.now new held done inside c.lowest-r.ensures.is_in gone.here gone.others less x c.resolved.ensures.known c.resolved.ensures.others range still)

pub loop-left-preserved-then-not-is_held : goal.loop-left-preserved-then-not-is_held
loop-left-preserved-then-not-is_held c =
    let n = c.lowest-r.result in
    let new = c.loop-left.states in
    let x : RegState = c.resolved.result in
    let left = c.loop-left.left in
    let next = c.without-left.result in
    let held = c.loop-left.held in
    let done = c.loop-left.invariant in
    let gone = c.without-left.ensures in
    let inside : n < 34 = c.lowest-r.ensures.few 34 done.few in
    let less : next < left = gone.less c.lowest-r.ensures.is_in in
    let range = c.resolved.ensures.range (done.sound.range n) c.requires.mask in
    let at : state_in (slice_set new n x) n ≡ x = get_or-set_same new n x (reg.Known 0) (let long = done.long in omega arith) in
    let lost : is_held x ≡ false = sym (c.is_held.ensures ∙ ap is_held at) ∙ c.if-not-is_held.true in
    resolved_next left next n c.args.from c.args.mask c.args.states.now new held done inside c.lowest-r.ensures.is_in gone.here gone.others less x c.resolved.ensures.known c.resolved.ensures.others range
    c.without.result (held_no_more left next n c.args.from c.args.mask c.args.states.now new held done inside c.lowest-r.ensures.is_in gone.here gone.others less x c.resolved.ensures.known c.resolved.ensures.others range lost c.without.result c.without.ensures.here c.without.ensures.others)
