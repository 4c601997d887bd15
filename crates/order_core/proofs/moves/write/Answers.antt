use Rattle.std.proofs.Common.{rules, ◌≡◌, ℕ, ◌+◌, ◌<◌, ◌≤◌, IsTrue, slice_index, slice_set, length, refl, ◌∙◌, subst, arith}
use Rattle.std.proofs.lemmas.List.{get_or_default, length-set}
use Rattle.order_core.specs.declared.course.Course.{Course}
use Rattle.order_core.specs.declared.state.HartState.{HartState}
use Rattle.order_core.specs.Course.{course, operation_of}
use Rattle.order_core.specs.Core.{IsMet}
use Rattle.order_core.specs.inner.Places.{place}
use Rattle.order_core.specs.States.{hart_in}
use Rattle.order_core.proofs.Known.{Known, known}
use Rattle.std.specs.Vec.{vec_len}
use Rattle.order_core.specs.Lanes.{Lands}
use Rattle.order_core.proofs.HartLemmas.{written_kept}
use Rattle.order_core.proofs.MoveLemmas.{kept, in_eight, found, word_inside, op_low, not_next, not_met, written}
use Rattle.order_core.proofs.StateLemmas.{kept_set}
use Rattle.order_core.proofs.moves.write.Goals as goal

pub returns-then-not-is_same-clause-refused : goal.returns-then-not-is_same-clause-refused
returns-then-not-is_same-clause-refused g c _ =
    let plan = c.args.plan.now in
    let k : Course = course g.P.Plan.planned plan in
    let is : Known k = known k (g.met.P.Plan.lawful plan) in
    let own : HartState = hart_in c.args.state.now.harts c.args.hart in
    let apart : place c.args.at.number c.args.at.op ≡ place own.next.number own.next.op → ⊥ = (λ e. let t : IsTrue c.is_same.result = c.is_same.ensures.1 e in let f = c.if-not-is_same.true in search rules) in
    not_next (g.P.Plan.planned plan) is c.args.state.now c.requires.fits c.args.hart c.requires.hart c.args.at.number c.args.at.op c.args.op c.requires.op.from_one c.requires.op.number c.requires.op.op c.requires.is_write apart

pub returns-then-met-at-clause-refused : goal.returns-then-met-at-clause-refused
returns-then-met-at-clause-refused g c _ =
    let plan = c.args.plan.now in
    let k : Course = course g.P.Plan.planned plan in
    let is : Known k = known k (g.met.P.Plan.lawful plan) in
    let own : HartState = hart_in c.args.state.now.harts c.args.hart in
    let missing : IsMet k (slice_index own.seen) c.args.hart c.args.at.number → ⊥ = (λ met. let most : c.args.at.number ≤ c.met_up_to-met.result = c.met_up_to-met.ensures.most c.args.at.number (omega arith) met in omega arith) in
    not_met (g.P.Plan.planned plan) is c.args.state.now c.requires.fits c.args.hart c.requires.hart c.args.at.number c.args.at.op missing

pub index-word-requires : goal.index-word-requires
index-word-requires g c =
    let plan = c.args.plan.now in
    let k : Course = course g.P.Plan.planned plan in
    let is : Known k = known k (g.met.P.Plan.lawful plan) in
    let len : vec_len c.args.state.now.words ≡ length c.args.state.now.words.items = c.args.state.now.words.ok.0 in
    let low : c.args.op.word < length c.args.state.now.words.items = word_inside (g.P.Plan.planned plan) is c.args.state.now c.requires.fits c.args.hart c.requires.hart c.args.at.number c.args.at.op c.args.op c.requires.op.from_one c.requires.op.number c.requires.op.op in
    omega arith

pub index_mut-requires : goal.index_mut-requires
index_mut-requires g c =
    let plan = c.args.plan.now in
    let k : Course = course g.P.Plan.planned plan in
    let is : Known k = known k (g.met.P.Plan.lawful plan) in
    let len : vec_len c.args.state.now.words ≡ length c.args.state.now.words.items = c.args.state.now.words.ok.0 in
    let low : c.args.op.word < length c.args.state.now.words.items = word_inside (g.P.Plan.planned plan) is c.args.state.now c.requires.fits c.args.hart c.requires.hart c.args.at.number c.args.at.op c.args.op c.requires.op.from_one c.requires.op.number c.requires.op.op in
    omega arith

pub overflow_add-at : goal.overflow_add-at
overflow_add-at g c =
    let plan = c.args.plan.now in
    let k : Course = course g.P.Plan.planned plan in
    let is : Known k = known k (g.met.P.Plan.lawful plan) in
    let low : c.args.at.op < 4294967295 = op_low (g.P.Plan.planned plan) is c.args.state.now c.requires.fits c.args.hart c.requires.hart c.args.at.number c.args.at.op c.args.op c.requires.op.from_one c.requires.op.number c.requires.op.op in
    search rules

pub returns-clause-fits : goal.returns-clause-fits
returns-clause-fits g c _ =
    let plan = c.args.plan.now in
    let k : Course = course g.P.Plan.planned plan in
    let is : Known k = known k (g.met.P.Plan.lawful plan) in
    let own : HartState = hart_in c.args.state.now.harts c.args.hart in
    let same : place c.args.at.number c.args.at.op ≡ place own.next.number own.next.op = c.is_same.ensures.0 (let f = c.if-not-is_same.false in search rules) in
    let le : c.args.at.number ≤ c.met_up_to-met.result = omega arith in
    let low : c.args.at.op < 4294967295 = op_low (g.P.Plan.planned plan) is c.args.state.now c.requires.fits c.args.hart c.requires.hart c.args.at.number c.args.at.op c.args.op c.requires.op.from_one c.requires.op.number c.requires.op.op in
    let there = found (g.P.Plan.planned plan) is c.args.state.now c.requires.fits c.args.hart c.requires.hart c.args.at.number c.args.at.op c.args.op c.requires.op.from_one c.requires.op.number c.requires.op.op in
    record {
      harts = kept_set k c.args.state.now.harts c.requires.fits.harts c.args.hart (record own { written = own.written + 1; next = c.seek.result; met = c.met_up_to-met.result }) (in_eight (g.P.Plan.planned plan) is c.args.state.now c.requires.fits c.args.hart c.requires.hart)
          (written_kept (g.P.Plan.planned plan) is c.args.hart own (kept (g.P.Plan.planned plan) is c.args.state.now c.requires.fits c.args.hart c.requires.hart) c.args.at.number c.args.at.op c.met_up_to-met.result there.0 (operation_of c.args.hart c.args.at.number c.args.at.op c.args.op) c.seek.result there.1 (refl, refl, refl) c.requires.is_write same (omega arith)
          c.met_up_to-met.ensures.met c.met_up_to-met.ensures.low c.seek.ensures.from_one c.seek.ensures.within c.seek.ensures.count c.seek.ensures.there)
          (omega arith) (c.requires.fits.harts.seen c.args.hart);
      words = length-set c.args.state.now.words.items c.args.op.word c.put_lanes.result ∙ c.requires.fits.words;
    }

pub returns-clause-made : goal.returns-clause-made
returns-clause-made g c _ =
    let plan = c.args.plan.now in
    let k : Course = course g.P.Plan.planned plan in
    let is : Known k = known k (g.met.P.Plan.lawful plan) in
    let own : HartState = hart_in c.args.state.now.harts c.args.hart in
    let same : place c.args.at.number c.args.at.op ≡ place own.next.number own.next.op = c.is_same.ensures.0 (let f = c.if-not-is_same.false in search rules) in
    let le : c.args.at.number ≤ c.met_up_to-met.result = omega arith in
    let low : c.args.op.word < length c.args.state.now.words.items = word_inside (g.P.Plan.planned plan) is c.args.state.now c.requires.fits c.args.hart c.requires.hart c.args.at.number c.args.at.op c.args.op c.requires.op.from_one c.requires.op.number c.requires.op.op in
    let word : c.index-word.result.now ≡ slice_index c.args.state.now.words.items c.args.op.word = c.index-word.ensures ∙ get_or_default c.args.state.now.words.items c.args.op.word c.index-word.result.now 0 low in
    written (g.P.Plan.planned plan) is c.args.state.now c.requires.fits c.args.hart c.requires.hart c.args.at.number c.args.at.op c.args.op c.requires.op.from_one c.requires.op.number c.requires.op.op c.requires.is_write c.seek.result c.met_up_to-met.result c.put_lanes.result (slice_set c.args.state.now.words.items c.args.op.word c.put_lanes.result) refl
    (subst (λ (z : ℕ). Lands c.args.op z c.put_lanes.result) word c.put_lanes.ensures) same c.met_up_to-met.ensures.met le
