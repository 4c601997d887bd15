use Rattle.std.proofs.Common.{◌≡◌, ℕ, ◌+◌, ◌<◌, List, [], ◌∷◌, refl, sym, ap, ◌∙◌, subst, arith}
use Rattle.std.specs.Prelude.{length, slice_index, slice_set}
use Rattle.std.proofs.lemmas.List.{get_or-set_other, get_or-set_same, length-set}
use mathlib.Core.Logic.{dite}
use native.Mathlib.Decide.{ℕ_discrete}
use Rattle.guard_table.specs.declared.view.View.{View}
use Rattle.guard_table.specs.Seats.{plan_of, seat_view}
use Rattle.shadow_frames.specs.Frames.{reads}
use Rattle.worker_records.specs.Shapes.{IsDue, Midst}
use Rattle.worker_records.proofs.PageLemmas.{read_at}
use Rattle.worker_records.proofs.pages.read_map.Goals as goal

one_more : (w : ℕ → ℕ) (map : List ℕ) (i x : ℕ) → i < length map → x ≡ w (9 + i) → ((j : ℕ) → j < i → w (9 + j) ≡ slice_index map j) → (j : ℕ) → j < i + 1 → w (9 + j) ≡ slice_index (slice_set map i x) j
one_more w map i x in_map is each j lt = dite (ℕ_discrete j i)
    (λ e. ap (λ (z : ℕ). w (9 + z)) e ∙ (sym is ∙ (sym (get_or-set_same map i x 0 in_map) ∙ ap (slice_index (slice_set map i x)) (sym e))))
    (λ ne. let o : j ≡ i → ⊥ = ne in each j (omega arith) ∙ sym (get_or-set_other map i j x 0 ne))

pub read_next-requires-clause-due : goal.read_next-requires-clause-due
read_next-requires-clause-due g c =
    let t = c.requires.due in
    let plan = g.P.Plan.planned (plan_of c.args.monitor.now) in
    let d = read_at plan (seat_view c.args.seat.now) c.args.number t.0.words 9 8 c.args.op c.loop-i.i c.loop-i-test.true (t.0, t.1, refl) in
    (d.0, subst (λ (z : View). IsDue plan z c.args.number (c.args.op + c.loop-i.i) (reads (9 + c.loop-i.i) ∷ []) d.0) (sym c.loop-i.invariant.view) d.1)

pub loop-i-preserved : goal.loop-i-preserved
loop-i-preserved g c =
    let plan = g.P.Plan.planned (plan_of c.args.monitor.now) in
    let size : length c.loop-i.map ≡ 8 = c.loop-i.invariant.size in
    let value : (n : Midst) → IsDue plan (seat_view c.args.seat.now) c.args.number (c.args.op + c.loop-i.i) (reads (9 + c.loop-i.i) ∷ []) n → c.read_next.result ≡ n.words (9 + c.loop-i.i)
    = subst (λ (z : View). (n : Midst) → IsDue plan z c.args.number (c.args.op + c.loop-i.i) (reads (9 + c.loop-i.i) ∷ []) n → c.read_next.result ≡ n.words (9 + c.loop-i.i)) c.loop-i.invariant.view c.read_next.ensures.value in
    record {
      of = c.read_next.ensures.of;
      view = c.read_next.ensures.view ∙ c.loop-i.invariant.view;
      size = length-set c.loop-i.map c.loop-i.i c.read_next.result ∙ c.loop-i.invariant.size;
      map = λ m due. one_more m.words c.loop-i.map c.loop-i.i c.read_next.result (let l = c.loop-i-test.true in omega (arith, size, l))
          (let d = read_at plan (seat_view c.args.seat.now) c.args.number m.words 9 8 c.args.op c.loop-i.i c.loop-i-test.true (m, due, refl) in value d.0 d.1 ∙ ap (λ (z : ℕ → ℕ). z (9 + c.loop-i.i)) d.2)
          (c.loop-i.invariant.map m due);
    }
