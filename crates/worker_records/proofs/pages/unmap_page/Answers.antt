use Rattle.std.proofs.Common.{◌≡◌, ◌≢◌, ℕ, ◌+◌, ◌-◌, ◌%◌, ◌^◌, ◌≤◌, true, [], ◌∷◌, refl, sym, ap, ◌∙◌, subst, arith}
use Rattle.guard_table.specs.declared.view.View.{View}
use Rattle.guard_table.specs.Seats.{plan_of, seat_view}
use Rattle.guard_table.specs.Views.{wrote}
use Rattle.order_core.specs.Course.{Planned}
use Rattle.shadow_frames.specs.Frames.{reads, unmap_page, writes}
use Rattle.shadow_frames.specs.Words.{bit, directory_word, is_used, map_word}
use Rattle.worker_records.specs.Shapes.{IsDue, Midst}
use Rattle.worker_records.proofs.PageLemmas.{bits_due, bits_found, clear_due, free_due, freed_made, look_due, look_found}
use Rattle.worker_records.proofs.pages.unmap_page.Goals as goal

pub read_next-directory-requires-clause-due : goal.read_next-directory-requires-clause-due
read_next-directory-requires-clause-due g c =
    let t = c.requires.due in
    let d = look_due (g.P.Plan.planned (plan_of c.args.monitor.now)) (seat_view c.args.seat.now) c.args.number c.args.op c.args.page t.0 t.1 in
    (d.0, d.1)

-- what is known once the directory's word is read
module _ (plan : Planned) (v : View) (number op page : ℕ) (m : Midst) (due : IsDue plan v number op (unmap_page m.words page) m) (d : ℕ)
    (is_d : (n : Midst) → IsDue plan v number op (reads (directory_word page) ∷ []) n → d ≡ n.words (directory_word page)) where
  d_is : d ≡ m.words (directory_word page)
  d_is = look_found plan v number op page m due d is_d

  f_is : d - 1 ≡ m.words (directory_word page) - 1
  f_is = ap (λ (z : ℕ). z - 1) d_is

  some : m.words (directory_word page) ≢ 0 → 1 ≤ d
  some ne =
      let e : d ≡ m.words (directory_word page) = d_is in
      let n : m.words (directory_word page) ≡ 0 → ⊥ = ne in
      omega arith

  low : m.words (directory_word page) ≤ 512 → d ≤ 512
  low le = subst (λ (z : ℕ). z ≤ 512) (sym d_is) le

  module _ (bits : ℕ) (is_bits : (n : Midst) → IsDue plan v number (op + 1) (reads (map_word (d - 1)) ∷ []) n → bits ≡ n.words (map_word (d - 1))) where
    bits_are : bits ≡ m.words (map_word (d - 1))
    bits_are = bits_found plan v number op page m due (d - 1) f_is bits is_bits

    used : is_used m.words (m.words (directory_word page) - 1) ≡ true → bit bits ((d - 1) % 64) ≡ true
    used on = ap (λ (z : ℕ). bit z ((d - 1) % 64)) bits_are ∙ (ap (is_used m.words) f_is ∙ on)

pub overflow_cast-frame : goal.overflow_cast-frame
overflow_cast-frame g c =
    let t = c.requires.due in
    let l : c.read_next-directory.result ≤ 512 = low (g.P.Plan.planned (plan_of c.args.monitor.now)) (seat_view c.args.seat.now) c.args.number c.args.op c.args.page t.0 t.1 c.read_next-directory.result c.read_next-directory.ensures.value t.3 in
    omega (arith, l)

pub overflow_sub-frame : goal.overflow_sub-frame
overflow_sub-frame g c =
    let t = c.requires.due in
    let l : 1 ≤ c.read_next-directory.result = some (g.P.Plan.planned (plan_of c.args.monitor.now)) (seat_view c.args.seat.now) c.args.number c.args.op c.args.page t.0 t.1 c.read_next-directory.result c.read_next-directory.ensures.value t.2 in
    omega (arith, l)

pub overflow_add-map : goal.overflow_add-map
overflow_add-map g c =
    let t = c.requires.due in
    let l : c.read_next-directory.result ≤ 512 = low (g.P.Plan.planned (plan_of c.args.monitor.now)) (seat_view c.args.seat.now) c.args.number c.args.op c.args.page t.0 t.1 c.read_next-directory.result c.read_next-directory.ensures.value t.3 in
    omega (arith, l)

pub read_next-bits-requires-clause-due : goal.read_next-bits-requires-clause-due
read_next-bits-requires-clause-due g c =
    let t = c.requires.due in
    let plan = g.P.Plan.planned (plan_of c.args.monitor.now) in
    let v = seat_view c.args.seat.now in
    let d = c.read_next-directory.result in
    let b = bits_due plan v c.args.number c.args.op c.args.page t.0 t.1 (d - 1) (f_is plan v c.args.number c.args.op c.args.page t.0 t.1 d c.read_next-directory.ensures.value) in
    (b.0, subst (λ (z : View). IsDue plan z c.args.number (c.args.op + 1) (reads (map_word (d - 1)) ∷ []) b.0) (sym c.read_next-directory.ensures.view) b.1)

pub without_bit-requires-clause-used : goal.without_bit-requires-clause-used
without_bit-requires-clause-used g c =
    let t = c.requires.due in
    let plan = g.P.Plan.planned (plan_of c.args.monitor.now) in
    let v = seat_view c.args.seat.now in
    let d = c.read_next-directory.result in
    used plan v c.args.number c.args.op c.args.page t.0 t.1 d c.read_next-directory.ensures.value c.read_next-bits.result
    (subst (λ (z : View). (n : Midst) → IsDue plan z c.args.number (c.args.op + 1) (reads (map_word (d - 1)) ∷ []) n → c.read_next-bits.result ≡ n.words (map_word (d - 1))) c.read_next-directory.ensures.view c.read_next-bits.ensures.value) t.4

pub write_next-requires-clause-due : goal.write_next-requires-clause-due
write_next-requires-clause-due g c =
    let t = c.requires.due in
    let plan = g.P.Plan.planned (plan_of c.args.monitor.now) in
    let v = seat_view c.args.seat.now in
    let d = c.read_next-directory.result in
    let b = free_due plan v c.args.number c.args.op c.args.page t.0 t.1 (d - 1) (f_is plan v c.args.number c.args.op c.args.page t.0 t.1 d c.read_next-directory.ensures.value) in
    let e : c.read_next-bits.result ≡ t.0.words (map_word (d - 1)) = bits_are plan v c.args.number c.args.op c.args.page t.0 t.1 d c.read_next-directory.ensures.value c.read_next-bits.result
    (subst (λ (z : View). (n : Midst) → IsDue plan z c.args.number (c.args.op + 1) (reads (map_word (d - 1)) ∷ []) n → c.read_next-bits.result ≡ n.words (map_word (d - 1))) c.read_next-directory.ensures.view c.read_next-bits.ensures.value) in (
      (λ x. x - 2 ^ ((d - 1) % 64)),
      b.0,
      subst (λ (z : View). IsDue plan z c.args.number (c.args.op + 2) (writes (map_word (d - 1)) (λ x. x - 2 ^ ((d - 1) % 64)) ∷ []) b.0) (sym (c.read_next-bits.ensures.view ∙ c.read_next-directory.ensures.view)) b.1,
      c.without_bit.ensures ∙ ap (λ (z : ℕ). z - 2 ^ ((d - 1) % 64)) (e ∙ ap (λ (z : ℕ → ℕ). z (map_word (d - 1))) (sym b.2)),
    )

pub write_next-requires-2-clause-due : goal.write_next-requires-2-clause-due
write_next-requires-2-clause-due g c =
    let t = c.requires.due in
    let plan = g.P.Plan.planned (plan_of c.args.monitor.now) in
    let v = seat_view c.args.seat.now in
    let d = c.read_next-directory.result in
    let b = clear_due plan v c.args.number c.args.op c.args.page t.0 t.1 (d - 1) (f_is plan v c.args.number c.args.op c.args.page t.0 t.1 d c.read_next-directory.ensures.value) in (
      (λ _. 0),
      b.0,
      subst (λ (z : View). IsDue plan z c.args.number (c.args.op + 3) (writes (directory_word c.args.page) (λ _. 0) ∷ []) b.0) (sym (c.write_next.ensures.view ∙ ap wrote (c.read_next-bits.ensures.view ∙ c.read_next-directory.ensures.view))) b.1,
      refl,
    )

pub returns-clause-view : goal.returns-clause-view
returns-clause-view g c m due = freed_made m.words c.args.page (seat_view c.args.seat.now) (seat_view c.write_next-2.new.seat)
    (c.write_next-2.ensures.view ∙ ap wrote (c.write_next.ensures.view ∙ ap wrote (c.read_next-bits.ensures.view ∙ c.read_next-directory.ensures.view)))
