use Rattle.std.proofs.Common.{◌≡◌, ◌≢◌, ℕ, ◌+◌, ◌/◌, ◌%◌, ◌<◌, ◌≤◌, List, [], ◌∷◌, sym, ap, ◌∙◌, subst, arith}
use Rattle.order_core.specs.Course.{Planned}
use Rattle.order_core.specs.Shapes.{Shape}
use Rattle.guard_table.specs.declared.view.View.{View}
use Rattle.guard_table.specs.Seats.{plan_of, seat_view}
use Rattle.guard_table.specs.Views.{wrote}
use Rattle.shadow_frames.specs.Frames.{reads, writes}
use Rattle.shadow_frames.specs.Words.{nibble_of, shadow_word}
use Rattle.shadow_layout.specs.Operations.{block_directory, block_word, change_block, changed_word, on_block}
use Rattle.worker_records.specs.Shapes.{IsDue, Midst}
use Rattle.worker_records.specs.Blocks.{IsMadeBlock, found_in}
use Rattle.worker_records.proofs.BlockLemmas.{at_is, change_due, change_made, change_none, directory_due, directory_is, found_word, mapped_due, none_made}
use Rattle.worker_records.proofs.ShapeLemmas.{DueFrom, first_of, found_due, past_read}
use Rattle.worker_records.proofs.blocks.change_block.Goals as goal

-- what is known of a block's operations once its directory word is read
module _ (plan : Planned) (v : View) (number op : ℕ) (m : Midst) (f : ℕ → ℕ → ℕ) (addr len : ℕ) (due : IsDue plan v number op (change_block f addr len m.words (addr / 16)) m)
    (dword d : ℕ) (is_dword : dword ≡ block_directory (addr / 16)) (is_d : (n : Midst) → IsDue plan v number op (reads dword ∷ []) n → d ≡ n.words dword) where
  all : DueFrom plan v number op (on_block m.words (addr / 16) (reads (block_word m.words (addr / 16)) ∷ writes (block_word m.words (addr / 16)) (changed_word f addr len (addr / 16)) ∷ [])) m.words
  all = change_due plan v number op m f addr len (addr / 16) due

  abbrev tail : List Shape
  tail = reads (block_word m.words (addr / 16)) ∷ writes (block_word m.words (addr / 16)) (changed_word f addr len (addr / 16)) ∷ []

  first : DueFrom plan v number op (reads dword ∷ []) m.words
  first = directory_due plan v number op m.words (addr / 16) tail all dword is_dword

  d_is : d ≡ m.words (block_directory (addr / 16))
  d_is = directory_is plan v number op m.words (addr / 16) tail all dword d is_dword is_d

  none : d ≡ 0 → (u : View) → u ≡ v → IsMadeBlock (change_block f addr len m.words (addr / 16)) (found_in m.words (addr / 16)) v u (record { operations = 1; word = 0 })
  none z u same = none_made v u m.words (addr / 16) (change_block f addr len m.words (addr / 16)) (change_none f addr len m.words (addr / 16) (sym d_is ∙ z)) (sym d_is ∙ z) same

  module _ (some : d ≢ 0) (at : ℕ) (is_at : at ≡ shadow_word d addr) where
    mapped : m.words (block_directory (addr / 16)) ≢ 0
    mapped e = some (d_is ∙ e)

    here : at ≡ block_word m.words (addr / 16)
    here = at_is m.words addr d at d_is is_at

    two : DueFrom plan v number (op + 1) (reads at ∷ writes at (changed_word f addr len (addr / 16)) ∷ []) m.words
    two = subst (λ (z : ℕ). DueFrom plan v number (op + 1) (reads z ∷ writes z (changed_word f addr len (addr / 16)) ∷ []) m.words) (sym here) (mapped_due plan v number op m.words (addr / 16) tail all mapped)

    word_due : DueFrom plan v number (op + 1) (reads at ∷ []) m.words
    word_due = first_of plan v number (op + 1) m.words (reads at) (writes at (changed_word f addr len (addr / 16)) ∷ []) two

    write_due : DueFrom plan v number (op + 2) (writes at (changed_word f addr len (addr / 16)) ∷ []) m.words
    write_due = subst (λ (z : ℕ). DueFrom plan v number z (writes at (changed_word f addr len (addr / 16)) ∷ []) m.words) (let e : op + 1 + 1 ≡ op + 2 = omega arith in e)
        (past_read plan v number (op + 1) m.words at (writes at (changed_word f addr len (addr / 16)) ∷ []) two)

    module _ (x : ℕ) (is_x : (n : Midst) → IsDue plan v number (op + 1) (reads at ∷ []) n → x ≡ n.words at) where
      x_is : x ≡ m.words at
      x_is = found_due plan v number (op + 1) m.words at x (writes at (changed_word f addr len (addr / 16)) ∷ []) two is_x

      x_found : x ≡ found_in m.words (addr / 16)
      x_found = x_is ∙ (ap m.words here ∙ found_word m.words (addr / 16) mapped)

      done : (u : View) → u ≡ wrote v → IsMadeBlock (change_block f addr len m.words (addr / 16)) (found_in m.words (addr / 16)) v u (record { operations = 3; word = x })
      done u same = change_made v u m.words (addr / 16) f addr len x mapped (x_is ∙ ap m.words here) same

pub read_next-directory-requires-clause-due : goal.read_next-directory-requires-clause-due
read_next-directory-requires-clause-due g c =
    let t = c.requires.due in
    let d = directory_due (g.P.Plan.planned (plan_of c.args.monitor.now)) (seat_view c.args.seat.now) c.args.number c.args.op t.0.words (c.args.part.addr / 16) _
    (change_due (g.P.Plan.planned (plan_of c.args.monitor.now)) (seat_view c.args.seat.now) c.args.number c.args.op t.0 (λ (i old : ℕ). (g.L.Lifeguard.rules c.args.guard).range_state c.args.kind old) c.args.part.addr c.args.part.len (c.args.part.addr / 16) t.1)
    c.directory_word.result c.directory_word.ensures in
    (d.0, d.1)

pub returns-then-directory-eq0-clause-made : goal.returns-then-directory-eq0-clause-made
returns-then-directory-eq0-clause-made g c m due =
    none (g.P.Plan.planned (plan_of c.args.monitor.now)) (seat_view c.args.seat.now) c.args.number c.args.op m (λ (i old : ℕ). (g.L.Lifeguard.rules c.args.guard).range_state c.args.kind old) c.args.part.addr c.args.part.len due
    c.directory_word.result c.read_next-directory.result c.directory_word.ensures c.read_next-directory.ensures.value c.if-directory-eq0.true (seat_view c.read_next-directory.new.seat) c.read_next-directory.ensures.view

pub shadow_word-at-requires-clause-frame : goal.shadow_word-at-requires-clause-frame
shadow_word-at-requires-clause-frame g c =
    let t = c.requires.due in
    subst (λ (z : ℕ). z ≤ 512) (sym (d_is (g.P.Plan.planned (plan_of c.args.monitor.now)) (seat_view c.args.seat.now) c.args.number c.args.op t.0 (λ (i old : ℕ). (g.L.Lifeguard.rules c.args.guard).range_state c.args.kind old) c.args.part.addr c.args.part.len t.1
    c.directory_word.result c.read_next-directory.result c.directory_word.ensures c.read_next-directory.ensures.value)) t.2.low

pub read_next-word-requires-clause-due : goal.read_next-word-requires-clause-due
read_next-word-requires-clause-due g c =
    let t = c.requires.due in
    let plan = g.P.Plan.planned (plan_of c.args.monitor.now) in
    let d : DueFrom plan (seat_view c.read_next-directory.new.seat) c.args.number (c.args.op + 1) (reads c.shadow_word-at.result ∷ []) t.0.words
    = subst (λ (z : View). DueFrom plan z c.args.number (c.args.op + 1) (reads c.shadow_word-at.result ∷ []) t.0.words) (sym c.read_next-directory.ensures.view)
    (word_due plan (seat_view c.args.seat.now) c.args.number c.args.op t.0 (λ (i old : ℕ). (g.L.Lifeguard.rules c.args.guard).range_state c.args.kind old) c.args.part.addr c.args.part.len t.1
    c.directory_word.result c.read_next-directory.result c.directory_word.ensures c.read_next-directory.ensures.value c.if-directory-eq0.false c.shadow_word-at.result c.shadow_word-at.ensures) in
    (d.0, d.1)

pub word_after-after-requires-clause-low : goal.word_after-after-requires-clause-low
word_after-after-requires-clause-low g c i lt =
    let t = c.requires.due in
    let plan = g.P.Plan.planned (plan_of c.args.monitor.now) in
    let n = c.requires.narrow in
    let l = t.2.nibbles (c.args.part.addr % 16 + i) (omega (arith, n, lt)) in
    subst (λ (z : ℕ). nibble_of z (c.args.part.addr % 16 + i) < 8) (sym (x_found plan (seat_view c.args.seat.now) c.args.number c.args.op t.0 (λ (i old : ℕ). (g.L.Lifeguard.rules c.args.guard).range_state c.args.kind old) c.args.part.addr c.args.part.len t.1
    c.directory_word.result c.read_next-directory.result c.directory_word.ensures c.read_next-directory.ensures.value c.if-directory-eq0.false c.shadow_word-at.result c.shadow_word-at.ensures c.read_next-word.result
    (subst (λ (z : View). (n : Midst) → IsDue plan z c.args.number (c.args.op + 1) (reads c.shadow_word-at.result ∷ []) n → c.read_next-word.result ≡ n.words c.shadow_word-at.result) c.read_next-directory.ensures.view c.read_next-word.ensures.value))) l

pub write_next-requires-clause-due : goal.write_next-requires-clause-due
write_next-requires-clause-due g c =
    let t = c.requires.due in
    let plan = g.P.Plan.planned (plan_of c.args.monitor.now) in
    let f : ℕ → ℕ → ℕ = λ i old. (g.L.Lifeguard.rules c.args.guard).range_state c.args.kind old in
    let h : ℕ → ℕ = changed_word f c.args.part.addr c.args.part.len (c.args.part.addr / 16) in
    let d : DueFrom plan (seat_view c.read_next-word.new.seat) c.args.number (c.args.op + 2) (writes c.shadow_word-at.result h ∷ []) t.0.words
    = subst (λ (z : View). DueFrom plan z c.args.number (c.args.op + 2) (writes c.shadow_word-at.result h ∷ []) t.0.words) (sym (c.read_next-word.ensures.view ∙ c.read_next-directory.ensures.view))
    (write_due plan (seat_view c.args.seat.now) c.args.number c.args.op t.0 f c.args.part.addr c.args.part.len t.1
    c.directory_word.result c.read_next-directory.result c.directory_word.ensures c.read_next-directory.ensures.value c.if-directory-eq0.false c.shadow_word-at.result c.shadow_word-at.ensures) in
    let e : c.read_next-word.result ≡ t.0.words c.shadow_word-at.result = x_is plan (seat_view c.args.seat.now) c.args.number c.args.op t.0 f c.args.part.addr c.args.part.len t.1
    c.directory_word.result c.read_next-directory.result c.directory_word.ensures c.read_next-directory.ensures.value c.if-directory-eq0.false c.shadow_word-at.result c.shadow_word-at.ensures c.read_next-word.result
    (subst (λ (z : View). (n : Midst) → IsDue plan z c.args.number (c.args.op + 1) (reads c.shadow_word-at.result ∷ []) n → c.read_next-word.result ≡ n.words c.shadow_word-at.result) c.read_next-directory.ensures.view c.read_next-word.ensures.value) in
    (h, d.0, d.1, c.word_after-after.ensures ∙ ap h (e ∙ ap (λ (z : ℕ → ℕ). z c.shadow_word-at.result) (sym d.2)))

pub returns-clause-made : goal.returns-clause-made
returns-clause-made g c m due =
    let plan = g.P.Plan.planned (plan_of c.args.monitor.now) in
    done plan (seat_view c.args.seat.now) c.args.number c.args.op m (λ (i old : ℕ). (g.L.Lifeguard.rules c.args.guard).range_state c.args.kind old) c.args.part.addr c.args.part.len due
    c.directory_word.result c.read_next-directory.result c.directory_word.ensures c.read_next-directory.ensures.value c.if-directory-eq0.false c.shadow_word-at.result c.shadow_word-at.ensures c.read_next-word.result
    (subst (λ (z : View). (n : Midst) → IsDue plan z c.args.number (c.args.op + 1) (reads c.shadow_word-at.result ∷ []) n → c.read_next-word.result ≡ n.words c.shadow_word-at.result) c.read_next-directory.ensures.view c.read_next-word.ensures.value)
    (seat_view c.write_next.new.seat) (c.write_next.ensures.view ∙ ap wrote (c.read_next-word.ensures.view ∙ c.read_next-directory.ensures.view))
