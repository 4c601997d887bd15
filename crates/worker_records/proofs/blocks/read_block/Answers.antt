use Rattle.std.proofs.Common.{◌≡◌, ◌≢◌, ℕ, ◌+◌, ◌/◌, ◌≤◌, List, [], ◌∷◌, sym, ap, ◌∙◌, subst}
use Rattle.order_core.specs.Course.{Planned}
use Rattle.order_core.specs.Shapes.{Shape}
use Rattle.guard_table.specs.declared.view.View.{View}
use Rattle.guard_table.specs.Seats.{plan_of, seat_view}
use Rattle.shadow_frames.specs.Frames.{reads}
use Rattle.shadow_frames.specs.Words.{shadow_word}
use Rattle.shadow_layout.specs.Operations as operations
use Rattle.shadow_layout.specs.Operations.{block_directory, block_word, on_block}
use Rattle.worker_records.specs.Shapes.{IsDue, Midst}
use Rattle.worker_records.specs.Blocks.{IsMadeBlock, found_in}
use Rattle.worker_records.proofs.BlockLemmas.{at_is, directory_due, directory_is, mapped_due, none_made, read_due, read_made, read_none}
use Rattle.worker_records.proofs.ShapeLemmas.{DueFrom, found_due}
use Rattle.worker_records.proofs.blocks.read_block.Goals as goal

-- what is known of a block's operations once its directory word is read
module _ (plan : Planned) (v : View) (number op : ℕ) (m : Midst) (addr : ℕ) (due : IsDue plan v number op (operations.read_block m.words (addr / 16)) m)
    (dword d : ℕ) (is_dword : dword ≡ block_directory (addr / 16)) (is_d : (n : Midst) → IsDue plan v number op (reads dword ∷ []) n → d ≡ n.words dword) where
  abbrev tail : List Shape
  tail = reads (block_word m.words (addr / 16)) ∷ []

  all : DueFrom plan v number op (on_block m.words (addr / 16) (reads (block_word m.words (addr / 16)) ∷ [])) m.words
  all = read_due plan v number op m (addr / 16) due

  d_is : d ≡ m.words (block_directory (addr / 16))
  d_is = directory_is plan v number op m.words (addr / 16) tail all dword d is_dword is_d

  none : d ≡ 0 → (u : View) → u ≡ v → IsMadeBlock (operations.read_block m.words (addr / 16)) (found_in m.words (addr / 16)) v u (record { operations = 1; word = 0 })
  none z u same = none_made v u m.words (addr / 16) (operations.read_block m.words (addr / 16)) (read_none m.words (addr / 16) (sym d_is ∙ z)) (sym d_is ∙ z) same

  module _ (some : d ≢ 0) (at : ℕ) (is_at : at ≡ shadow_word d addr) where
    mapped : m.words (block_directory (addr / 16)) ≢ 0
    mapped e = some (d_is ∙ e)

    here : at ≡ block_word m.words (addr / 16)
    here = at_is m.words addr d at d_is is_at

    word_due : DueFrom plan v number (op + 1) (reads at ∷ []) m.words
    word_due = subst (λ (z : ℕ). DueFrom plan v number (op + 1) (reads z ∷ []) m.words) (sym here) (mapped_due plan v number op m.words (addr / 16) tail all mapped)

    done : (x : ℕ) → ((n : Midst) → IsDue plan v number (op + 1) (reads at ∷ []) n → x ≡ n.words at) → (u : View) → u ≡ v
        → IsMadeBlock (operations.read_block m.words (addr / 16)) (found_in m.words (addr / 16)) v u (record { operations = 2; word = x })
    done x is_x u same = read_made v u m.words (addr / 16) x mapped (found_due plan v number (op + 1) m.words at x [] word_due is_x ∙ ap m.words here) same

pub read_next-directory-requires-clause-due : goal.read_next-directory-requires-clause-due
read_next-directory-requires-clause-due g c =
    let t = c.requires.due in
    let plan = g.P.Plan.planned (plan_of c.args.monitor.now) in
    let d = directory_due plan (seat_view c.args.seat.now) c.args.number c.args.op t.0.words (c.args.addr / 16) _
    (read_due plan (seat_view c.args.seat.now) c.args.number c.args.op t.0 (c.args.addr / 16) t.1)
    c.directory_word.result c.directory_word.ensures in
    (d.0, d.1)

pub returns-then-directory-eq0-clause-made : goal.returns-then-directory-eq0-clause-made
returns-then-directory-eq0-clause-made g c m due =
    none (g.P.Plan.planned (plan_of c.args.monitor.now)) (seat_view c.args.seat.now) c.args.number c.args.op m c.args.addr due
    c.directory_word.result c.read_next-directory.result c.directory_word.ensures c.read_next-directory.ensures.value c.if-directory-eq0.true (seat_view c.read_next-directory.new.seat) c.read_next-directory.ensures.view

pub shadow_word-requires-clause-frame : goal.shadow_word-requires-clause-frame
shadow_word-requires-clause-frame g c =
    let t = c.requires.due in
    subst (λ (z : ℕ). z ≤ 512) (sym (d_is (g.P.Plan.planned (plan_of c.args.monitor.now)) (seat_view c.args.seat.now) c.args.number c.args.op t.0 c.args.addr t.1
    c.directory_word.result c.read_next-directory.result c.directory_word.ensures c.read_next-directory.ensures.value)) t.2.low

pub read_next-word-requires-clause-due : goal.read_next-word-requires-clause-due
read_next-word-requires-clause-due g c =
    let t = c.requires.due in
    let plan = g.P.Plan.planned (plan_of c.args.monitor.now) in
    let d : DueFrom plan (seat_view c.read_next-directory.new.seat) c.args.number (c.args.op + 1) (reads c.shadow_word.result ∷ []) t.0.words
    = subst (λ (z : View). DueFrom plan z c.args.number (c.args.op + 1) (reads c.shadow_word.result ∷ []) t.0.words) (sym c.read_next-directory.ensures.view)
    (word_due plan (seat_view c.args.seat.now) c.args.number c.args.op t.0 c.args.addr t.1
    c.directory_word.result c.read_next-directory.result c.directory_word.ensures c.read_next-directory.ensures.value c.if-directory-eq0.false c.shadow_word.result c.shadow_word.ensures) in
    (d.0, d.1)

pub returns-clause-made : goal.returns-clause-made
returns-clause-made g c m due =
    let plan = g.P.Plan.planned (plan_of c.args.monitor.now) in
    done plan (seat_view c.args.seat.now) c.args.number c.args.op m c.args.addr due
    c.directory_word.result c.read_next-directory.result c.directory_word.ensures c.read_next-directory.ensures.value c.if-directory-eq0.false c.shadow_word.result c.shadow_word.ensures c.read_next-word.result
    (subst (λ (z : View). (n : Midst) → IsDue plan z c.args.number (c.args.op + 1) (reads c.shadow_word.result ∷ []) n → c.read_next-word.result ≡ n.words c.shadow_word.result) c.read_next-directory.ensures.view c.read_next-word.ensures.value)
    (seat_view c.read_next-word.new.seat) (c.read_next-word.ensures.view ∙ c.read_next-directory.ensures.view)
