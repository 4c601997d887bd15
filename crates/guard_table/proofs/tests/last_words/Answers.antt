use Rattle.std.proofs.Common.{◌≡◌, ◌<◌, ℕ, zero, suc, List, ◌∷◌, length, arith, refl, sym, ap, ◌∙◌, subst}
use Rattle.std.specs.List.{Contains}
use Rattle.guard_table.specs.declared.view.View.{View}
use Rattle.guard_table.specs.Seats.{head_view}
use Rattle.guard_table.specs.Views.{freed_seat}
use Rattle.guard_table.proofs.tests.last_words.Goals as goal

both : (h : ℕ) (xs : List ℕ) → h < 2 → Contains (1 ∷ 0 ∷ xs) h
both zero xs l = (1, omega arith, refl)
both (suc zero) xs l = (0, omega arith, refl)
both (suc (suc h)) xs l = absurd (omega arith)

pub close-requires-clause-freed : goal.close-requires-clause-freed
close-requires-clause-freed g c h low =
    let one : head_view c.give_back.new.head ≡ freed_seat 0 (head_view c.args.head) = c.give_back.ensures.head ∙ ap (λ (z : ℕ). freed_seat z (head_view c.args.head)) c.requires.first in
    let two : head_view c.give_back-2.new.head ≡ freed_seat 1 (freed_seat 0 (head_view c.args.head)) =
    c.give_back-2.ensures.head ∙ (ap (λ (z : ℕ). freed_seat z (head_view c.give_back.new.head)) c.requires.second ∙ ap (freed_seat 1) one) in
    subst (λ (v : View). Contains v.freed h) (sym two) (both h (head_view c.args.head).freed (subst (λ (z : ℕ). h < z) c.requires.two low))
