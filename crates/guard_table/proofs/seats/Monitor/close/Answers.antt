use Rattle.std.proofs.Common.{◌≡◌, ℕ, zero, suc, ◌<◌, List, [], ◌∷◌, ◌++◌, take, ap, sym, ◌∙◌, subst, arith, add-one}
use Rattle.std.proofs.lemmas.List.{take_all}
use mathlib.Core.Option.{some, some-injective, some-ne-none}
use lib.ListN.{get_elem?}
use Rattle.order_core.specs.declared.course.Course.{Course}
use Rattle.order_core.specs.Course.{course}
use Rattle.guard_table.specs.Seats.{AreLastWords}
use Rattle.guard_table.proofs.PlayLemmas.{closes}
use Rattle.guard_table.proofs.seats.Monitor.close.Goals as goal

take_one : (l : List ℕ) (i a : ℕ) → get_elem? l i ≡ some a → take (suc i) l ≡ take i l ++ a ∷ []
take_one [] i a e = absurd (some-ne-none a (sym e))
take_one (x ∷ xs) zero a e = ap (λ (z : ℕ). z ∷ []) (some-injective x a e)
take_one (x ∷ xs) (suc i) a e = ap (λ (z : List ℕ). x ∷ z) (take_one xs i a e)

pub loop-i-preserved : goal.loop-i-preserved
loop-i-preserved g c =
    let at = c.word.ensures in
    let inv = c.loop-i.invariant in (
      c.push_reserved.ensures.items ∙ (ap (λ (z : List ℕ). z ++ c.word.result ∷ []) inv.0 ∙ rw add-one (sym (take_one c.close_with-closed.result.words.items c.loop-i.i c.word.result at))),
      omega arith,
    )

pub returns : goal.returns
returns g c =
    let k = course g.P.Plan.planned c.args.self.plan in
    let key = ap (λ z. course g.P.Plan.planned z) c.args.self.key in
    let len = c.close_with-closed.result.words.ok.0 in
    let all = take_all c.loop-i.i c.close_with-closed.result.words.items (omega arith) in
    let last : AreLastWords (course g.P.Plan.planned c.args.self.table.shared.key) c.close_with-closed.result.words.items =
    closes (course g.P.Plan.planned c.args.self.table.shared.key) _ c.args.head.seat.me.0 _ _ c.args.head.role (λ h l. c.requires.freed h (subst (λ (z : Course). h < z.log.harts) key l)) c.close_with-closed.ensures.values.2 in
    subst (AreLastWords k) (sym (c.loop-i.invariant.0 ∙ all)) (subst (λ (z : Course). AreLastWords z c.close_with-closed.result.words.items) key last)
