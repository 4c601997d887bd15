use Rattle.std.proofs.Common.{◌≡◌, ℕ, ◌+◌, ◌<◌, List, [], ◌∷◌, ◌++◌, length, map, take, get_or, sym, ap, ◌∙◌, subst, arith}
use Rattle.std.proofs.lemmas.List.{get_or-map, length-append, length-map, length-take-le}
use Rattle.pl_event.specs.declared.fed.Fed.{Fed}
use Rattle.lifeguard_worker.specs.Rows.{Item, item_of}
use Rattle.lifeguard_worker.proofs.FedLemmas.{begins_more}
use Rattle.lifeguard_worker.proofs.stream.add_fed.Goals as goal

pub loop-i-preserved : goal.loop-i-preserved
loop-i-preserved c =
    let s : List Item = c.loop-i.stream in
    let first = c.args.stream.now in
    let fed = c.args.fed.now in
    let from = c.args.from in
    let i = c.loop-i.i in
    let x : Fed = c.index-fed-i.result in
    let items : List Item = map item_of fed in
    let pushed : c.push.new.self ≡ s ++ item_of x ∷ [] = c.in_ok-push.ensures.ok in
    let size = ap length pushed ∙ length-append s (item_of x ∷ []) in
    let at : length s ≡ from + i = omega (arith, c.loop-i.invariant.inside, c.if-from-i.false, c.len-len.ensures) in
    let long : length items ≡ length fed = length-map fed item_of in
    let lt : i < length fed = c.loop-i-test.true in
    let here : item_of x ≡ get_or items i (item_of x) = ap item_of c.index-fed-i.is ∙ sym (get_or-map item_of fed i x (item_of x) lt) in
    record {
      begins = λ whole is next. subst (λ (z : List Item). take (length z) whole ≡ z) (sym pushed)
          (begins_more whole (take from first) items from (length-take-le from first c.requires.inside) (ap (λ (n : ℕ). take (from + n) whole) long ∙ next)
          s i (item_of x) (c.loop-i.invariant.begins whole is next) at (omega (arith, lt, long)) here);
      more = omega (arith, size, c.loop-i.invariant.more);
      inside = omega (arith, size, at);
    }
