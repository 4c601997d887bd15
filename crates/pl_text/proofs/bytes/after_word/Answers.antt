use Rattle.std.proofs.Common.{◌≡◌, ℕ, List, [], ◌∷◌, ◌++◌, take, sym, ap, ◌∙◌, take_all, arith}
use Rattle.pl_text.proofs.bytes.after_word.Goals as goal

same_behind : (front a b : List ℕ) → front ++ a ≡ front ++ b → a ≡ b
same_behind [] a b e = e
same_behind (x ∷ front) a b e = same_behind front a b (let tail : front ++ a ≡ front ++ b = cc in tail)

pub returns-clause-every : goal.returns-clause-every
returns-clause-every c = λ rest e.
    let whole : take c.loop-byte.byte-index c.args.word.now ≡ c.args.word.now = take_all c.loop-byte.byte-index c.args.word.now (omega arith) in
    same_behind c.args.word.now c.loop-byte.rest.now rest (ap (λ (t : List ℕ). t ++ c.loop-byte.rest.now) (sym whole) ∙ sym c.loop-byte.invariant ∙ e)
