use Rattle.std.proofs.Common.{◌≡◌, ◌∷◌, ◌++◌, [], ℕ, List, sym, ap, ◌∙◌}
use Rattle.log_grammar.specs.Reads.{IsAny}
use Rattle.log_grammar.specs.Spelling.{load_word}
use Rattle.log_grammar.proofs.ArcReading.{same_tail}
use Rattle.log_grammar.proofs.Chain.{nothing}
use Rattle.log_grammar.proofs.Widths.{Counts, left_of, marked_by, behind_mark, split_mark, parted, same_width, no_width}
use Rattle.log_grammar.proofs.grammar.field.load_width.Goals as goal

pub returns-in_err-width : goal.returns-in_err-width
returns-in_err-width c =
    nothing IsAny (λ width. load_word width ∷ []) c.args.text.now c.from_residual-in_err-width.result c.from_residual-in_err-width.ensures
    (λ width rest any closes t.
    let e : load_word width ++ rest ≡ c.in_ok-letter.letter ∷ c.in_ok-letter.rest.now = same_tail 32 (load_word width ++ rest) c.in_ok-rest.rest.now (sym t ∙ c.in_ok-rest.ensures.found) ∙ c.in_ok-letter.ensures.found in
    let marked = marked_by c.after_byte-2.result c.is_some-is_unsigned.result c.in_ok-letter.rest.now c.is_some-is_unsigned.ensures c.after_byte-2.ensures.found c.after_byte-2.ensures.every in
    no_width width (c.in_err-width.ensures.every width (parted width c.in_ok-letter.letter c.is_some-is_unsigned.result c.in_ok-letter.rest.now rest marked closes e).0))

pub returns : goal.returns
returns c =
    let letter = c.in_ok-letter.letter in
    let left = c.in_ok-letter.rest.now in
    let unsigned = c.is_some-is_unsigned.result in
    let marked = marked_by c.after_byte-2.result unsigned left c.is_some-is_unsigned.ensures c.after_byte-2.ensures.found c.after_byte-2.ensures.every in
    let counts : Counts unsigned c.from.result = record { one = λ yes. rw yes at c.from.ensures; none = λ no. rw no at c.from.ensures } in
    record {
      found = (
        tt,
        c.in_ok-rest.ensures.found
            ∙ ap (λ (t : List ℕ). 32 ∷ t)
            (c.in_ok-letter.ensures.found ∙ ap (λ (t : List ℕ). letter ∷ t) (split_mark unsigned c.from.result left counts marked)
            ∙ ap (λ (w : List ℕ). w ++ left_of c.from.result left) (sym c.in_ok-width.ensures.found)),
      );
      every = λ width rest any closes t.
          let e : load_word width ++ rest ≡ letter ∷ left = same_tail 32 (load_word width ++ rest) c.in_ok-rest.rest.now (sym t ∙ c.in_ok-rest.ensures.found) ∙ c.in_ok-letter.ensures.found in
          let p = parted width letter unsigned left rest marked closes e in
          (same_width c.in_ok-width.width width (c.in_ok-width.ensures.every width p.0), behind_mark unsigned c.from.result left rest counts p.1);
    }
