-- Readers one after the other.
use Rattle.std.proofs.Common.{◌≡◌, ℕ, List, [], ◌∷◌, ◌++◌, Option, Some, None, refl, sym, ap, subst, ◌∙◌, arith}
use Rattle.std.specs.Borrow.{Bor}
use Rattle.log_grammar.specs.Reads.{behind_blanks, Closes, Reads}

pub closes_behind : (words : List (List ℕ)) (rest : List ℕ) → Closes rest → Closes (behind_blanks words rest)
closes_behind [] rest h = h
closes_behind (word ∷ words) rest h = omega arith

pub behind_append : (a b : List (List ℕ)) (rest : List ℕ) → behind_blanks (a ++ b) rest ≡ behind_blanks a (behind_blanks b rest)
behind_append [] b rest = refl
behind_append (word ∷ a) b rest = ap (λ (t : List ℕ). 32 ∷ word ++ t) (behind_append a b rest)

pub nothing : {X : Type 0} (In : X → Type 0) (words : X → List (List ℕ)) (text : List ℕ) (result : Option (X × Bor (List ℕ))) → result ≡ None → ((x : X) (rest : List ℕ) → In x → Closes rest → text ≡ behind_blanks (words x) rest → ⊥) → Reads In words text result
nothing {X} In words text result e none =
    let P : Option (X × Bor (List ℕ)) → Type 0 = λ r. Reads In words text r in
    subst P (sym e) (record { found = tt; every = λ x rest i c t. none x rest i c t })

-- two readers
abbrev pub BothIn : {X Y : Type 0} → (X → Type 0) → (Y → Type 0) → X × Y → Type 0
BothIn A B p = A p.0 × B p.1

abbrev pub both_words : {X Y : Type 0} → (X → List (List ℕ)) → (Y → List (List ℕ)) → X × Y → List (List ℕ)
both_words a b p = a p.0 ++ b p.1

pub both_none : {X Y : Type 0} (A : X → Type 0) (B : Y → Type 0) (a : X → List (List ℕ)) (b : Y → List (List ℕ)) (text : List ℕ) → Reads A a text None → Reads (BothIn A B) (both_words a b) text None
both_none A B a b text first = record {
  found = tt;
  every = λ p rest i c t. first.every p.0 (behind_blanks (b p.1) rest) i.0 (closes_behind (b p.1) rest c) (t ∙ behind_append (a p.0) (b p.1) rest);
}

pub both_later : {X Y : Type 0} (A : X → Type 0) (B : Y → Type 0) (a : X → List (List ℕ)) (b : Y → List (List ℕ)) (text : List ℕ) (x : X) (r : Bor (List ℕ)) → Reads A a text (Some (x, r)) → Reads B b r.now None → Reads (BothIn A B) (both_words a b) text None
both_later A B a b text x r first second = record {
  found = tt;
  every = λ p rest i c t. second.every p.1 rest i.1 c (first.every p.0 (behind_blanks (b p.1) rest) i.0 (closes_behind (b p.1) rest c) (t ∙ behind_append (a p.0) (b p.1) rest)).1;
}

abbrev pair : {X Y : Type 0} → X → Y → X × Y
pair x y = (x, y)

pair_is : {X Y : Type 0} (x : X) (y : Y) (p : X × Y) → x ≡ p.0 → y ≡ p.1 → pair x y ≡ p
pair_is {X} {Y} x y p e f = ap (λ (u : X). pair u y) e ∙ ap (λ (v : Y). pair p.0 v) f

pub both_some : {X Y : Type 0} (A : X → Type 0) (B : Y → Type 0) (a : X → List (List ℕ)) (b : Y → List (List ℕ)) (text : List ℕ) (x : X) (y : Y) (r s : Bor (List ℕ)) → Reads A a text (Some (x, r)) → Reads B b r.now (Some (y, s)) → Reads (BothIn A B) (both_words a b) text (Some ((x, y), s))
both_some A B a b text x y r s first second = record {
  found = ((first.found.0, second.found.0), first.found.1 ∙ ap (behind_blanks (a x)) second.found.1 ∙ sym (behind_append (a x) (b y) s.now));
  every = λ p rest i c t.
      let f = first.every p.0 (behind_blanks (b p.1) rest) i.0 (closes_behind (b p.1) rest c) (t ∙ behind_append (a p.0) (b p.1) rest) in
      let g = second.every p.1 rest i.1 c f.1 in
      (pair_is x y p f.0 g.0, g.1);
}

pub same_behind : (front a b : List ℕ) → front ++ a ≡ front ++ b → a ≡ b
same_behind [] a b e = e
same_behind (x ∷ front) a b e = same_behind front a b (let tail : front ++ a ≡ front ++ b = cc in tail)

-- a reader after one certain word at the start of a line
pub word_none : {X : Type 0} (In : X → Type 0) (words : X → List (List ℕ)) (word rest text : List ℕ) → text ≡ word ++ rest → Reads In words rest None → Reads In (λ x. word ∷ words x) (32 ∷ text) None
word_none In words word rest text e reads = record {
  found = tt;
  every = λ x behind i c t. reads.every x behind i c (same_behind (32 ∷ word) rest (behind_blanks (words x) behind) (ap (λ (s : List ℕ). 32 ∷ s) (sym e) ∙ t));
}

pub word_some : {X : Type 0} (In : X → Type 0) (words : X → List (List ℕ)) (word rest text : List ℕ) (x : X) (r : Bor (List ℕ)) → text ≡ word ++ rest → Reads In words rest (Some (x, r)) → Reads In (λ x. word ∷ words x) (32 ∷ text) (Some (x, r))
word_some In words word rest text x r e reads = record {
  found = (reads.found.0, ap (λ (s : List ℕ). 32 ∷ s) e ∙ ap (λ (s : List ℕ). 32 ∷ word ++ s) reads.found.1);
  every = λ y behind i c t. reads.every y behind i c (same_behind (32 ∷ word) rest (behind_blanks (words y) behind) (ap (λ (s : List ℕ). 32 ∷ s) (sym e) ∙ t));
}

-- the values of one reader as those of another
pub record IsMade {P X : Type 0} (In : P → Type 0) (words : P → List (List ℕ)) (make : P → X) (Out : X → Type 0) (shown : X → List (List ℕ)) : Type 0 where
  pub whole : (p : P) → In p → Out (make p)
  pub same : (p : P) → shown (make p) ≡ words p
  pub parts : (x : X) → Out x → (p : P) × In p × (make p ≡ x)

pub made_none : {P X : Type 0} (In : P → Type 0) (words : P → List (List ℕ)) (make : P → X) (Out : X → Type 0) (shown : X → List (List ℕ)) (text : List ℕ) (result : Option (X × Bor (List ℕ))) → IsMade In words make Out shown → result ≡ None → Reads In words text None → Reads Out shown text result
made_none In words make Out shown text result m e reads =
    nothing Out shown text result e (λ x rest i c t.
    let parts = m.parts x i in
    reads.every parts.0 rest parts.1 c (t ∙ ap (λ w. behind_blanks (shown w) rest) (sym parts.2) ∙ ap (λ w. behind_blanks w rest) (m.same parts.0)))

pub made_some : {P X : Type 0} (In : P → Type 0) (words : P → List (List ℕ)) (make : P → X) (Out : X → Type 0) (shown : X → List (List ℕ)) (text : List ℕ) (p : P) (r : Bor (List ℕ)) → IsMade In words make Out shown → Reads In words text (Some (p, r)) → Reads Out shown text (Some (make p, r))
made_some In words make Out shown text p r m reads = record {
  found = (m.whole p reads.found.0, reads.found.1 ∙ ap (λ w. behind_blanks w r.now) (sym (m.same p)));
  every = λ x rest i c t.
      let parts = m.parts x i in
      let f = reads.every parts.0 rest parts.1 c (t ∙ ap (λ w. behind_blanks (shown w) rest) (sym parts.2) ∙ ap (λ w. behind_blanks w rest) (m.same parts.0)) in
      (ap make f.0 ∙ parts.2, f.1);
}
