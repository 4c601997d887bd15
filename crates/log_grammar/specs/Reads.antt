-- What a reader of the words at the start of a text gives.
use Rattle.std.specs.Prelude.{◌≡◌, ℕ, ◌<◌, ◌≤◌, List, [], ◌∷◌, ◌++◌, length, take, drop, Option, IfSome, IsSomeAnd}
use Rattle.std.specs.Borrow.{Bor}
use Rattle.std.specs.Fmt.{decimal}
use Rattle.pl_base.specs.declared.layout.TheConstants.{MEMORY_BYTES}
use Rattle.pl_event.specs.Valid.{IsRegister}
use Rattle.pl_event.specs.declared.event.Kind.{Kind}
use Rattle.pl_event.specs.declared.log.PageRun.{PageRun}
use Rattle.pl_event.specs.declared.log.Point.{Point}
use Rattle.log_grammar.specs.Form.{IsPages, IsPointInForm, HasFormFields, ArePointsInForm, most_read}
use Rattle.log_grammar.specs.Spelling.{entry_words, hex, kind_words, page, point_word}
use Rattle.log_grammar.specs.declared.points.ArcList.{ArcList}
use Rattle.log_grammar.specs.Arcs.{Sums}

-- a blank before each word
abbrev pub behind_blanks : List (List ℕ) → List ℕ → List ℕ
behind_blanks [] rest = rest
behind_blanks (word ∷ words) rest = 32 ∷ word ++ behind_blanks words rest

-- a word ends before a blank, a comma or a line feed, which are all below the digits
abbrev pub Closes : List ℕ → Type 0
Closes [] = ⊥
Closes (byte ∷ rest) = byte < 48

-- the words that are given are at the start, and where the words of a value in range are, it is given
pub record Reads {X : Type 0} (InRange : X → Type 0) (words : X → List (List ℕ)) (text : List ℕ)
    (result : Option (X × Bor (List ℕ))) : Type 0 where
  pub found : IfSome result (λ r. InRange r.0 × (text ≡ behind_blanks (words r.0) r.1.now))
  pub every : (x : X) (rest : List ℕ) → InRange x → Closes rest → text ≡ behind_blanks (words x) rest →
      IsSomeAnd result (λ r. (r.0 ≡ x) × (r.1.now ≡ rest))

-- one word, the number in base 10
abbrev pub number_word : ℕ → List (List ℕ)
number_word n = decimal n ∷ []

-- a value of a type each of whose values is in range
abbrev pub IsAny : {X : Type 0} → X → Type 0
IsAny x = Unit {0}

abbrev pub IsFrom : ℕ → ℕ → ℕ → Type 0
IsFrom least most n = (least ≤ n) × (n ≤ most)

-- the registers and the address of a load or a store
abbrev pub IsAccess : ℕ × ℕ × ℕ → Type 0
IsAccess a = IsRegister a.0 × IsRegister a.1 × (a.2 < MEMORY_BYTES)

abbrev pub access_words : ℕ × ℕ × ℕ → List (List ℕ)
access_words a = decimal a.0 ∷ decimal a.1 ∷ hex a.2 ∷ []

-- two registers, and three
abbrev pub AreTwo : ℕ × ℕ → Type 0
AreTwo r = IsRegister r.0 × IsRegister r.1

abbrev pub two_words : ℕ × ℕ → List (List ℕ)
two_words r = decimal r.0 ∷ decimal r.1 ∷ []

abbrev pub AreThree : ℕ × ℕ × ℕ → Type 0
AreThree r = IsRegister r.0 × IsRegister r.1 × IsRegister r.2

abbrev pub three_words : ℕ × ℕ × ℕ → List (List ℕ)
three_words r = decimal r.0 ∷ decimal r.1 ∷ decimal r.2 ∷ []

-- the words of a kind after its first, and the kinds that have this first word
abbrev pub operands : Kind → List (List ℕ)
operands kind = drop 1 (kind_words kind)

abbrev pub IsKindOf : List ℕ → Kind → Type 0
IsKindOf word kind = (take 1 (kind_words kind) ≡ word ∷ []) × HasFormFields kind

abbrev pub IsPageRun : PageRun → Type 0
IsPageRun run = IsPages run.first run.count

abbrev pub page_words : PageRun → List (List ℕ)
page_words run = entry_words (page run)

-- points one comma apart
abbrev pub behind_commas : List Point → List ℕ → List ℕ
behind_commas [] rest = rest
behind_commas (point ∷ points) rest = 44 ∷ point_word point ++ behind_commas points rest

-- the bytes begin with a well-formed point, and with no other where no digit carries it on
pub record ReadsPoint (text : List ℕ) (result : Option (Point × Bor (List ℕ))) : Type 0 where
  pub found : IfSome result (λ r. IsPointInForm most_read r.0 × (text ≡ point_word r.0 ++ r.1.now))
  pub every : (point : Point) (rest : List ℕ) → IsPointInForm most_read point → Closes rest →
      text ≡ point_word point ++ rest → IsSomeAnd result (λ r. (r.0 ≡ point) × (r.1.now ≡ rest))

-- the bytes are a comma away from these well-formed points, and from no others that a line feed ends
pub record IsArcList (text : List ℕ) (list : ArcList) (rest : List ℕ) : Type 0 where
  pub points : List Point
  pub some : 0 < length points
  pub in_form : ArePointsInForm most_read points
  pub sums : Sums list points
  pub spelled : 44 ∷ text ≡ behind_commas points rest
  pub only : (others : List Point) (after : List ℕ) → ArePointsInForm most_read others →
      44 ∷ text ≡ behind_commas others (10 ∷ after) → (others ≡ points) × (rest ≡ 10 ∷ after)

-- the text begins with a number of harts from 1 to 8, and with no other
pub record ReadsHarts (text : List ℕ) (result : Option (ℕ × Bor (List ℕ))) : Type 0 where
  pub found : IfSome result (λ r. (1 ≤ r.0) × (r.0 ≤ 8) × (text ≡ decimal r.0 ++ r.1.now))
  pub every : (harts : ℕ) (rest : List ℕ) → 1 ≤ harts → harts ≤ 8 → Closes rest → text ≡ decimal harts ++ rest →
      IsSomeAnd result (λ r. (r.0 ≡ harts) × (r.1.now ≡ rest))
