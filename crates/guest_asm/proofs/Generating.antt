-- What is drawn, action by action and hart by hart.
use Rattle.std.proofs.Common.{◌≡◌, ℕ, zero, suc, ◌+◌, ◌*◌, ◌<◌, List, [], ◌∷◌, ◌++◌, length, take, get_or, map, refl, subst, ap, ap₂, sym, ◌∙◌, arith, add-zero, add-suc, map-id}
use Rattle.std.specs.List.{flat_map, range_with_len}
use Rattle.std.proofs.lemmas.List.{flat_map_more, map_more}
use Rattle.std.proofs.lemmas.List.FromFn.{map-range_with_len_more}
use Rattle.rv_isa.specs.declared.instruction.Instr.{Instr}
use Rattle.core_sim.specs.Draws.{drawn, drawn_after}
use Rattle.guest_asm.specs.Jobs.{Cell, coded, IsCell, AreCells}
use Rattle.guest_asm.proofs.Building.{AreCells-append}
use Rattle.guest_asm.specs.Generated.{choice, action_numbered, instructions_of, action_at, hart_code, code_of_first, entry, entries}

-- one number more
pub range-more : (n : ℕ) → range_with_len 0 (n + 1) ≡ range_with_len 0 n ++ n ∷ []
range-more n =
    sym (map-id (range_with_len 0 (n + 1))) ∙ map-range_with_len_more (λ (i : ℕ). i) 0 n n (omega arith)
    ∙ ap (λ (l : List ℕ). l ++ n ∷ []) (map-id (range_with_len 0 n))

pub drawn-more : (x a b : ℕ) → drawn_after x (a + b) ≡ drawn_after (drawn_after x a) b
drawn-more x a zero = ap (drawn_after x) (add-zero a)
drawn-more x a (suc b) = ap (drawn_after x) (add-suc a b) ∙ ap drawn (drawn-more x a b)

-- an action is the first one after the draws of those before it
pub action-from : (x n : ℕ) → action_at (drawn_after x (2 * n)) 0 ≡ action_at x n
action-from x n =
    ap₂ (λ (a b : ℕ). instructions_of (action_numbered (choice 8 a)) (choice 64 b)) (sym (drawn-more x (2 * n) 1)) (sym (drawn-more x (2 * n) 2))

pub actions-more : (x n : ℕ) (old code new : List Instr) → code ≡ old ++ flat_map (action_at x) (range_with_len 0 n)
    → new ≡ code ++ action_at (drawn_after x (2 * n)) 0 → new ≡ old ++ flat_map (action_at x) (range_with_len 0 (n + 1))
actions-more x n old code new before added =
    added
    ∙ ap (λ (c : List Instr). c ++ action_at (drawn_after x (2 * n)) 0) before
    ∙ ap (λ (a : List Instr). (old ++ flat_map (action_at x) (range_with_len 0 n)) ++ a) (action-from x n)
    ∙ flat_map_more (action_at x) old (range_with_len 0 n) n
    ∙ ap (λ (is : List ℕ). old ++ flat_map (action_at x) is) (sym (range-more n))

pub draws-more : (x n y : ℕ) → y ≡ drawn (drawn (drawn_after x (2 * n))) → y ≡ drawn_after x (2 * (n + 1))
draws-more x n y e = e ∙ sym (drawn-more x (2 * n) 2) ∙ ap (drawn_after x) (omega arith)

-- the state and the code after the first harts
pub record Behind (s z harts x : ℕ) (code : List Instr) : Type 0 where
  pub draws : x ≡ drawn_after s (2 * z * harts)
  pub drawn_code : code ≡ code_of_first s z harts

pub behind-none : (s z : ℕ) → Behind s z 0 s []
behind-none s z = record { draws = ap (drawn_after s) (let none : 0 ≡ 2 * z * 0 = omega arith in none); drawn_code = refl }

pub behind-hart : (s z harts x y : ℕ) (code new : List Instr) → Behind s z harts x code → y ≡ drawn_after x (2 * z) → new ≡ code ++ hart_code x z
    → Behind s z (harts + 1) y new
behind-hart s z harts x y code new before draws added = record {
  draws =
      draws ∙ ap (λ (w : ℕ). drawn_after w (2 * z)) before.draws ∙ sym (drawn-more s (2 * z * harts) (2 * z))
      ∙ ap (drawn_after s) (let all : 2 * z * harts + 2 * z ≡ 2 * z * (harts + 1) = grind arith in all);
  drawn_code =
      added
      ∙ ap₂ (λ (c : List Instr) (w : ℕ). c ++ hart_code w z) before.drawn_code before.draws
      ∙ flat_map_more (λ hart. hart_code (drawn_after s (2 * z * hart)) z) [] (range_with_len 0 harts) harts
      ∙ ap (flat_map (λ hart. hart_code (drawn_after s (2 * z * hart)) z)) (sym (range-more harts));
}

-- the word of one instruction more
pub word-more : (code : List Instr) (i : ℕ) (d : Instr) (old : List ℕ) (word : ℕ) → i < length code → AreCells (map (λ j. coded j) (take i code)) old
    → IsCell (coded (get_or code i d)) word → AreCells (map (λ j. coded j) (take (i + 1) code)) (old ++ word ∷ [])
word-more code i d old word within cells cell =
    subst (λ (cs : List Cell). AreCells cs (old ++ word ∷ [])) (sym (map_more (λ j. coded j) code i d within))
    (AreCells-append (map (λ j. coded j) (take i code)) (coded (get_or code i d) ∷ []) old (word ∷ []) cells (cell, tt))

-- the code after each of the four harts
pub record Four (s z : ℕ) (c0 c1 c2 c3 c4 : List Instr) : Type 0 where
  pub none : c0 ≡ []
  pub one : c1 ≡ code_of_first s z 1
  pub two : c2 ≡ code_of_first s z 2
  pub three : c3 ≡ code_of_first s z 3
  pub four : c4 ≡ code_of_first s z 4

-- what a hart adds to the code, and how far it draws
pub record Hart (z x y : ℕ) (old new : List Instr) : Type 0 where
  pub draws : y ≡ drawn_after x (2 * z)
  pub added : new ≡ old ++ hart_code x z

pub four-harts : (s z x1 x2 x3 x4 : ℕ) (c0 c1 c2 c3 c4 : List Instr) → c0 ≡ [] → Hart z s x1 c0 c1 → Hart z x1 x2 c1 c2 → Hart z x2 x3 c2 c3 → Hart z x3 x4 c3 c4
    → Four s z c0 c1 c2 c3 c4
four-harts s z x1 x2 x3 x4 c0 c1 c2 c3 c4 none first second third fourth =
    let before : Behind s z 0 s c0 = subst (Behind s z 0 s) (sym none) (behind-none s z) in
    let one = behind-hart s z 0 s x1 c0 c1 before first.draws first.added in
    let two = behind-hart s z 1 x1 x2 c1 c2 one second.draws second.added in
    let three = behind-hart s z 2 x2 x3 c2 c3 two third.draws third.added in
    let four = behind-hart s z 3 x3 x4 c3 c4 three fourth.draws fourth.added in
    record { none = none; one = one.drawn_code; two = two.drawn_code; three = three.drawn_code; four = four.drawn_code }

abbrev behind : List Instr → ℕ
behind code = 0x10000 + 4 * length code

pub four-entries : (s z e0 e1 e2 e3 : ℕ) (c0 c1 c2 c3 c4 : List Instr) → Four s z c0 c1 c2 c3 c4 → e0 ≡ 0x10000 + 4 * length c0 → e1 ≡ 0x10000 + 4 * length c1
    → e2 ≡ 0x10000 + 4 * length c2 → e3 ≡ 0x10000 + 4 * length c3 → (e0 ∷ e1 ∷ e2 ∷ e3 ∷ 0x10000 ∷ 0x10000 ∷ 0x10000 ∷ 0x10000 ∷ []) ≡ entries s z
four-entries s z e0 e1 e2 e3 c0 c1 c2 c3 c4 harts a b c d =
    let first : e0 ≡ entry s z 0 = a ∙ ap behind harts.none in
    let second : e1 ≡ entry s z 1 = b ∙ ap behind harts.one in
    let third : e2 ≡ entry s z 2 = c ∙ ap behind harts.two in
    let fourth : e3 ≡ entry s z 3 = d ∙ ap behind harts.three in
    λ j. first j ∷ second j ∷ third j ∷ fourth j ∷ 0x10000 ∷ 0x10000 ∷ 0x10000 ∷ 0x10000 ∷ []
