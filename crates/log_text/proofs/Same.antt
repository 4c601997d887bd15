-- Logs with the same lines are the same.
use Rattle.std.proofs.Common.{◌≡◌, ℕ, suc, ◌≤◌, List, [], ◌∷◌, ◌++◌, length, map, refl, sym, ap, ◌∙◌, arith, Option, Some, None}
use Rattle.std.specs.List.{All}
use Rattle.pl_event.specs.declared.log.Line.{Line}
use Rattle.pl_event.specs.declared.log.Log.{Log}
use Rattle.pl_event.specs.declared.log.PageRun.{PageRun}
use Rattle.pl_event.specs.declared.log.Point.{Point}
use Rattle.log_grammar.specs.Spelling.{page, row_of, points_from, entries_of}

abbrev pub IsWhole : Line → Type 0
IsWhole line = length line.arcs ≡ 8

abbrev point_of : ℕ → ℕ → Point
point_of hart number = record { hart = hart; number = number }

-- the arcs of a list name only harts from its first on
points-above : (hart : ℕ) (numbers : List (Option ℕ)) (point : Point) (points : List Point) → points_from hart numbers ≡ point ∷ points → hart ≤ point.hart
points-above hart [] point points e = absurd cc
points-above hart (None ∷ numbers) point points e = omega (arith, points-above (suc hart) numbers point points e)
points-above hart (Some number ∷ numbers) point points e = let same : hart ≡ point.hart = cc in omega arith

points-same : (hart : ℕ) (xs ys : List (Option ℕ)) → length xs ≡ length ys → points_from hart xs ≡ points_from hart ys → xs ≡ ys
points-same hart [] [] l e = refl
points-same hart [] (y ∷ ys) l e = absurd cc
points-same hart (x ∷ xs) [] l e = absurd cc
points-same hart (None ∷ xs) (None ∷ ys) l e = ap (λ (zs : List (Option ℕ)). None ∷ zs) (points-same (suc hart) xs ys (cc) e)
points-same hart (None ∷ xs) (Some m ∷ ys) l e = absurd (omega (arith, points-above (suc hart) xs _ _ e))
points-same hart (Some n ∷ xs) (None ∷ ys) l e = absurd (omega (arith, points-above (suc hart) ys _ _ (sym e)))
points-same hart (Some n ∷ xs) (Some m ∷ ys) l e =
    let first : point_of hart n ≡ point_of hart m = cc in
    let number : n ≡ m = ap (λ (p : Point). p.number) first in
    let rest = points-same (suc hart) xs ys (cc) (cc) in
    cc

line-same : (a b : Line) → IsWhole a → IsWhole b → row_of a ≡ row_of b → a ≡ b
line-same a b wa wb e =
    let what : a.what ≡ b.what = cc in
    let points : points_from 0 a.arcs ≡ points_from 0 b.arcs = cc in
    let arcs = points-same 0 a.arcs b.arcs (wa ∙ sym wb) points in
    ap (λ w. record a { what = w }) what ∙ ap (λ x. record b { arcs = x }) arcs

lines-same : (xs ys : List Line) → All IsWhole xs → All IsWhole ys → map row_of xs ≡ map row_of ys → xs ≡ ys
lines-same [] [] wx wy e = refl
lines-same [] (y ∷ ys) wx wy e = absurd cc
lines-same (x ∷ xs) [] wx wy e = absurd cc
lines-same (x ∷ xs) (y ∷ ys) wx wy e =
    let first : row_of x ≡ row_of y = cc in
    let rest : map row_of xs ≡ map row_of ys = cc in
    let a = line-same x y (wx 0 x (omega arith)) (wy 0 y (omega arith)) first in
    let b = lines-same xs ys (λ k d h. wx (suc k) d (omega arith)) (λ k d h. wy (suc k) d (omega arith)) rest in
    cc

entries-same : (ps qs : List PageRun) (xs ys : List Line) → All IsWhole xs → All IsWhole ys → map page ps ++ map row_of xs ≡ map page qs ++ map row_of ys → (ps ≡ qs) × (xs ≡ ys)
entries-same [] [] xs ys wx wy e = (refl, lines-same xs ys wx wy e)
entries-same [] (q ∷ qs) [] ys wx wy e = absurd cc
entries-same [] (q ∷ qs) (x ∷ xs) ys wx wy e = absurd cc
entries-same (p ∷ ps) [] xs [] wx wy e = absurd cc
entries-same (p ∷ ps) [] xs (y ∷ ys) wx wy e = absurd cc
entries-same (p ∷ ps) (q ∷ qs) xs ys wx wy e =
    let first : p ≡ q = cc in
    let rest = entries-same ps qs xs ys wx wy cc in
    (ap (λ (r : PageRun). r ∷ ps) first ∙ ap (λ (rs : List PageRun). q ∷ rs) rest.0, rest.1)

-- a log is its harts, its block and its lines
pub log-same : (a b : Log) → All IsWhole a.lines → All IsWhole b.lines → a.harts ≡ b.harts → a.block ≡ b.block → entries_of a ≡ entries_of b → a ≡ b
log-same a b wa wb harts block entries =
    let both = entries-same a.pages b.pages a.lines b.lines wa wb entries in
    let one : a ≡ record b { pages = a.pages; lines = a.lines } = ap (λ h. record a { harts = h }) harts ∙ ap (λ k. record a { harts = b.harts; block = k }) block in
    one ∙ ap (λ p. record b { pages = p; lines = a.lines }) both.0 ∙ ap (λ l. record b { lines = l }) both.1
