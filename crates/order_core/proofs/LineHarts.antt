-- The harts of the lines of a log.
use Rattle.std.proofs.Common.{◌≡◌, ℕ, zero, suc, ◌<◌, ◌≤◌, List, [], ◌∷◌, length, get_or, Some, None, refl, arith}
use mathlib.Core.Option.{some}
use lib.ListN.{get_elem?}
use Rattle.pl_event.specs.declared.log.Line.{Line}
use Rattle.pl_event.specs.Numbers.{hart_of}
use Rattle.order_core.specs.FedCore.{hart_at}

pub line_there : (g : List Line) (i h : ℕ) → hart_at g i ≡ Some h → (l : Line) × (get_elem? g i ≡ some l) × (hart_of l.what ≡ h)
line_there [] i h e = absurd (let f : None ≡ Some h = e in cc)
line_there (x ∷ g) zero h e = (x, refl, (let f : Some (hart_of x.what) ≡ Some h = e in cc))
line_there (x ∷ g) (suc i) h e = line_there g i h e

pub no_line : (g : List Line) (i : ℕ) → hart_at g i ≡ None → length g ≤ i
no_line [] i e = omega arith
no_line (x ∷ g) zero e = absurd (let f : Some (hart_of x.what) ≡ None = e in cc)
no_line (x ∷ g) (suc i) e = let l : length g ≤ i = no_line g i e in omega arith

pub past_lines : (g : List Line) (i : ℕ) → length g ≤ i → hart_at g i ≡ None
past_lines [] i l = refl
past_lines (x ∷ g) zero l = absurd (omega arith)
past_lines (x ∷ g) (suc i) l = past_lines g i (omega arith)

pub hart_there : (g : List Line) (i : ℕ) (d : Line) → i < length g → hart_at g i ≡ Some (hart_of (get_or g i d).what)
hart_there [] i d l = absurd (omega arith)
hart_there (x ∷ g) zero d l = refl
hart_there (x ∷ g) (suc i) d l = hart_there g i d (omega arith)
