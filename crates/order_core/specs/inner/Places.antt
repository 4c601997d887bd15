-- Places in the streams of harts, and writes between them.
use Rattle.std.specs.Prelude.{◌≡◌, ℕ, ◌+◌, ◌*◌, ◌<◌, ◌≤◌, ◌⊎◌, true, Option, Some, None}
use Rattle.order_core.specs.declared.course.Course.{Course}
use Rattle.order_core.specs.declared.course.Op.{Op}
use Rattle.order_core.specs.declared.course.Operation.{Operation}
use Rattle.order_core.specs.declared.place.Place.{Place}
use Rattle.order_core.specs.Lanes.{Meets}
use Rattle.order_core.specs.Course.{At, length_of}
use Rattle.order_core.specs.Lawful.{IsName}

-- operation i of record n: a place is earlier in a stream where its number is lower, since a record has fewer than 2^32
-- operations
abbrev pub place : ℕ → ℕ → ℕ
place n i = n * 4294967296 + i

abbrev pub operation_place : Operation → ℕ
operation_place a = place a.number a.op

abbrev pub place_of : Place → ℕ
place_of p = place p.number p.op

-- the place after the last record of a hart
abbrev pub end_of : Course → ℕ → ℕ
end_of c h = place (length_of c h + 1) 0

-- the operation of hart h at the place is a write
abbrev pub HasWriteAt : Course → ℕ → Place → Type 0
HasWriteAt c h at = (p : ℕ) × (a : Operation) × At c p a × IsName h at.number at.op a × (a.what.write ≡ true)

-- it is a write that clashes with the read
abbrev pub ClashesIf : Option Op → Op → Type 0
ClashesIf None read = ⊥
ClashesIf (Some o) read = (o.write ≡ true) × Meets o read

-- a write of hart h that clashes with the read is between two places, the first of them included
abbrev pub ClashesBetween : Course → ℕ → Op → ℕ → ℕ → Type 0
ClashesBetween c h read low high = (q : ℕ) × (b : Operation) × At c q b × (b.what.write ≡ true) × (b.hart ≡ h)
    × Meets b.what read × (low ≤ operation_place b) × (operation_place b < high)

-- such a write is between two places, whichever of them is first
abbrev pub ClashesAround : Course → ℕ → Op → ℕ → ℕ → Type 0
ClashesAround c h read p q = ClashesBetween c h read p q ⊎ ClashesBetween c h read q p
