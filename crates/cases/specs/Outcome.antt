use Rattle.std.specs.Prelude.{◌≡◌}
use Rattle.cases.specs.declared.outcome.Outcome.{Outcome}

-- Two commands came to the same.
abbrev pub IsSame : Outcome → Outcome → Type 0
IsSame a b = (a.status ≡ b.status) × (a.output.items ≡ b.output.items)
    × (a.note.items ≡ b.note.items) × (a.left ≡ b.left)
