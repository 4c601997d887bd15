-- What a word is, from the row that it is in, and back.
use Rattle.std.proofs.Common.{◌≡◌, ℕ, Option, Some, None, IsNone, IfSome, ◌↔◌, refl}
use Rattle.std.specs.Option.{option_map}
use Rattle.rv_isa.specs.declared.instruction.Instr.{Instr}
use Rattle.rv_isa.specs.Table.{Operation, IsIn, operation_of, instruction_of, with_fields}
use Rattle.rv_isa.specs.Valid.{IsValid}
use Rattle.rv_isa.proofs.FieldRanges.{fields_valid}
use Rattle.rv_isa.proofs.Lookup.{made, none}
use Rattle.rv_isa.proofs.Rows.{in_row, is_in_row, in_no_row}

-- the row of an instruction that was read
pub record Found (w : ℕ) (i : Instr) : Type 0 where
  pub o : Operation
  pub is_in : IsIn w o
  pub is : with_fields o w ≡ i

pub found : (w : ℕ) (i : Instr) → instruction_of w ≡ Some i → Found w i
unfolding instruction_of
found w i e =
    let split : (v : Option Operation) → operation_of w ≡ v → option_map (λ o. with_fields o w) v ≡ Some i → Found w i = λ v.
    elim v as (λ v. operation_of w ≡ v → option_map (λ o. with_fields o w) v ≡ Some i → Found w i) [
      | None ↦ λ f g. absurd (cc)
      | Some o ↦ λ f g. record { o = o; is_in = is_in_row w o f; is = cc }
    ] in
    split (operation_of w) refl e

pub of_row : (w : ℕ) (o : Operation) → IsIn w o → instruction_of w ≡ Some (with_fields o w)
of_row w o h = made w o (in_row o w h)

some_is_not_none : (i : Instr) → IsNone (Some i) → ⊥
some_is_not_none i h = cc

pub of_no_row : (w : ℕ) → IsNone (instruction_of w) ↔ ((o : Operation) → IsIn w o → ⊥)
of_no_row w = ((λ no o h. let is = of_row w o h in some_is_not_none (with_fields o w) (rw is at no)), (λ h. rw (none w (in_no_row w h)) refl))

pub valid_where_read : (w : ℕ) → IfSome (instruction_of w) IsValid
unfolding instruction_of
valid_where_read w =
    elim (operation_of w) as (λ v. IfSome (option_map (λ o. with_fields o w) v) IsValid) [
      | None ↦ tt
      | Some o ↦ fields_valid o w
    ]
