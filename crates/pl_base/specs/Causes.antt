-- What a call of a source or a sink says of its count of faults.
use Rattle.std.specs.Prelude.{◌≡◌, ℕ, ◌+◌, ◌-◌, ◌^◌, ◌<◌, ◌≤◌, min, OnOk, OnErr, IsErrOf, Result}
use Rattle.pl_base.specs.declared.loops.ReadEnd.{ReadEnd}
use Rattle.pl_base.specs.declared.loops.ReadEnd.TheVariants.{Fault, TooLong, NoMemory}

-- a count of 64 bits went up, or is at its last value
pub record Rose (before now : ℕ) : Type 0 where
  pub risen : min (before + 1) (2 ^ 64 - 1) ≤ now
  pub counted : now < 2 ^ 64

-- a count of 64 bits never falls, a success leaves it as it was, and a failure has a fault that was counted
pub record HasCause {T E : Type 0} (before now : ℕ) (result : Result T E) : Type 0 where
  pub later : before ≤ now
  pub counted : now < 2 ^ 64
  pub quiet : OnOk result (now ≡ before)
  pub failed : OnErr result (Rose before now)

-- the same of many reads: the count rises where one of them failed, and nothing else changes it
pub record HasReadCause {T : Type 0} (before now : ℕ) (result : Result T ReadEnd) : Type 0 where
  pub later : before ≤ now
  pub quiet : OnOk result (now ≡ before)
  pub fault : IsErrOf result Fault → Rose before now
  pub too_long : IsErrOf result TooLong → now ≡ before
  pub no_memory : IsErrOf result NoMemory → now ≡ before
