-- Calls that are to fail by their numbers.
use Rattle.std.specs.Prelude.{ℕ, ◌+◌, ◌-◌, ◌^◌, min, List, Contains}

-- the numbers of the calls that are to fail, and how many calls were made and failed
pub record Plan : Type 0 where
  pub fails : List ℕ
  pub calls : ℕ
  pub faults : ℕ

-- the count after one more, which stays at the last value of 64 bits
abbrev pub one_more : ℕ → ℕ
one_more count = min (count + 1) (2 ^ 64 - 1)

-- the next call's number, from 1, is one of those that are to fail
abbrev pub NamesNext : Plan → Type 0
NamesNext plan = Contains plan.fails (one_more plan.calls)

-- after a call that did not fail
abbrev pub after_call : Plan → Plan
after_call plan = record plan { calls = one_more plan.calls }

-- after a call that failed
abbrev pub after_fault : Plan → Plan
after_fault plan = record plan { calls = one_more plan.calls; faults = one_more plan.faults }

-- before the first call
abbrev pub new_plan : List ℕ → Plan
new_plan fails = record { fails = fails; calls = 0; faults = 0 }
