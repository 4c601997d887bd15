-- What a sink into memory takes.
use Rattle.std.specs.Prelude.{ℕ, ◌-◌, ◌≡◌, ◌⊎◌, min, List, [], take, ◌++◌}
use Rattle.pl_base.specs.FaultPlan.{Plan, new_plan, NamesNext, after_call, after_fault}

-- the bytes written, how many more there is room for, how many a write takes at most, and which writes fail
pub record Output : Type 0 where
  pub written : List ℕ
  pub room : ℕ
  pub piece : ℕ
  pub plan : Plan

-- before the first write
abbrev pub new_output : ℕ → ℕ → List ℕ → Output
new_output room piece fails = record { written = []; room = room; piece = piece; plan = new_plan fails }

-- how many bytes of this many a write takes that does not fail
abbrev pub taken : Output → ℕ → ℕ
taken output count = min (min output.room output.piece) count

-- the next write is to fail, or no room is left
abbrev pub FailsNext : Output → Type 0
FailsNext output = NamesNext output.plan ⊎ (output.room ≡ 0)

-- after a write that took the first n of these bytes
abbrev pub after_write : Output → List ℕ → ℕ → Output
after_write output bytes n = record output {
  written = output.written ++ take n bytes;
  room = output.room - n;
  plan = after_call output.plan;
}

-- after a write that failed
abbrev pub after_failed_write : Output → Output
after_failed_write output = record output { plan = after_fault output.plan }
