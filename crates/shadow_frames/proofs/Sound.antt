-- Operations on all four lanes of a word of the table.
use Rattle.std.proofs.Common.{◌≡◌, ℕ, zero, suc, ◌<◌, ◌≤◌, Bool, true, false, refl, arith}
use Rattle.order_core.specs.Lanes.{covers}
use Rattle.order_core.specs.Shapes.{IsSoundShape}
use Rattle.shadow_frames.specs.Frames.{reads_lanes, reads, writes}

no_both : (b : Bool) → b ≡ true → b ≡ false → ⊥
no_both b t f = cc

-- fifteen names each lane
pub all_covered : (j : ℕ) → j < 4 → covers 15 j ≡ true
unfolding covers
all_covered zero lt = refl
all_covered (suc zero) lt = refl
all_covered (suc (suc zero)) lt = refl
all_covered (suc (suc (suc zero))) lt = refl
all_covered (suc (suc (suc (suc j)))) lt = absurd (omega arith)

pub lanes_read_sound : (check : Bool) (lanes x : ℕ) → (1 ≤ lanes) × (lanes ≤ 15) → 9 ≤ x → x < 135185 → IsSoundShape 135185 (reads_lanes check lanes x)
lanes_read_sound check lanes x some low high = record { low = low; high = high; lanes = some; fitting = λ never. absurd (no_both false never refl) }

pub read_sound : (x : ℕ) → 9 ≤ x → x < 135185 → IsSoundShape 135185 (reads x)
read_sound x low high = lanes_read_sound false 15 x (omega arith, omega arith) low high

pub write_sound : (x : ℕ) (g : ℕ → ℕ) → 9 ≤ x → x < 135185 → IsSoundShape 135185 (writes x g)
write_sound x g low high = record {
  low = low;
  high = high;
  lanes = (omega arith, omega arith);
  fitting = λ is v j lt off. absurd (no_both (covers 15 j) (all_covered j lt) off);
}
