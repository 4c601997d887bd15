-- The state of a lifeguard: nibbles of mapped bytes, masks of registers, and reports.
use Rattle.std.specs.Prelude.{ℕ, zero, suc, ◌+◌, ◌-◌, ◌*◌, Bool, not, ◌&&◌, ◌==◌, nat_lt, nat_le, List, [], ◌∷◌, Option, Some, None, option_map, unwrap_or, fold, if◌then◌else◌}
use Rattle.pl_base.specs.declared.layout.TheConstants.{PAGE_BYTES}
use Rattle.pl_event.specs.declared.log.PageRun.{PageRun}
use Rattle.lifeguard.specs.declared.report.Report.{Report}
use Rattle.lifeguard.specs.Rules.{Rules}

-- the nibble of each byte of a mapped page
abbrev pub Bytes : Type 0
Bytes = ℕ → Option ℕ

-- the mask of each register of each hart
abbrev pub Masks : Type 0
Masks = ℕ → ℕ → ℕ

pub record State : Type 0 where
  pub bytes : Bytes
  pub masks : Masks
  pub reports : List Report

-- a byte of no mapped page reads as nibble 0
abbrev pub nibble_at : Bytes → ℕ → ℕ
nibble_at bytes addr = unwrap_or (bytes addr) 0

-- the addresses of a range
abbrev pub span : ℕ → ℕ → List ℕ
span addr zero = []
span addr (suc len) = addr ∷ span (suc addr) len

abbrev pub is_in : ℕ → ℕ → ℕ → Bool
is_in addr len a = nat_le addr a && nat_lt a (addr + len)

-- each mapped byte of a range has the nibble that f makes of its place in the range and its old nibble
unfoldable pub changed : (ℕ → ℕ → ℕ) → ℕ → ℕ → Bytes → Bytes
changed f addr len bytes a = if is_in addr len a then option_map (f (a - addr)) (bytes a) else bytes a

-- each byte of a range is mapped with this nibble, or unmapped
unfoldable pub replaced : Option ℕ → ℕ → ℕ → Bytes → Bytes
replaced value addr len bytes a = if is_in addr len a then value else bytes a

-- pages of 4,096 bytes, all mapped with one nibble or all unmapped
abbrev pub paged : Option ℕ → ℕ → ℕ → Bytes → Bytes
paged value first count bytes = replaced value (first * PAGE_BYTES) (count * PAGE_BYTES) bytes

-- register 0 keeps its mask
unfoldable pub with_mask : ℕ → ℕ → ℕ → Masks → Masks
with_mask hart register mask masks h r =
    if (h == hart) && (r == register) && not (register == 0) then mask else masks h r

abbrev pub nothing : Bytes
nothing a = None

-- all masks are 0
abbrev pub clear : Masks
clear h r = 0

-- before the first event: the pages of the start, all masks 0, no report
abbrev pub first_state : Rules → List PageRun → State
first_state rules pages = record {
  bytes = fold (λ bytes run. paged (Some (rules.page_state run.kind)) run.first run.count bytes) nothing pages;
  masks = clear;
  reports = [];
}
