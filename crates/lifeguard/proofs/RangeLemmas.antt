-- Nibbles stay below 8 and masks below 16.
use Rattle.std.specs.Prelude.{◌≡◌, ℕ, ◌+◌, ◌*◌, ◌-◌, ◌<◌, ◌≤◌, Bool, true, false, ◌&&◌, ◌==◌, not, List, [], ◌∷◌, ◌++◌, fold, Option, Some, None, option_map, if◌then◌else◌}
use Rattle.std.proofs.Common.{refl, sym, ◌∙◌, subst, arith, lit<, lit≤}
use Rattle.pl_base.specs.Widths.{store_bytes}
use Rattle.pl_base.specs.declared.widths.LoadWidth.{LoadWidth}
use Rattle.pl_base.specs.declared.widths.LoadWidth.TheVariants as load
use Rattle.pl_event.specs.declared.event.Event.{Event}
use Rattle.pl_event.specs.declared.event.Kind.{Kind}
use Rattle.pl_event.specs.declared.event.Kind.TheVariants.{Ld, St, Op, Mv, Im, Br, Jr, Al, Fr, Bf, Mp, Um, Rd, Wr, Ex, Ft}
use Rattle.pl_event.specs.declared.log.PageKind.TheVariants.{Data}
use Rattle.pl_event.specs.declared.log.PageRun.{PageRun}
use Rattle.lifeguard.specs.declared.guard.Name.{Name}
use Rattle.lifeguard.specs.declared.guard.Name.TheVariants as name
use Rattle.lifeguard.specs.declared.guard.RangeKind.TheVariants as range
use Rattle.lifeguard.specs.declared.report.EventPlace.{EventPlace}
use Rattle.lifeguard.specs.Rules.{Rules, KeepsLaws, all_or_none}
use Rattle.lifeguard.specs.State.{State, Bytes, Masks, is_in, changed, replaced, paged, with_mask, first_state, nibble_at, nothing}
use Rattle.lifeguard.specs.Plain.{rule, place_after, plain_from, plain_result, bytes_after, masks_after, mask_bit, bit_value, mask_from, load_bits, loaded_mask}
use Rattle.lifeguard.specs.Ranges.{AreNibbles, AreMasks, IsInRange}

-- ---- masks

bit_small : (b : Bool) → bit_value b ≤ 1
bit_small true = lit≤ tt
bit_small false = lit≤ tt

pub mask_small : (a b c d : Bool) → mask_from a b c d < 16
mask_small a b c d = omega (arith, bit_small)

pub load_small : (width : LoadWidth) (a b c d : Bool) → load_bits width a b c d < 16
load_small load.B a b c d = mask_small a a a a
load_small load.H a b c d = mask_small a b b b
load_small load.W a b c d = mask_small a b c d
load_small load.Bu a b c d = mask_small a false false false
load_small load.Hu a b c d = mask_small a b false false

all_or_none_small : (a b : ℕ) → all_or_none a b < 16
all_or_none_small a b = by ((a == 0) && (b == 0))
  where
    by : (none : Bool) → (if none then 0 else 15) < 16
    by true = lit< tt
    by false = lit< tt

abbrev IsAddr : Name → Type 0
IsAddr name.Addr = Unit {0}
IsAddr name.Taint = ⊥
IsAddr name.Mem = ⊥

joined_small : (rules : Rules) → KeepsLaws rules → (a b : ℕ) → rules.joins a b < 16
joined_small rules laws a b = by rules.name refl
  where
    other : (n : Name) → rules.name ≡ n → (IsAddr n → ⊥) → rules.joins a b < 16
    other n e never = subst (λ (mask : ℕ). mask < 16) (sym (laws.joined (λ f. never (subst IsAddr (sym f ∙ e) tt)) a b)) (all_or_none_small a b)

    by : (n : Name) → rules.name ≡ n → rules.joins a b < 16
    by name.Addr e = subst (λ (mask : ℕ). mask < 16) (sym (laws.addr_joins e a b)) (lit< tt)
    by name.Taint e = other name.Taint e (λ is. is)
    by name.Mem e = other name.Mem e (λ is. is)

with_small : (hart register mask : ℕ) (masks : Masks) → mask < 16 → AreMasks masks → AreMasks (with_mask hart register mask masks)
unfolding with_mask
with_small hart register mask masks low small h r = by ((h == hart) && (r == register) && not (register == 0))
  where
    by : (here : Bool) → (if here then mask else masks h r) < 16
    by true = low
    by false = small h r

module _ (rules : Rules) (laws : KeepsLaws rules) (hart : ℕ) (bytes : Bytes) (masks : Masks) (small : AreMasks masks) where
  loaded : (width : LoadWidth) (addr : ℕ) → loaded_mask rules width bytes addr < 16
  loaded width addr =
      load_small width (rules.load_bit (nibble_at bytes addr)) (rules.load_bit (nibble_at bytes (addr + 1)))
      (rules.load_bit (nibble_at bytes (addr + 2))) (rules.load_bit (nibble_at bytes (addr + 3)))

  set : (register mask : ℕ) → mask < 16 → AreMasks (with_mask hart register mask masks)
  set register mask low = with_small hart register mask masks low small

  pub masks_small : (kind : Kind) → AreMasks (masks_after rules hart kind bytes masks)
  masks_small (Ld width rd rb addr) = set rd (loaded_mask rules width bytes addr) (loaded width addr)
  masks_small (St width rv rb addr) = small
  masks_small (Op rd r1 r2) = set rd (rules.joins (masks hart r1) (masks hart r2)) (joined_small rules laws (masks hart r1) (masks hart r2))
  masks_small (Mv rd rs) = set rd (masks hart rs) (small hart rs)
  masks_small (Im rd) = set rd 0 (lit< tt)
  masks_small (Br r1 r2) = small
  masks_small (Jr rd rs) = set rd 0 (lit< tt)
  masks_small (Al addr len) = set 10 0 (lit< tt)
  masks_small (Fr addr len) = set 10 0 (lit< tt)
  masks_small (Bf addr) = set 10 0 (lit< tt)
  masks_small (Mp page count) = set 10 0 (lit< tt)
  masks_small (Um page count) = set 10 0 (lit< tt)
  masks_small (Rd addr len) = set 10 0 (lit< tt)
  masks_small (Wr addr len) = set 10 0 (lit< tt)
  masks_small Ex = small
  masks_small (Ft cause addr) = small

-- ---- nibbles

abbrev just : ℕ → Option ℕ
just n = Some n

some_same : (m n : ℕ) → just m ≡ just n → m ≡ n
some_same m n e = cc

none_some : (P : Type 0) (n : ℕ) → None ≡ just n → P
none_some P n e = absurd (cc)

mapped_small : (f : ℕ → ℕ) (old : Option ℕ) → ((n : ℕ) → n < 8 → f n < 8) → ((n : ℕ) → old ≡ Some n → n < 8) → (n : ℕ) → option_map f old ≡ Some n → n < 8
mapped_small f None fits low n e = none_some _ n e
mapped_small f (Some m) fits low n e = subst (λ (z : ℕ). z < 8) (some_same (f m) n e) (fits m (low m refl))

changed_small : (f : ℕ → ℕ → ℕ) (addr len : ℕ) (bytes : Bytes) → ((i old : ℕ) → old < 8 → f i old < 8) → AreNibbles bytes → AreNibbles (changed f addr len bytes)
unfolding changed
changed_small f addr len bytes fits small a n = by (is_in addr len a)
  where
    by : (inside : Bool) → (if inside then option_map (f (a - addr)) (bytes a) else bytes a) ≡ Some n → n < 8
    by true e = mapped_small (f (a - addr)) (bytes a) (fits (a - addr)) (small a) n e
    by false e = small a n e

replaced_small : (value : Option ℕ) (first len : ℕ) (bytes : Bytes) → ((n : ℕ) → value ≡ Some n → n < 8) → AreNibbles bytes → AreNibbles (replaced value first len bytes)
unfolding replaced
replaced_small value first len bytes low small a n = by (is_in first len a)
  where
    by : (inside : Bool) → (if inside then value else bytes a) ≡ Some n → n < 8
    by true e = low n e
    by false e = small a n e

-- a page that is mapped with a nibble, and one that is unmapped
filled_small : (nibble first count : ℕ) (bytes : Bytes) → nibble < 8 → AreNibbles bytes → AreNibbles (paged (Some nibble) first count bytes)
filled_small nibble first count bytes low small =
    replaced_small (Some nibble) (first * 4096) (count * 4096) bytes (λ n e. subst (λ (z : ℕ). z < 8) (some_same nibble n e) low) small

module _ (rules : Rules) (laws : KeepsLaws rules) (hart : ℕ) (bytes : Bytes) (masks : Masks) (small : AreNibbles bytes) where
  pub nibbles_small : (kind : Kind) → AreNibbles (bytes_after rules hart kind bytes masks)
  nibbles_small (Ld width rd rb addr) = small
  nibbles_small (St width rv rb addr) = changed_small (λ i old. rules.store_nibble old (mask_bit (masks hart rv) i)) addr (store_bytes width) bytes (λ i old. laws.store_below old (mask_bit (masks hart rv) i)) small
  nibbles_small (Op rd r1 r2) = small
  nibbles_small (Mv rd rs) = small
  nibbles_small (Im rd) = small
  nibbles_small (Br r1 r2) = small
  nibbles_small (Jr rd rs) = small
  nibbles_small (Al addr len) = changed_small (λ i old. rules.range_state range.Al old) addr len bytes (λ i old. laws.range_below range.Al old) small
  nibbles_small (Fr addr len) = changed_small (λ i old. rules.range_state range.Fr old) addr len bytes (λ i old. laws.range_below range.Fr old) small
  nibbles_small (Bf addr) = small
  nibbles_small (Mp page count) = filled_small (rules.page_state Data) page count bytes (laws.page_below Data) small
  nibbles_small (Um page count) = replaced_small None (page * 4096) (count * 4096) bytes (λ n e. none_some _ n e) small
  nibbles_small (Rd addr len) = changed_small (λ i old. rules.range_state range.Rd old) addr len bytes (λ i old. laws.range_below range.Rd old) small
  nibbles_small (Wr addr len) = small
  nibbles_small Ex = small
  nibbles_small (Ft cause addr) = small

-- ---- states

rule_in_range : (rules : Rules) → KeepsLaws rules → (at : EventPlace) (kind : Kind) (state : State) → IsInRange state → IsInRange (rule rules at kind state)
unfolding rule
rule_in_range rules laws at kind state is = record {
  nibbles = nibbles_small rules laws at.hart state.bytes state.masks is.nibbles kind;
  masks = masks_small rules laws at.hart state.bytes state.masks is.masks kind;
}

pages_small : (rules : Rules) → KeepsLaws rules → (bytes : Bytes) (pages : List PageRun) → AreNibbles bytes
    → AreNibbles (fold (λ (bytes : Bytes) (run : PageRun). paged (Some (rules.page_state run.kind)) run.first run.count bytes) bytes pages)
pages_small rules laws bytes [] small = small
pages_small rules laws bytes (run ∷ pages) small =
    pages_small rules laws (paged (Some (rules.page_state run.kind)) run.first run.count bytes) pages
    (filled_small (rules.page_state run.kind) run.first run.count bytes (laws.page_below run.kind) small)

first_in_range : (rules : Rules) → KeepsLaws rules → (pages : List PageRun) → IsInRange (first_state rules pages)
first_in_range rules laws pages = record {
  nibbles = pages_small rules laws nothing pages (λ addr n e. none_some _ n e);
  masks = λ h r. lit< tt;
}

from_in_range : (rules : Rules) → KeepsLaws rules → (before : List Event) (state : State) (events : List Event) → IsInRange state → IsInRange (plain_from rules before state events)
from_in_range rules laws before state [] is = is
from_in_range rules laws before state (event ∷ events) is =
    from_in_range rules laws (before ++ event ∷ []) (rule rules (place_after before event) event.kind state) events
    (rule_in_range rules laws (place_after before event) event.kind state is)

pub plain_in_range : (rules : Rules) → KeepsLaws rules → (pages : List PageRun) (events : List Event) → IsInRange (plain_result rules pages events)
plain_in_range rules laws pages events = from_in_range rules laws [] (first_state rules pages) events (first_in_range rules laws pages)
