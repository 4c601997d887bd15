-- How far the harts of a run are, and what they may do next.
use Rattle.std.specs.Prelude.{◌≡◌, ◌≢◌, ℕ, ◌+◌, ◌-◌, ◌<◌, ◌≤◌, Bool, true, false, nat_lt, ◌==◌, length, slice_index, if◌then◌else◌}
use Rattle.pl_base.specs.declared.layout.TheConstants.{LANES}
use Rattle.order_core.specs.declared.course.TheConstants.{FIRST_WORD}
use Rattle.pl_event.specs.Needs.{IsNeed}
use Rattle.order_core.specs.declared.course.Course.{Course}
use Rattle.order_core.specs.declared.course.Operation.{Operation}
use Rattle.order_core.specs.Lanes.{lane, Meets}
use Rattle.order_core.specs.Course.{At, rank, left_by, length_of}

-- for each hart its performed writes, its progress word and what it has seen of each other's, and the words from 9 on
pub record Core : Type 0 where
  pub written : ℕ → ℕ
  pub progress : ℕ → ℕ
  pub seen : ℕ → ℕ → ℕ
  pub word : ℕ → ℕ

-- nothing is done
abbrev pub opening_core : Course → Core
opening_core c = record { written = λ h. 0; progress = λ h. 0; seen = λ h u. 0; word = λ w. slice_index c.opening w }

module _ (c : Course) where
  abbrev pub done_by : (ℕ → ℕ) → ℕ → Operation → Bool
  done_by written p a = nat_lt (rank a.hart c.operations p) (written a.hart)

  -- the write a, at position p, is performed
  abbrev pub IsDone : (ℕ → ℕ) → ℕ → Operation → Type 0
  IsDone written p a = rank a.hart c.operations p < written a.hart

  -- the needs of hart h's records up to m were seen
  abbrev pub IsMet : (ℕ → ℕ) → ℕ → ℕ → Type 0
  IsMet seen h m = (u n k : ℕ) → IsNeed c.log.lines u n h k → k ≤ m → n ≤ seen u

  -- hart h has passed its records up to m: their needs are met and their writes performed
  abbrev pub IsPassed : ℕ → (ℕ → ℕ) → ℕ → ℕ → Type 0
  IsPassed written seen h m = (m ≤ length_of c h) × IsMet seen h m
      × ((p : ℕ) (a : Operation) → At c p a → a.hart ≡ h → a.what.write ≡ true → a.number ≤ m
      → rank h c.operations p < written)

  -- the number of records that hart h has passed
  pub record IsCursor (written : ℕ) (seen : ℕ → ℕ) (h n : ℕ) : Type 0 where
    pub passed : IsPassed written seen h n
    pub most : (m : ℕ) → IsPassed written seen h m → m ≤ n

  -- the next write of the hart is the one at p, and the needs of its record are met
  abbrev pub MayWrite : ℕ → ℕ → (ℕ → ℕ) → ℕ → Operation → Type 0
  MayWrite h written seen p a = At c p a × (a.what.write ≡ true) × (a.hart ≡ h)
      × (rank h c.operations p ≡ written) × IsMet seen h a.number

  -- the hart may make the read at p: the needs of its record are met, the record is above the progress word, and of the
  -- hart's writes that clash with it exactly those before it are performed
  abbrev pub MayRead : ℕ → ℕ → ℕ → (ℕ → ℕ) → ℕ → Operation → Type 0
  MayRead h written progress seen p a = At c p a × (a.what.write ≡ false) × (a.hart ≡ h)
      × IsMet seen h a.number × (progress < a.number)
      × ((q : ℕ) (b : Operation) → At c q b → b.what.write ≡ true → b.hart ≡ h → Meets b.what a.what
      → (rank h c.operations q < written → q < p) × (q < p → rank h c.operations q < written))

  -- the read at p is open: hart h may make it at k
  abbrev pub IsOpen : Core → ℕ → ℕ → Operation → Type 0
  IsOpen k h p a = MayRead h (k.written h) (k.progress h) (k.seen h) p a

  -- the write at p is the next of hart h, which may make it at k
  abbrev pub IsNextWrite : Core → ℕ → ℕ → Operation → Type 0
  IsNextWrite k h p a = MayWrite h (k.written h) (k.seen h) p a

  -- of each performed write, the earlier writes that clash with it are performed, and the earlier reads of other harts
  -- that clash with it are advertised. Each lane holds what the performed writes leave there
  pub record IsClosed (k : Core) : Type 0 where
    pub writes : (p q : ℕ) (a b : Operation) → At c p a → At c q b → q < p → a.what.write ≡ true → b.what.write ≡ true
        → Meets a.what b.what → IsDone k.written p a → IsDone k.written q b
    pub reads : (p q : ℕ) (a b : Operation) → At c p a → At c q b → q < p → a.what.write ≡ true → b.what.write ≡ false
        → Meets a.what b.what → a.hart ≢ b.hart → IsDone k.written p a → b.number ≤ k.progress b.hart
    pub words : (w j : ℕ) → FIRST_WORD ≤ w → w < length c.opening → j < LANES
        → lane j (k.word w) ≡ left_by c (done_by k.written) w j

  -- each progress word is at most the cursor, nothing above a progress word was seen, and the needs of each performed
  -- write's record are met
  pub record HasSoundProgress (k : Core) : Type 0 where
    pub passed : (h : ℕ) → IsPassed (k.written h) (k.seen h) h (k.progress h)
    pub seen : (h u : ℕ) → k.seen h u ≤ k.progress u
    pub met : (p : ℕ) (a : Operation) → At c p a → a.what.write ≡ true → IsDone k.written p a
        → IsMet (k.seen a.hart) a.hart a.number

  -- closed, with sound progress
  abbrev pub IsConsistent : Core → Type 0
  IsConsistent k = IsClosed k × HasSoundProgress k

  -- each hart has advertised all its records
  abbrev pub IsFinished : Core → Type 0
  IsFinished k = (h : ℕ) → h < c.log.harts → k.progress h ≡ length_of c h

-- f, with x at h
abbrev pub put : {A : Type 0} → (ℕ → A) → ℕ → A → ℕ → A
put f h x u = if u == h then x else f u

-- the write is performed, and its word holds n
abbrev pub after_write : Core → Operation → ℕ → Core
after_write k a n = record k { written = put k.written a.hart (k.written a.hart + 1); word = put k.word a.what.word n }

abbrev pub after_advertise : Core → ℕ → ℕ → Core
after_advertise k h m = record k { progress = put k.progress h m }

abbrev pub after_see : Core → ℕ → ℕ → Core
after_see k h u = record k { seen = put k.seen h (put (k.seen h) u (k.progress u)) }

-- word i of the table other than word 0: words 1 to 8 are the progress words of harts 0 to 7
abbrev pub table_word : Core → ℕ → ℕ
table_word k i = if nat_lt i FIRST_WORD then k.progress (i - 1) else k.word i
