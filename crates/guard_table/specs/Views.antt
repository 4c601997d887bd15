-- The views of the seats, and what a word step makes of them.
use Rattle.std.specs.Prelude.{◌≡◌, ℕ, ◌+◌, [], ◌∷◌, length, slice_index, slice_set, replicate, max}
use Rattle.pl_base.specs.declared.layout.TheConstants.{MAX_HARTS}
use Rattle.atomic_table.specs.declared.shared.Seat.{Seat}
use Rattle.order_core.specs.declared.course.Course.{Course}
use Rattle.order_core.specs.Core.{Core}
use Rattle.guard_table.specs.declared.view.View.{View}
use Rattle.guard_table.specs.declared.view.Role.TheVariants.{OfHead, OfHart, OfNote, Spent}

-- the head's at the start: no seat was made
abbrev pub first_view : Course → View
first_view c = record {
  role = OfHead;
  course = c;
  hart = 0;
  written = 0;
  progress = 0;
  seen = [];
  learnt = [];
  looks = [];
  made = [];
  freed = [];
}

-- the head's after it makes the seat of hart h, and that hart's, which has done and seen nothing
abbrev pub made_seat : ℕ → View → View
made_seat h v = record v { made = h ∷ v.made }

abbrev pub fresh_view : ℕ → View → View
fresh_view h v = record {
  role = OfHart;
  course = v.course;
  hart = h;
  written = 0;
  progress = 0;
  seen = replicate MAX_HARTS 0;
  learnt = replicate MAX_HARTS 0;
  looks = replicate MAX_HARTS 0;
  made = [];
  freed = [];
}

-- the head's after it takes back the seat of hart h
abbrev pub freed_seat : ℕ → View → View
freed_seat h v = record v { freed = h ∷ v.freed }

-- a hart's after it finds n in the progress word of hart u
abbrev pub looked : ℕ → ℕ → View → View
looked u n v = record v { seen = slice_set v.seen u n; looks = slice_set v.looks u (slice_index v.looks u + 1) }

-- a hart's after it stores n in its progress word
abbrev pub advertised : ℕ → View → View
advertised n v = record v { progress = n }

-- a hart's after it performs a write
abbrev pub wrote : View → View
wrote v = record v { written = v.written + 1 }

-- a note's: the hart and its progress word
abbrev pub told_by : View → View
told_by v = record {
  role = OfNote;
  course = v.course;
  hart = v.hart;
  written = 0;
  progress = v.progress;
  seen = [];
  learnt = [];
  looks = [];
  made = [];
  freed = [];
}

-- a hart's after it takes in a note
abbrev pub learnt_from : View → View → View
learnt_from note v =
    let most = max (slice_index v.learnt note.hart) note.progress in
    record v { learnt = slice_set v.learnt note.hart most }

-- what is left of a view that was joined into another
abbrev pub spent_view : View
spent_view = record {
  role = Spent;
  course = record { log = record { harts = 0; block = 0; pages = []; lines = [] }; operations = []; opening = [] };
  hart = 0;
  written = 0;
  progress = 0;
  seen = [];
  learnt = [];
  looks = [];
  made = [];
  freed = [];
}

-- the state of the core as far as a hart knows it: what it says of other harts and of words means nothing
abbrev pub known_core : View → Core
known_core v = record {
  written = λ h. v.written;
  progress = λ h. v.progress;
  seen = λ h. slice_index v.seen;
  word = λ w. 0;
}

-- a hart's view speaks of eight harts
abbrev pub HasEight : View → Type 0
HasEight v = (length v.seen ≡ MAX_HARTS) × (length v.learnt ≡ MAX_HARTS) × (length v.looks ≡ MAX_HARTS)

-- the seat's table has as many words as its run, and the seat holds no slot
abbrev pub IsOnTable : Seat (Unit {0}) View → Type 0
IsOnTable s = (s.table_id.words ≡ length s.me.0.course.opening) × (s.me.1 ≡ [])
