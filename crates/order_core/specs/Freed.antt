-- Harts whose seats were freed.
use Rattle.std.specs.Prelude.{◌≡◌, ℕ}
use Rattle.order_core.specs.declared.course.Course.{Course}
use Rattle.order_core.specs.Course.{length_of, writes_of}
use Rattle.order_core.specs.Core.{Core, put}

module _ (c : Course) where
  -- the hart has advertised its last record, so that its seat may be freed
  abbrev pub HasEnded : Core → ℕ → Type 0
  HasEnded k h = k.progress h ≡ length_of c h

  -- a hart whose seat was freed counts as one that has performed all its writes and seen each progress word
  abbrev pub after_free : Core → ℕ → Core
  after_free k h = record k { written = put k.written h (writes_of c h); seen = put k.seen h k.progress }
