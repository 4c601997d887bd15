-- What a stream has read after it was filled, after a line was passed, and at its end.
use Rattle.std.proofs.Common.{◌≡◌, ℕ, ◌+◌, ◌^◌, ◌<◌, ◌≤◌, Bool, true, false, List, [], ◌++◌, length, drop, Option, Some, None, refl, sym, ap, subst, ◌∙◌, append_assoc, arith, inl, inr}
use Rattle.std.specs.Prelude.{eqb, All, Result, Ok, Err, OnOk, IfErr}
use Rattle.std.specs.Io.KnownBytes.{Consumes}
use Rattle.std.proofs.lemmas.List.{append-nil, length-append}
use Rattle.pl_base.specs.Fronts.{TakesFront}
use Rattle.pl_base.specs.LineBuffer.{Window, Fills, Skips}
use Rattle.pl_base.specs.declared.loops.ReadEnd.{ReadEnd}
use Rattle.pl_base.specs.declared.loops.ReadEnd.TheVariants as read_end
use Rattle.pl_base.proofs.Known.{Consumes-then}
use Rattle.pl_base.proofs.Lines.{ends_line-drop}
use Rattle.pl_event.specs.declared.log.Log.{Log}
use Rattle.pl_event.specs.declared.log.PageRun.{PageRun}
use Rattle.log_text.specs.declared.reader.LogReader.{LogReader}
use Rattle.log_text.specs.declared.reader.Row.{Row}
use Rattle.log_text.specs.declared.stream.LogStream.{LogStream}
use Rattle.log_text.specs.Reading.{HoldsLine, whole_lines, last_bytes, HoldsNext, HasRead, ReadsRow, with_line, line_of}
use Rattle.log_text.specs.Streaming.{Streams, IsStreamed, StreamsRow, WasRead, IsReady, bytes_ahead}
use Rattle.log_text.proofs.ReaderLemmas.{no_bytes}
use Rattle.log_text.proofs.RowLaws.{pages_lawful}

-- Filling

-- what is at hand and what is to come is the same list, before and after
same_rest : (before after : Window) (bytes later : List ℕ) → before.front ≡ [] → after.front ++ after.begun ≡ before.begun ++ bytes
    → before.front ++ (before.begun ++ (bytes ++ later)) ≡ after.front ++ (after.begun ++ later)
same_rest before after bytes later empty joined =
    ap (λ (t : List ℕ). t ++ (before.begun ++ (bytes ++ later))) empty
    ∙ sym (append_assoc before.begun bytes later)
    ∙ ap (λ (t : List ℕ). t ++ later) (sym joined)
    ∙ append_assoc after.front after.begun later

pub filled : (limit : ℕ) (began old new : Option (List ℕ)) (before after : Window) (R : List ℕ → List ℕ → Type 0) → before.front ≡ [] → before.ended ≡ false → Fills old new before after → Streams limit began old before R → Streams limit began new after R
filled limit began old new before after R empty going fills streams = record {
  small = streams.small;
  taken = streams.taken ++ fills.bytes;
  consumed = Consumes-then began old new streams.taken fills.bytes streams.consumed fills.taken;
  counted = omega (arith, streams.counted, fills.counted, length-append streams.taken fills.bytes);
  lines = λ going_on. (fills.whole going_on).1;
  ended = fills.last;
  reads = λ later done.
      let whole = streams.reads (fills.bytes ++ later) (λ over. let clash : true ≡ false = sym over ∙ going in absurd cc) in
      let here : R (streams.taken ++ (fills.bytes ++ later)) (after.front ++ (after.begun ++ later)) = subst (R (streams.taken ++ (fills.bytes ++ later))) (same_rest before after fills.bytes later empty fills.joined) whole in
      subst (λ (b : List ℕ). R b (after.front ++ (after.begun ++ later))) (sym (append_assoc streams.taken fills.bytes later)) here;
}

pub filled_ready : (old new : Option (List ℕ)) (before after : Window) → Fills old new before after → IsReady after
filled_ready old new before after fills = known after.ended refl
  where
    known : (b : Bool) → after.ended ≡ b → IsReady after
    known true e = inr e
    known false e = inl (fills.whole e).0

pub filled_ahead : (old new : Option (List ℕ)) (before after : Window) → before.front ≡ [] → Fills old new before after → bytes_ahead after ≡ bytes_ahead before
filled_ahead old new before after empty fills =
    omega (arith, fills.counted, ap length fills.joined, ap length empty, length-append after.front after.begun, length-append before.begun fills.bytes)

-- what was taken in all, where reading stopped
pub stopped : (limit : ℕ) (began old new : Option (List ℕ)) (window : Window) (R : List ℕ → List ℕ → Type 0) (end : ReadEnd) → Streams limit began old window R → TakesFront end old new window.spare → TakesFront end began new limit
stopped limit began old new window R read_end.Fault streams takes = record {
  front = streams.taken ++ takes.front;
  long = omega arith;
  short = omega (arith, takes.short, streams.counted, length-append streams.taken takes.front);
  taken = Consumes-then began old new streams.taken takes.front streams.consumed takes.taken;
}
stopped limit began old new window R read_end.TooLong streams takes = record {
  front = streams.taken ++ takes.front;
  long = omega (arith, takes.long, streams.counted, length-append streams.taken takes.front);
  short = omega (arith, takes.short, streams.counted, length-append streams.taken takes.front);
  taken = Consumes-then began old new streams.taken takes.front streams.consumed takes.taken;
}
stopped limit began old new window R read_end.NoMemory streams takes = record {
  front = streams.taken ++ takes.front;
  long = omega arith;
  short = omega (arith, takes.short, streams.counted, length-append streams.taken takes.front);
  taken = Consumes-then began old new streams.taken takes.front streams.consumed takes.taken;
}

-- what was taken is within the limit
pub taken_within : (limit : ℕ) (began now : Option (List ℕ)) (window : Window) (R : List ℕ → List ℕ → Type 0) → Streams limit began now window R → TakesFront read_end.NoMemory began now limit
taken_within limit began now window R streams = record { front = streams.taken; long = omega arith; short = omega (arith, streams.counted); taken = streams.consumed }

-- Lines

-- the window holds the next line whole
pub holds_next : (limit : ℕ) (began now : Option (List ℕ)) (window : Window) (R : List ℕ → List ℕ → Type 0) (streams : Streams limit began now window R) (later : List ℕ) → (window.ended ≡ true → later ≡ []) → IsReady window
    → HoldsNext (streams.taken ++ later) window.front (window.begun ++ later)
holds_next limit began now window R streams later done ready = record {
  line = known window.ended refl ready;
  few = omega (arith, streams.small, streams.counted, length-append streams.taken later, length-append window.begun later);
}
  where
    over : window.ended ≡ true → HoldsLine window.front (window.begun ++ later)
    over e = last_bytes (ap (λ (t : List ℕ). t ++ later) (streams.ended e).0 ∙ done e)

    known : (b : Bool) → window.ended ≡ b → IsReady window → HoldsLine window.front (window.begun ++ later)
    known true e ready = over e
    known false e (inl some) = whole_lines some (streams.lines e)
    known false e (inr e') = over e'

abbrev pub behind_line : Window → ℕ → Window
behind_line window len = record window { front = drop len window.front }

-- what a line makes of what is known, where the text is what is at hand
abbrev pub Moves : (List ℕ → List ℕ → Type 0) → (List ℕ → List ℕ → Type 0) → ℕ → List ℕ → Type 0
Moves R Q len text = (bytes later : List ℕ) → HoldsNext bytes text later → R bytes (text ++ later) → Q bytes (drop len text ++ later)

-- a line was passed
pub line_streamed : (limit : ℕ) (began now : Option (List ℕ)) (window : Window) (R Q : List ℕ → List ℕ → Type 0) (text : List ℕ) (len : ℕ) → text ≡ window.front → IsReady window → Streams limit began now window R → Moves R Q len text
    → Streams limit began now (behind_line window len) Q
line_streamed limit began now window R Q text len same ready streams moves = record {
  small = streams.small;
  taken = streams.taken;
  consumed = streams.consumed;
  counted = streams.counted;
  lines = λ going_on. ends_line-drop len window.front (streams.lines going_on);
  ended = streams.ended;
  reads = λ later done. here (streams.taken ++ later) (window.begun ++ later) (holds_next limit began now window R streams later done ready) (streams.reads later done);
}
  where
    here : Moves R Q len window.front
    here = subst (Moves R Q len) same moves

-- more is known of the same window
pub known_streamed : (limit : ℕ) (began now : Option (List ℕ)) (window : Window) (R Q : List ℕ → List ℕ → Type 0) (text : List ℕ) → text ≡ window.front → IsReady window → Streams limit began now window R → Moves R Q 0 text → Streams limit began now window Q
known_streamed limit began now window R Q text same ready streams moves = line_streamed limit began now window R Q text 0 same ready streams moves

-- The end

-- nothing is at hand and the source is at its end
pub over_streamed : (limit : ℕ) (began now : Option (List ℕ)) (window : Window) (R : List ℕ → List ℕ → Type 0) (P : List ℕ → Type 0) (text : List ℕ) → text ≡ window.front → text ≡ [] → IsReady window → Streams limit began now window R
    → ((bytes later : List ℕ) → HoldsNext bytes text later → R bytes (text ++ later) → P bytes) → WasRead limit began now P
over_streamed limit began now window R P text same empty ready streams ends = record {
  bytes = streams.taken;
  consumed = streams.consumed;
  end = (streams.ended (over ready)).1;
  few = omega (arith, streams.counted);
  holds = subst P (append-nil streams.taken) (here (streams.taken ++ []) (window.begun ++ []) (holds_next limit began now window R streams [] (λ _. refl) ready) (streams.reads [] (λ _. refl)));
}
  where
    over : IsReady window → window.ended ≡ true
    over (inl some) = absurd (omega (arith, some, ap length same, ap length empty))
    over (inr e) = e

    here : (bytes later : List ℕ) → HoldsNext bytes window.front later → R bytes (window.front ++ later) → P bytes
    here = subst (λ (t : List ℕ). (bytes later : List ℕ) → HoldsNext bytes t later → R bytes (t ++ later) → P bytes) same ends

-- the source was at its end
pub was_read : (limit : ℕ) (began now : Option (List ℕ)) (window : Window) (P : List ℕ → Type 0) → Streams limit began now window (λ bytes rest. P bytes) → window.ended ≡ true → WasRead limit began now P
was_read limit began now window P streams over = record {
  bytes = streams.taken;
  consumed = streams.consumed;
  end = (streams.ended over).1;
  few = omega (arith, streams.counted);
  holds = subst P (append-nil streams.taken) (streams.reads [] (λ _. refl));
}

-- the rest was read and let go, where P holds of the bytes whatever is to come
pub rest_skipped : (limit : ℕ) (began old new : Option (List ℕ)) (window : Window) (P : List ℕ → Type 0) → Streams limit began old window (λ bytes rest. P bytes) → (window.ended ≡ true → new ≡ old) → Skips old new window.spare → WasRead limit began new P
rest_skipped limit began old new window P streams kept skips = known window.ended refl
  where
    over : window.ended ≡ true → WasRead limit began new P
    over e = record {
      bytes = streams.taken;
      consumed = subst (λ (n : Option (List ℕ)). Consumes began n streams.taken) (sym (kept e)) streams.consumed;
      end = skips.last;
      few = omega (arith, streams.counted);
      holds = subst P (append-nil streams.taken) (streams.reads [] (λ _. refl));
    }

    known : (b : Bool) → window.ended ≡ b → WasRead limit began new P
    known true e = over e
    known false e = record {
      bytes = streams.taken ++ skips.bytes;
      consumed = Consumes-then began old new streams.taken skips.bytes streams.consumed skips.taken;
      end = skips.last;
      few = omega (arith, streams.counted, skips.few, length-append streams.taken skips.bytes);
      holds = streams.reads skips.bytes (λ e'. let clash : true ≡ false = sym e' ∙ e in absurd cc);
    }

-- a row was read
pub row_there : (limit : ℕ) (began now : Option (List ℕ)) (mid : LogStream) (reader : LogReader) (log : Log) (row : Row) (text : List ℕ) → text ≡ mid.buffer.front → IsReady mid.buffer → IsStreamed limit began now mid log
    → ((bytes later : List ℕ) → HoldsNext bytes text later → HasRead mid.reader bytes (text ++ later) log → ReadsRow reader bytes (drop row.len text ++ later) log row)
    → StreamsRow limit began now (record { buffer = behind_line mid.buffer row.len; reader = reader }) log row
row_there limit began now mid reader log row text same ready streams reads = record {
  read = line_streamed limit began now mid.buffer R (λ bytes rest. HasRead reader bytes rest (with_line log (line_of reader row))) text row.len same ready streams (λ bytes later holds has. (reads bytes later holds has).read);
  valid = one.valid;
  room = one.room;
}
  where
    R : List ℕ → List ℕ → Type 0
    R = λ bytes rest. HasRead mid.reader bytes rest log

    here : (bytes later : List ℕ) → HoldsNext bytes mid.buffer.front later → HasRead mid.reader bytes (mid.buffer.front ++ later) log → ReadsRow reader bytes (drop row.len mid.buffer.front ++ later) log row
    here = subst (λ (t : List ℕ). (bytes later : List ℕ) → HoldsNext bytes t later → HasRead mid.reader bytes (t ++ later) log → ReadsRow reader bytes (drop row.len t ++ later) log row) same reads

    one : ReadsRow reader (streams.taken ++ []) (drop row.len mid.buffer.front ++ (mid.buffer.begun ++ [])) log row
    one = here (streams.taken ++ []) (mid.buffer.begun ++ []) (holds_next limit began now mid.buffer R streams [] (λ _. refl) ready) (streams.reads [] (λ _. refl))

-- The beginning

nothing_taken : (began : Option (List ℕ)) → Consumes began began []
nothing_taken None = tt
nothing_taken (Some bytes) = refl

abbrev pub new_window : ℕ → Window
new_window limit = record { front = []; begun = []; spare = limit; ended = false }

-- nothing was read
abbrev pub AreSame : List ℕ → List ℕ → Type 0
AreSame bytes rest = bytes ≡ rest

pub begun_stream : (limit : ℕ) (began now : Option (List ℕ)) (buffer window : Window) → limit < 2 ^ 31 → buffer ≡ new_window limit → Fills began now buffer window → Streams limit began now window AreSame
begun_stream limit began now buffer window small is fills =
    filled limit began began now buffer window AreSame (ap (λ (w : Window). w.front) is) (ap (λ (w : Window). w.ended) is) fills
    (subst (λ (w : Window). Streams limit began began w AreSame) (sym is) (record {
      small = small;
      taken = [];
      consumed = nothing_taken began;
      counted = omega arith;
      lines = λ _. refl;
      ended = λ over. absurd cc;
      reads = λ later done. refl;
    }))

-- the header was read
pub header_there : (limit : ℕ) (began now : Option (List ℕ)) (window : Window) (Q : List ℕ → List ℕ → Type 0) (text : List ℕ) (len : ℕ) → text ≡ window.front → IsReady window → Streams limit began now window AreSame
    → ((later : List ℕ) → HoldsLine text later → Q (text ++ later) (drop len text ++ later)) → Streams limit began now (behind_line window len) Q
header_there limit began now window Q text len same ready streams reads =
    line_streamed limit began now window AreSame Q text len same ready streams (λ bytes later holds is. subst (λ (b : List ℕ). Q b (drop len text ++ later)) (sym is) (reads later holds.line))

-- no header was read
pub no_header_there : (limit : ℕ) (began now : Option (List ℕ)) (window : Window) (Q : List ℕ → List ℕ → Type 0) (text : List ℕ) → text ≡ window.front → IsReady window → Streams limit began now window AreSame
    → ((later : List ℕ) → HoldsLine text later → Q (text ++ later) (text ++ later)) → Streams limit began now window Q
no_header_there limit began now window Q text same ready streams reads = header_there limit began now window Q text 0 same ready streams reads

-- the pages of a log that was read lie in memory
pub pages_inside : (limit : ℕ) (began now : Option (List ℕ)) (stream : LogStream) (harts block : ℕ) (pages : List PageRun) → IsStreamed limit began now stream (record { harts = harts; block = block; pages = pages; lines = [] })
    → All (λ run. run.first + run.count ≤ 4096) pages
pages_inside limit began now stream harts block pages streamed = pages_lawful harts pages (streamed.reads [] (λ _. refl)).by.read.lawful

-- Results

-- what follows from the fact of an Ok, and from that of an error
pub on_ok : {T E P Q : Type 0} (r : Result T E) → (P → Q) → OnOk r P → OnOk r Q
on_ok (Ok x) f h = f h
on_ok (Err e) f h = tt

pub if_err : {T E : Type 0} {P Q : E → Type 0} (r : Result T E) → ((e : E) → P e → Q e) → IfErr r P → IfErr r Q
if_err (Ok x) f h = tt
if_err (Err e) f h = f e h

-- the test for bytes at hand
pub nothing_there : (front there : List ℕ) → there ≡ front → true ≡ eqb (length there) 0 → front ≡ []
nothing_there front there same e = sym same ∙ no_bytes there e
