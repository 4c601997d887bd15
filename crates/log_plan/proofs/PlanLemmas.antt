-- The plan of an ordered log of a run.
use Rattle.std.proofs.Common.{◌≡◌, ℕ, zero, suc, ◌+◌, ◌/◌, ◌^◌, ◌<◌, ◌≤◌, List, [], ◌∷◌, length, slice_get, slice_index, Some, refl, sym, ap, ◌∙◌, subst, arith}
use Rattle.std.proofs.Math.Logic.{∥∥₁_elim, ∥∥₁_map}
use denote.Struct.Props.{props}
use mathlib.Core.Option.{some, some-injective, some-ne-none}
use lib.ListN.{get_elem?}
use Rattle.pl_event.specs.declared.event.Kind.{Kind}
use Rattle.pl_event.specs.declared.event.Kind.TheVariants.{Ld, St, Op, Mv, Im, Br, Jr, Al, Fr, Bf, Mp, Um, Rd, Wr, Ex, Ft}
use Rattle.pl_event.specs.declared.log.Line.{Line}
use Rattle.pl_event.specs.declared.log.Log.{Log}
use Rattle.pl_event.specs.declared.log.PageKind.TheVariants.{Data}
use Rattle.pl_event.specs.declared.log.Record.{Record}
use Rattle.pl_event.specs.declared.log.Record.TheVariants as entry
use Rattle.pl_event.specs.Conflicts.{IsOrdered}
use Rattle.pl_event.specs.Mapping.{KeepsPages, mapped_at}
use Rattle.pl_event.specs.Numbers.{hart_of, events_of}
use Rattle.pl_event.specs.Records.{line_number, records_before, IsRecord}
use Rattle.pl_event.specs.Runs.{IsRunLog, IsSoundLine, IsSoundRecord}
use Rattle.pl_event.specs.Valid.{HasValidFields}
use Rattle.pl_event.proofs.MappedPages.{line_at, line_holds}
use Rattle.pl_event.proofs.Places as places
use Rattle.pl_base.specs.Widths.{store_bytes}
use Rattle.lifeguard.specs.declared.guard.RangeKind.TheVariants as range
use Rattle.lifeguard.specs.Rules.{Rules, KeepsLaws}
use Rattle.lifeguard.specs.State.{Bytes, Masks}
use Rattle.lifeguard.specs.Plain.{plain_result}
use Rattle.order_core.specs.declared.course.Op as course
use Rattle.order_core.specs.Course.{IsListed, course_of}
use Rattle.order_core.specs.Filled.{words_after, operations_at, AllFit, AllSound}
use Rattle.order_core.specs.Lawful.{IsLawful, IsTable}
use Rattle.order_core.specs.Shapes.{Shape, AreSoundShapes, fill, after_shapes}
use Rattle.order_core.proofs.FilledLemmas as filled
use Rattle.order_core.proofs.Words.{same_word}
use Rattle.shadow_frames.specs.Words.{WordsRepresent, has_page, all_nibbles}
use Rattle.shadow_frames.specs.Opening.{opening_words}
use Rattle.shadow_frames.proofs.MappedPages.{no_page, pages_is}
use Rattle.shadow_frames.proofs.NibbleLemmas.{all_same}
use Rattle.shadow_frames.specs.Frames.{pages_from, unmap_page}
use Rattle.shadow_layout.specs.Operations.{shapes, blocks_of, change_block, read_block}
use Rattle.shadow_layout.specs.Logs.{log_shapes, line_shapes, record_shapes, state_before}
use Rattle.shadow_layout.proofs.LogLemmas as moments
use Rattle.shadow_layout.proofs.PageTests.{HasPages, keeps_pages}
use Rattle.log_plan.specs.Plans.{AreFinalWords, opening_list, plan_of}
use Rattle.log_plan.specs.inner.Serving.{IsServing, AreTouching}
use Rattle.log_plan.proofs.FinalWords.{represents_equal, fitting_of}
use Rattle.log_plan.proofs.LowWords.{record_low}
use Rattle.log_plan.proofs.OpeningWords.{opening_is, opening_length, opening_wide}
use Rattle.log_plan.proofs.Positions.{paths}
use Rattle.log_plan.proofs.Touching.{record_touches}
use Rattle.log_plan.proofs.Wide.{IsWide, WriteWide, wide_after, wide_values, wide_blocks, filling_wide, maps_wide, unmap_wide, change_wide, read_wide, load_wide, store_wide}

line_is : (lines : List Line) (i : ℕ) (line : Line) → get_elem? lines i ≡ some line → slice_get lines i ≡ Some line
line_is [] i line at = absurd (some-ne-none line (sym at))
line_is (l ∷ lines) zero line at = ap (λ (x : Line). Some x) (some-injective l line at)
line_is (l ∷ lines) (suc i) line at = line_is lines i line at

-- ---- what an event writes is below 2^64

module _ (rules : Rules) (laws : KeepsLaws rules) (size hart : ℕ) (masks : Masks) (bytes : Bytes) (w : ℕ → ℕ) (wide : IsWide w) (st : WordsRepresent w bytes) where
  changes : (f : ℕ → ℕ → ℕ) (addr len : ℕ) → WriteWide w (pages_from (change_block f addr len) w (addr / 16) (blocks_of addr len))
  changes f addr len = wide_blocks (change_block f addr len) (λ v b _. change_wide f addr len v b) (blocks_of addr len) w (addr / 16) wide

  kind_wide : (kind : Kind) → HasValidFields kind → KeepsPages (has_page bytes) kind → WriteWide w (shapes rules size hart masks w kind)
  kind_wide (Ld width rd rb addr) v k = load_wide rules size w addr
  kind_wide (St width rv rb addr) v k = store_wide rules size w addr (store_bytes width) (masks hart rv)
  kind_wide (Op rd r1 r2) v k = tt
  kind_wide (Mv rd rs) v k = tt
  kind_wide (Im rd) v k = tt
  kind_wide (Br r1 r2) v k = tt
  kind_wide (Jr rd rs) v k = tt
  kind_wide (Al addr len) v k = changes (λ i old. rules.range_state range.Al old) addr len
  kind_wide (Fr addr len) v k = changes (λ i old. rules.range_state range.Fr old) addr len
  kind_wide (Bf addr) v k = tt
  kind_wide (Mp page count) v k =
      let low : rules.page_state Data < 16 = (let l : rules.page_state Data < 8 = laws.page_below Data in omega arith) in
      maps_wide (all_nibbles (rules.page_state Data)) (rules.page_state Data) (all_same (rules.page_state Data) low) (filling_wide (rules.page_state Data) low) w bytes page count wide st v.3
      (λ q low high. no_page w bytes st q (let l : page + count ≤ 4096 = v.3 in omega arith) (k.0 q low high))
      (subst (λ (z : ℕ). z + count ≤ 512) (sym (pages_is w bytes st)) k.1)
  kind_wide (Um page count) v k = wide_blocks unmap_page unmap_wide count w page wide
  kind_wide (Rd addr len) v k = changes (λ i old. rules.range_state range.Rd old) addr len
  kind_wide (Wr addr len) v k = wide_blocks read_block (λ v b _. read_wide v b) (blocks_of addr len) w (addr / 16) wide
  kind_wide Ex v k = tt
  kind_wide (Ft cause addr) v k = tt

module _ (rules : Rules) (laws : KeepsLaws rules) (log : Log) (run : IsRunLog log) where
  abbrev opening : List ℕ
  opening = opening_list rules log.pages

  abbrev words : ℕ → (ℕ → ℕ)
  words i = words_after (log_shapes rules log) opening i

  pub is : slice_index opening ≡ opening_words rules.page_state log.pages
  is = opening_is rules laws log.pages run.opening.rising run.opening.room

  sound_line : (i : ℕ) (line : Line) → get_elem? log.lines i ≡ some line → IsSoundRecord log.harts line.arcs line.what
  sound_line i line at = (line_holds (IsSoundLine log.harts) log.lines run.sound i line at).1

  shapes_are : (i : ℕ) (line : Line) → get_elem? log.lines i ≡ some line → log_shapes rules log i (words i) ≡ record_shapes rules log.block (state_before rules log i) (words i) line.what
  shapes_are i line at = ap (line_shapes rules log.block (state_before rules log i) (words i)) (line_is log.lines i line at)

  -- ---- paths

  ops_here : (i : ℕ) (line : Line) → get_elem? log.lines i ≡ some line
      → (plan_of rules log).operations (hart_of line.what) (records_before (hart_of line.what) log.lines i + 1) ≡ fill (words i) (record_shapes rules log.block (state_before rules log i) (words i) line.what)
  ops_here i line at =
      let h : ℕ = hart_of line.what in
      let here : IsRecord log.lines i h (records_before h log.lines i + 1) line = record { at = at; hart = refl; number = refl } in
      let found : line_number log.lines h (records_before h log.lines i + 1) ≡ i + 1 = places.line_number_of log.lines i h (records_before h log.lines i + 1) line here in
      ap (operations_at (log_shapes rules log) opening) (found ∙ (let n : i + 1 ≡ suc i = omega arith in n))
      ∙ ap (fill (words i)) (shapes_are i line at)

  abbrev frame : ℕ → ℕ → ℕ
  frame i p = words i (17 + p)

  touching : AreTouching log.block log.lines frame (plan_of rules log).operations
  touching i y line o at listed = record_touches rules log.block log.harts line.arcs (state_before rules log i) (words i) y o line.what (sound_line i line at)
      (subst (λ (os : List course.Op). slice_get os y ≡ Some o) (ops_here i line at) listed)

  serving : IsServing log.lines frame
  serving = record {
    same = λ x p line at none lt.
        ap (λ (ss : List Shape). after_shapes (words x) ss (17 + p)) (shapes_are x line at)
        ∙ record_low rules log.block (state_before rules log x) (words x) line.what (17 + p) (omega arith) none;
    apart = λ x p q lt lp lq some e. (moments.moment rules laws log run opening is x (omega arith)).represents.apart p q lp lq some e;
  }

  size : length opening ≡ 135185
  size = opening_length rules log.pages

  table : IsTable opening
  table = in_size (length opening) size (λ l h. record { size = (l, h); zeros = moments.zeros rules laws log run opening is })
    where
      in_size : (n : ℕ) → n ≡ 135185 → (9 ≤ n → n < 2 ^ 32 → IsTable opening) → IsTable opening
      in_size n e f = f (omega arith) (omega arith)

  sound : AllSound (log_shapes rules log) opening (length log.lines)
  sound i lt =
      let x = moments.sound_at rules laws log run opening is i lt in
      (subst (λ (n : ℕ). AreSoundShapes n (log_shapes rules log i (words i))) (sym size) x.0, below (length (log_shapes rules log i (words i))) x.1)
    where
      below : (n : ℕ) → n < 4294967295 → n < 2 ^ 32
      below n l = omega arith

  pub lawful : IsOrdered log → length log.lines < 4294967295 → IsLawful (course_of (plan_of rules log))
  lawful ordered few = filled.lawful (log_shapes rules log) log opening (record {
    run = run;
    few = few;
    ordered = ordered;
    table = table;
    sound = sound;
    paths = paths (plan_of rules log) frame run.flow ordered run.opening.block serving touching;
  })

  -- ---- words below 2^64

  record_wide : (i : ℕ) (line : Line) → get_elem? log.lines i ≡ some line → (w : ℕ → ℕ) → IsWide w → WordsRepresent w (state_before rules log i).bytes → HasPages (state_before rules log i).bytes (mapped_at log i)
      → WriteWide w (record_shapes rules log.block (state_before rules log i) w line.what)
  record_wide i line at w wide st pages = by line.what refl (sound_line i line at)
    where
      by : (r : Record) → line.what ≡ r → IsSoundRecord log.harts line.arcs r → WriteWide w (record_shapes rules log.block (state_before rules log i) w r)
      by (entry.Event event) e v = kind_wide rules laws log.block event.hart (state_before rules log i).masks (state_before rules log i).bytes w wide st event.kind v.1
          (keeps_pages rules event.hart (state_before rules log i).bytes (state_before rules log i).masks (mapped_at log i) pages event.kind (run.maps i event (line, at, e)))
      by (entry.Notice hart point) e v = tt

  line_wide : (i : ℕ) → i < length log.lines → IsWide (words i) → WriteWide (words i) (log_shapes rules log i (words i))
  line_wide i lt wide =
      let line = line_at log.lines i lt in
      let m = moments.moment rules laws log run opening is i (omega arith) in
      subst (WriteWide (words i)) (sym (shapes_are i line.0 line.1)) (record_wide i line.0 line.1 (words i) wide m.represents m.pages)

  pub words_wide : (i : ℕ) → i ≤ length log.lines → IsWide (words i)
  words_wide zero le = subst IsWide (sym is) (opening_wide rules laws log.pages run.opening.rising run.opening.room)
  words_wide (suc i) le = let before : IsWide (words i) = words_wide i (omega arith) in wide_after (words i) (log_shapes rules log i (words i)) before (line_wide i (omega arith) before)

  pub values_wide : (h m i : ℕ) (o : course.Op) → IsListed (plan_of rules log) h m i o → o.value < 2 ^ 64
  values_wide h m i o listed =
      let t = places.record_at log.lines (length log.lines) h m listed.from_one listed.number in
      let found : line_number log.lines h m ≡ suc t.0 = places.line_number_of log.lines t.0 h m t.1 t.3 ∙ (let n : t.0 + 1 ≡ suc t.0 = omega arith in n) in
      let lt : t.0 < length log.lines = t.2 in
      let before : IsWide (words t.0) = words_wide t.0 (omega arith) in
      wide_values (words t.0) (log_shapes rules log t.0 (words t.0)) i o before (line_wide t.0 lt before)
      (subst (λ (z : ℕ). slice_get (operations_at (log_shapes rules log) opening z) i ≡ Some o) found listed.op)

  -- ---- the words at the end

  fit : AllFit (log_shapes rules log) opening (length log.lines)
  fit i lt = fitting_of (length opening) (log_shapes rules log i (words i)) (sound i lt).0

  final : (x : ℕ → ℕ) → AreFinalWords (course_of (plan_of rules log)) x → (u : ℕ) → 9 ≤ u → u < 135185 → x u ≡ words (length log.lines) u
  final x are u low high =
      let inside : u < length opening = subst (λ (n : ℕ). u < n) (sym size) high in
      same_word (x u) (words (length log.lines) u) (are.small u low inside) (words_wide (length log.lines) (at_most (length log.lines)) u)
      (λ j four. are.lanes u j low inside four ∙ filled.last (log_shapes rules log) log opening fit u j four)
    where
      at_most : (n : ℕ) → n ≤ n
      at_most n = omega arith

  pub last_represents : (x : ℕ → ℕ) → AreFinalWords (course_of (plan_of rules log)) x → WordsRepresent x (plain_result rules log.pages (events_of log.lines)).bytes
  last_represents x are =
      subst (λ (lines : List Line). WordsRepresent x (plain_result rules log.pages (events_of lines)).bytes) (moments.take_all log.lines)
      (represents_equal (words (length log.lines)) x (state_before rules log (length log.lines)).bytes (final x are) (moments.moment rules laws log run opening is (length log.lines) (omega arith)).represents)

pub log_lawful : (rules : Rules) → KeepsLaws rules → (log : Log) → ∥ IsRunLog log ∥₁ → ∥ IsOrdered log ∥₁ → length log.lines < 4294967295 → ∥ IsLawful (course_of (plan_of rules log)) ∥₁
log_lawful rules laws log run ordered few = ∥∥₁_elim run (hlevel props) (λ (r : IsRunLog log). ∥∥₁_map ordered (λ (o : IsOrdered log). lawful rules laws log r o few))
