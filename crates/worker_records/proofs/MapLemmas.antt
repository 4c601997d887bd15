-- The pages of an event, one after the other.
use Rattle.std.proofs.Common.{◌≡◌, ◌≢◌, ℕ, zero, suc, ◌+◌, ◌-◌, ◌*◌, ◌<◌, ◌≤◌, true, false, List, ◌++◌, length, refl, sym, ap, ◌∙◌, subst, arith, length-append}
use Rattle.std.proofs.Math.Logic.{∥∥₁_elim}
use Rattle.std.proofs.Math.Nat.{mul_comm, suc-mul}
use denote.Struct.Props.{props}
use Rattle.pl_event.specs.declared.event.Kind.{Kind}
use Rattle.pl_event.specs.declared.event.Kind.TheVariants.{Mp, Um}
use Rattle.pl_event.specs.declared.log.PageKind.TheVariants.{Data}
use Rattle.pl_event.specs.Records.{line_number}
use Rattle.pl_event.specs.Valid.{IsPageRange}
use Rattle.lifeguard.specs.Rules.{Rules}
use Rattle.order_core.specs.Course.{Planned, course_of}
use Rattle.order_core.specs.Lawful.{IsLawful}
use Rattle.order_core.specs.Shapes.{Shape, after_shapes}
use Rattle.guard_table.specs.declared.view.View.{View}
use Rattle.shadow_frames.specs.Frames.{lowest_free, map_page, pages_from, unmap_page}
use Rattle.shadow_frames.specs.Words.{WordsRepresent, all_nibbles, directory_word, is_used}
use Rattle.shadow_frames.proofs.Mapping.{frame_length}
use Rattle.shadow_frames.proofs.NibbleLemmas.{all_same}
use Rattle.worker_laws.specs.Runs.{Run, before}
use Rattle.worker_records.specs.Alerts.{IsAmid}
use Rattle.worker_records.specs.Shapes.{IsDue, Midst, made}
use Rattle.worker_records.specs.Places.{run_at}
use Rattle.worker_records.proofs.KeptPages.{frame_free, kept, page_mapped}
use Rattle.worker_records.proofs.LoopLemmas.{due_at, made_more, midst_at, whole, whole_due, words_at}

pages_exact : (page : (ℕ → ℕ) → ℕ → List Shape) (k : ℕ) → ((w : ℕ → ℕ) (p : ℕ) → length (page w p) ≡ k) → (n : ℕ) (w : ℕ → ℕ) (p : ℕ) → length (pages_from page w p n) ≡ n * k
pages_exact page k each zero w p = let e : 0 ≡ 0 * k = omega arith in e
pages_exact page k each (suc n) w p =
    let a : length (page w p ++ pages_from page (after_shapes w (page w p)) (suc p) n) ≡ length (page w p) + length (pages_from page (after_shapes w (page w p)) (suc p) n) = length-append (page w p) (pages_from page (after_shapes w (page w p)) (suc p) n) in
    let b : length (page w p) ≡ k = each w p in
    let d : length (pages_from page (after_shapes w (page w p)) (suc p) n) ≡ n * k = pages_exact page k each n (after_shapes w (page w p)) (suc p) in
    let e : suc n * k ≡ n * k + k = suc-mul n k in
    omega (arith, a, b, d, e)

map_length : (filling : ℕ) (w : ℕ → ℕ) (p : ℕ) → length (map_page filling w p) ≡ 266
unfolding map_page
map_length filling w p = frame_length (lowest_free w) p filling

unmap_length : (w : ℕ → ℕ) (p : ℕ) → length (unmap_page w p) ≡ 4
unfolding unmap_page
unmap_length w p = refl

-- what is due at the page at i, where each page has k operations
module _ (page : (ℕ → ℕ) → ℕ → List Shape) (k : ℕ) (each : (w : ℕ → ℕ) (p : ℕ) → length (page w p) ≡ k) (p : Run) (v : View) (number : ℕ) (event : Kind) (first count : ℕ)
    (amid : IsAmid p v number 0 event (before p v.hart number).words (pages_from page (before p v.hart number).words first count)) (plan : Planned) (is_plan : p.plan ≡ plan)
    (i : ℕ) (lt : i < count) (t : View) (is_t : t ≡ made (pages_from page (before p v.hart number).words first i) v) (op : ℕ) (is_op : op ≡ k * i) where
  count_is : length (pages_from page (before p v.hart number).words first i) ≡ op
  count_is = pages_exact page k each i (before p v.hart number).words first ∙ (mul_comm i k ∙ sym is_op)

  pub page_due : (m : Midst) × IsDue plan t number op (page m.words (first + i)) m × (m.words ≡ words_at page (before p v.hart number).words first i)
  page_due =
      let d = due_at page plan v number (whole p event (before p v.hart number).words) first count (whole_due plan p v number event (before p v.hart number).words (pages_from page (before p v.hart number).words first count) is_plan amid) i lt in (
        midst_at page plan v number (whole p event (before p v.hart number).words) first count (whole_due plan p v number event (before p v.hart number).words (pages_from page (before p v.hart number).words first count) is_plan amid) i,
        subst (λ (z : View). IsDue plan z number op (page (words_at page (before p v.hart number).words first i) (first + i)) (midst_at page plan v number (whole p event (before p v.hart number).words) first count (whole_due plan p v number event (before p v.hart number).words (pages_from page (before p v.hart number).words first count) is_plan amid) i)) (sym is_t)
            (subst (λ (z : ℕ). IsDue plan (made (pages_from page (before p v.hart number).words first i) v) number z (page (words_at page (before p v.hart number).words first i) (first + i)) (midst_at page plan v number (whole p event (before p v.hart number).words) first count (whole_due plan p v number event (before p v.hart number).words (pages_from page (before p v.hart number).words first count) is_plan amid) i)) count_is d),
        refl,
      )

module _ (rules : Rules) (v : View) (number page count : ℕ) (valid : IsPageRange page count) (plan : Planned) (is_plan : (run_at rules v).plan ≡ plan) (i : ℕ) (lt : i < count) (t : View) where
  abbrev p : Run
  p = run_at rules v

  abbrev w : ℕ → ℕ
  w = (before (run_at rules v) v.hart number).words

  module _ (amid : IsAmid p v number 0 (Mp page count) w (pages_from (map_page (all_nibbles (rules.page_state Data))) w page count)) (filling : ℕ) (is_filling : filling ≡ all_nibbles (rules.page_state Data))
      (is_t : t ≡ made (pages_from (map_page (all_nibbles (rules.page_state Data))) w page i) v) where
    abbrev maps : (ℕ → ℕ) → ℕ → List Shape
    maps = map_page (all_nibbles (rules.page_state Data))

    free : (lowest_free (words_at maps w page i) < 512) × (is_used (words_at maps w page i) (lowest_free (words_at maps w page i)) ≡ false)
    free = ∥∥₁_elim amid.run.lawful (hlevel props) (λ (l : IsLawful (course_of p.plan)).
        ∥∥₁_elim (amid.run.represents (line_number p.plan.log.lines v.hart number - 1)) (hlevel props) (λ (st : WordsRepresent w (before p v.hart number).state.bytes).
        frame_free w (before p v.hart number).state.bytes st page count valid.3 i lt (rules.page_state Data) (all_nibbles (rules.page_state Data))
        (all_same (rules.page_state Data) (let b : rules.page_state Data < 8 = amid.run.laws.page_below Data in omega arith))
        (kept rules v.course.log amid.run v.hart number (Mp page count) amid.is l)))

    pub map_now : (m : Midst) × IsDue plan t number (266 * i) (map_page filling m.words (page + i)) m × (lowest_free m.words < 512) × (is_used m.words (lowest_free m.words) ≡ false)
    map_now =
        let d = page_due maps 266 (map_length (all_nibbles (rules.page_state Data))) p v number (Mp page count) page count amid plan is_plan i lt t is_t (266 * i) refl in (
          d.0,
          subst (λ (z : ℕ). IsDue plan t number (266 * i) (map_page z d.0.words (page + i)) d.0) (sym is_filling) d.1,
          subst (λ (z : ℕ → ℕ). lowest_free z < 512) (sym d.2) free.0,
          subst (λ (z : ℕ → ℕ). is_used z (lowest_free z) ≡ false) (sym d.2) free.1,
        )

    pub map_next : (u : View) → ((m : Midst) → IsDue plan t number (266 * i) (map_page filling m.words (page + i)) m → u ≡ made (map_page filling m.words (page + i)) t) → u ≡ made (pages_from maps w page (i + 1)) v
    map_next u is =
        let d = page_due maps 266 (map_length (all_nibbles (rules.page_state Data))) p v number (Mp page count) page count amid plan is_plan i lt t is_t (266 * i) refl in
        made_more maps w page i v t u is_t
        (is d.0 (subst (λ (z : ℕ). IsDue plan t number (266 * i) (map_page z d.0.words (page + i)) d.0) (sym is_filling) d.1)
        ∙ (ap (λ (z : ℕ). made (map_page z d.0.words (page + i)) t) is_filling ∙ ap (λ (z : ℕ → ℕ). made (maps z (page + i)) t) d.2))

  module _ (amid : IsAmid p v number 0 (Um page count) w (pages_from unmap_page w page count)) (is_t : t ≡ made (pages_from unmap_page w page i) v) where
    mapped : (words_at unmap_page w page i (17 + (page + i)) ≢ 0) × (words_at unmap_page w page i (17 + (page + i)) ≤ 512) × (is_used (words_at unmap_page w page i) (words_at unmap_page w page i (17 + (page + i)) - 1) ≡ true)
    mapped = ∥∥₁_elim amid.run.lawful (hlevel props) (λ (l : IsLawful (course_of p.plan)).
        ∥∥₁_elim (amid.run.represents (line_number p.plan.log.lines v.hart number - 1)) (hlevel props) (λ (st : WordsRepresent w (before p v.hart number).state.bytes).
        page_mapped w (before p v.hart number).state.bytes st page count valid.3 i lt (kept rules v.course.log amid.run v.hart number (Um page count) amid.is l)))

    pub unmap_now : (m : Midst) × IsDue plan t number (4 * i) (unmap_page m.words (page + i)) m × (m.words (directory_word (page + i)) ≢ 0) × (m.words (directory_word (page + i)) ≤ 512) × (is_used m.words (m.words (directory_word (page + i)) - 1) ≡ true)
    unmap_now =
        let d = page_due unmap_page 4 unmap_length p v number (Um page count) page count amid plan is_plan i lt t is_t (4 * i) refl in (
          d.0,
          d.1,
          subst (λ (z : ℕ → ℕ). z (17 + (page + i)) ≢ 0) (sym d.2) mapped.0,
          subst (λ (z : ℕ → ℕ). z (17 + (page + i)) ≤ 512) (sym d.2) mapped.1,
          subst (λ (z : ℕ → ℕ). is_used z (z (17 + (page + i)) - 1) ≡ true) (sym d.2) mapped.2,
        )

    pub unmap_next : (u : View) → ((m : Midst) → IsDue plan t number (4 * i) (unmap_page m.words (page + i)) m → u ≡ made (unmap_page m.words (page + i)) t) → u ≡ made (pages_from unmap_page w page (i + 1)) v
    unmap_next u is =
        let d = page_due unmap_page 4 unmap_length p v number (Um page count) page count amid plan is_plan i lt t is_t (4 * i) refl in
        made_more unmap_page w page i v t u is_t (is d.0 d.1 ∙ ap (λ (z : ℕ → ℕ). made (unmap_page z (page + i)) t) d.2)
