-- Blocks or pages, one after the other: what is due at each, and what is made after it.
use Rattle.std.proofs.Common.{◌≡◌, ℕ, zero, suc, ◌+◌, ◌-◌, ◌<◌, List, [], ◌++◌, length, sym, ap, ◌∙◌, subst, arith, append_assoc, length-append}
use Rattle.std.proofs.lemmas.List.{append-nil}
use Rattle.pl_event.specs.declared.event.Kind.{Kind}
use Rattle.order_core.specs.Course.{Planned}
use Rattle.order_core.specs.Shapes.{Shape, after_shapes}
use Rattle.guard_table.specs.declared.view.View.{View}
use Rattle.shadow_frames.specs.Frames.{pages_from}
use Rattle.shadow_frames.proofs.Many.{after_append, pages_more}
use Rattle.worker_laws.specs.Runs.{Run}
use Rattle.worker_records.specs.Alerts.{IsAmid}
use Rattle.worker_records.specs.Shapes.{IsDue, Midst, made}
use Rattle.worker_records.proofs.ShapeLemmas.{due_first, due_rest, made_both}

-- a record none of whose operations is made
abbrev pub whole : Run → Kind → (ℕ → ℕ) → Midst
whole p kind w = record { run = p; kind = kind; words = w; rest = [] }

pub whole_due : (plan : Planned) (p : Run) (v : View) (number : ℕ) (kind : Kind) (w : ℕ → ℕ) (ss : List Shape) → p.plan ≡ plan → IsAmid p v number 0 kind w ss → IsDue plan v number 0 ss (whole p kind w)
whole_due plan p v number kind w ss e amid = record { plan_is = e; amid = subst (IsAmid p v number 0 kind w) (sym (append-nil ss)) amid }

module _ (page : (ℕ → ℕ) → ℕ → List Shape) where
  -- the words after k pages
  abbrev pub words_at : (ℕ → ℕ) → ℕ → ℕ → (ℕ → ℕ)
  words_at w p k = after_shapes w (pages_from page w p k)

  split : (k n : ℕ) (w : ℕ → ℕ) (p : ℕ) → pages_from page w p (k + n) ≡ pages_from page w p k ++ pages_from page (words_at w p k) (p + k) n
  split zero n w p = ap (pages_from page w p) (let e : 0 + n ≡ n = omega arith in e) ∙ ap (λ (z : ℕ). pages_from page w z n) (let e : p ≡ p + 0 = omega arith in e)
  split (suc k) n w p =
      let next : ℕ → ℕ = after_shapes w (page w p) in
      ap (pages_from page w p) (let e : suc k + n ≡ suc (k + n) = omega arith in e)
      ∙ (ap (λ (z : List Shape). page w p ++ z) (split k n next (suc p))
      ∙ (sym (append_assoc (page w p) (pages_from page next (suc p) k) (pages_from page (words_at next (suc p) k) (suc p + k) n))
      ∙ (ap (λ (z : ℕ → ℕ). (page w p ++ pages_from page next (suc p) k) ++ pages_from page z (suc p + k) n) (sym (after_append w (page w p) (pages_from page next (suc p) k)))
      ∙ ap (λ (z : ℕ). (page w p ++ pages_from page next (suc p) k) ++ pages_from page (words_at w p (suc k)) z n) (let e : suc p + k ≡ p + suc k = omega arith in e))))

  -- those after the page at k, of n
  abbrev rest_at : (ℕ → ℕ) → ℕ → ℕ → ℕ → List Shape
  rest_at w p k n = pages_from page (after_shapes (words_at w p k) (page (words_at w p k) (p + k))) (suc (p + k)) (n - suc k)

  split_at : (k n : ℕ) (w : ℕ → ℕ) (p : ℕ) → k < n → pages_from page w p n ≡ pages_from page w p k ++ (page (words_at w p k) (p + k) ++ rest_at w p k n)
  split_at k n w p lt =
      let e : n ≡ k + suc (n - suc k) = omega arith in
      ap (pages_from page w p) e ∙ split k (suc (n - suc k)) w p

  module _ (plan : Planned) (v : View) (number : ℕ) (m : Midst) (p n : ℕ) (due : IsDue plan v number 0 (pages_from page m.words p n) m) where
    -- a record in the midst of which the page at k comes
    abbrev pub midst_at : ℕ → Midst
    midst_at k = record { run = m.run; kind = m.kind; words = words_at m.words p k; rest = rest_at m.words p k n ++ m.rest }

    pub due_at : (k : ℕ) → k < n → IsDue plan (made (pages_from page m.words p k) v) number (length (pages_from page m.words p k)) (page (words_at m.words p k) (p + k)) (midst_at k)
    due_at k lt =
        let all : IsDue plan v number 0 (pages_from page m.words p k ++ (page (words_at m.words p k) (p + k) ++ rest_at m.words p k n)) m
        = subst (λ (z : List Shape). IsDue plan v number 0 z m) (split_at k n m.words p lt) due in
        subst (λ (z : ℕ). IsDue plan (made (pages_from page m.words p k) v) number z (page (words_at m.words p k) (p + k)) (midst_at k)) (let e : 0 + length (pages_from page m.words p k) ≡ length (pages_from page m.words p k) = omega arith in e)
        (due_first plan (made (pages_from page m.words p k) v) number (0 + length (pages_from page m.words p k)) (record m { words = words_at m.words p k }) (page (words_at m.words p k) (p + k)) (rest_at m.words p k n)
        (due_rest plan v number 0 m (pages_from page m.words p k) (page (words_at m.words p k) (p + k) ++ rest_at m.words p k n) all))

  pub made_more : (w : ℕ → ℕ) (p k : ℕ) (v t u : View) → t ≡ made (pages_from page w p k) v → u ≡ made (page (words_at w p k) (p + k)) t → u ≡ made (pages_from page w p (k + 1)) v
  made_more w p k v t u was is = is ∙ (ap (made (page (words_at w p k) (p + k))) was
      ∙ (made_both (pages_from page w p k) (page (words_at w p k) (p + k)) v ∙ (ap (λ (z : List Shape). made z v) (sym (pages_more page k w p)) ∙ ap (λ (z : ℕ). made (pages_from page w p z) v) (let e : suc k ≡ k + 1 = omega arith in e))))

  pub count_more : (w : ℕ → ℕ) (p k op n : ℕ) → op ≡ length (pages_from page w p k) → n ≡ length (page (words_at w p k) (p + k)) → op + n ≡ length (pages_from page w p (k + 1))
  count_more w p k op n was is = (λ d. was d + is d) ∙ (sym (length-append (pages_from page w p k) (page (words_at w p k) (p + k))) ∙ (ap length (sym (pages_more page k w p)) ∙ ap (λ (z : ℕ). length (pages_from page w p z)) (let e : suc k ≡ k + 1 = omega arith in e)))
