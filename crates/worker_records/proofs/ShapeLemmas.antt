-- The operations of a record with many: what is due, and what is left after some of it.
use Rattle.std.proofs.Common.{◌≡◌, ℕ, suc, ◌+◌, ◌^◌, ◌<◌, Bool, true, false, List, [], ◌∷◌, ◌++◌, length, refl, sym, ap, ◌∙◌, subst, arith, append_assoc, length-append, if◌then◌else◌}
use Rattle.std.specs.Prelude.{count_by}
use Rattle.std.proofs.lemmas.List.Sums.{sum_by-append}
use Rattle.pl_event.specs.declared.event.Kind.{Kind}
use Rattle.order_core.specs.declared.course.Op.{Op}
use Rattle.order_core.specs.Core.{IsNextWrite, put}
use Rattle.order_core.specs.Course.{Planned, course_of, operation_of}
use Rattle.order_core.specs.Lanes.{HasValueOf}
use Rattle.order_core.specs.Shapes.{Shape, after_shape, after_shapes, filled_op}
use Rattle.order_core.specs.Turns.{HasComeTo}
use Rattle.order_core.proofs.Known.{Known, known}
use Rattle.guard_table.specs.declared.put.Put.TheVariants.{Store}
use Rattle.guard_table.specs.declared.view.View.{View}
use Rattle.guard_table.specs.Views.{known_core, wrote}
use Rattle.shadow_frames.specs.Frames.{reads, writes}
use Rattle.shadow_frames.proofs.Many.{after_append}
use Rattle.worker_laws.specs.Runs.{Run, before}
use Rattle.worker_laws.proofs.Passing.{after_read, after_write, may_read, may_write}
use Rattle.worker_laws.proofs.Reading.{whole_word}
use Rattle.worker_records.specs.Alerts.{IsAmid}
use Rattle.worker_records.specs.Shapes.{IsDue, Midst, made}
use Rattle.worker_records.specs.Steps.{IsReadOf, IsWriteOf}

-- ---- one operation

abbrev made_one : Bool → View → View
made_one b v = if b then wrote v else v

module _ (p : Run) (v : View) (number op : ℕ) (kind : Kind) (w : ℕ → ℕ) (s : Shape) (rest : List Shape) (amid : IsAmid p v number op kind w (s ∷ rest)) where
  k : Known (course_of p.plan)
  k = known (course_of p.plan) amid.run.lawful

  come : HasComeTo (course_of p.plan) (known_core v) v.hart number (length amid.done)
  come = subst (HasComeTo (course_of p.plan) (known_core v) v.hart number) (sym amid.count) amid.come

  more : length (amid.done ++ s ∷ []) ≡ op + 1
  more = length-append amid.done (s ∷ []) ∙ ap (λ (n : ℕ). n + 1) amid.count

  after_one : after_shapes (before p v.hart number).words (amid.done ++ s ∷ []) ≡ after_shape w s
  after_one = after_append (before p v.hart number).words amid.done (s ∷ []) ∙ ap (λ (z : ℕ → ℕ). after_shape z s) amid.words

  come_read : s.write ≡ false → HasComeTo (course_of p.plan) (known_core v) v.hart number (op + 1)
  come_read r = subst (HasComeTo (course_of p.plan) (known_core v) v.hart number) more
      (after_read p amid.run k v.hart number kind amid.from_one amid.within amid.is amid.done s rest amid.shapes v come r)

  come_wrote : s.write ≡ true → HasComeTo (course_of p.plan) (known_core (wrote v)) v.hart number (op + 1)
  come_wrote r = subst (HasComeTo (course_of p.plan) (known_core (wrote v)) v.hart number) more
      (after_write p amid.run k v.hart number kind amid.from_one amid.within amid.is amid.done s rest amid.shapes v come r)

  pub amid_one : (b : Bool) → s.write ≡ b → IsAmid p (made_one b v) number (op + 1) kind (after_shape w s) rest
  amid_one true r = record {
    run = amid.run;
    from_one = amid.from_one;
    within = amid.within;
    is = amid.is;
    done = amid.done ++ s ∷ [];
    shapes = amid.shapes ∙ sym (append_assoc amid.done (s ∷ []) rest);
    count = more;
    words = after_one;
    come = come_wrote r;
  }
  amid_one false r = record {
    run = amid.run;
    from_one = amid.from_one;
    within = amid.within;
    is = amid.is;
    done = amid.done ++ s ∷ [];
    shapes = amid.shapes ∙ sym (append_assoc amid.done (s ∷ []) rest);
    count = more;
    words = after_one;
    come = come_read r;
  }

  abbrev o : Op
  o = filled_op (w s.word) s

  read_of : s.write ≡ false → s.check ≡ false → IsReadOf p.plan v number op s.word false p o
  read_of r c = subst (λ (z : ℕ → ℕ). IsReadOf p.plan v number op s.word false p (filled_op (z s.word) s)) amid.words
      (subst (λ (n : ℕ). IsReadOf p.plan v number n s.word false p (filled_op (after_shapes (before p v.hart number).words amid.done s.word) s)) amid.count
      (record {
        plan_is = refl;
        able = may_read p amid.run k v.hart number kind amid.from_one amid.within amid.is amid.done s rest amid.shapes v come r;
        word_is = refl;
        check_is = c;
      }))

  abbrev made_op : Op
  made_op = filled_op (after_shapes (before p v.hart number).words amid.done s.word) s

  next_write : s.write ≡ true → (q : ℕ) × IsNextWrite (course_of p.plan) (known_core v) v.hart q (operation_of v.hart number (length amid.done) made_op)
  next_write r = may_write p amid.run k v.hart number kind amid.from_one amid.within amid.is amid.done s rest amid.shapes v come r

  write_made : s.write ≡ true → s.lanes ≡ 15 → IsWriteOf p.plan v number (length amid.done) s.word (Store made_op.value) made_op
  write_made r l = record { at = (next_write r).0; word_is = refl; next = (next_write r).1; puts = (l, λ j lt covers. refl) }

  write_of : s.write ≡ true → s.lanes ≡ 15 → IsWriteOf p.plan v number op s.word (Store o.value) o
  write_of r l = subst (λ (z : ℕ → ℕ). IsWriteOf p.plan v number op s.word (Store ((filled_op (z s.word) s).value)) (filled_op (z s.word) s)) amid.words
      (subst (λ (n : ℕ). IsWriteOf p.plan v number n s.word (Store made_op.value) made_op) amid.count (write_made r l))

-- ---- some operations

-- none are made
pub made_none : (v : View) → made [] v ≡ v
made_none v = ap (λ (n : ℕ). record v { written = n }) (omega arith)

made_first : (s : Shape) (ss : List Shape) (v : View) (b : Bool) → s.write ≡ b → made ss (made_one b v) ≡ made (s ∷ ss) v
made_first s ss v true e = ap (λ (n : ℕ). record v { written = n })
    (let a : count_by (λ x. x.write) (s ∷ ss) ≡ count_by (λ x. x.write) (s ∷ []) + count_by (λ x. x.write) ss = sum_by-append (λ x. if x.write then 1 else 0) (s ∷ []) ss in
    let b : count_by (λ x. x.write) (s ∷ []) ≡ 1 = ap (λ (z : Bool). 0 + (if z then 1 else 0)) e in
    omega (arith, a, b))
made_first s ss v false e = ap (λ (n : ℕ). record v { written = n })
    (let a : count_by (λ x. x.write) (s ∷ ss) ≡ count_by (λ x. x.write) (s ∷ []) + count_by (λ x. x.write) ss = sum_by-append (λ x. if x.write then 1 else 0) (s ∷ []) ss in
    let b : count_by (λ x. x.write) (s ∷ []) ≡ 0 = ap (λ (z : Bool). 0 + (if z then 1 else 0)) e in
    omega (arith, a, b))

pub made_both : (xs ys : List Shape) (v : View) → made ys (made xs v) ≡ made (xs ++ ys) v
made_both xs ys v = ap (λ (n : ℕ). record v { written = n })
    (let a : count_by (λ x. x.write) (xs ++ ys) ≡ count_by (λ x. x.write) xs + count_by (λ x. x.write) ys = sum_by-append (λ x. if x.write then 1 else 0) xs ys in
    omega (arith, a))

pub amid_more : (p : Run) (number : ℕ) (kind : Kind) (ss rest : List Shape) (v : View) (op : ℕ) (w : ℕ → ℕ) → IsAmid p v number op kind w (ss ++ rest)
    → IsAmid p (made ss v) number (op + length ss) kind (after_shapes w ss) rest
amid_more p number kind [] rest v op w amid = subst (λ (z : View). IsAmid p z number (op + 0) kind w rest) (sym (made_none v))
    (subst (λ (n : ℕ). IsAmid p v number n kind w rest) (omega arith) amid)
amid_more p number kind (s ∷ ss) rest v op w amid =
    let next = amid_more p number kind ss rest (made_one s.write v) (op + 1) (after_shape w s) (amid_one p v number op kind w s (ss ++ rest) amid s.write refl) in
    subst (λ (z : View). IsAmid p z number (op + suc (length ss)) kind (after_shapes (after_shape w s) ss) rest) (made_first s ss v s.write refl)
    (subst (λ (n : ℕ). IsAmid p (made ss (made_one s.write v)) number n kind (after_shapes (after_shape w s) ss) rest) (omega arith) next)

-- ---- what is due

module _ (plan : Planned) (v : View) (number op : ℕ) (m : Midst) where
  -- the first ones of those that are due
  pub due_first : (xs ys : List Shape) → IsDue plan v number op (xs ++ ys) m → IsDue plan v number op xs (record m { rest = ys ++ m.rest })
  due_first xs ys due = record {
    plan_is = due.plan_is;
    amid = subst (IsAmid m.run v number op m.kind m.words) (append_assoc xs ys m.rest) due.amid;
  }

  -- and the others, once these are made
  pub due_rest : (xs ys : List Shape) → IsDue plan v number op (xs ++ ys) m → IsDue plan (made xs v) number (op + length xs) ys (record m { words = after_shapes m.words xs })
  due_rest xs ys due = record {
    plan_is = due.plan_is;
    amid = amid_more m.run number m.kind xs (ys ++ m.rest) v op m.words (subst (IsAmid m.run v number op m.kind m.words) (append_assoc xs ys m.rest) due.amid);
  }

  pub read_due : (word : ℕ) → IsDue plan v number op (reads word ∷ []) m → IsReadOf plan v number op word false m.run (filled_op (m.words word) (reads word))
  read_due word due = subst (λ (z : Planned). IsReadOf z v number op word false m.run (filled_op (m.words word) (reads word))) due.plan_is
      (read_of m.run v number op m.kind m.words (reads word) m.rest due.amid refl refl)

  pub read_found : (word x : ℕ) → x < 2 ^ 64 → IsDue plan v number op (reads word ∷ []) m → ((q : Run) (o : Op) → IsReadOf plan v number op word false q o → HasValueOf o x) → x ≡ m.words word
  read_found word x wide due has =
      let is : IsReadOf plan v number op word false m.run (filled_op (m.words word) (reads word)) = read_due word due in
      whole_word (filled_op (m.words word) (reads word)) x refl wide (due.amid.run.wide_values v.hart number op (filled_op (m.words word) (reads word)) is.able.listed) (has m.run (filled_op (m.words word) (reads word)) is)

  pub write_due : (word : ℕ) (change : ℕ → ℕ) → IsDue plan v number op (writes word change ∷ []) m
      → IsWriteOf plan v number op word (Store (change (m.words word))) (filled_op (m.words word) (writes word change))
  write_due word change due = subst (λ (z : Planned). IsWriteOf z v number op word (Store (change (m.words word))) (filled_op (m.words word) (writes word change))) due.plan_is
      (write_of m.run v number op m.kind m.words (writes word change) m.rest due.amid refl refl)

-- ---- what is due, one by one

made_read : (word : ℕ) (v : View) → made (reads word ∷ []) v ≡ v
made_read word v = ap (λ (n : ℕ). record v { written = n }) (omega arith)

made_write : (word : ℕ) (change : ℕ → ℕ) (v : View) → made (writes word change ∷ []) v ≡ wrote v
made_write word change v = ap (λ (n : ℕ). record v { written = n }) (omega arith)

pub made_past_read : (word : ℕ) (ss : List Shape) (v : View) → made ss v ≡ made (reads word ∷ ss) v
made_past_read word ss v = ap (made ss) (sym (made_read word v)) ∙ made_both (reads word ∷ []) ss v

pub made_past_write : (word : ℕ) (change : ℕ → ℕ) (ss : List Shape) (v : View) → made ss (wrote v) ≡ made (writes word change ∷ ss) v
made_past_write word change ss v = ap (made ss) (sym (made_write word change v)) ∙ made_both (writes word change ∷ []) ss v

-- a midst with these words
abbrev pub DueFrom : Planned → View → ℕ → ℕ → List Shape → (ℕ → ℕ) → Type 0
DueFrom plan v number op ss w = (m : Midst) × IsDue plan v number op ss m × (m.words ≡ w)

module _ (plan : Planned) (v : View) (number op : ℕ) (w : ℕ → ℕ) where
  pub first_of : (s : Shape) (ss : List Shape) → DueFrom plan v number op (s ∷ ss) w → DueFrom plan v number op (s ∷ []) w
  first_of s ss t = (record t.0 { rest = ss ++ t.0.rest }, due_first plan v number op t.0 (s ∷ []) ss t.1, t.2)

  pub past_read : (word : ℕ) (ss : List Shape) → DueFrom plan v number op (reads word ∷ ss) w → DueFrom plan v number (op + 1) ss w
  past_read word ss t = (t.0, subst (λ (z : View). IsDue plan z number (op + 1) ss t.0) (made_read word v) (due_rest plan v number op t.0 (reads word ∷ []) ss t.1), t.2)

  pub past_write : (word : ℕ) (change : ℕ → ℕ) (ss : List Shape) → DueFrom plan v number op (writes word change ∷ ss) w → DueFrom plan (wrote v) number (op + 1) ss (put w word (change (w word)))
  past_write word change ss t = (
    record t.0 { words = put t.0.words word (change (t.0.words word)) },
    subst (λ (z : View). IsDue plan z number (op + 1) ss (record t.0 { words = put t.0.words word (change (t.0.words word)) })) (made_write word change v) (due_rest plan v number op t.0 (writes word change ∷ []) ss t.1),
    ap (λ (z : ℕ → ℕ). put z word (change (z word))) t.2,
  )

  pub like : (ss ts : List Shape) → ss ≡ ts → DueFrom plan v number op ss w → DueFrom plan v number op ts w
  like ss ts e t = subst (λ (z : List Shape). DueFrom plan v number op z w) e t

  -- what a read of the next word found
  pub found_due : (word x : ℕ) (ss : List Shape) → DueFrom plan v number op (reads word ∷ ss) w → ((m : Midst) → IsDue plan v number op (reads word ∷ []) m → x ≡ m.words word) → x ≡ w word
  found_due word x ss t is = let f = first_of (reads word) ss t in is f.0 f.1 ∙ ap (λ (z : ℕ → ℕ). z word) f.2
