-- The directory as a whole.
use Rattle.std.proofs.Common.{◌≡◌, ℕ, ◌+◌, ◌-◌, ◌≤◌, ◌⊎◌, inl, inr, true, false, List, length, take, drop, ◌++◌, ◌<◌, Option, None, replicate, refl, arith, sym, ◌∙◌, ap}
use Rattle.std.proofs.lemmas.List.{length-replicate, take_at}
use Rattle.std.proofs.lemmas.Bool.{cases_lt}
use Rattle.pl_base.specs.Pages.{marked, count_below}
use Rattle.guest_mem.specs.Directory.{IsDirectory}
use Rattle.guest_mem.specs.Image.{PageImage}
use Rattle.guest_mem.specs.Memory.{page_at, mapped}
use Rattle.pl_base.proofs.Pages.{count_failing, count_more, count_fewer}
use Rattle.guest_mem.proofs.Pages.{everywhere, mapped_within}

-- in a directory of empty entries no page is mapped
pub none_mapped : (pages : List (Option PageImage)) (n : ℕ) → pages ≡ replicate n None → (k : ℕ) → mapped pages k ≡ false
unfolding mapped
none_mapped pages n empty k = let none : page_at pages k ≡ None = everywhere pages n k None empty in rw none refl

pub directory_of_none : (pages : List (Option PageImage)) (n : ℕ) → n ≡ 4096 → pages ≡ replicate n None → IsDirectory pages 0
directory_of_none pages n is empty = record {
  all_pages = ap length empty ∙ length-replicate n None ∙ is;
  counted = sym (count_failing (mapped pages) 4096 (none_mapped pages n empty));
  few = omega arith;
}

-- a directory after pages were mapped
pub directory_more : (old new : List (Option PageImage)) (first count before : ℕ) → IsDirectory old before → length new ≡ length old → first + count ≤ 4096 →
    ((k : ℕ) → first ≤ k → k < first + count → mapped old k ≡ false) → before + count ≤ 512 → mapped new ≡ marked (mapped old) first count true → IsDirectory new (before + count)
directory_more old new first count before was long within free room now =
    let counted = count_more (mapped old) first count 4096 free in
    let same : count_below (mapped new) 4096 ≡ count_below (marked (mapped old) first count true) 4096 = ap (λ test. count_below test 4096) now in
    record {
      all_pages = long ∙ was.all_pages;
      counted = omega (arith, counted, same, was.counted);
      few = room;
    }

-- a directory after pages were unmapped, of which there were so many
pub directory_less : (old new : List (Option PageImage)) (first count before : ℕ) → IsDirectory old before → length new ≡ length old →
    ((k : ℕ) → first ≤ k → k < first + count → mapped old k ≡ true) → mapped new ≡ marked (mapped old) first count false → (count ≤ before) × IsDirectory new (before - count)
directory_less old new first count before was long taken now =
    let counted = count_fewer (mapped old) first count 4096 taken in
    let same : count_below (mapped new) 4096 ≡ count_below (marked (mapped old) first count false) 4096 = ap (λ test. count_below test 4096) now in
    let range : (count ≡ 0) ⊎ (first + count ≤ 4096) =
    elim (cases_lt 0 count) [
      | inl some ↦ inr (omega (arith, was.all_pages, mapped_within old (first + count - 1) (taken (first + count - 1) (omega arith) (omega arith))))
      | inr none ↦ inl (omega arith)
    ] in
    elim range [
      | inl none ↦ (omega arith, record { all_pages = long ∙ was.all_pages; counted = omega (arith, counted, same, was.counted, none); few = omega (arith, was.few) })
      | inr within ↦ (omega (arith, counted, was.counted, within), record { all_pages = long ∙ was.all_pages; counted = omega (arith, counted, same, was.counted, within); few = omega (arith, was.few) })
    ]

-- the list of a vector whose slice was lent whole
pub lent_whole : {X : Type 0} (n : ℕ) (new old : List X) → length new ≡ n → take n (new ++ drop (length new) old) ≡ new
lent_whole n new old same = take_at new (drop (length new) old) n same

-- the directory of a memory after a call that unmapped pages
pub unmapped : (inside now lent new : List (Option PageImage)) (len first count asked told before : ℕ) →
    IsDirectory inside before → inside ≡ now → lent ≡ inside → length lent ≡ len → length new ≡ length lent →
    ((k : ℕ) → first ≤ k → k < first + count → mapped now k ≡ true) → asked ≡ count → told ≡ count →
    mapped new ≡ marked (mapped lent) first asked false →
    (told ≤ before) × IsDirectory (take len (new ++ drop (length new) inside)) (before - told)
unmapped inside now lent new len first count asked told before was is_now is_lent lent_len long taken is_asked is_told marks =
    let whole : take len (new ++ drop (length new) inside) ≡ new = lent_whole len new inside (long ∙ lent_len) in
    rw (whole, is_told)
    (directory_less inside new first count before was (long ∙ ap length is_lent) (rw is_now taken)
    (marks ∙ ap (λ n. marked (mapped lent) first n false) is_asked ∙ ap (λ pages. marked (mapped pages) first count false) is_lent))

-- the directory of a memory after a call that mapped pages
pub remapped : (inside now lent new : List (Option PageImage)) (len first count asked told added before : ℕ) →
    IsDirectory inside before → inside ≡ now → lent ≡ inside → length lent ≡ len → length new ≡ length lent → first + count ≤ 4096 →
    ((k : ℕ) → first ≤ k → k < first + count → mapped now k ≡ false) → asked ≡ count → told ≡ count → added ≡ count → before + told ≤ 512 →
    mapped new ≡ marked (mapped lent) first asked true →
    IsDirectory (take len (new ++ drop (length new) inside)) (before + added)
remapped inside now lent new len first count asked told added before was is_now is_lent lent_len long within free is_asked is_told is_added room marks =
    let whole : take len (new ++ drop (length new) inside) ≡ new = lent_whole len new inside (long ∙ lent_len) in
    rw (whole, is_added)
    (directory_more inside new first count before was (long ∙ ap length is_lent) within (rw is_now free) (omega (arith, room, is_told))
    (marks ∙ ap (λ n. marked (mapped lent) first n true) is_asked ∙ ap (λ pages. marked (mapped pages) first count true) is_lent))

-- the directory of a memory after a call that wrote bytes
pub kept : (inside lent new : List (Option PageImage)) (len count : ℕ) → IsDirectory inside count → lent ≡ inside → length lent ≡ len → length new ≡ length lent →
    mapped new ≡ mapped lent → IsDirectory (take len (new ++ drop (length new) inside)) count
kept inside lent new len count was is_lent lent_len long same =
    let whole : take len (new ++ drop (length new) inside) ≡ new = lent_whole len new inside (long ∙ lent_len) in
    rw whole record {
      all_pages = long ∙ ap length is_lent ∙ was.all_pages;
      counted = was.counted ∙ ap (λ test. count_below test 4096) (sym (same ∙ ap mapped is_lent));
      few = was.few;
    }
