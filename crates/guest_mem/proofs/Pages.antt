-- How a memory's three functions follow its directory.
use Rattle.std.proofs.Common.{◌≡◌, ℕ, ◌+◌, ◌-◌, ◌/◌, ◌%◌, ◌<◌, ◌≤◌, inl, inr, true, false, List, [], ◌++◌, length, get_or, set, Option, Some, None, is_some, replicate, refl, arith, sym, ap, ◌∙◌}
use Rattle.std.proofs.Math.Path.{fun_ext}
use Rattle.std.specs.Option.{option_map, option_copied}
use Rattle.std.specs.Borrow.{Bor}
use Rattle.std.proofs.lemmas.List.{get_or_default, get_or_append_left, get_or-append_right, length-append, get_or-replicate, get_or_past, length-replicate, get_or-set_same, get_or-set_other}
use Rattle.std.proofs.lemmas.Bool.{cases_lt, cases_eq}
use Rattle.guest_mem.specs.Bytes.{overwritten, written, AllMapped, IsFirstUnmapped}
use Rattle.guest_mem.specs.Image.{PageImage}
use Rattle.guest_mem.specs.Memory.{page_at, bytes, mapped, texts}
use Rattle.pl_base.proofs.Pages.{among, not_among_before, not_among_past, place}

-- a list of one value has it everywhere, if that is the default too
pub same_everywhere : {X : Type 0} (n k : ℕ) (x : X) → get_or (replicate n x) k x ≡ x
same_everywhere n k x =
    elim (cases_lt k n) [
      | inl within ↦ get_or-replicate n k x x within
      | inr past ↦ let short : length (replicate n x) ≤ k = rw length-replicate past in get_or_past (replicate n x) k x short
    ]

pub everywhere : {X : Type 0} (xs : List X) (n k : ℕ) (x : X) → xs ≡ replicate n x → get_or xs k x ≡ x
everywhere xs n k x same = rw same (same_everywhere n k x)

-- an address has a byte exactly where its page is mapped
pub is_some-bytes : (memory : List (Option PageImage)) (address : ℕ) → is_some (bytes memory address) ≡ mapped memory (address / 4096)
unfolding bytes mapped
is_some-bytes memory address = elim (page_at memory (address / 4096)) as (λ o. is_some (option_map (λ (page : PageImage). get_or page.bytes (address % 4096) 0) o) ≡ is_some o) [ None ↦ refl | Some page ↦ refl ]

-- an address on no mapped page has no byte
pub bytes-unmapped : (memory : List (Option PageImage)) (address : ℕ) → mapped memory (address / 4096) ≡ false → bytes memory address ≡ None
unfolding bytes mapped
bytes-unmapped memory address = elim (page_at memory (address / 4096)) as (λ o. is_some o ≡ false → option_map (λ (page : PageImage). get_or page.bytes (address % 4096) 0) o ≡ None) [ None ↦ λ _. refl | Some page ↦ λ e. cc ]

-- a byte on a mapped page
pub bytes-page : (memory : List (Option PageImage)) (address : ℕ) (page : PageImage) → page_at memory (address / 4096) ≡ Some page → bytes memory address ≡ Some (get_or page.bytes (address % 4096) 0)
unfolding bytes
bytes-page memory address page here = rw here refl

pub mapped-page : (memory : List (Option PageImage)) (number : ℕ) (page : PageImage) → page_at memory number ≡ Some page → mapped memory number ≡ true
unfolding mapped
mapped-page memory number page here = rw here refl

pub texts-page : (memory : List (Option PageImage)) (number : ℕ) (page : PageImage) → page_at memory number ≡ Some page → texts memory number ≡ page.text
unfolding texts
texts-page memory number page here = rw here refl

-- a mapped page is among the directory's entries
pub mapped_within : (memory : List (Option PageImage)) (number : ℕ) → mapped memory number ≡ true → number < length memory
unfolding mapped
mapped_within memory number is_mapped =
    elim (cases_lt number (length memory)) [
      | inl within ↦ within
      | inr past ↦ let none : page_at memory number ≡ None = get_or_past memory number None past in let no : is_some (page_at memory number) ≡ false = rw none refl in absurd (cc)
    ]

-- what a page holds after a list was written over a part of it, seen by address
pub bytes-put : (memory : List (Option PageImage)) (at : ℕ) (list : List ℕ) (old new : PageImage) →
    at / 4096 < length memory → page_at memory (at / 4096) ≡ Some old → at % 4096 + length list ≤ 4096 →
    ((k : ℕ) → get_or new.bytes k 0 ≡ overwritten (λ j. get_or old.bytes j 0) (at % 4096) list k) →
    bytes (set memory (at / 4096) (Some new)) ≡ written (bytes memory) at list
unfolding bytes
bytes-put memory at list old new within here fits put = fun_ext (λ k.
    elim (cases_eq (k / 4096) (at / 4096)) [
      | inl same ↦
          let stored : page_at (set memory (at / 4096) (Some new)) (k / 4096) ≡ Some new = rw same (get_or-set_same memory (at / 4096) (Some new) None within) in
          let was : page_at memory (k / 4096) ≡ Some old = rw same here in
          rw (stored, was, put (k % 4096))
          (elim (place at (length list) k) [
            | inl (from, under) ↦
                rw (among at (length list) k from under, among (at % 4096) (length list) (k % 4096) (omega arith) (omega arith))
                (ap (λ i. Some (get_or list i 0)) (omega arith))
            | inr (inl early) ↦ rw (not_among_before at (length list) k early, not_among_before (at % 4096) (length list) (k % 4096) (omega arith)) refl
            | inr (inr past) ↦ rw (not_among_past at (length list) k past, not_among_past (at % 4096) (length list) (k % 4096) (omega arith)) refl
          ])
      | inr other ↦
          let kept : page_at (set memory (at / 4096) (Some new)) (k / 4096) ≡ page_at memory (k / 4096) = get_or-set_other memory (at / 4096) (k / 4096) (Some new) None other in
          rw kept
          (elim (cases_lt k at) [
            | inl early ↦ rw (not_among_before at (length list) k early) refl
            | inr from ↦ rw (not_among_past at (length list) k (omega arith)) refl
          ])
    ])

pub mapped-put : (memory : List (Option PageImage)) (number : ℕ) (old new : PageImage) →
    number < length memory → page_at memory number ≡ Some old → mapped (set memory number (Some new)) ≡ mapped memory
unfolding mapped
mapped-put memory number old new within here = fun_ext (λ k.
    elim (cases_eq k number) [
      | inl same ↦ rw (same, get_or-set_same memory number (Some new) None within, here) refl
      | inr other ↦ rw (get_or-set_other memory number k (Some new) None other) refl
    ])

pub texts-put : (memory : List (Option PageImage)) (number : ℕ) (old new : PageImage) →
    number < length memory → page_at memory number ≡ Some old → new.text ≡ old.text → texts (set memory number (Some new)) ≡ texts memory
unfolding texts
texts-put memory number old new within here text = fun_ext (λ k.
    elim (cases_eq k number) [
      | inl same ↦ rw (same, get_or-set_same memory number (Some new) None within, here) text
      | inr other ↦ rw (get_or-set_other memory number k (Some new) None other) refl
    ])

-- two writes in a row are one
pub written-written : (start : ℕ → Option ℕ) (at : ℕ) (xs ys : List ℕ) →
    written (written start at xs) (at + length xs) ys ≡ written start at (xs ++ ys)
written-written start at xs ys = fun_ext (λ k.
    let total : length (xs ++ ys) ≡ length xs + length ys = length-append xs ys in
    elim (place at (length xs) k) [
      | inl (from, under) ↦
          rw (not_among_before (at + length xs) (length ys) k (omega arith), among at (length xs) k from under, among at (length (xs ++ ys)) k from (omega arith))
          (ap Some (sym (get_or_append_left xs ys 0 (k - at) (omega arith))))
      | inr (inl early) ↦
          rw (not_among_before (at + length xs) (length ys) k (omega arith), not_among_before at (length xs) k early, not_among_before at (length (xs ++ ys)) k early) refl
      | inr (inr past) ↦
          elim (cases_lt k (at + length xs + length ys)) [
            | inl within ↦
                let e : get_or (xs ++ ys) (k - at) 0 ≡ get_or ys (k - at - length xs) 0 = get_or-append_right xs ys (length xs) (k - at) 0 refl (omega arith) in
                let d : k - at - length xs ≡ k - (at + length xs) = omega arith in
                rw (among (at + length xs) (length ys) k past within, among at (length (xs ++ ys)) k (omega arith) (omega arith), e, d) refl
            | inr beyond ↦
                rw (not_among_past (at + length xs) (length ys) k (omega arith), not_among_past at (length xs) k past, not_among_past at (length (xs ++ ys)) k (omega arith)) refl
          ]
    ])

-- a write of nothing
pub written-nothing : (start : ℕ → Option ℕ) (at : ℕ) → written start at [] ≡ start
written-nothing start at = fun_ext (λ k. elim (place at 0 k) [ inl (from, under) ↦ absurd (omega arith) | inr (inl early) ↦ rw (not_among_before at 0 k early) refl | inr (inr past) ↦ rw (not_among_past at 0 k past) refl ])

-- what was read at a place of the directory is the entry
pub entry_is : (memory : List (Option PageImage)) (number : ℕ) (other entry : Option PageImage) →
    get_or memory number other ≡ entry → number < length memory → page_at memory number ≡ entry
entry_is memory number other entry read within = get_or_default memory number None other within ∙ read

-- a reference to a page is there exactly where the page is mapped
pub mapped_read : (memory : List (Option PageImage)) (number : ℕ) (read : Option (Bor PageImage)) → option_copied read ≡ page_at memory number → is_some read ≡ mapped memory number
unfolding mapped
mapped_read memory number read is = sym (is_some-copied read) ∙ ap (λ (entry : Option PageImage). is_some entry) is
  where
    is_some-copied : (read : Option (Bor PageImage)) → is_some (option_copied read) ≡ is_some read
    is_some-copied None = refl
    is_some-copied (Some page) = refl

pub not_mapped : (memory : List (Option PageImage)) (number : ℕ) → page_at memory number ≡ None → mapped memory number ≡ false
unfolding mapped
not_mapped memory number none = rw none refl

-- an address on a mapped page has a byte
pub bytes-mapped : (memory : List (Option PageImage)) (address number : ℕ) → mapped memory number ≡ true → address / 4096 ≡ number → is_some (bytes memory address) ≡ true
bytes-mapped memory address number is_mapped same = is_some-bytes memory address ∙ ap (mapped memory) same ∙ is_mapped

-- and lies on one, if it has one
pub mapped-bytes : (memory : List (Option PageImage)) (address : ℕ) → is_some (bytes memory address) ≡ true → mapped memory (address / 4096) ≡ true
mapped-bytes memory address some = sym (is_some-bytes memory address) ∙ some

-- a page that is not mapped is not text
pub not_text : (memory : List (Option PageImage)) (number : ℕ) → page_at memory number ≡ None → texts memory number ≡ false
unfolding texts
not_text memory number none = rw none refl

-- an access within one page
pub all_mapped : (memory : List (Option PageImage)) (at count : ℕ) → mapped memory (at / 4096) ≡ true → at % 4096 + count ≤ 4096 → AllMapped (bytes memory) at count
all_mapped memory at count is_mapped within = λ k from before. bytes-mapped memory k (at / 4096) is_mapped (omega arith)

pub first_is_unmapped : (memory : List (Option PageImage)) (at count : ℕ) → mapped memory (at / 4096) ≡ false → 0 < count → IsFirstUnmapped (bytes memory) at count at
first_is_unmapped memory at count none some = record {
  from = omega arith;
  within = omega arith;
  unmapped = bytes-unmapped memory at none;
  before = λ k from before. absurd (omega arith);
}

pub past_not_mapped : (memory : List (Option PageImage)) (number : ℕ) → length memory ≤ number → mapped memory number ≡ false
past_not_mapped memory number past = not_mapped memory number (get_or_past memory number None past)
