-- Pages replaced one after another.
use Rattle.std.proofs.Common.{◌≡◌, ℕ, ◌+◌, ◌/◌, ◌%◌, ◌<◌, inl, inr, Bool, true, false, List, length, get_or, set, Option, Some, None, is_some, refl, arith, ap, IsSome, IfSome}
use Rattle.std.proofs.Math.Path.{fun_ext}
use Rattle.std.specs.Option.{option_map, option_map_or}
use Rattle.std.proofs.lemmas.List.{get_or-set_same, get_or-set_other}
use Rattle.std.proofs.lemmas.Bool.{cases_eq}
use Rattle.pl_base.specs.Pages.{is_among, marked}
use Rattle.guest_mem.specs.Bytes.{repaged}
use Rattle.guest_mem.specs.Directory.{IsZeroPage}
use Rattle.guest_mem.specs.Image.{PageImage}
use Rattle.guest_mem.specs.Memory.{page_at, bytes, mapped, texts}
use Rattle.pl_base.proofs.Pages.{among, none_among, among_more}

-- `count` entries from `first` on have that byte throughout, or none, and those marks; the others are as before
pub record Repages (old new : List (Option PageImage)) (first count : ℕ) (byte : Option ℕ) (is_mapped is_text : Bool) : Type 0 where
  pub bytes_are : bytes new ≡ repaged (bytes old) first count byte
  pub mapped_are : mapped new ≡ marked (mapped old) first count is_mapped
  pub texts_are : texts new ≡ marked (texts old) first count is_text

-- what an entry shows
pub record Shows (entry : Option PageImage) (byte : Option ℕ) (is_mapped is_text : Bool) : Type 0 where
  pub byte_is : (k : ℕ) → option_map (λ (page : PageImage). get_or page.bytes k 0) entry ≡ byte
  pub mapped_is : is_some entry ≡ is_mapped
  pub text_is : option_map_or (λ (page : PageImage). page.text) entry false ≡ is_text

pub nothing_shows : Shows None None false false
nothing_shows = record { byte_is = λ k. refl; mapped_is = refl; text_is = refl }

pub zeros_show : (entry : Option PageImage) (text : Bool) → IsSome entry → IfSome entry (IsZeroPage text) → Shows entry (Some 0) true text
zeros_show None text some zeros = absurd (cc)
zeros_show (Some page) text some zeros = record { byte_is = λ k. ap Some (zeros.zeros k); mapped_is = refl; text_is = zeros.text_is }

at_one : (first count number k : ℕ) → number ≡ first + count → k ≡ number → is_among first (count + 1) k ≡ true
at_one first count number k is same = among first (count + 1) k (omega arith) (omega arith)

pub bytes-set : (old new : List (Option PageImage)) (first count number : ℕ) (entry : Option PageImage) (byte : Option ℕ) →
    number ≡ first + count → number < length new → ((k : ℕ) → option_map (λ (page : PageImage). get_or page.bytes k 0) entry ≡ byte) →
    bytes new ≡ repaged (bytes old) first count byte → bytes (set new number entry) ≡ repaged (bytes old) first (count + 1) byte
unfolding bytes
bytes-set old new first count number entry byte is within shows before = fun_ext (λ k.
    elim (cases_eq (k / 4096) number) [
      | inl same ↦
          let stored : page_at (set new number entry) (k / 4096) ≡ entry = rw same (get_or-set_same new number entry None within) in
          rw (stored, at_one first count number (k / 4096) is same) (shows (k % 4096))
      | inr other ↦
          let kept : page_at (set new number entry) (k / 4096) ≡ page_at new (k / 4096) = get_or-set_other new number (k / 4096) entry None other in
          rw (kept, among_more first count number (k / 4096) is other) (ap (λ f. f k) before)
    ])

pub mapped-set : (old new : List (Option PageImage)) (first count number : ℕ) (entry : Option PageImage) (answer : Bool) →
    number ≡ first + count → number < length new → is_some entry ≡ answer →
    mapped new ≡ marked (mapped old) first count answer → mapped (set new number entry) ≡ marked (mapped old) first (count + 1) answer
unfolding mapped
mapped-set old new first count number entry answer is within shows before = fun_ext (λ k.
    elim (cases_eq k number) [
      | inl same ↦
          let stored : page_at (set new number entry) k ≡ entry = rw same (get_or-set_same new number entry None within) in
          rw (stored, at_one first count number k is same) shows
      | inr other ↦
          let kept : page_at (set new number entry) k ≡ page_at new k = get_or-set_other new number k entry None other in
          rw (kept, among_more first count number k is other) (ap (λ f. f k) before)
    ])

pub texts-set : (old new : List (Option PageImage)) (first count number : ℕ) (entry : Option PageImage) (answer : Bool) →
    number ≡ first + count → number < length new → option_map_or (λ (page : PageImage). page.text) entry false ≡ answer →
    texts new ≡ marked (texts old) first count answer → texts (set new number entry) ≡ marked (texts old) first (count + 1) answer
unfolding texts
texts-set old new first count number entry answer is within shows before = fun_ext (λ k.
    elim (cases_eq k number) [
      | inl same ↦
          let stored : page_at (set new number entry) k ≡ entry = rw same (get_or-set_same new number entry None within) in
          rw (stored, at_one first count number k is same) shows
      | inr other ↦
          let kept : page_at (set new number entry) k ≡ page_at new k = get_or-set_other new number k entry None other in
          rw (kept, among_more first count number k is other) (ap (λ f. f k) before)
    ])

-- one more entry is replaced
pub repages_more : (old new : List (Option PageImage)) (first count next number : ℕ) (entry : Option PageImage) (byte : Option ℕ) (is_mapped is_text : Bool) →
    number ≡ first + count → next ≡ count + 1 → number < length new → Shows entry byte is_mapped is_text →
    Repages old new first count byte is_mapped is_text → Repages old (set new number entry) first next byte is_mapped is_text
repages_more old new first count next number entry byte is_mapped is_text is more within shows before = rw more record {
  bytes_are = bytes-set old new first count number entry byte is within shows.byte_is before.bytes_are;
  mapped_are = mapped-set old new first count number entry is_mapped is within shows.mapped_is before.mapped_are;
  texts_are = texts-set old new first count number entry is_text is within shows.text_is before.texts_are;
}

-- none is replaced yet
pub repages_none : (pages : List (Option PageImage)) (first count : ℕ) (byte : Option ℕ) (is_mapped is_text : Bool) → count ≡ 0 →
    Repages pages pages first count byte is_mapped is_text
repages_none pages first count byte is_mapped is_text none = rw none record {
  bytes_are = fun_ext (λ k. rw (none_among first (k / 4096)) refl);
  mapped_are = fun_ext (λ k. rw (none_among first k) refl);
  texts_are = fun_ext (λ k. rw (none_among first k) refl);
}
