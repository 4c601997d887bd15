-- Pages of cells stand for the bytes of memory.
use Rattle.std.proofs.Common.{◌≡◌, ℕ, zero, suc, ◌+◌, ◌-◌, ◌*◌, ◌/◌, ◌%◌, ◌<◌, ◌≤◌, ◌⊎◌, Bool, true, false, List, [], ◌∷◌, ◌++◌, length, take, get_or, Option, None, inl, inr, refl, sym, ap, ◌∙◌, arith, unwrap_or}
use Rattle.std.specs.Prelude.{option_map, find, replicate}
use Rattle.std.proofs.lemmas.Bool.{cases_lt, cases_eq, cases_Bool, lt-ltb, le-ltb, le-leb, lt-leb}
use Rattle.std.proofs.Math.ListN.{set}
use Rattle.std.proofs.lemmas.List.{get_or-set_same, get_or-set_other, get_or_default, get_or-replicate, get_or_past, length-replicate}
use mathlib.Core.Path.{fun_ext}
use Rattle.pl_base.specs.declared.widths.LoadWidth.{LoadWidth}
use Rattle.pl_base.specs.declared.widths.LoadWidth.TheVariants as load
use Rattle.pl_base.specs.Widths.{load_bytes}
use Rattle.lifeguard.specs.Rules.{Rules}
use Rattle.lifeguard.specs.Plain.{loaded_mask}
use Rattle.lifeguard.specs.State.{Bytes, nibble_at, is_in, changed, replaced, span, nothing}
use Rattle.lifeguard.specs.Pages.{page_of, HasRoom}
use Rattle.lifeguard.specs.Shadow.{bytes_of, bytes_in}
use Rattle.lifeguard.proofs.CellLemmas.{written, changed-written, bytes_of_past, bytes_of-filled}

-- ---- reading

-- a byte is that of its page
pub bytes_in-page : (pages : List (List ℕ)) (a : ℕ) → bytes_in pages a ≡ bytes_of (page_of pages (a / 4096)) (a % 4096)
unfolding bytes_in
bytes_in-page pages a = refl

-- and so are those after it on the page
pub bytes_in-behind : (pages : List (List ℕ)) (a i : ℕ) → a % 4096 + i < 4096 → bytes_in pages (a + i) ≡ bytes_of (page_of pages (a / 4096)) (a % 4096 + i)
bytes_in-behind pages a i within =
    let same : (a + i) / 4096 ≡ a / 4096 = omega arith in
    let place : (a + i) % 4096 ≡ a % 4096 + i = omega arith in
    bytes_in-page pages (a + i) ∙ rw (same, place) refl

-- a byte of a page that is named by its number
pub bytes_in-at : (pages : List (List ℕ)) (page a : ℕ) → a < 4096 → bytes_of (page_of pages page) a ≡ bytes_in pages (page * 4096 + a)
bytes_in-at pages page a within =
    let same : (page * 4096 + a) / 4096 ≡ page = omega arith in
    let place : (page * 4096 + a) % 4096 ≡ a = omega arith in
    sym (bytes_in-page pages (page * 4096 + a) ∙ rw (same, place) refl)

-- past the last page there are no bytes
pub bytes_in_past : (pages : List (List ℕ)) (a : ℕ) → length pages ≤ a / 4096 → bytes_in pages a ≡ None
bytes_in_past pages a past = bytes_in-page pages a ∙ rw (get_or_past pages (a / 4096) [] past) (bytes_of_past [] (a % 4096) (omega arith))

-- pages without cells map no byte
pub bytes_in-empty : (count : ℕ) (pages : List (List ℕ)) → pages ≡ replicate count [] → bytes_in pages ≡ nothing
bytes_in-empty count pages is = rw is (fun_ext (λ a.
    let none : page_of (replicate count []) (a / 4096) ≡ [] = elim (cases_lt (a / 4096) count) [
      | inl lt ↦ get_or-replicate count (a / 4096) [] [] lt
      | inr le ↦ get_or_past (replicate count []) (a / 4096) [] (omega (arith, length-replicate {A = List ℕ}))
    ] in
    bytes_in-page (replicate count []) a ∙ rw none (bytes_of_past [] (a % 4096) (omega arith))))

-- no cells stand for no byte
pub bytes_of-none : bytes_of [] ≡ nothing
bytes_of-none = fun_ext (λ a. bytes_of_past [] a (omega arith))

-- ---- the first bad byte

-- a search among places is one among addresses
pub find_moved : (p q : ℕ → Bool) (base at len : ℕ) → ((a : ℕ) → at ≤ a → a < at + len → p (base + a) ≡ q a)
    → find p (span (base + at) len) ≡ option_map (λ a. base + a) (find q (span at len))
find_moved p q base at zero same = refl
find_moved p q base at (suc len) same =
    let here : p (base + at) ≡ q at = same at (omega arith) (omega arith) in
    elim (cases_Bool (q at)) [
      | inl bad ↦ rw (here, bad) refl
      | inr fine ↦
          let next : suc (base + at) ≡ base + suc at = omega arith in
          rw (here, fine, next) (find_moved p q base (suc at) len (λ a from below. same a (omega arith) (omega arith)))
    ]

-- ---- the mask of a load

pub loaded_mask-page : (rules : Rules) (width : LoadWidth) (pages : List (List ℕ)) (a : ℕ) → a % 4096 + load_bytes width ≤ 4096
    → loaded_mask rules width (bytes_of (page_of pages (a / 4096))) (a % 4096) ≡ loaded_mask rules width (bytes_in pages) a
loaded_mask-page rules load.B pages a within = rw (bytes_in-page pages a) refl
loaded_mask-page rules load.H pages a within = rw (bytes_in-page pages a, bytes_in-behind pages a 1 (omega arith)) refl
loaded_mask-page rules load.W pages a within = rw (bytes_in-page pages a, bytes_in-behind pages a 1 (omega arith), bytes_in-behind pages a 2 (omega arith), bytes_in-behind pages a 3 (omega arith)) refl
loaded_mask-page rules load.Bu pages a within = rw (bytes_in-page pages a) refl
loaded_mask-page rules load.Hu pages a within = rw (bytes_in-page pages a, bytes_in-behind pages a 1 (omega arith)) refl

-- ---- writing

-- whether a byte is in a range
pub is_in_yes : (addr len a : ℕ) → addr ≤ a → a < addr + len → is_in addr len a ≡ true
is_in_yes addr len a from below = rw (le-leb addr a from, lt-ltb a (addr + len) below) refl

pub is_in_before : (addr len a : ℕ) → a < addr → is_in addr len a ≡ false
is_in_before addr len a before = rw (lt-leb addr a before) refl

pub is_in_past : (addr len a : ℕ) → addr + len ≤ a → is_in addr len a ≡ false
is_in_past addr len a past = rw (le-leb addr a (omega arith), le-ltb a (addr + len) past) refl

-- where a byte lies
place : (addr len a : ℕ) → ((addr ≤ a) × (a < addr + len)) ⊎ ((a < addr) ⊎ (addr + len ≤ a))
place addr len a =
    elim (cases_lt a addr) [
      | inl before ↦ inr (inl before)
      | inr from ↦ elim (cases_lt a (addr + len)) [ inl within ↦ inl (from, within) | inr past ↦ inr (inr past) ]
    ]

-- what is written into a page is written into memory
pub written_on_page : (pages : List (List ℕ)) (g : ℕ → Option ℕ → Option ℕ) (addr len : ℕ) (cells : List ℕ) → addr / 4096 < length pages → addr % 4096 + len ≤ 4096
    → bytes_of cells ≡ written g (addr % 4096) len (bytes_of (page_of pages (addr / 4096)))
    → bytes_in (set pages (addr / 4096) cells) ≡ written g addr len (bytes_in pages)
written_on_page pages g addr len cells inside within is = fun_ext (λ a.
    elim (cases_eq (a / 4096) (addr / 4096)) [
      | inl same ↦
          let now : bytes_in (set pages (addr / 4096) cells) a ≡ written g (addr % 4096) len (bytes_of (page_of pages (addr / 4096))) (a % 4096) =
          bytes_in-page (set pages (addr / 4096) cells) a ∙ rw (same, get_or-set_same pages (addr / 4096) cells [] inside) (ap (λ (f : Bytes). f (a % 4096)) is) in
          let was : bytes_in pages a ≡ bytes_of (page_of pages (addr / 4096)) (a % 4096) = bytes_in-page pages a ∙ rw same refl in
          now ∙ elim (place addr len a) [
            | inl (from, below) ↦
                let gap : a % 4096 - addr % 4096 ≡ a - addr = omega arith in
                rw (is_in_yes addr len a from below, is_in_yes (addr % 4096) len (a % 4096) (omega arith) (omega arith), gap, was) refl
            | inr (inl before) ↦ rw (is_in_before addr len a before, is_in_before (addr % 4096) len (a % 4096) (omega arith), was) refl
            | inr (inr past) ↦ rw (is_in_past addr len a past, is_in_past (addr % 4096) len (a % 4096) (omega arith), was) refl
          ]
      | inr other ↦
          let kept : bytes_in (set pages (addr / 4096) cells) a ≡ bytes_in pages a =
          bytes_in-page (set pages (addr / 4096) cells) a ∙ rw (get_or-set_other pages (addr / 4096) (a / 4096) cells [] other) (sym (bytes_in-page pages a)) in
          kept ∙ elim (cases_lt a addr) [
            | inl before ↦ rw (is_in_before addr len a before) refl
            | inr from ↦ rw (is_in_past addr len a (omega arith)) refl
          ]
    ])

-- a range is written piece by piece, where all its bytes are written alike
pub written_more : (h : Option ℕ → Option ℕ) (addr done piece : ℕ) (old now next : Bytes)
    → now ≡ written (λ i. h) addr done old → next ≡ written (λ i. h) (addr + done) piece now → next ≡ written (λ i. h) addr (done + piece) old
written_more h addr done piece old now next before after = after ∙ rw before (fun_ext (λ a.
    elim (place addr done a) [
      | inl (from, below) ↦ rw (is_in_yes addr done a from below, is_in_before (addr + done) piece a below, is_in_yes addr (done + piece) a from (omega arith)) refl
      | inr (inl early) ↦ rw (is_in_before addr done a early, is_in_before (addr + done) piece a (omega arith), is_in_before addr (done + piece) a early) refl
      | inr (inr past) ↦ elim (cases_lt a (addr + done + piece)) [
        | inl below ↦ rw (is_in_past addr done a past, is_in_yes (addr + done) piece a past below, is_in_yes addr (done + piece) a (omega arith) (omega arith)) refl
        | inr high ↦ rw (is_in_past addr done a past, is_in_past (addr + done) piece a high, is_in_past addr (done + piece) a (omega arith)) refl
      ]
    ]))

-- nothing is written where nothing is mapped
pub written_nowhere : (f : ℕ → ℕ → ℕ) (addr len : ℕ) → written (λ i. option_map (f i)) addr len nothing ≡ nothing
written_nowhere f addr len = fun_ext (λ a.
    elim (cases_Bool (is_in addr len a)) [ inl in_it ↦ rw in_it refl | inr out ↦ rw out refl ])

-- a page that stands for the same stands for the same in memory
pub same_on_page : (pages : List (List ℕ)) (page : ℕ) (old new : List ℕ) → page < length pages → bytes_of new ≡ bytes_of (get_or pages page old) → bytes_in (set pages page new) ≡ bytes_in pages
same_on_page pages page old new inside is =
    let whole : bytes_of new ≡ bytes_of (page_of pages page) = is ∙ ap bytes_of (get_or_default pages page old [] inside) in
    fun_ext (λ a.
    elim (cases_eq (a / 4096) page) [
      | inl same ↦ bytes_in-page (set pages page new) a ∙ rw (same, get_or-set_same pages page new [] inside, whole) (sym (bytes_in-page pages a ∙ rw same refl))
      | inr other ↦ bytes_in-page (set pages page new) a ∙ rw (get_or-set_other pages page (a / 4096) new [] other) (sym (bytes_in-page pages a))
    ])

-- what is read at a page's number is that page
pub page_is : (pages : List (List ℕ)) (page : ℕ) (cells : List ℕ) → page < length pages → cells ≡ get_or pages page cells → cells ≡ page_of pages page
page_is pages page cells inside is = is ∙ get_or_default pages page cells [] inside

-- a change of a page is one of memory
pub changed_on_page : (pages : List (List ℕ)) (f : ℕ → ℕ → ℕ) (addr len : ℕ) (old new : List ℕ) → addr / 4096 < length pages → addr % 4096 + len ≤ 4096
    → bytes_of new ≡ changed f (addr % 4096) len (bytes_of (get_or pages (addr / 4096) old))
    → bytes_in (set pages (addr / 4096) new) ≡ changed f addr len (bytes_in pages)
changed_on_page pages f addr len old new inside within change =
    let g = λ (i : ℕ). option_map (f i) in
    let was : List ℕ = get_or pages (addr / 4096) old in
    written_on_page pages g addr len new inside within
    (change ∙ changed-written f (addr % 4096) len (bytes_of was) ∙ ap (λ (cells : List ℕ). written g (addr % 4096) len (bytes_of cells)) (get_or_default pages (addr / 4096) old [] inside))
    ∙ sym (changed-written f addr len (bytes_in pages))

-- the first bad byte of a page is that of memory
pub first_bad-page : (bad : ℕ → Bool) (pages : List (List ℕ)) (addr len : ℕ) (cells : List ℕ) → cells ≡ page_of pages (addr / 4096) → addr % 4096 + len ≤ 4096
    → find (λ a. bad (nibble_at (bytes_in pages) a)) (span addr len) ≡ option_map (λ a. addr - addr % 4096 + a) (find (λ a. bad (nibble_at (bytes_of cells) a)) (span (addr % 4096) len))
first_bad-page bad pages addr len cells is within =
    let base : addr - addr % 4096 + addr % 4096 ≡ addr = omega arith in
    let start : addr - addr % 4096 ≡ addr / 4096 * 4096 = omega arith in
    let same : (a : ℕ) → addr % 4096 ≤ a → a < addr % 4096 + len → bytes_in pages (addr - addr % 4096 + a) ≡ bytes_of cells a =
    λ a from below. rw (is, start) (sym (bytes_in-at pages (addr / 4096) a (omega arith))) in
    ap (λ a. find (λ b. bad (nibble_at (bytes_in pages) b)) (span a len)) (sym base)
    ∙ find_moved (λ a. bad (nibble_at (bytes_in pages) a)) (λ a. bad (nibble_at (bytes_of cells) a)) (addr - addr % 4096) (addr % 4096) len
    (λ a from below. ap (λ (byte : Option ℕ). bad (unwrap_or byte 0)) (same a from below))

-- a page without cells is not changed
pub changed_empty : (f : ℕ → ℕ → ℕ) (at len : ℕ) (cells : List ℕ) → length cells ≡ 0 → bytes_of cells ≡ changed f at len (bytes_of cells)
changed_empty f at len [] none = rw bytes_of-none (sym (changed-written f at len nothing ∙ written_nowhere f at len))
changed_empty f at len (cell ∷ cells) some = absurd (omega arith)

-- new cells stand for no byte
pub room_same : (old new : List ℕ) (count : ℕ) → length old ≡ 0 → new ≡ take 4096 old ++ replicate count 8 → bytes_of new ≡ bytes_of old
room_same [] new count none is = ap bytes_of is ∙ bytes_of-filled count ∙ sym bytes_of-none
room_same (cell ∷ cells) new count some is = absurd (omega arith)

-- one more page has its cells
pub room_more : (pages : List (List ℕ)) (page number : ℕ) (new : List ℕ) → page ≤ number → number < length pages → length new ≡ 4096
    → HasRoom page (number - page) pages → HasRoom page (number + 1 - page) (set pages number new)
room_more pages page number new from inside long room = λ k at below.
    elim (cases_eq k number) [
      | inl e ↦ rw (e, get_or-set_same pages number new [] inside) long
      | inr ne ↦ rw (get_or-set_other pages number k new [] ne) (room k at (omega arith))
    ]

-- the pages after one keep their cells
pub room_rest : (pages : List (List ℕ)) (number end : ℕ) (new : List ℕ) → HasRoom number (end - number) pages → HasRoom (number + 1) (end - (number + 1)) (set pages number new)
room_rest pages number end new room = λ k at below.
    elim (cases_eq k number) [
      | inl e ↦ absurd (omega arith)
      | inr ne ↦ rw (get_or-set_other pages number k new [] ne) (room k (omega arith) (omega arith))
    ]

-- a whole page is written
pub page_replaced : (value : Option ℕ) (pages : List (List ℕ)) (number : ℕ) (new : List ℕ) (was : Bytes) → number < length pages → bytes_of new ≡ replaced value 0 4096 was
    → bytes_in (set pages number new) ≡ written (λ i old. value) (number * 4096) 4096 (bytes_in pages)
unfolding replaced
page_replaced value pages number new was inside is = fun_ext (λ a.
    elim (cases_eq (a / 4096) number) [
      | inl same ↦
          let now : bytes_in (set pages number new) a ≡ replaced value 0 4096 was (a % 4096) =
          bytes_in-page (set pages number new) a ∙ rw (same, get_or-set_same pages number new [] inside) (ap (λ (f : Bytes). f (a % 4096)) is) in
          now ∙ rw (is_in_yes 0 4096 (a % 4096) (omega arith) (omega arith), is_in_yes (number * 4096) 4096 a (omega arith) (omega arith)) refl
      | inr other ↦
          let kept : bytes_in (set pages number new) a ≡ bytes_in pages a =
          bytes_in-page (set pages number new) a ∙ rw (get_or-set_other pages number (a / 4096) new [] other) (sym (bytes_in-page pages a)) in
          kept ∙ elim (cases_lt a (number * 4096)) [
            | inl before ↦ rw (is_in_before (number * 4096) 4096 a before) refl
            | inr from ↦ rw (is_in_past (number * 4096) 4096 a (omega arith)) refl
          ]
    ])

-- and one more after those before it
pub pages_more : (value : Option ℕ) (pages : List (List ℕ)) (page number : ℕ) (new : List ℕ) (old was : Bytes) → page ≤ number → number < length pages
    → bytes_in pages ≡ written (λ i o. value) (page * 4096) ((number - page) * 4096) old → bytes_of new ≡ replaced value 0 4096 was
    → bytes_in (set pages number new) ≡ written (λ i o. value) (page * 4096) ((number + 1 - page) * 4096) old
pages_more value pages page number new old was from inside before is =
    let start : page * 4096 + (number - page) * 4096 ≡ number * 4096 = omega arith in
    let more : (number + 1 - page) * 4096 ≡ (number - page) * 4096 + 4096 = omega arith in
    let next : bytes_in (set pages number new) ≡ written (λ i o. value) (page * 4096 + (number - page) * 4096) 4096 (bytes_in pages) =
    rw start (page_replaced value pages number new was inside is) in
    rw more (written_more (λ o. value) (page * 4096) ((number - page) * 4096) 4096 old (bytes_in pages) (bytes_in (set pages number new)) before next)

-- a page without cells maps no byte
pub cleared : bytes_of [] ≡ replaced None 0 4096 nothing
unfolding replaced
cleared = fun_ext (λ a. bytes_of_past [] a (omega arith) ∙ elim (cases_Bool (is_in 0 4096 a)) [ inl in_it ↦ rw in_it refl | inr out ↦ rw out refl ])
