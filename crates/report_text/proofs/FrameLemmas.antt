-- The nibbles of the bytes that words represent.
use Rattle.std.proofs.Common.{◌≡◌, ◌≢◌, ℕ, zero, suc, ◌+◌, ◌-◌, ◌*◌, ◌/◌, ◌%◌, ◌<◌, ◌≤◌, Option, Some, None, unwrap_or, refl, sym, ap, ◌∙◌, arith}
use Rattle.lifeguard.specs.State.{Bytes, nibble_at}
use Rattle.shadow_frames.specs.Words.{WordsRepresent, IsFilledWith, all_nibbles, byte_in, byte_of, nibble_of}
use Rattle.shadow_frames.proofs.NibbleLemmas.{all_same}
use Rattle.report_text.specs.Runs.{onto_run, runs_from, runs_of}
use Rattle.report_text.specs.FrameWords.{mapped_word_in, mapped_word, IsAlikeFor}

abbrev no_word : Option ℕ
no_word = None

abbrev some_word : ℕ → Option ℕ
some_word v = Some v

abbrev pub nibble_in : Option ℕ → ℕ → ℕ
nibble_in None i = 0
nibble_in (Some word) i = nibble_of word i

nibble_by : (w : ℕ → ℕ) (addr d : ℕ) → unwrap_or (byte_in w addr d) 0 ≡ nibble_in (mapped_word_in w addr d) (addr % 16)
nibble_by w addr zero = refl
nibble_by w addr (suc d) = refl

pub nibble_is : (w : ℕ → ℕ) (addr : ℕ) → nibble_at (byte_of w) addr ≡ nibble_in (mapped_word w addr) (addr % 16)
nibble_is w addr = nibble_by w addr (w (17 + addr / 4096))

-- ---- looks at words

pub unmapped : (w : ℕ → ℕ) (addr e : ℕ) → e ≡ w (17 + addr / 4096) → e ≡ 0 → no_word ≡ mapped_word w addr
unmapped w addr e is none = ap (mapped_word_in w addr) (sym none ∙ is)

mapped_by : (w : ℕ → ℕ) (addr u d : ℕ) → d ≢ 0 → u ≡ 4113 + 256 * (d - 1) + addr % 4096 / 16 → some_word (w u) ≡ mapped_word_in w addr d
mapped_by w addr u zero some at = absurd (some refl)
mapped_by w addr u (suc d) some at = ap (λ (z : ℕ). some_word (w z)) at

pub mapped : (w : ℕ → ℕ) (addr e u : ℕ) → e ≡ w (17 + addr / 4096) → e ≢ 0 → u ≡ 4113 + 256 * (e - 1) + addr % 4096 / 16 → some_word (w u) ≡ mapped_word w addr
mapped w addr e u is some at = mapped_by w addr u e some at ∙ ap (mapped_word_in w addr) is

pub word_alike : (word s : ℕ) → s < 8 → word ≡ all_nibbles s → (i : ℕ) → i < 16 → nibble_of word i ≡ nibble_of word 0
word_alike word s lt is i low =
    let all : IsFilledWith (all_nibbles s) s = all_same s (omega arith) in
    ap (λ (z : ℕ). nibble_of z i) is ∙ (all i low ∙ (sym (all 0 (omega arith)) ∙ ap (λ (z : ℕ). nibble_of z 0) (sym is)))

-- ---- bytes that are alike

-- bytes of one block, or of one page that is not mapped
near : (w : ℕ → ℕ) (addr a n d : ℕ) → addr ≤ a → a < addr + n → IsAlikeFor (mapped_word_in w addr d) addr n → nibble_in (mapped_word_in w a d) (a % 16) ≡ nibble_in (mapped_word_in w addr d) (addr % 16)
near w addr a n zero low high alike = refl
near w addr a n (suc d) low high alike =
    let room : addr % 16 + n ≤ 16 = alike.0 in
    let word : 4113 + 256 * (suc d - 1) + a % 4096 / 16 ≡ 4113 + 256 * (suc d - 1) + addr % 4096 / 16 = omega arith in
    let place : a % 16 ≡ addr % 16 + (a - addr) = omega arith in
    (λ e. nibble_of (w (word e)) (place e)) ∙ alike.1 (a - addr) (omega arith)

page_of : (w : ℕ → ℕ) (addr a n d : ℕ) → addr ≤ a → a < addr + n → IsAlikeFor (mapped_word_in w addr d) addr n → a / 4096 ≡ addr / 4096
page_of w addr a n zero low high alike = let room : addr % 4096 + n ≤ 4096 = alike in omega arith
page_of w addr a n (suc d) low high alike = let room : addr % 16 + n ≤ 16 = alike.0 in omega arith

pub alike_nibbles : (w : ℕ → ℕ) (addr a n : ℕ) → addr ≤ a → a < addr + n → IsAlikeFor (mapped_word w addr) addr n → nibble_at (byte_of w) a ≡ nibble_at (byte_of w) addr
alike_nibbles w addr a n low high alike =
    let page : a / 4096 ≡ addr / 4096 = page_of w addr a n (w (17 + addr / 4096)) low high alike in
    nibble_is w a ∙ (ap (λ (z : ℕ). nibble_in (mapped_word_in w a (w (17 + z))) (a % 16)) page
    ∙ (near w addr a n (w (17 + addr / 4096)) low high alike ∙ sym (nibble_is w addr)))

-- ---- runs of bytes with the same nibbles

same_runs : (b d : Bytes) (n a : ℕ) → ((x : ℕ) → a ≤ x → x < a + n → b x ≡ d x) → runs_from b a n ≡ runs_from d a n
unfolding runs_from
same_runs b d zero a same = refl
same_runs b d (suc n) a same =
    let here : b a ≡ d a = same a (omega arith) (omega arith) in
    let rest : runs_from b (suc a) n ≡ runs_from d (suc a) n = same_runs b d n (suc a) (λ x low high. same x (omega arith) (omega arith)) in
    λ e. onto_run a (unwrap_or (here e) 0) (rest e)

pub represented_runs : (w : ℕ → ℕ) (bytes : Bytes) → WordsRepresent w bytes → runs_of (byte_of w) ≡ runs_of bytes
represented_runs w bytes st = same_runs (byte_of w) bytes 16777216 0 (λ x low high. sym (st.same x (omega arith)))
