-- What a step leaves is what is looked up in the list with its entry.
use Rattle.std.proofs.Common.{◌≡◌, ℕ, ◌+◌, ◌*◌, ◌/◌, ◌<◌, ◌≤◌, inl, inr, Bool, true, false, List, [], ◌∷◌, ◌++◌, length, drop, if◌then◌else◌, Option, Some, None, IsSome, unwrap_or, refl, arith, sym, ap, ◌∙◌, subst}
use Rattle.std.proofs.Math.Path.{fun_ext}
use Rattle.std.proofs.lemmas.List.{append-nil, drop-drop}
use Rattle.std.proofs.lemmas.Bool.{cases_Bool, both_ways, and_parts, leb-true, ltb-true}
use Rattle.pl_base.specs.Pages.{is_among, marked}
use Rattle.guest_mem.specs.Bytes.{written, repaged, AllMapped}
use Rattle.pl_base.proofs.Pages.{not_among_past}
use Rattle.guest_kernel.specs.State.{State}
use Rattle.pl_event.specs.declared.event.Kind.{Kind}
use Rattle.pl_event.specs.declared.event.Kind.TheVariants.{Ld, St, Op, Mv, Im, Br, Jr, Al, Fr, Bf, Mp, Um, Rd, Wr, Ex, Ft}
use Rattle.core_sim.specs.declared.hart.Standing.{Standing}
use Rattle.core_sim.specs.declared.job.Job.{Job}
use Rattle.core_sim.specs.Entries.{Entry, byte_of, byte_at, is_mapped, value, block_at, taken, output, state_after}
use Rattle.core_sim.specs.Start.{is_text, pages_of}
use Rattle.core_sim.specs.Steps.{left_by}

-- the bytes of mapped pages
abbrev pub shown : (ℕ → Bool) → (ℕ → ℕ) → ℕ → Option ℕ
shown test value k = if test (k / 4096) then Some (value k) else None

pub among_parts : (first count k : ℕ) → is_among first count k ≡ true → (first ≤ k) × (k < first + count)
among_parts first count k holds =
    let parts = and_parts _ _ holds in
    (leb-true first k parts.0, ltb-true k (first + count) parts.1)

pub shown_mapped : (test : ℕ → Bool) (value : ℕ → ℕ) (k : ℕ) → IsSome (shown test value k) → test (k / 4096) ≡ true
shown_mapped test value k some = elim (cases_Bool (test (k / 4096))) [
  | inl holds ↦ holds
  | inr fails ↦ let none : shown test value k ≡ None = rw fails refl in absurd (let is : IsSome {T = ℕ} None = subst IsSome none some in both_ways _ refl is)
]

-- bytes were written to mapped pages
bytes_written : (test : ℕ → Bool) (value : ℕ → ℕ) (at : ℕ) (list : List ℕ) → AllMapped (shown test value) at (length list) →
    written (shown test value) at list ≡ λ k. if test (k / 4096) then Some (unwrap_or (byte_of at list k) (value k)) else None
bytes_written test value at list mapped = fun_ext (λ k.
    elim (cases_Bool (is_among at (length list) k)) [
      | inl holds ↦
          let parts = among_parts at (length list) k holds in
          let here : test (k / 4096) ≡ true = shown_mapped test value k (mapped k parts.0 parts.1) in
          rw (holds, here) refl
      | inr fails ↦ rw fails refl
    ])

-- pages of zeros were mapped
bytes_mapped : (test : ℕ → Bool) (value : ℕ → ℕ) (page count : ℕ) →
    repaged (shown test value) page count (Some 0) ≡ λ k. if marked test page count true (k / 4096) then Some (unwrap_or (if is_among page count (k / 4096) then Some 0 else None) (value k)) else None
bytes_mapped test value page count = fun_ext (λ k.
    elim (cases_Bool (is_among page count (k / 4096))) [ inl holds ↦ rw holds refl | inr fails ↦ rw fails refl ])

-- pages were unmapped
bytes_unmapped : (test : ℕ → Bool) (value : ℕ → ℕ) (page count : ℕ) → repaged (shown test value) page count None ≡ λ k. if marked test page count false (k / 4096) then Some (value k) else None
bytes_unmapped test value page count = fun_ext (λ k.
    elim (cases_Bool (is_among page count (k / 4096))) [ inl holds ↦ rw holds refl | inr fails ↦ rw fails refl ])

-- pages of the map region are no text
texts_stay : (job : Job) (page count : ℕ) → length job.words ≤ 16384 → 2048 ≤ page → marked (is_text job) page count false ≡ is_text job
texts_stay job page count few region = fun_ext (λ k.
    elim (cases_Bool (is_among page count k)) [
      | inl holds ↦
          let parts = among_parts page count k holds in
          let past : is_text job k ≡ false = not_among_past 16 (pages_of (4 * length job.words)) k (omega arith) in
          rw holds (sym past)
      | inr fails ↦ rw fails refl
    ])

-- what a step has of the memory, and that only a wr sends bytes
abbrev pub Fits : State → Kind → List ℕ → List ℕ → Type 0
Fits s (St width rv rb addr) stored sent = AllMapped s.bytes addr (length stored) × (sent ≡ [])
Fits s (Rd addr len) stored sent = AllMapped s.bytes addr (length stored) × (sent ≡ [])
Fits s (Mp page count) stored sent = (2048 ≤ page) × (sent ≡ [])
Fits s (Um page count) stored sent = (2048 ≤ page) × (sent ≡ [])
Fits s (Wr addr len) stored sent = Unit {0}
Fits s _ stored sent = sent ≡ []

abbrev entry_of : ℕ → Kind → List ℕ → List ℕ → Standing → Entry
entry_of hart kind stored sent next = record { hart = hart; instr = None; act = record { kind = kind; stored = stored; sent = sent; next = next } }

made : (ℕ → Option ℕ) → (ℕ → Bool) → (ℕ → Bool) → (ℕ → Option ℕ) → List ℕ → List ℕ → State
made b m x l i o = record { bytes = b; mapped = m; texts = x; blocks = l; input = i; output = o }

same_made : (b b' : ℕ → Option ℕ) (m m' x x' : ℕ → Bool) (l l' : ℕ → Option ℕ) (i i' o o' : List ℕ) → b ≡ b' → m ≡ m' → x ≡ x' → l ≡ l' → i ≡ i' → o ≡ o' → made b m x l i o ≡ made b' m' x' l' i' o'
same_made b b' m m' x x' l l' i i' o o' p q r s t u = cc

pub same_state : (s t : State) → s.bytes ≡ t.bytes → s.mapped ≡ t.mapped → s.texts ≡ t.texts → s.blocks ≡ t.blocks → s.input ≡ t.input → s.output ≡ t.output → s ≡ t
unfolding made
same_state s t b m x l i o = same_made s.bytes t.bytes s.mapped t.mapped s.texts t.texts s.blocks t.blocks s.input t.input s.output t.output b m x l i o

-- nothing was sent
same_output : (xs sent : List ℕ) → sent ≡ [] → xs ≡ xs ++ sent
same_output xs sent none = sym (ap (λ (ys : List ℕ). xs ++ ys) none ∙ append-nil xs)

-- no input was taken
none_taken : (job : Job) (before : List Entry) → drop (taken before) job.input ≡ drop (taken before + 0) job.input
none_taken job before = let same : taken before ≡ taken before + 0 = omega arith in ap (λ n. drop n job.input) same

-- an event that changes nothing
plain : (job : Job) (before : List Entry) (sent : List ℕ) (b : ℕ → Option ℕ) (l : ℕ → Option ℕ) → sent ≡ [] → b ≡ byte_at job before → l ≡ block_at before →
    state_after job before ≡ record { bytes = b; mapped = is_mapped job before; texts = is_text job; blocks = l; input = drop (taken before + 0) job.input; output = output before ++ sent }
plain job before sent b l none b_is l_is =
    same_state (state_after job before) _ (sym b_is) refl refl (sym l_is) (let same : taken before ≡ taken before + 0 = omega arith in ap (λ n. drop n job.input) same) (same_output (output before) sent none)

pub left_is : (job : Job) (before : List Entry) (hart : ℕ) (kind : Kind) (stored sent : List ℕ) (next : Standing) → length job.words ≤ 16384 →
    Fits (state_after job before) kind stored sent →
    left_by (state_after job before) kind stored sent ≡ state_after job (entry_of hart kind stored sent next ∷ before)
left_is job before hart (Ld width rd rb addr) stored sent next few fits = plain job before sent _ _ fits refl refl
left_is job before hart (Op rd r1 r2) stored sent next few fits = plain job before sent _ _ fits refl refl
left_is job before hart (Mv rd rs) stored sent next few fits = plain job before sent _ _ fits refl refl
left_is job before hart (Im rd) stored sent next few fits = plain job before sent _ _ fits refl refl
left_is job before hart (Br r1 r2) stored sent next few fits = plain job before sent _ _ fits refl refl
left_is job before hart (Jr rd rs) stored sent next few fits = plain job before sent _ _ fits refl refl
left_is job before hart (Bf addr) stored sent next few fits = plain job before sent _ _ fits refl refl
left_is job before hart Ex stored sent next few fits = plain job before sent _ _ fits refl refl
left_is job before hart (Ft cause addr) stored sent next few fits = plain job before sent _ _ fits refl refl
left_is job before hart (St width rv rb addr) stored sent next few fits =
    same_state (left_by (state_after job before) (St width rv rb addr) stored sent) (state_after job (entry_of hart (St width rv rb addr) stored sent next ∷ before))
    (bytes_written (is_mapped job before) (value job before) addr stored fits.0) refl refl refl (none_taken job before) (same_output (output before) sent fits.1)
left_is job before hart (Al addr len) stored sent next few fits =
    same_state (left_by (state_after job before) (Al addr len) stored sent) (state_after job (entry_of hart (Al addr len) stored sent next ∷ before))
    refl refl refl refl (none_taken job before) (same_output (output before) sent fits)
left_is job before hart (Fr addr len) stored sent next few fits =
    same_state (left_by (state_after job before) (Fr addr len) stored sent) (state_after job (entry_of hart (Fr addr len) stored sent next ∷ before))
    refl refl refl refl (none_taken job before) (same_output (output before) sent fits)
left_is job before hart (Mp page count) stored sent next few fits =
    same_state (left_by (state_after job before) (Mp page count) stored sent) (state_after job (entry_of hart (Mp page count) stored sent next ∷ before))
    (bytes_mapped (is_mapped job before) (value job before) page count) refl (texts_stay job page count few fits.0) refl (none_taken job before) (same_output (output before) sent fits.1)
left_is job before hart (Um page count) stored sent next few fits =
    same_state (left_by (state_after job before) (Um page count) stored sent) (state_after job (entry_of hart (Um page count) stored sent next ∷ before))
    (bytes_unmapped (is_mapped job before) (value job before) page count) refl (texts_stay job page count few fits.0) refl (none_taken job before) (same_output (output before) sent fits.1)
left_is job before hart (Rd addr len) stored sent next few fits =
    same_state (left_by (state_after job before) (Rd addr len) stored sent) (state_after job (entry_of hart (Rd addr len) stored sent next ∷ before))
    (bytes_written (is_mapped job before) (value job before) addr stored fits.0) refl refl refl (drop-drop len (taken before) job.input) (same_output (output before) sent fits.1)
left_is job before hart (Wr addr len) stored sent next few fits =
    same_state (left_by (state_after job before) (Wr addr len) stored sent) (state_after job (entry_of hart (Wr addr len) stored sent next ∷ before))
    refl refl refl refl (none_taken job before) refl
