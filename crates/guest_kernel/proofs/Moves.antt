-- Bytes that a read or a write moves.
use Rattle.std.proofs.Common.{◌≡◌, ◌==◌, Bool, ℕ, zero, suc, ◌+◌, ◌-◌, ◌<◌, inl, inr, false, List, [], ◌∷◌, ◌++◌, length, take, drop, get_or, Option, Some, refl, arith, sym, ap, ◌∙◌, subst, length-append, length-drop, add-zero, unwrap_or, IsSome}
use Rattle.std.proofs.Math.Path.{fun_ext}
use Rattle.std.proofs.Math.Seq.{take-length}
use Rattle.std.proofs.lemmas.List.{append-nil, take_all, take_at}
use Rattle.std.proofs.lemmas.Bool.{ne_eqb}
use Rattle.guest_mem.specs.Bytes.{written, AllMapped}
use Rattle.guest_mem.specs.Image.{PageImage}
use Rattle.guest_mem.specs.Memory.{bytes, mapped, texts}
use Rattle.pl_base.proofs.Pages.{not_among_before, not_among_past, place}
use Rattle.guest_heap.specs.Blocks.{asked}
use Rattle.pl_event.specs.declared.event.Kind.{Kind}
use Rattle.pl_event.specs.declared.event.Kind.TheVariants.{Rd, Wr}
use Rattle.guest_kernel.specs.declared.call.KernelStep.TheVariants.{Went}
use Rattle.guest_kernel.specs.Calls.{moved}
use Rattle.guest_kernel.specs.Image.{KernelImage}
use Rattle.guest_kernel.specs.Moves.{HoldsAt}
use Rattle.guest_kernel.specs.State.{State, state_of, after, bytes_from}

-- nothing is moved
written_none : (start : ℕ → Option ℕ) (at : ℕ) → written start at [] ≡ start
written_none start at = fun_ext (λ k.
    elim (place at 0 k) [
      | inl (from, under) ↦ absurd (omega arith)
      | inr (inl early) ↦ rw (not_among_before at 0 k early) refl
      | inr (inr past) ↦ rw (not_among_past at 0 k past) refl
    ])

-- a list that holds the bytes from there on
pub bytes_from_list : (start : ℕ → Option ℕ) (at : ℕ) (list : List ℕ) → ((k : ℕ) → k < length list → start (at + k) ≡ Some (get_or list k 0)) → bytes_from start at (length list) ≡ list
bytes_from_list start at [] holds = refl
bytes_from_list start at (x ∷ xs) holds =
    let first : start at ≡ Some x = ap start (sym (add-zero at)) ∙ holds 0 (omega arith) in
    let rest : bytes_from start (at + 1) (length xs) ≡ xs =
    bytes_from_list start (at + 1) xs (λ k within. let place : at + 1 + k ≡ at + suc k = omega arith in ap start place ∙ holds (suc k) (omega arith)) in
    ap (λ o. unwrap_or o 0 ∷ bytes_from start (at + 1) (length xs)) first ∙ ap (λ ys. x ∷ ys) rest

-- something was moved
moved_some : (count : ℕ) (kind : Kind) → 0 < count → moved count kind ≡ Went count kind
moved_some count kind some = let other : (count == 0) ≡ false = ne_eqb count 0 (omega arith) in rw other refl

made : (ℕ → Option ℕ) → (ℕ → Bool) → (ℕ → Bool) → (ℕ → Option ℕ) → List ℕ → List ℕ → State
made b m x l i o = record { bytes = b; mapped = m; texts = x; blocks = l; input = i; output = o }

same_made : (b b' : ℕ → Option ℕ) (m m' x x' : ℕ → Bool) (l l' : ℕ → Option ℕ) (i i' o o' : List ℕ) → b ≡ b' → m ≡ m' → x ≡ x' → l ≡ l' → i ≡ i' → o ≡ o' → made b m x l i o ≡ made b' m' x' l' i' o'
same_made b b' m m' x x' l l' i i' o o' p q r s t u = cc

-- states that agree in each part are the same
pub same_state : (s t : State) → s.bytes ≡ t.bytes → s.mapped ≡ t.mapped → s.texts ≡ t.texts → s.blocks ≡ t.blocks → s.input ≡ t.input → s.output ≡ t.output → s ≡ t
unfolding made
same_state s t b m x l i o = same_made s.bytes t.bytes s.mapped t.mapped s.texts t.texts s.blocks t.blocks s.input t.input s.output t.output b m x l i o

-- the state after a read
pub after_read : (old new : KernelImage) (at count : ℕ) (list : List ℕ) →
    bytes new.memory ≡ written (bytes old.memory) at list → mapped new.memory ≡ mapped old.memory → texts new.memory ≡ texts old.memory →
    list ≡ take count old.input → new.heap ≡ old.heap → new.input ≡ drop count old.input → new.output ≡ old.output →
    state_of new ≡ after (state_of old) (moved count (Rd at count))
after_read old new at zero list are mapped_are texts_are is heap_is input_is output_is =
    same_state (state_of new) (state_of old) (are ∙ ap (written (bytes old.memory) at) is ∙ written_none (bytes old.memory) at)
    mapped_are texts_are (ap asked heap_is) input_is output_is
after_read old new at (suc n) list are mapped_are texts_are is heap_is input_is output_is =
    same_state (state_of new) (after (state_of old) (Went (suc n) (Rd at (suc n)))) (are ∙ ap (written (bytes old.memory) at) is)
    mapped_are texts_are (ap asked heap_is) input_is output_is
    ∙ ap (after (state_of old)) (sym (moved_some (suc n) (Rd at (suc n)) (omega arith)))

-- the state after a write
pub after_write : (old new : KernelImage) (at count : ℕ) (buffer : List ℕ) →
    ((k : ℕ) → k < length buffer → bytes old.memory (at + k) ≡ Some (get_or buffer k 0)) → length buffer ≡ count →
    new.memory ≡ old.memory → new.heap ≡ old.heap → new.input ≡ old.input → new.output ≡ old.output ++ buffer →
    state_of new ≡ after (state_of old) (moved count (Wr at count))
after_write old new at zero [] holds long memory_is heap_is input_is output_is =
    same_state (state_of new) (state_of old) (ap bytes memory_is) (ap mapped memory_is) (ap texts memory_is) (ap asked heap_is) input_is (output_is ∙ append-nil old.output)
after_write old new at zero (x ∷ xs) holds long memory_is heap_is input_is output_is = absurd (omega arith)
after_write old new at (suc n) buffer holds long memory_is heap_is input_is output_is =
    let sent : bytes_from (bytes old.memory) at (suc n) ≡ buffer = ap (bytes_from (bytes old.memory) at) (sym long) ∙ bytes_from_list (bytes old.memory) at buffer holds in
    same_state (state_of new) (after (state_of old) (Went (suc n) (Wr at (suc n)))) (ap bytes memory_is) (ap mapped memory_is) (ap texts memory_is) (ap asked heap_is) input_is
    (output_is ∙ ap (λ (xs : List ℕ). old.output ++ xs) (sym sent))
    ∙ ap (after (state_of old)) (sym (moved_some (suc n) (Wr at (suc n)) (omega arith)))

-- what follows the first of a list
pub behind : (n : ℕ) (xs : List ℕ) → take (length xs - n) (drop n xs) ≡ drop n xs
behind n xs = rw (← length-drop n xs) (take-length (drop n xs))

-- the bytes of a list that is in memory are mapped
pub mapped_of_list : (memory : List (Option PageImage)) (at count : ℕ) (list : List ℕ) → HoldsAt memory at count list → AllMapped (bytes memory) at count
mapped_of_list memory at count list holds = λ k from within.
    let place : at + (k - at) ≡ k = omega arith in
    let held : bytes memory k ≡ Some (get_or list (k - at) 0) = ap (bytes memory) (sym place) ∙ holds.each (k - at) (omega arith) in
    subst IsSome (sym held) refl

-- a list with room after it, after bytes were read into the room
pub appended : (old room into post tail more : List ℕ) (before count len : ℕ) → before ≡ length old → room ≡ take (before + count) old ++ more → post ≡ [] →
    length into ≡ count → len ≡ before + count → take len (take before room ++ (into ++ post) ++ tail) ≡ old ++ into
appended old room into post tail more before count len front_is room_is none long len_is =
    let whole : take (before + count) old ≡ old = take_all (before + count) old (omega arith) in
    let front : take before room ≡ old = ap (take before) (room_is ∙ ap (λ (xs : List ℕ). xs ++ more) whole) ∙ take_at old more before (omega arith) in
    let size : length (old ++ into) ≡ len = omega (arith, length-append old into) in
    rw (front, none) (rw append-nil (take_at (old ++ into) tail len size))
