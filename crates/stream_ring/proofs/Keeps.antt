-- Each step keeps the rule of the ring.
use Rattle.std.proofs.Common.{◌≡◌, ◌≢◌, ℕ, zero, suc, true, true≢false, List, [], ◌∷◌, ◌++◌, length, set, sym, refl, ap, ◌∙◌, subst, ⊎_elim, append_assoc, append-nil}
use mathlib.Core.Option.{some, some-ne-none}
use lib.ListN.{get_elem?}
use Rattle.crossbeam_queue.specs.Fifo.{Pushes, Pops, Forks, Learns}
use Rattle.crossbeam_queue.proofs.Lists.{at_set, at_snoc}
use Rattle.pl_event.specs.declared.fed.Fed.{Fed}
use Rattle.pl_event.specs.declared.log.Log.{Log}
use Rattle.stream_ring.specs.declared.view.View.{View}
use Rattle.stream_ring.specs.Flow.{stream_of, IsNext, IsChunk, opening, sender, taker, records_of, AreChunks, Knows, Flows, SomeGot, SomeSent}

abbrev All : (ℕ → View → Type 0) → List View → Type 0
All F views = (seat : ℕ) (v : View) → get_elem? views seat ≡ some v → F seat v

all_set : (F : ℕ → View → Type 0) (views : List View) (seat : ℕ) (w : View) → F seat w → ((j : ℕ) (u : View) → j ≢ seat → get_elem? views j ≡ some u → F j u) → All F (set views seat w)
all_set F views seat w mine others j u e = ⊎_elim (λ (x : (j ≡ seat) × (w ≡ u)). subst (λ (y : ℕ × View). F y.0 y.1) (λ i. (sym x.0 i, x.1 i)) mine)
    (λ (x : (j ≢ seat) × (get_elem? views j ≡ some u)). others j u x.0 x.1) (at_set views seat j w u e)

at_end : (l : List View) (a b : View) (j : ℕ) → get_elem? l j ≢ some b → get_elem? (l ++ a ∷ []) j ≡ some b → j ≡ length l
at_end [] a b zero n e = refl
at_end [] a b (suc j) n e = absurd (some-ne-none b (sym e))
at_end (x ∷ xs) a b zero n e = absurd (n e)
at_end (x ∷ xs) a b (suc j) n e = ap suc (at_end xs a b j n e)

records_snoc : (xs : List (List Fed)) (c : List Fed) → records_of (xs ++ c ∷ []) ≡ records_of xs ++ c
records_snoc [] c = append-nil c
records_snoc (x ∷ xs) c = ap (λ l. x ++ l) (records_snoc xs c) ∙ sym (append_assoc x (records_of xs) c)

sized_snoc : (xs : List (List Fed)) (c : List Fed) → AreChunks xs → IsChunk c → AreChunks (xs ++ c ∷ [])
sized_snoc [] c a s = (s, tt)
sized_snoc (x ∷ xs) c a s = (a.0, sized_snoc xs c a.1 s)

pub begins : (log : Log) → Flows log [] (opening ∷ [])
begins log = (0, 0, 0, [], [], refl, (stream_of log 0, refl), all_set (Knows 0 0 0 [] []) (opening ∷ []) 0 opening ((λ _. (refl, refl, refl)), λ _. (refl, refl, refl)) (λ j u other e. absurd (other (at_end [] _ u j (λ x. some-ne-none u (sym x)) e))), tt)

pub forks : (log : Log) (hart seat : ℕ) (v : View) → v ≡ opening → Forks (Flows log) seat v (sender hart []) (taker hart [])
forks log hart seat v is items views h at =
    let mine = h.7 seat v at in
    let w = (mine.0 (ap (λ (u : View). u.offers) is)) in
    let t = (mine.1 (ap (λ (u : View). u.takes) is)) in
    let none : [] ≡ h.3 = sym (ap (λ (u : View). u.sent) is) ∙ w.2 in
    let nil : [] ≡ h.4 = sym (ap (λ (u : View). u.got) is) ∙ t.2 in
    let held : [] ≡ records_of items = none ∙ h.5 ∙ ap (λ l. l ++ records_of items) (sym nil) in
    let vs : List View = set views seat (sender hart []) in
    let Old : ℕ → View → Type 0 = λ j u. (u.offers ≡ true → (j ≡ h.0) × (u.hart ≡ hart) × (u.sent ≡ [])) × (u.takes ≢ true) in
    let old : All Old vs = all_set Old views seat (sender hart []) ((λ _. (w.0, refl, refl)), λ p. true≢false (sym p))
    (λ j u other e. ((λ p. absurd (other (((h.7 j u e).0 p).0 ∙ sym w.0))), (λ p. other (((h.7 j u e).1 p).0 ∙ sym t.0)))) in (
      h.0,
      length vs,
      hart,
      [],
      [],
      held,
      (stream_of log hart, refl),
      λ j u e. ⊎_elim (λ x. ((old j u x).0, λ p. absurd ((old j u x).1 p)))
          (λ (same : taker hart [] ≡ u). ((λ p. absurd (true≢false (sym (ap (λ (y : View). y.offers) same ∙ p)))), λ p. (at_end vs (taker hart []) u j (λ x. (old j u x).1 p) e, sym (ap (λ (y : View). y.hart) same), sym (ap (λ (y : View). y.got) same)))) (at_snoc vs (taker hart []) u j e),
      h.8,
    )

pub offers : (log : Log) (n seat : ℕ) (v : View) (x : List Fed) → IsChunk x → v.offers ≡ true → v ≡ sender v.hart v.sent → IsNext (stream_of log v.hart) v.sent x → Pushes (Flows log) n seat v x (λ w. w ≡ sender v.hart (v.sent ++ x))
offers log n seat v x sized may is next items views _ h at =
    let mine = h.7 seat v at in
    let me = mine.0 may in
    let w : View = sender v.hart (v.sent ++ x) in
    let sent : List Fed = h.3 ++ x in (
      w,
      (
        h.0,
        h.1,
        h.2,
        sent,
        h.4,
        (ap (λ l. l ++ x) h.5 ∙ append_assoc h.4 (records_of items) x ∙ ap (λ l. h.4 ++ l) (sym (records_snoc items x))),
        (next.0, sym (ap (stream_of log) me.1) ∙ next.1 ∙ ap (λ l. (l ++ x) ++ next.0) me.2),
        all_set (Knows h.0 h.1 h.2 sent h.4) views seat w ((λ _. (me.0, me.1, ap (λ l. l ++ x) me.2)), λ p. absurd (true≢false (sym p)))
            (λ j u other e. ((λ p. absurd (other (((h.7 j u e).0 p).0 ∙ sym me.0))), (h.7 j u e).1)),
        sized_snoc items x h.8 sized,
      ),
      refl,
    )

pub takes : (log : Log) (seat : ℕ) (v : View) → v.takes ≡ true → v ≡ taker v.hart v.got → Pops (Flows log) seat v (λ x w. (w ≡ taker v.hart (v.got ++ x)) × IsNext (stream_of log v.hart) v.got x)
takes log seat v may is x items views h at =
    let mine = h.7 seat v at in
    let me = mine.1 may in
    let w : View = taker v.hart (v.got ++ x) in
    let got : List Fed = h.4 ++ x in
    let split : h.3 ≡ got ++ records_of items = h.5 ∙ sym (append_assoc h.4 x (records_of items)) in (
      w,
      (
        h.0,
        h.1,
        h.2,
        h.3,
        got,
        split,
        h.6,
        all_set (Knows h.0 h.1 h.2 h.3 got) views seat w ((λ p. absurd (true≢false (sym p))), λ _. (me.0, me.1, ap (λ l. l ++ x) me.2))
            (λ j u other e. ((h.7 j u e).0, λ p. absurd (other (((h.7 j u e).1 p).0 ∙ sym me.0)))),
        h.8.1,
      ),
      (
        refl,
        (
          records_of items ++ h.6.0,
          ap (stream_of log) me.1 ∙ h.6.1 ∙ ap (λ l. l ++ h.6.0) split ∙ append_assoc got (records_of items) h.6.0 ∙ ap (λ l. (l ++ x) ++ (records_of items ++ h.6.0)) (sym me.2),
        ),
      ),
    )

pub some_got : (log : Log) (seat : ℕ) (v : View) → v.offers ≡ true → Learns (Flows log) seat v (SomeGot v.sent)
some_got log seat v may items views h at = let me = (h.7 seat v at).0 may in (h.4, me.2 ∙ h.5, h.8)

pub some_sent : (log : Log) (seat : ℕ) (v : View) → v.takes ≡ true → Learns (Flows log) seat v (SomeSent (stream_of log v.hart) v.got)
some_sent log seat v may items views h at = let me = (h.7 seat v at).1 may in
    (h.6.0, ap (stream_of log) me.1 ∙ h.6.1 ∙ ap (λ l. l ++ h.6.0) h.5 ∙ ap (λ l. (l ++ records_of items) ++ h.6.0) (sym me.2))
