-- The candidates of the next line, as a function of the lines before it.
use Rattle.std.proofs.Common.{◌≡◌, ◌≢◌, ℕ, zero, suc, ◌+◌, ◌<◌, ◌≤◌, ◌⊎◌, ◌&&◌, ◌||◌, ◌==◌, Bool, true, false, List, [], ◌∷◌, ◌++◌, length, map, slice_index_or, Option, Some, None, refl, sym, ap, ◌∙◌, subst, inl, inr, eq-eqb, ne_eqb, eqb, if◌then◌else◌, arith}
use Rattle.std.proofs.lemmas.List.{get_or_past}
use Rattle.pl_event.specs.declared.event.Event.{Event}
use Rattle.pl_event.specs.declared.log.Line.{Line}
use Rattle.pl_event.specs.declared.log.Record.{Record}
use Rattle.pl_event.specs.declared.log.Record.TheVariants as entry
use Rattle.pl_event.specs.Candidates.{Shares}
use Rattle.pl_event.specs.Conflicts.{Access, access_of, ShareBlock}
use Rattle.pl_event.specs.Needs.{IsMost, eight_harts, greatest}
use Rattle.pl_event.specs.Numbers.{hart_of}
use Rattle.pl_event.specs.Records.{records_before, record_of, IsRecord}
use Rattle.pl_event.proofs.Growth.{record_back}
use Rattle.pl_event.proofs.Places.{eqb_is, before_own, before_up, inside, one_place}
use Rattle.pl_event.proofs.Sources.{at_position, found, greatest_is, same_most}
use Rattle.log_clocks.proofs.Grown.{event_on}
use Rattle.conflict_alerts.specs.Placing.{count_in}
use Rattle.conflict_alerts.proofs.Adding.{last_record}
use Rattle.arc_capture.specs.Capture.{AreCandidates}

-- a list of one answer for each of eight harts
pub at_eight : (f : ℕ → Option ℕ) (u : ℕ) → u < 8 → slice_index_or (map f eight_harts) u None ≡ f u
at_eight f zero l = refl
at_eight f (suc zero) l = refl
at_eight f (suc (suc zero)) l = refl
at_eight f (suc (suc (suc zero))) l = refl
at_eight f (suc (suc (suc (suc zero)))) l = refl
at_eight f (suc (suc (suc (suc (suc zero))))) l = refl
at_eight f (suc (suc (suc (suc (suc (suc zero)))))) l = refl
at_eight f (suc (suc (suc (suc (suc (suc (suc zero))))))) l = refl
at_eight f (suc (suc (suc (suc (suc (suc (suc (suc u)))))))) l = absurd (omega arith)

pub past_eight : (f : ℕ → Option ℕ) (u : ℕ) → 8 ≤ u → slice_index_or (map f eight_harts) u None ≡ None
past_eight f u le = get_or_past (map f eight_harts) u None (let e : length (map f eight_harts) ≡ 8 = refl in omega arith)

abbrev share_block : Option Access → Option Access → Bool
share_block None b = false
share_block (Some a) None = false
share_block (Some a) (Some b) = (a.block == b.block) && (a.store || b.store)

either_true : (a b : Bool) → a || b ≡ true → (a ≡ true) ⊎ (b ≡ true)
either_true true b e = inl refl
either_true false b e = inr e

true_either : (a b : Bool) → (a ≡ true) ⊎ (b ≡ true) → a || b ≡ true
true_either true b e = refl
true_either false b (inl e) = absurd (cc)
true_either false b (inr e) = e

both_true : (a b : Bool) → a && b ≡ true → (a ≡ true) × (b ≡ true)
both_true true b e = (refl, e)
both_true false b e = absurd (cc)

true_both : (a b : Bool) → a ≡ true → b ≡ true → a && b ≡ true
true_both true b e f = f
true_both false b e f = e

do_share : (a b : Option Access) → share_block a b ≡ true → ShareBlock a b
do_share None b e = absurd (cc)
do_share (Some a) None e = absurd (cc)
do_share (Some a) (Some b) e = let t = both_true (a.block == b.block) (a.store || b.store) e in (eqb_is a.block b.block t.0, either_true a.store b.store t.1)

shared : (a b : Option Access) → ShareBlock a b → share_block a b ≡ true
shared None b s = absurd s
shared (Some a) None s = absurd s
shared (Some a) (Some b) s = true_both (a.block == b.block) (a.store || b.store) (eq-eqb a.block b.block s.0) (true_either a.store b.store s.1)

-- both records are events, of different harts, that share a block
abbrev records_share : ℕ → Record → Record → Bool
records_share size (entry.Event a) (entry.Event b) = (if a.hart == b.hart then false else true) && share_block (access_of size a.kind) (access_of size b.kind)
records_share size (entry.Event a) (entry.Notice h p) = false
records_share size (entry.Notice h p) r = false

abbrev line_shares : ℕ → Option Line → Record → Bool
line_shares size None r = false
line_shares size (Some line) r = records_share size line.what r

module _ (size : ℕ) (base : List Line) (line : Line) where
  abbrev G : List Line
  G = base ++ line ∷ []

  abbrev h : ℕ
  h = hart_of line.what

  abbrev m : ℕ
  m = count_in h base + 1

  -- record k of hart u shares a block with the line
  abbrev shares : ℕ → ℕ → Bool
  shares u k = line_shares size (record_of base u k) line.what

  here : IsRecord G (length base) h m line
  here = last_record base line

  -- what shares is there
  module _ (u k : ℕ) (l : Line) (i : ℕ) (is : IsRecord base i u k l) where
    of_records : (r s : Record) → l.what ≡ r → line.what ≡ s → records_share size r s ≡ true → Shares size G u k h m
    of_records (entry.Notice x p) s e f t = absurd (cc)
    of_records (entry.Event a) (entry.Notice x p) e f t = absurd (cc)
    of_records (entry.Event a) (entry.Event b) e f t =
        let hart_a : a.hart ≡ u = sym (ap hart_of e) ∙ is.hart in
        let hart_b : b.hart ≡ h = sym (ap hart_of f) in
        let parts = both_true (if a.hart == b.hart then false else true) (share_block (access_of size a.kind) (access_of size b.kind)) t in
        record {
          i = i;
          j = length base;
          a = a;
          b = b;
          pair = record {
            before = inside base i l is.at;
            first = event_on base (line ∷ []) i k a (l, subst (λ (z : ℕ). IsRecord base i z k l) (sym hart_a) is, e);
            second = (line, subst (λ (z : ℕ). IsRecord G (length base) z m line) (sym hart_b) here, f);
            apart = λ same. (let no : (if true then false else true) ≡ true = ap (λ (z : Bool). if z then false else true) (sym (eq-eqb a.hart b.hart same)) ∙ parts.0 in cc);
          };
          first = hart_a;
          second = hart_b;
          block = do_share (access_of size a.kind) (access_of size b.kind) parts.1;
        }

  there : (u k : ℕ) → shares u k ≡ true → Shares size G u k h m
  there u k = by (record_of base u k) refl
    where
      by : (o : Option Line) → record_of base u k ≡ o → line_shares size o line.what ≡ true → Shares size G u k h m
      by None e t = absurd (cc)
      by (Some l) e t = let p = at_position base u k l e in of_records u k l p.0 p.1 l.what line.what refl refl t

  module _ (u k : ℕ) (s : Shares size G u k h m) where
    first : IsRecord G s.i u k s.pair.first.0
    first = subst (λ (z : ℕ). IsRecord G s.i z k s.pair.first.0) s.first s.pair.first.1

    second : IsRecord G s.j h m s.pair.second.0
    second = subst (λ (z : ℕ). IsRecord G s.j z m s.pair.second.0) s.second s.pair.second.1

    last : (s.j ≡ length base) × (s.pair.second.0 ≡ line)
    last = one_place G h m s.j (length base) s.pair.second.0 line second here

    low : s.i < length base
    low = let b : s.i < s.j = s.pair.before in let e : s.j ≡ length base = last.0 in omega arith

    source : IsRecord base s.i u k s.pair.first.0
    source = record_back base (line ∷ []) s.i u k s.pair.first.0 low first

    told : shares u k ≡ true
    told = ap (λ (o : Option Line). line_shares size o line.what) (found base s.i u k s.pair.first.0 source)
        ∙ (ap (λ (r : Record). records_share size r line.what) s.pair.first.2
        ∙ (ap (λ (r : Record). records_share size (entry.Event s.a) r) (ap (λ (z : Line). z.what) (sym last.1) ∙ s.pair.second.2)
        ∙ true_both (if s.a.hart == s.b.hart then false else true) (share_block (access_of size s.a.kind) (access_of size s.b.kind))
        (ap (λ (b : Bool). if b then false else true) (ne_eqb s.a.hart s.b.hart s.pair.apart))
        (shared (access_of size s.a.kind) (access_of size s.b.kind) s.block)))

    within : (1 ≤ k) × (k ≤ records_before u base (length base))
    within =
        let number : records_before u base s.i + 1 ≡ k = source.number in
        let own : records_before u base (s.i + 1) ≡ records_before u base s.i + 1 = before_own base s.i u s.pair.first.0 source.at source.hart in
        let up : records_before u base (s.i + 1) ≤ records_before u base (length base) = before_up base (s.i + 1) (length base) u (let b : s.i < length base = low in omega arith) in
        (omega arith, omega arith)

  abbrev candidate : ℕ → Option ℕ
  candidate u = greatest (shares u) (records_before u base (length base))

  candidate_is : (u : ℕ) → IsMost (λ k. Shares size G u k h m) (candidate u)
  candidate_is u = same_most (λ k. (1 ≤ k) × (k ≤ records_before u base (length base)) × (shares u k ≡ true)) (λ k. Shares size G u k h m)
      (λ k t. there u k t.2)
      (λ k s. let w = within u k s in (w.0, w.1, told u k s))
      (candidate u) (greatest_is (shares u) (records_before u base (length base)))

  abbrev pub candidates : List (Option ℕ)
  candidates = map candidate eight_harts

  pub eight : length candidates ≡ 8
  eight = refl

  pub candidates_are : AreCandidates size base line candidates
  candidates_are u l = subst (IsMost (λ k. Shares size G u k h m)) (sym (at_eight candidate u l)) (candidate_is u)
