-- Arcs read one after the other.
use Rattle.std.proofs.Common.{◌≡◌, ℕ, ◌<◌, List, [], ◌∷◌, ◌++◌, length, map, codes, Option, Some, None, true, false, refl, sym, ap, subst, ◌∙◌, append_assoc, arith}
use Rattle.std.specs.Prelude.{IfNone, IsSomeAnd}
use Rattle.std.specs.Borrow.{Bor}
use Rattle.std.proofs.lemmas.List.{append-nil, length-append}
use Rattle.pl_event.specs.declared.log.Point.{Point}
use Rattle.std.specs.List.{join_with_byte}
use Rattle.pl_event.specs.declared.log.Record.{Record}
use Rattle.log_grammar.specs.declared.points.ArcList.{ArcList}
use Rattle.log_grammar.specs.Begins.{EndsWithArcs, EndsWithNone}
use Rattle.log_grammar.proofs.Chain.{same_behind}
use Rattle.log_grammar.specs.Arcs.{Sums}
use Rattle.log_grammar.specs.Form.{IsPointInForm, ArePointsInForm, MayHave, most_read}
use Rattle.log_grammar.specs.Reads.{Closes, ReadsPoint, IsArcList, behind_blanks, behind_commas}
use Rattle.log_grammar.specs.Spelling.{point_word, arc_words}

-- another list of points has the same points so far
pub record Agrees (points others : List Point) (rest after : List ℕ) : Type 0 where
  pub tail : List Point
  pub parted : others ≡ points ++ tail
  pub in_form : ArePointsInForm most_read tail
  pub left : rest ≡ behind_commas tail (10 ∷ after)

-- the points so far
pub record IsSoFar (text : List ℕ) (list : ArcList) (rest : List ℕ) : Type 0 where
  pub points : List Point
  pub some : 0 < length points
  pub in_form : ArePointsInForm most_read points
  pub sums : Sums list points
  pub spelled : 44 ∷ text ≡ behind_commas points rest
  pub only : (others : List Point) (after : List ℕ) → ArePointsInForm most_read others → 44 ∷ text ≡ behind_commas others (10 ∷ after) → Agrees points others rest after

commas-append : (a b : List Point) (rest : List ℕ) → behind_commas (a ++ b) rest ≡ behind_commas a (behind_commas b rest)
commas-append [] b rest = refl
commas-append (point ∷ a) b rest = ap (λ (t : List ℕ). 44 ∷ point_word point ++ t) (commas-append a b rest)

form-append : (a : List Point) (point : Point) → ArePointsInForm most_read a → IsPointInForm most_read point → ArePointsInForm most_read (a ++ point ∷ [])
form-append [] point all one = (one, tt)
form-append (first ∷ a) point all one = (all.0, form-append a point all.1 one)

closes-commas : (points : List Point) (after : List ℕ) → Closes (behind_commas points (10 ∷ after))
closes-commas [] after = omega arith
closes-commas (point ∷ points) after = omega arith

pub same_tail : (x : ℕ) (a b : List ℕ) → x ∷ a ≡ x ∷ b → a ≡ b
same_tail x a b e = cc

pub same_first : (x y : ℕ) (a b : List ℕ) → x ∷ a ≡ y ∷ b → x ≡ y
same_first x y a b e = cc

not_comma : (a b : List ℕ) → 44 ∷ a ≡ 10 ∷ b → ⊥
not_comma a b e = omega (arith, same_first 44 10 a b e)

-- the points after one that was read
behind_read : (behind : List ℕ) (p : Point) (r : Bor (List ℕ)) → ReadsPoint behind (Some (p, r)) → (others : List Point) (after : List ℕ) → ArePointsInForm most_read others → 44 ∷ behind ≡ behind_commas others (10 ∷ after)
    → Agrees (p ∷ []) others r.now after
behind_read behind p r reads [] after form e = absurd (not_comma behind after e)
behind_read behind p r reads (o ∷ others) after form e =
    let f = reads.every o (behind_commas others (10 ∷ after)) form.0 (closes-commas others after) (same_tail 44 behind (point_word o ++ behind_commas others (10 ∷ after)) e) in
    record { tail = others; parted = ap (λ (x : Point). x ∷ others) (sym f.0); in_form = form.1; left = f.1 }

pub none_read : (behind : List ℕ) → ReadsPoint behind None → (others : List Point) (after : List ℕ) → ArePointsInForm most_read others → 44 ∷ behind ≡ behind_commas others (10 ∷ after) → ⊥
none_read behind reads [] after form e = not_comma behind after e
none_read behind reads (o ∷ others) after form e = reads.every o (behind_commas others (10 ∷ after)) form.0 (closes-commas others after) (same_tail 44 behind (point_word o ++ behind_commas others (10 ∷ after)) e)

-- the first point
pub first_point : (text : List ℕ) (p : Point) (r : Bor (List ℕ)) (list : ArcList) → ReadsPoint text (Some (p, r)) → Sums list ([] ++ p ∷ []) → IsSoFar text list r.now
first_point text p r list reads sums = record {
  points = p ∷ [];
  some = omega arith;
  in_form = (reads.found.0, tt);
  sums = sums;
  spelled = ap (λ (t : List ℕ). 44 ∷ t) reads.found.1;
  only = behind_read text p r reads;
}

-- one more point
agrees-more : (text rest : List ℕ) (behind : List ℕ) (points : List Point) (p : Point) (r : Bor (List ℕ)) → rest ≡ 44 ∷ behind → ReadsPoint behind (Some (p, r))
    → (others : List Point) (after : List ℕ) → Agrees points others rest after → Agrees (points ++ p ∷ []) others r.now after
agrees-more text rest behind points p r comma reads others after agrees =
    let next = behind_read behind p r reads agrees.tail after agrees.in_form (sym comma ∙ agrees.left) in
    record {
      tail = next.tail;
      parted = agrees.parted ∙ ap (λ (t : List Point). points ++ t) next.parted ∙ sym (append_assoc points (p ∷ []) next.tail);
      in_form = next.in_form;
      left = next.left;
    }

pub more_points : (text rest behind : List ℕ) (p : Point) (r : Bor (List ℕ)) (list new : ArcList) → IsSoFar text list rest → rest ≡ 44 ∷ behind → ReadsPoint behind (Some (p, r))
    → ((points : List Point) → Sums list points → Sums new (points ++ p ∷ [])) → IsSoFar text new r.now
more_points text rest behind p r list new far comma reads add = record {
  points = far.points ++ p ∷ [];
  some = omega (arith, far.some, length-append far.points (p ∷ []));
  in_form = form-append far.points p far.in_form reads.found.0;
  sums = add far.points far.sums;
  spelled = far.spelled ∙ ap (behind_commas far.points) (comma ∙ ap (λ (t : List ℕ). 44 ∷ t) reads.found.1) ∙ sym (commas-append far.points (p ∷ []) r.now);
  only = λ others after form e. agrees-more text rest behind far.points p r comma reads others after (far.only others after form e);
}

-- no point after the comma
pub none_behind : (text rest behind : List ℕ) (list : ArcList) → IsSoFar text list rest → rest ≡ 44 ∷ behind → ReadsPoint behind None → (others : List Point) (after : List ℕ) → ArePointsInForm most_read others
    → 44 ∷ text ≡ behind_commas others (10 ∷ after) → ⊥
none_behind text rest behind list far comma reads others after form e =
    let agrees = far.only others after form e in
    none_read behind reads agrees.tail after agrees.in_form (sym comma ∙ agrees.left)

-- no comma
ends_here : (points others : List Point) (rest after : List ℕ) → ((behind : List ℕ) → rest ≡ 44 ∷ behind → ⊥) → Agrees points others rest after → (others ≡ points) × (rest ≡ 10 ∷ after)
ends_here points others rest after none agrees = at agrees.tail agrees.parted agrees.left
  where
    at : (tail : List Point) → others ≡ points ++ tail → rest ≡ behind_commas tail (10 ∷ after) → (others ≡ points) × (rest ≡ 10 ∷ after)
    at [] parted left = (parted ∙ append-nil points, left)
    at (t ∷ tail) parted left = absurd (none (point_word t ++ behind_commas tail (10 ∷ after)) left)

pub whole_list : (text rest : List ℕ) (list : ArcList) → IsSoFar text list rest → ((behind : List ℕ) → rest ≡ 44 ∷ behind → ⊥) → IsArcList text list rest
whole_list text rest list far none = record {
  points = far.points;
  some = far.some;
  in_form = far.in_form;
  sums = far.sums;
  spelled = far.spelled;
  only = λ others after form e. ends_here far.points others rest after none (far.only others after form e);
}

pub shorter : (rest behind after word : List ℕ) → rest ≡ 44 ∷ behind → behind ≡ word ++ after → length after < length rest
shorter rest behind after word e f = omega (arith, ap length e, ap length f, length-append word after)

pub if_none : {X : Type 0} (result : Option X) (P : Type 0) → result ≡ None → P → IfNone result P
if_none {X} result P e h = let F : Option X → Type 0 = λ r. IfNone r P in subst F (sym e) h

pub not_there : {X : Type 0} (result : Option X) (P : X → Type 0) → result ≡ None → IsSomeAnd result P → ⊥
not_there {X} result P e h = let F : Option X → Type 0 = λ r. IsSomeAnd r P in subst F e h

-- the arcs of a line, after a blank, a sign and a blank
pub commas_are : (points : List Point) (point : Point) (after : List ℕ) → 44 ∷ (join_with_byte 44 (map point_word (point ∷ points)) ++ after) ≡ behind_commas (point ∷ points) after
commas_are [] point after = refl
commas_are (next ∷ points) point after =
    ap (λ (t : List ℕ). 44 ∷ t) (append_assoc (point_word point) (44 ∷ join_with_byte 44 (map point_word (next ∷ points))) after ∙ ap (λ (t : List ℕ). point_word point ++ t) (commas_are points next after))

abbrev pub list_text : List Point → List ℕ
list_text points = join_with_byte 44 (map point_word points)

pub arcs_are : (points : List Point) (point : Point) (after : List ℕ) → behind_blanks (arc_words (point ∷ points)) after ≡ codes " < " ++ (list_text (point ∷ points) ++ after)
arcs_are points point after = refl

-- no arcs
pub ends_bare : (what : Record) (bytes rest : List ℕ) (list : ArcList) → MayHave what [] → bytes ≡ 10 ∷ rest → EndsWithArcs what bytes false list rest
ends_bare what bytes rest list may e = record { points = []; in_form = tt; may_have = may; shows = refl; spelled = e; only = others }
  where
    others : (points : List Point) (after : List ℕ) → ArePointsInForm most_read points → MayHave what points → bytes ≡ behind_blanks (arc_words points) (10 ∷ after) → (points ≡ []) × (after ≡ rest)
    others [] after form has f = (refl, sym (same_tail 10 rest after (sym e ∙ f)))
    others (point ∷ points) after form has f = absurd (omega (arith, same_first 10 32 rest (codes "< " ++ (list_text (point ∷ points) ++ (10 ∷ after))) (sym e ∙ f ∙ arcs_are points point (10 ∷ after))))

-- neither a line feed nor the sign
pub ends_nowhere : (what : Record) (bytes : List ℕ) → ((after : List ℕ) → bytes ≡ 10 ∷ after → ⊥) → ((after : List ℕ) → bytes ≡ codes " < " ++ after → ⊥) → EndsWithNone what bytes
ends_nowhere what bytes feed sign [] after form may e = feed after e
ends_nowhere what bytes feed sign (point ∷ points) after form may e = sign (list_text (point ∷ points) ++ (10 ∷ after)) (e ∙ arcs_are points point (10 ∷ after))

-- the list after the sign, for the points of a line
pub behind_sign : (bytes rest : List ℕ) (points : List Point) (point : Point) (after : List ℕ) → bytes ≡ codes " < " ++ rest → bytes ≡ behind_blanks (arc_words (point ∷ points)) (10 ∷ after) → 44 ∷ rest ≡ behind_commas (point ∷ points) (10 ∷ after)
behind_sign bytes rest points point after sign e =
    let both : codes " < " ++ rest ≡ codes " < " ++ (list_text (point ∷ points) ++ (10 ∷ after)) = sym sign ∙ e ∙ arcs_are points point (10 ∷ after) in
    let same : rest ≡ list_text (point ∷ points) ++ (10 ∷ after) = same_behind (codes " < ") rest (list_text (point ∷ points) ++ (10 ∷ after)) both in
    ap (λ (t : List ℕ). 44 ∷ t) same ∙ commas_are points point (10 ∷ after)

pub ends_unlisted : (what : Record) (bytes rest : List ℕ) → ((after : List ℕ) → bytes ≡ 10 ∷ after → ⊥) → bytes ≡ codes " < " ++ rest → ((points : List Point) (after : List ℕ) → ArePointsInForm most_read points → 44 ∷ rest ≡ behind_commas points (10 ∷ after) → ⊥) → EndsWithNone what bytes
ends_unlisted what bytes rest feed sign none [] after form may e = feed after e
ends_unlisted what bytes rest feed sign none (point ∷ points) after form may e = none (point ∷ points) after form (behind_sign bytes rest points point after sign e)

pub ends_unfed : (what : Record) (bytes rest behind : List ℕ) (list : ArcList) → ((after : List ℕ) → bytes ≡ 10 ∷ after → ⊥) → bytes ≡ codes " < " ++ rest → IsArcList rest list behind → ((after : List ℕ) → behind ≡ 10 ∷ after → ⊥) → EndsWithNone what bytes
ends_unfed what bytes rest behind list feed sign listed none [] after form may e = feed after e
ends_unfed what bytes rest behind list feed sign listed none (point ∷ points) after form may e = none after (listed.only (point ∷ points) after form (behind_sign bytes rest points point after sign e)).1

pub ends_listed : (what : Record) (bytes rest behind after : List ℕ) (list : ArcList) → ((points : List Point) → MayHave what points) → ((after : List ℕ) → bytes ≡ 10 ∷ after → ⊥) → bytes ≡ codes " < " ++ rest → IsArcList rest list behind → behind ≡ 10 ∷ after
    → EndsWithArcs what bytes true list after
ends_listed what bytes rest behind after list may feed sign listed fed = record {
  points = listed.points;
  in_form = listed.in_form;
  may_have = may listed.points;
  shows = listed.sums;
  spelled = sign ∙ spelled listed.points listed.some listed.spelled;
  only = others;
}
  where
    spelled : (points : List Point) → 0 < length points → 44 ∷ rest ≡ behind_commas points behind → codes " < " ++ rest ≡ behind_blanks (arc_words points) (10 ∷ after)
    spelled [] some e = absurd (omega (arith, some))
    spelled (point ∷ points) some e =
        let same : rest ≡ list_text (point ∷ points) ++ behind = same_tail 44 rest (list_text (point ∷ points) ++ behind) (e ∙ sym (commas_are points point behind)) in
        ap (λ (t : List ℕ). codes " < " ++ t) (same ∙ ap (λ (t : List ℕ). list_text (point ∷ points) ++ t) fed) ∙ sym (arcs_are points point (10 ∷ after))

    others : (points : List Point) (other : List ℕ) → ArePointsInForm most_read points → MayHave what points → bytes ≡ behind_blanks (arc_words points) (10 ∷ other) → (points ≡ listed.points) × (other ≡ after)
    others [] other form has e = absurd (feed other e)
    others (point ∷ points) other form has e =
        let same = listed.only (point ∷ points) other form (behind_sign bytes rest points point other sign e) in
        (same.0, sym (same_tail 10 after other (sym fed ∙ same.1)))
