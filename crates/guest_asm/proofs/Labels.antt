-- The addresses of labels, as the map has them.
use Rattle.std.proofs.Common.{◌≡◌, ℕ, Bool, false, cond, List, [], ◌∷◌, ◌++◌, map, Option, Some, None, refl, ap, ◌∙◌}
use Rattle.std.specs.Borrow.{Bor}
use Rattle.std.specs.Option.{is_some, option_copied}
use Rattle.std.specs.Str.{bytes_eq}
use Rattle.std.specs.Map.{lookup}
use Rattle.std.proofs.lemmas.List.{map-append}
use Rattle.indexmap.specs.IndexMap.{IndexMap, get_by, get, insert_entry}
use Rattle.indexmap.proofs.CallerLemmas.{insert_entry-new}
use Rattle.guest_asm.specs.Rules.{address_of}
use Rattle.guest_asm.specs.Scans.{defined}

entries_at : (name : List ℕ) (es : List (Bor (List ℕ) × ℕ)) → lookup (λ k. bytes_eq name k.now) es ≡ address_of (map (λ e. (e.0.now, e.1)) es) name
entries_at name [] = refl
entries_at name (e ∷ es) = ap (cond (bytes_eq name e.0.now) (Some e.1)) (entries_at name es)

pub looked-up : {S : Type 0} (m : IndexMap (Bor (List ℕ)) ℕ S) (name : List ℕ) → get_by (λ k. bytes_eq name k.now) m ≡ address_of (defined m) name
looked-up m name = entries_at name m.entries

pub some-copied : {X : Type 0} (o : Option (Bor X)) → is_some o ≡ is_some (option_copied o)
some-copied None = refl
some-copied (Some x) = refl

not_some : {X : Type 0} (o : Option X) → is_some o ≡ false → o ≡ None
not_some None e = refl
not_some (Some x) e = absurd cc

abbrev same_name : Bor (List ℕ) → Bor (List ℕ) → Bool
same_name x y = bytes_eq x.now y.now

-- a new label goes last
pub added : {S : Type 0} (m n : IndexMap (Bor (List ℕ)) ℕ S) (k : Bor (List ℕ)) (v : ℕ) → is_some (address_of (defined m) k.now) ≡ false
    → n.entries ≡ insert_entry same_name m.entries k v → defined n ≡ defined m ++ (k.now, v) ∷ []
added m n k v none entries =
    let absent : get same_name m k ≡ None = looked-up m k.now ∙ not_some _ none in
    ap (map (λ (e : Bor (List ℕ) × ℕ). (e.0.now, e.1))) (entries ∙ insert_entry-new same_name m k v absent)
    ∙ map-append (λ (e : Bor (List ℕ) × ℕ). (e.0.now, e.1)) m.entries ((k, v) ∷ [])
