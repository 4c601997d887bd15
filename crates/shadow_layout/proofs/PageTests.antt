-- Which pages are mapped, by the lines of a log and by the plain state.
use Rattle.std.proofs.Common.{◌≡◌, ℕ, ◌+◌, ◌-◌, ◌*◌, ◌≤◌, Bool, true, false, ◌||◌, List, [], ◌∷◌, Option, Some, None, refl, sym, ap, ◌∙◌, subst, fold, if◌then◌else◌}
use Rattle.std.specs.Prelude.{option_map}
use Rattle.pl_base.specs.Pages.{is_among}
use Rattle.pl_base.proofs.Pages.{count_like}
use Rattle.pl_event.specs.declared.event.Kind.{Kind}
use Rattle.pl_event.specs.declared.event.Kind.TheVariants.{Ld, St, Op, Mv, Im, Br, Jr, Al, Fr, Bf, Mp, Um, Rd, Wr, Ex, Ft}
use Rattle.pl_event.specs.declared.log.PageRun.{PageRun}
use Rattle.pl_event.specs.declared.log.PageKind.TheVariants.{Data}
use Rattle.pl_event.specs.Mapping.{KeepsPages, mapped_by}
use Rattle.pl_event.specs.OpeningPages.{is_in_runs}
use Rattle.lifeguard.specs.Rules.{Rules}
use Rattle.lifeguard.specs.State.{Bytes, Masks, is_in, changed, paged, nothing, first_state}
use Rattle.lifeguard.specs.Plain.{bytes_after}
use Rattle.shadow_frames.specs.Words.{has_page, is_there}
use Rattle.shadow_frames.proofs.MappedPages.{page_replaced}

page_changed : (f : ℕ → ℕ → ℕ) (addr len : ℕ) (bytes : Bytes) (q : ℕ) → has_page (changed f addr len bytes) q ≡ has_page bytes q
unfolding changed
page_changed f addr len bytes q = by (is_in addr len (q * 4096))
  where
    mapped : (o : Option ℕ) → is_there (option_map (f (q * 4096 - addr)) o) ≡ is_there o
    mapped None = refl
    mapped (Some n) = refl

    by : (c : Bool) → is_there (if c then option_map (f (q * 4096 - addr)) (bytes (q * 4096)) else bytes (q * 4096)) ≡ is_there (bytes (q * 4096))
    by true = mapped (bytes (q * 4096))
    by false = refl

-- both know the same pages
abbrev pub HasPages : Bytes → (ℕ → Bool) → Type 0
HasPages bytes mapped = (q : ℕ) → has_page bytes q ≡ mapped q

module _ (rules : Rules) (hart : ℕ) (bytes : Bytes) (masks : Masks) (old : ℕ → Bool) (same : HasPages bytes old) where
  pub pages_after : (kind : Kind) → HasPages (bytes_after rules hart kind bytes masks) (mapped_by old kind)
  pages_after (Ld width rd rb addr) q = same q
  pages_after (St width rv rb addr) q = page_changed _ addr _ bytes q ∙ same q
  pages_after (Op rd r1 r2) q = same q
  pages_after (Mv rd rs) q = same q
  pages_after (Im rd) q = same q
  pages_after (Br r1 r2) q = same q
  pages_after (Jr rd rs) q = same q
  pages_after (Al addr len) q = page_changed _ addr len bytes q ∙ same q
  pages_after (Fr addr len) q = page_changed _ addr len bytes q ∙ same q
  pages_after (Bf addr) q = same q
  pages_after (Mp page count) q = page_replaced (Some (rules.page_state Data)) page count bytes q ∙ ap (λ (b : Bool). if is_in page count q then true else b) (same q)
  pages_after (Um page count) q = page_replaced None page count bytes q ∙ ap (λ (b : Bool). if is_in page count q then false else b) (same q)
  pages_after (Rd addr len) q = page_changed _ addr len bytes q ∙ same q
  pages_after (Wr addr len) q = same q
  pages_after Ex q = same q
  pages_after (Ft cause addr) q = same q

  pub keeps_pages : (kind : Kind) → KeepsPages old kind → KeepsPages (has_page bytes) kind
  keeps_pages (Ld width rd rb addr) m = tt
  keeps_pages (St width rv rb addr) m = tt
  keeps_pages (Op rd r1 r2) m = tt
  keeps_pages (Mv rd rs) m = tt
  keeps_pages (Im rd) m = tt
  keeps_pages (Br r1 r2) m = tt
  keeps_pages (Jr rd rs) m = tt
  keeps_pages (Al addr len) m = tt
  keeps_pages (Fr addr len) m = tt
  keeps_pages (Bf addr) m = tt
  keeps_pages (Mp page count) m = ((λ q low high. same q ∙ m.0 q low high), subst (λ (z : ℕ). z + count ≤ 512) (sym (count_like (has_page bytes) old 4096 (λ q lt. same q))) m.1)
  keeps_pages (Um page count) m = λ q low high. same q ∙ m q low high
  keeps_pages (Rd addr len) m = tt
  keeps_pages (Wr addr len) m = tt
  keeps_pages Ex m = tt
  keeps_pages (Ft cause addr) m = tt

joined : (a b c : Bool) → (b || (if a then true else c)) ≡ ((a || b) || c)
joined true true c = refl
joined true false c = refl
joined false true c = refl
joined false false c = refl

no_more : (b : Bool) → (b || false) ≡ b
no_more true = refl
no_more false = refl

pages_of_runs : (rules : Rules) (bytes : Bytes) (runs : List PageRun) (q : ℕ) → has_page (fold (λ (bytes : Bytes) (run : PageRun). paged (Some (rules.page_state run.kind)) run.first run.count bytes) bytes runs) q ≡ (is_in_runs runs q || has_page bytes q)
pages_of_runs rules bytes [] q = refl
pages_of_runs rules bytes (run ∷ runs) q =
    pages_of_runs rules (paged (Some (rules.page_state run.kind)) run.first run.count bytes) runs q
    ∙ (ap (λ (b : Bool). is_in_runs runs q || b) (page_replaced (Some (rules.page_state run.kind)) run.first run.count bytes q)
    ∙ joined (is_among run.first run.count q) (is_in_runs runs q) (has_page bytes q))

pub first_pages : (rules : Rules) (runs : List PageRun) → HasPages (first_state rules runs).bytes (is_in_runs runs)
first_pages rules runs q = pages_of_runs rules nothing runs q ∙ no_more (is_in_runs runs q)
