-- Looks at other harts, and what they leave.
use Rattle.std.proofs.Common.{◌≡◌, ◌≢◌, ℕ, zero, suc, ◌+◌, ◌<◌, ◌≤◌, Option, Some, None, List, IfSome, refl, sym, ap, ◌∙◌, subst, arith}
use Rattle.std.proofs.Math.Logic.{∥∥₁_elim}
use Rattle.std.proofs.Props.{props}
use Rattle.std.specs.Prelude.{slice_index, slice_index_or}
use mathlib.Core.Logic.{dite}
use native.Mathlib.Decide.{ℕ_discrete}
use Rattle.pl_event.specs.declared.log.Line.{Line}
use Rattle.pl_event.specs.Needs.{need_of, needs_of}
use Rattle.order_core.specs.declared.course.Course.{Course}
use Rattle.order_core.specs.declared.course.Op.{Op}
use Rattle.order_core.specs.Course.{course_of, operation_of}
use Rattle.order_core.specs.Lawful.{IsLawful}
use Rattle.order_core.proofs.Progress.{need_within, read_after_see}
use Rattle.guard_table.specs.declared.view.View.{View}
use Rattle.worker_laws.specs.Runs.{Run}
use Rattle.worker_laws.specs.Kept.{Kept, Parts}
use Rattle.worker_laws.specs.Reads.{MayReadNow}
use Rattle.lifeguard_worker.specs.declared.needs.Short.{Short}
use Rattle.lifeguard_worker.specs.Turns.{HasLooked, HasSeenBelow, IsShort}

pub need_at : (lines : List Line) (h m u : ℕ) → u < 8 → slice_index_or (needs_of lines h m) u None ≡ need_of lines u h m
need_at lines h m zero l = refl
need_at lines h m (suc zero) l = refl
need_at lines h m (suc (suc zero)) l = refl
need_at lines h m (suc (suc (suc zero))) l = refl
need_at lines h m (suc (suc (suc (suc zero)))) l = refl
need_at lines h m (suc (suc (suc (suc (suc zero))))) l = refl
need_at lines h m (suc (suc (suc (suc (suc (suc zero)))))) l = refl
need_at lines h m (suc (suc (suc (suc (suc (suc (suc zero))))))) l = refl
need_at lines h m (suc (suc (suc (suc (suc (suc (suc (suc u)))))))) l = absurd (omega arith)

-- what is needed is of another hart of the run
pub needed : (c : Course) → ∥ IsLawful c ∥₁ → (h m u need : ℕ) → u < 8 → slice_index_or (needs_of c.log.lines h m) u None ≡ Some need → (u ≢ h) × (u < c.log.harts)
needed c law h m u need low e =
    let p : IsProp ((u ≢ h) × (u < c.log.harts)) = hlevel props in
    ∥∥₁_elim law p (λ (l : IsLawful c). need_within c l u need h m (sym (need_at c.log.lines h m u low) ∙ e))

pub looked_more : (u v w : View) → HasLooked u v → HasLooked v w → HasLooked u w
looked_more u v w a b = record {
  same = b.same ∙ ap (λ (z : View). record z { seen = w.seen; looks = w.looks }) a.same;
  seen = λ t. (let x : slice_index u.seen t ≤ slice_index v.seen t = a.seen t in let y : slice_index v.seen t ≤ slice_index w.seen t = b.seen t in omega arith);
  looks = λ t. (let x : slice_index u.looks t ≤ slice_index v.looks t = a.looks t in let y : slice_index v.looks t ≤ slice_index w.looks t = b.looks t in omega arith);
}

pub seen_more : (needs : List (Option ℕ)) (v w : View) (u : ℕ) → HasLooked v w → HasSeenBelow needs v u → ((need : ℕ) → slice_index_or needs u None ≡ Some need → need ≤ slice_index w.seen u) → HasSeenBelow needs w (u + 1)
seen_more needs v w u looked below here t need lt e = dite (ℕ_discrete t u)
    (λ same. subst (λ (z : ℕ). need ≤ slice_index w.seen z) (sym same) (here need (subst (λ (z : ℕ). slice_index_or needs z None ≡ Some need) same e)))
    (λ ne. let o : t ≡ u → ⊥ = ne in let x : need ≤ slice_index v.seen t = below t need (omega arith) e in let y : slice_index v.seen t ≤ slice_index w.seen t = looked.seen t in omega arith)

-- by looks made before
pub short_from : (needs : List (Option ℕ)) (u v w : View) → HasLooked u v → (o : Option Short) → IfSome o (λ short. IsShort needs v w short) → IfSome o (λ short. IsShort needs u w short)
short_from needs u v w looked None e = tt
short_from needs u v w looked (Some short) is = record {
  inside = is.inside;
  need = is.need;
  unseen = is.unseen;
  loaded = is.loaded;
  looked = (let x : slice_index u.looks short.hart ≤ slice_index v.looks short.hart = looked.looks short.hart in let y : slice_index v.looks short.hart < slice_index w.looks short.hart = is.looked in omega arith);
  learnt = is.learnt;
  lowest = is.lowest;
}

-- ---- what a worker keeps

module _ (p : Run) (h : ℕ) (v : View) (seen looks : List ℕ) (more : (u : ℕ) → slice_index v.seen u ≤ slice_index seen u) where
  abbrev w : View
  w = record v { seen = seen; looks = looks }

  able : (m i : ℕ) (o : Op) → MayReadNow p h v m i o → MayReadNow p h w m i o
  able m i o may = record {
    listed = may.listed;
    able = λ q at. read_after_see (course_of p.plan) h q (operation_of h m i o) v.written v.progress (slice_index v.seen) (slice_index seen) more (may.able q at);
  }

  kept_seen : (n : ℕ) (parts : Parts) → Kept p h v n parts → Kept p h w n parts
  kept_seen n parts kept = record {
    taken = record {
      within = kept.taken.within;
      written = kept.taken.written;
      met = λ u k j need le. (let a : k ≤ slice_index v.seen u = kept.taken.met u k j need le in let b : slice_index v.seen u ≤ slice_index seen u = more u in omega arith);
      told = kept.taken.told;
      lag = kept.taken.lag;
    };
    right = record {
      known = kept.right.known;
      held = λ r from lt e. (let i = kept.right.held r from lt e in record {
        source = i.source;
        near = i.near;
        narrow = i.narrow;
        past = i.past;
        some_page = i.some_page;
        directory = able from.number _ _ i.directory;
        value = able from.number _ _ i.value;
        mask_is = i.mask_is;
        lasts = i.lasts;
      });
    };
    found = kept.found;
    counted = record { slots = kept.counted.slots; checks = kept.counted.checks; misses = kept.counted.misses; reports = kept.counted.reports };
  }

pub kept_looks : (p : Run) (h : ℕ) (v w : View) (n : ℕ) (parts : Parts) → HasLooked v w → Kept p h v n parts → Kept p h w n parts
kept_looks p h v w n parts looked kept = subst (λ (z : View). Kept p h z n parts) (sym looked.same) (kept_seen p h v w.seen w.looks looked.seen n parts kept)
