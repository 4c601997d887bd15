-- An event all of whose operations are made.
use Rattle.std.proofs.Common.{◌≡◌, ℕ, ◌+◌, ◌-◌, ◌<◌, [], length, sym, ap, ◌∙◌, subst, arith}
use Rattle.std.specs.Prelude.{count_by}
use Rattle.std.proofs.lemmas.List.{append-nil}
use Rattle.std.proofs.Math.Logic.{∥∥₁_elim}
use denote.Struct.Props.{props}
use Rattle.pl_event.specs.declared.event.Kind.{Kind}
use Rattle.pl_event.specs.Records.{line_number}
use Rattle.pl_event.specs.Valid.{HasValidFields}
use Rattle.order_core.specs.Shapes.{after_shapes}
use Rattle.guard_table.specs.declared.view.View.{View}
use Rattle.shadow_frames.specs.Words.{WordsRepresent}
use Rattle.shadow_layout.proofs.Sound.{few_operations}
use Rattle.worker_laws.specs.Runs.{Run, before, shapes_at}
use Rattle.worker_records.specs.Accesses.{HasWritten}
use Rattle.worker_records.specs.Alerts.{IsAmid}
use Rattle.worker_records.specs.Shapes.{made}
use Rattle.worker_records.proofs.FieldLemmas.{valid_fields}
use Rattle.worker_records.proofs.ShapeLemmas.{amid_more}

module _ (p : Run) (v u : View) (number : ℕ) (kind : Kind) (amid : IsAmid p v number 0 kind (before p v.hart number).words (shapes_at p v.hart number kind)) where
  pub fields : HasValidFields kind
  fields = valid_fields p amid.run v.hart number kind amid.is

  pub few : length (shapes_at p v.hart number kind) < 4294967295
  few = ∥∥₁_elim (amid.run.represents (line_number p.plan.log.lines v.hart number - 1)) (hlevel props) (λ (st : WordsRepresent (before p v.hart number).words (before p v.hart number).state.bytes).
      few_operations p.rules amid.run.laws p.plan.log.block v.hart (before p v.hart number).state.masks (before p v.hart number).state.bytes (amid.run.range (line_number p.plan.log.lines v.hart number - 1)).nibbles
      (before p v.hart number).words st kind fields)

  -- the event by another name for its kind
  pub amid_by : (k : Kind) → kind ≡ k → IsAmid p v number 0 kind (before p v.hart number).words (shapes_at p v.hart number k)
  amid_by k e = subst (λ (z : Kind). IsAmid p v number 0 kind (before p v.hart number).words (shapes_at p v.hart number z)) e amid

  pub fields_by : (k : Kind) → kind ≡ k → HasValidFields k
  fields_by k e = subst HasValidFields e fields

  module _ (k : Kind) (is : kind ≡ k) (all : u ≡ made (shapes_at p v.hart number k) v) where
    made_all : u ≡ made (shapes_at p v.hart number kind) v
    made_all = all ∙ ap (λ (z : Kind). made (shapes_at p v.hart number z) v) (sym is)

    pub written : HasWritten v u
    written = record {
      same = made_all ∙ ap (λ (n : ℕ). record v { written = n }) (sym (ap (λ (z : View). z.written) made_all));
      more = let e : u.written ≡ v.written + count_by (λ s. s.write) (shapes_at p v.hart number kind) = ap (λ (z : View). z.written) made_all in omega (arith, e);
    }

    pub whole_made : (w : ℕ → ℕ) × (op : ℕ) × IsAmid p u number op kind w [] × (op < 4294967295)
    whole_made = (
      after_shapes (before p v.hart number).words (shapes_at p v.hart number kind),
      0 + length (shapes_at p v.hart number kind),
      subst (λ (z : View). IsAmid p z number (0 + length (shapes_at p v.hart number kind)) kind (after_shapes (before p v.hart number).words (shapes_at p v.hart number kind)) []) (sym made_all)
          (amid_more p number kind (shapes_at p v.hart number kind) [] v 0 (before p v.hart number).words (subst (IsAmid p v number 0 kind (before p v.hart number).words) (sym (append-nil (shapes_at p v.hart number kind))) amid)),
      (let l : length (shapes_at p v.hart number kind) < 4294967295 = few in omega (arith, l)),
    )
