-- What the operations of each kind leave of the words below the shadow words.
use Rattle.std.proofs.Common.{◌≡◌, ℕ, ◌/◌, ◌<◌, Bool, true, false, eqb, [], ◌∷◌, refl, ap, ◌∙◌, arith, if◌then◌else◌}
use Rattle.pl_base.specs.Widths.{store_bytes}
use Rattle.pl_event.specs.declared.event.Kind.{Kind}
use Rattle.pl_event.specs.declared.event.Kind.TheVariants.{Ld, St, Op, Mv, Im, Br, Jr, Al, Fr, Bf, Mp, Um, Rd, Wr, Ex, Ft}
use Rattle.pl_event.specs.declared.log.Record.{Record}
use Rattle.pl_event.specs.declared.log.Record.TheVariants as entry
use Rattle.lifeguard.specs.Rules.{Rules}
use Rattle.lifeguard.specs.State.{Masks, State}
use Rattle.order_core.specs.Shapes.{after_shapes}
use Rattle.shadow_frames.specs.Frames.{pages_from, reads, writes}
use Rattle.shadow_frames.proofs.Mapping.{put_else}
use Rattle.shadow_frames.proofs.Many.{kept}
use Rattle.shadow_layout.specs.Operations.{shapes, change_block, changed_word, block_word, block_directory, blocks_of, store_shapes, not_addr}
use Rattle.shadow_layout.specs.Logs.{record_shapes}
use Rattle.shadow_layout.proofs.Blocks.{reads_leave}
use Rattle.shadow_layout.proofs.Represented.{load_leaves, store_is, store_leaves, no_both}
use Rattle.log_plan.specs.inner.Serving.{is_mapping, maps}

change_low : (f : ℕ → ℕ → ℕ) (addr len : ℕ) (w : ℕ → ℕ) (b u : ℕ) → u < 4113 → after_shapes w (change_block f addr len w b) u ≡ w u
unfolding change_block
change_low f addr len w b u lt = by (eqb (w (block_directory b)) 0)
  where
    by : (c : Bool) → after_shapes w (reads (block_directory b) ∷ (if c then [] else (reads (block_word w b) ∷ writes (block_word w b) (changed_word f addr len b) ∷ []))) u ≡ w u
    by true = refl
    by false = put_else w (block_word w b) u (changed_word f addr len b (w (block_word w b))) (λ e. omega arith)

changes_low : (f : ℕ → ℕ → ℕ) (addr len n : ℕ) (w : ℕ → ℕ) (b u : ℕ) → u < 4113 → after_shapes w (pages_from (change_block f addr len) w b n) u ≡ w u
changes_low f addr len n w b u lt = kept (change_block f addr len) (λ v p m. v u ≡ w u) (λ v p m e. change_low f addr len v p u lt ∙ e) n w b refl

module _ (rules : Rules) (size hart : ℕ) (masks : Masks) (w : ℕ → ℕ) (u : ℕ) (low : u < 4113) where
  store_low : (addr len mask : ℕ) → after_shapes w (store_shapes rules size w addr len mask) u ≡ w u
  store_low addr len mask = by (not_addr rules.name) refl
    where
      by : (c : Bool) → not_addr rules.name ≡ c → after_shapes w (store_shapes rules size w addr len mask) u ≡ w u
      by true e = ap (λ (z : ℕ → ℕ). z u) (store_is rules size w addr len mask e) ∙ change_low _ addr len w (addr / 16) u low
      by false e = ap (λ (z : ℕ → ℕ). z u) (store_leaves rules size w addr len mask e)

  kind_low : (kind : Kind) → is_mapping kind ≡ false → after_shapes w (shapes rules size hart masks w kind) u ≡ w u
  kind_low (Ld width rd rb addr) e = ap (λ (z : ℕ → ℕ). z u) (load_leaves rules size w addr)
  kind_low (St width rv rb addr) e = store_low addr (store_bytes width) (masks hart rv)
  kind_low (Op rd r1 r2) e = refl
  kind_low (Mv rd rs) e = refl
  kind_low (Im rd) e = refl
  kind_low (Br r1 r2) e = refl
  kind_low (Jr rd rs) e = refl
  kind_low (Al addr len) e = changes_low _ addr len (blocks_of addr len) w (addr / 16) u low
  kind_low (Fr addr len) e = changes_low _ addr len (blocks_of addr len) w (addr / 16) u low
  kind_low (Bf addr) e = refl
  kind_low (Mp page count) e = absurd (no_both true refl e)
  kind_low (Um page count) e = absurd (no_both true refl e)
  kind_low (Rd addr len) e = changes_low _ addr len (blocks_of addr len) w (addr / 16) u low
  kind_low (Wr addr len) e = ap (λ (z : ℕ → ℕ). z u) (reads_leave (blocks_of addr len) w (addr / 16))
  kind_low Ex e = refl
  kind_low (Ft cause addr) e = refl

-- a record that maps no pages
pub record_low : (rules : Rules) (size : ℕ) (state : State) (w : ℕ → ℕ) (r : Record) (u : ℕ) → u < 4113 → maps r ≡ false → after_shapes w (record_shapes rules size state w r) u ≡ w u
record_low rules size state w (entry.Event e) u lt none = kind_low rules size e.hart state.masks w u lt e.kind none
record_low rules size state w (entry.Notice hart point) u lt none = refl
