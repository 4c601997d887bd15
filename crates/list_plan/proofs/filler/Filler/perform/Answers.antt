use Rattle.std.proofs.Common.{sym, ap, ◌∙◌, subst}
use Rattle.std.proofs.Math.Logic.{∥∥₁_elim}
use denote.Struct.Props.{props}
use Rattle.pl_event.specs.declared.log.PageKind.TheVariants.{Data}
use Rattle.shadow_frames.specs.Words.{all_nibbles}
use Rattle.list_plan.specs.inner.Fills.{words_of}
use Rattle.list_plan.specs.inner.Rooms.{HasRoom}
use Rattle.list_plan.specs.inner.Tables.{HasNibbles}
use Rattle.list_plan.proofs.OpeningTable.{filling_small}
use Rattle.list_plan.proofs.filler.Filler.perform.Goals as goal

pub map_pages-requires-clause-filling : goal.map_pages-requires-clause-filling
map_pages-requires-clause-filling g c = subst HasNibbles (sym (c.all_nibbles-filling.ensures ∙ ap all_nibbles c.page_state.ensures)) (filling_small ((g.L.Lifeguard.rules c.args.guard).page_state Data) ((g.met.L.Lifeguard.lawful c.args.guard).page_below Data))

pub unmap_pages-requires : goal.unmap_pages-requires
unmap_pages-requires g c = ∥∥₁_elim c.requires (hlevel props) (λ (r : HasRoom (g.L.Lifeguard.rules c.args.guard) (words_of c.args.self.now) c.args.kind). subst (HasRoom (g.L.Lifeguard.rules c.args.guard) (words_of c.args.self.now)) c.in-Um.is r)

pub change_range-requires-in-Rd : goal.change_range-requires-in-Rd
change_range-requires-in-Rd g c = ∥∥₁_elim c.requires (hlevel props) (λ (r : HasRoom (g.L.Lifeguard.rules c.args.guard) (words_of c.args.self.now) c.args.kind). subst (HasRoom (g.L.Lifeguard.rules c.args.guard) (words_of c.args.self.now)) c.in-Rd.is r)

pub read_range-requires : goal.read_range-requires
read_range-requires g c = ∥∥₁_elim c.requires (hlevel props) (λ (r : HasRoom (g.L.Lifeguard.rules c.args.guard) (words_of c.args.self.now) c.args.kind). subst (HasRoom (g.L.Lifeguard.rules c.args.guard) (words_of c.args.self.now)) c.in-Wr.is r)
