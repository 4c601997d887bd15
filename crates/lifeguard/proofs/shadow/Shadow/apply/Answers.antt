use Rattle.std.proofs.Common.{◌≡◌, arith, refl, ap, ◌∙◌}
use Rattle.std.specs.Vec.{with_items}
use Rattle.std.proofs.lemmas.List.{with_items_is}
use Rattle.lifeguard.specs.Shadow.{next_place, bytes_in}
use Rattle.lifeguard.proofs.PlainLemmas.{state_after, count_after}
use Rattle.lifeguard.proofs.shadow.Shadow.apply.Goals as goal

pub returns-clause-ok : goal.returns-clause-ok
returns-clause-ok g c =
    let room = with_items c.args.self.now.pages c.make_room_for.new.pages in
    let same : bytes_in room.items ≡ bytes_in c.args.self.now.pages.items =
    ap bytes_in (with_items_is c.args.self.now.pages c.make_room_for.new.pages (omega arith)) ∙ c.make_room_for.ensures.same ∙ ap bytes_in c.deref_mut.ensures.value in
    record {
      state = state_after (g.L.Lifeguard.rules c.args.guard) (next_place c.args.self.now c.args.event.now.hart) c.args.event.now.kind
          c.args.self.now.pages.items c.deref.result.now c.deref-2.result.now c.deref_mut-2.result.now (with_items room c.change_bytes.new.pages).items
          c.args.self.now.masks c.change_masks.new.masks c.args.self.now.reports.items c.report_event.new.reports.items
          (ap bytes_in c.deref.ensures.value ∙ same) (ap bytes_in c.deref-2.ensures.value ∙ same) (ap bytes_in c.deref_mut-2.ensures.value ∙ same)
          c.in_ok-report_event.ensures.ok c.change_masks.ensures
          (ap bytes_in (with_items_is room c.change_bytes.new.pages (omega arith)) ∙ c.change_bytes.ensures);
      place = refl;
      counts = λ h lt. count_after c.args.self.now.counts c.args.event.now.hart h (omega arith);
    }
