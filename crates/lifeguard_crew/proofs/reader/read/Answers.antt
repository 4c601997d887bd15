use Rattle.std.proofs.Common.{rules, ◌≡◌, ◌++◌, List, length, length-append, refl, sym, ap, ◌∙◌, subst, arith}
use Rattle.pl_event.specs.declared.fed.Fed.{Fed}
use Rattle.stream_ring.specs.Flow.{IsNext, stream_of}
use Rattle.stream_ring.specs.Passes.{taken}
use Rattle.turn_worker.specs.Workers as worker
use Rattle.lifeguard_crew.specs.inner.Online.{fixed}
use Rattle.lifeguard_crew.proofs.ReaderSteps.{next_fed, next_short, reader_still, found_at}
use Rattle.lifeguard_crew.proofs.reader.read.Goals as goal

pub take-requires : goal.take-requires
take-requires g c =
    let v = g.W.TurnWorker.view c.args.reader.now.worker in
    let at : c.from.result ≡ v.seat.hart = search rules in
    record { of = (c.requires.of c.index-ring.result.now (found_at c.args.rings.now.items v.seat.hart c.from.result c.index-ring.result.now at c.requires.inside c.index-ring.ensures)).0 }

pub returns-in_default-clause-reader : goal.returns-in_default-clause-reader
returns-in_default-clause-reader g c =
    let r = c.args.reader.now in
    let v = g.W.TurnWorker.view r.worker in
    let at : c.from.result ≡ v.seat.hart = search rules in
    let here = found_at c.args.rings.now.items v.seat.hart c.from.result c.index-ring.result.now at c.requires.inside c.index-ring.ensures in
    let same = c.in_default.ensures.done.0 in
    reader_still g.P.Plan.planned g.W.TurnWorker.view c.args._monitor.now g.N.RunName.log c.args.rings.now.items r _ c.index-ring.result.now c.requires refl here
    c.in_default.ensures.of (c.requires.fed ∙ sym same) (c.requires.count ∙ sym (ap length same))

pub overflow_add-reader : goal.overflow_add-reader
overflow_add-reader g c =
    let r = c.args.reader.now in
    let chunk = c.in-Some.chunk in
    let short = next_short g.N.RunName.log c.index-ring.result.now.hart (taken r.pass) chunk c.in-Some.ensures.done.1 in
    let list : length c.into_list-list.result.items ≡ length chunk = ap length c.into_list-list.ensures.list in
    let len : c.len.result ≡ length c.into_list-list.result.items = search rules in
    omega (arith, c.requires.count, c.requires.few)

pub feed-requires : goal.feed-requires
feed-requires g c =
    let r = c.args.reader.now in
    let v = g.W.TurnWorker.view r.worker in
    let chunk = c.in-Some.chunk in
    let at : c.from.result ≡ v.seat.hart = search rules in
    let here = found_at c.args.rings.now.items v.seat.hart c.from.result c.index-ring.result.now at c.requires.inside c.index-ring.ensures in
    let stream = ap (stream_of g.N.RunName.log) (c.requires.of c.index-ring.result.now here).1 ∙ c.requires.stream in
    let list : List Fed = c.into_list-list.result.items in
    let piece = subst (λ (z : List Fed). IsNext (stream_of g.N.RunName.log c.index-ring.result.now.hart) (taken r.pass) z) (sym c.into_list-list.ensures.list) c.in-Some.ensures.done.1 in
    let fed = subst (λ (z : List Fed). IsNext (stream_of g.N.RunName.log c.index-ring.result.now.hart) z list) (sym c.requires.fed) piece in
    next_fed (worker.stream_of v) v.fed list (subst (λ (z : List Fed). IsNext z v.fed list) stream fed)

pub returns-clause-reader : goal.returns-clause-reader
returns-clause-reader g c =
    let r = c.args.reader.now in
    let v = g.W.TurnWorker.view r.worker in
    let chunk = c.in-Some.chunk in
    let list : List Fed = c.into_list-list.result.items in
    let is : list ≡ chunk = c.into_list-list.ensures.list in
    let at : c.from.result ≡ v.seat.hart = search rules in
    let here = found_at c.args.rings.now.items v.seat.hart c.from.result c.index-ring.result.now at c.requires.inside c.index-ring.ensures in
    let fed = c.in-Ok.ensures.ok in
    let len : c.len.result ≡ length list = search rules in
    let more : taken c.take.new.pass ≡ taken r.pass ++ chunk = c.in-Some.ensures.done.0 in
    reader_still g.P.Plan.planned g.W.TurnWorker.view c.args._monitor.now g.N.RunName.log c.args.rings.now.items r _ c.index-ring.result.now c.requires
    (ap fixed fed) here c.in-Some.ensures.of
    (ap (λ (z : worker.WorkerView). z.fed) fed ∙ ((λ i. c.requires.fed i ++ is i) ∙ sym more))
    (omega (arith, c.requires.count, ap length more, length-append (taken r.pass) chunk, ap length is))
