use Rattle.std.proofs.Common.{◌≡◌, ℕ, List, [], ◌∷◌, ◌++◌, length, slice_get, replicate, None, Some, sym, ap, ◌∙◌, subst}
use Rattle.pl_event.specs.declared.log.Line.{Line}
use Rattle.pl_event.specs.declared.log.PageRun.{PageRun}
use Rattle.order_core.specs.declared.course.Op.{Op}
use Rattle.order_core.specs.Course.{course_of}
use Rattle.order_core.specs.Lawful.{IsLawful}
use Rattle.order_core.specs.Lists.{ops_in, ops_of}
use Rattle.order_core.proofs.SmallPlans.{line_of, no_arcs, write, read}
use Rattle.order_core.proofs.TwoHarts.{lines, two_harts, two_records, two_needs}
use Rattle.order_core.proofs.tests.two_harts.Goals as goal

pub new-requires-2-clause-lawful : goal.new-requires-2-clause-lawful
new-requires-2-clause-lawful c =
    let first : c.push.new.self ≡ line_of 0 no_arcs ∷ [] = c.in_ok-push.ensures.ok ∙ (λ i. c.new-lines.ensures i ++ (c.plain.ensures ∙ ap (line_of 0) c.none.ensures) i ∷ []) in
    let second : c.push-2.new.self ≡ line_of 0 no_arcs ∷ line_of 1 (Some 1 ∷ replicate 7 None) ∷ [] = c.in_ok-push-2.ensures.ok ∙ (λ i. first i ++ (c.plain-2.ensures ∙ ap (line_of 1) c.after.ensures) i ∷ []) in
    let all : c.push-3.new.self ≡ lines = c.in_ok-push-3.ensures.ok ∙ (λ i. second i ++ (c.plain-3.ensures ∙ ap (line_of 0) c.after-2.ensures) i ∷ []) in
    let ops : ℕ → ℕ → List Op = ops_in c.in_ok-streams.streams.items in
    let x : ops 0 1 ≡ write 9 1 7 ∷ [] = ap (λ z. ops_in z 0 1) c.in_ok-streams.ensures.items ∙ (ap (λ z. ops_of (slice_get z 0)) c.in_ok-from_array-4.ensures.items ∙ (c.in_ok-from_array.ensures.items ∙ ap (λ z. z ∷ []) c.write.ensures)) in
    let y : ops 1 1 ≡ read 9 1 7 ∷ write 9 2 196608 ∷ [] = ap (λ z. ops_in z 1 1) c.in_ok-streams.ensures.items ∙ (ap (λ z. ops_of (slice_get z 0)) c.in_ok-from_array-5.ensures.items ∙ (c.in_ok-from_array-2.ensures.items ∙ (λ i. c.read.ensures i ∷ c.write-2.ensures i ∷ []))) in
    let z : ops 0 2 ≡ read 9 3 196615 ∷ write 10 15 9 ∷ [] = ap (λ z. ops_in z 0 2) c.in_ok-streams.ensures.items ∙ (ap (λ z. ops_of (slice_get z 1)) c.in_ok-from_array-4.ensures.items ∙ (c.in_ok-from_array-3.ensures.items ∙ (λ i. c.read-2.ensures i ∷ c.write-3.ensures i ∷ []))) in
    ∣ subst (λ (t : List PageRun × List Line × List ℕ). IsLawful (course_of (record { log = record { harts = 2; block = 16; pages = t.0; lines = t.1 }; opening = t.2; operations = ops })))
    (λ i. (sym c.new.ensures i, sym all i, sym c.in_ok-opening.ensures.items i)) (two_harts ops x y z) ∣₁

pub new-requires-2-clause-records : goal.new-requires-2-clause-records
new-requires-2-clause-records c =
    let first : c.push.new.self ≡ line_of 0 no_arcs ∷ [] = c.in_ok-push.ensures.ok ∙ (λ i. c.new-lines.ensures i ++ (c.plain.ensures ∙ ap (line_of 0) c.none.ensures) i ∷ []) in
    let second : c.push-2.new.self ≡ line_of 0 no_arcs ∷ line_of 1 (Some 1 ∷ replicate 7 None) ∷ [] = c.in_ok-push-2.ensures.ok ∙ (λ i. first i ++ (c.plain-2.ensures ∙ ap (line_of 1) c.after.ensures) i ∷ []) in
    let all : c.push-3.new.self ≡ lines = c.in_ok-push-3.ensures.ok ∙ (λ i. second i ++ (c.plain-3.ensures ∙ ap (line_of 0) c.after-2.ensures) i ∷ []) in
    two_records c.in_ok-streams.streams.items c.in_ok-from_array-4.field-0 c.in_ok-from_array-5.field-0 c.push-3.new.self c.in_ok-streams.ensures.items all (ap length c.in_ok-from_array-4.ensures.items) (ap length c.in_ok-from_array-5.ensures.items)

pub new-requires-2-clause-needs : goal.new-requires-2-clause-needs
new-requires-2-clause-needs c =
    let first : c.push.new.self ≡ line_of 0 no_arcs ∷ [] = c.in_ok-push.ensures.ok ∙ (λ i. c.new-lines.ensures i ++ (c.plain.ensures ∙ ap (line_of 0) c.none.ensures) i ∷ []) in
    let second : c.push-2.new.self ≡ line_of 0 no_arcs ∷ line_of 1 (Some 1 ∷ replicate 7 None) ∷ [] = c.in_ok-push-2.ensures.ok ∙ (λ i. first i ++ (c.plain-2.ensures ∙ ap (line_of 1) c.after.ensures) i ∷ []) in
    let all : c.push-3.new.self ≡ lines = c.in_ok-push-3.ensures.ok ∙ (λ i. second i ++ (c.plain-3.ensures ∙ ap (line_of 0) c.after-2.ensures) i ∷ []) in
    two_needs c.in_ok-streams.streams.items c.in_ok-from_array-4.field-0 c.in_ok-from_array-5.field-0 c.push-3.new.self
    (record { operations = c.in_ok-from_array.field-0; needs = c.none-2.result }) (record { operations = c.in_ok-from_array-2.field-0; needs = c.after-3.result }) (record { operations = c.in_ok-from_array-3.field-0; needs = c.after-4.result })
    c.in_ok-streams.ensures.items all c.in_ok-from_array-4.ensures.items c.in_ok-from_array-5.ensures.items c.none-2.ensures c.after-3.ensures c.after-4.ensures
