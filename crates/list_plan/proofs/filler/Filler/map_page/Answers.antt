use Rattle.std.proofs.Common.{ℕ, ap, ◌∙◌, subst}
use Rattle.shadow_frames.specs.Words.{is_used}
use Rattle.list_plan.specs.inner.Fills.{Fills, words_of}
use Rattle.list_plan.specs.inner.Pieces.{placed}
use Rattle.list_plan.proofs.FrameLemmas.{frame_is, is_free, map_read, maps_page}
use Rattle.list_plan.proofs.filler.Filler.map_page.Goals as goal

pub place_page-requires-clause-free : goal.place_page-requires-clause-free
place_page-requires-clause-free c =
    let w = words_of c.args.self.now in
    let e = frame_is (words_of c.args.self.now) c.in-Some.frame c.free_frame.result c.in-Some.is (c.free_frame.ensures (words_of c.args.self.now) c.in_ok-map.ensures.words) in
    let same = map_read c.args.self.now c.read_map.new.self c.in_ok-map.ensures.fills in
    ap (λ (v : ℕ → ℕ). is_used v c.in-Some.frame) same ∙ (ap (is_used (words_of c.args.self.now)) e ∙ is_free (words_of c.args.self.now) c.requires.free)

pub returns-in_ok-place_page-in-Some : goal.returns-in_ok-place_page-in-Some
returns-in_ok-place_page-in-Some c =
    let e = frame_is (words_of c.args.self.now) c.in-Some.frame c.free_frame.result c.in-Some.is (c.free_frame.ensures (words_of c.args.self.now) c.in_ok-map.ensures.words) in
    maps_page c.args.self.now c.read_map.new.self c.place_page.new.self c.args.filling c.args.page c.in_ok-map.ensures.fills
    (subst (λ (f : ℕ). Fills c.read_map.new.self c.place_page.new.self (placed f c.args.page c.args.filling)) e c.in_ok-place_page-in-Some.ensures)
