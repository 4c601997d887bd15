use Rattle.std.proofs.Common.{◌≡◌, ◌<◌, ◌≤◌, true, false, inl, inr, sym, ap, ◌∙◌, arith}
use Rattle.log_clocks.specs.Clocks.{time}
use Rattle.log_check.proofs.partner.Later.overlooks.Goals as goal

pub returns-then-number-get-clause-yes : goal.returns-then-number-get-clause-yes
returns-then-number-get-clause-yes c harts g x at m a later earlier so = inl (
  (c.share_block.ensures g a c.args.number earlier.kind).0 so,
  λ path.
      let over : c.get.result < c.args.number = c.if-number-get.true in
      let told : time c.args.self.now.clock a.hart ≡ c.get.result = ap (time c.args.self.now.clock) earlier.own ∙ sym c.get.ensures in
      let le : c.args.number ≤ time c.args.self.now.clock a.hart = later.clock.all a.hart c.args.number (inr path) in
      absurd (omega arith),
)

pub returns-then-number-get-clause-no : goal.returns-then-number-get-clause-no
returns-then-number-get-clause-no c harts g x at m a later earlier none share =
    absurd (let f : false ≡ true = sym none ∙ (c.share_block.ensures g a c.args.number earlier.kind).1 share in cc)
