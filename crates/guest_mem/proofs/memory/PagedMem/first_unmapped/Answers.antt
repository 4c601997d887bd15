use Rattle.std.proofs.Common.{◌≡◌, ◌/◌, arith, true, false, inl, inr}
use Rattle.std.proofs.lemmas.Bool.{cases_lt}
use Rattle.guest_mem.specs.Memory.{mapped}
use Rattle.guest_mem.proofs.Pages.{bytes-unmapped, bytes-mapped}
use Rattle.guest_mem.proofs.memory.PagedMem.first_unmapped.Goals as goal

pub returns-then-not-maps : goal.returns-then-not-maps
returns-then-not-maps c =
    let no : mapped c.args.self.now (c.loop-at.at / 4096) ≡ false = grind arith in
    record {
      below = tt;
      first = record {
        from = c.loop-at.invariant.0;
        within = c.loop-at-test.true;
        unmapped = bytes-unmapped _ _ no;
        before = c.loop-at.invariant.2;
      };
    }

pub loop-at-preserved : goal.loop-at-preserved
loop-at-preserved c =
    let yes : mapped c.args.self.now (c.loop-at.at / 4096) ≡ true = grind arith in (
      omega arith,
      omega (arith, c.maps.ensures.below c.if-not-maps.false),
      λ k from before.
          elim (cases_lt k c.loop-at.at) [
            | inl early ↦ c.loop-at.invariant.2 k from early
            | inr late ↦ bytes-mapped _ k (c.loop-at.at / 4096) yes (omega arith)
          ],
      λ _. omega (arith, c.maps.ensures.below c.if-not-maps.false),
    )
