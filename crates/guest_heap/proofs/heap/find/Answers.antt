use Rattle.std.proofs.Common.{◌-◌, ◌/◌, arith}
use Rattle.std.proofs.lemmas.List.{get_or_past}
use Rattle.guest_heap.proofs.Blocks.{asked_low, asked_odd, asked_zero}
use Rattle.guest_heap.proofs.heap.find.Goals as goal

pub returns-then-a-lt-HEAP_START-clause-none : goal.returns-then-a-lt-HEAP_START-clause-none
returns-then-a-lt-HEAP_START-clause-none c = asked_low _ _ c.if-a-lt-HEAP_START.true

pub returns-then-a-ne0-clause-none : goal.returns-then-a-ne0-clause-none
returns-then-a-ne0-clause-none c = asked_odd _ _ c.if-a-ne0.true

pub returns-then-unit-ge-HEAP_UNITS-clause-none : goal.returns-then-unit-ge-HEAP_UNITS-clause-none
returns-then-unit-ge-HEAP_UNITS-clause-none c = asked_zero c.args.sizes.now c.args.a (get_or_past c.args.sizes.now ((c.args.a - 4194304) / 16) 0 (omega arith))

pub returns-then-sizes-unit-eq0-clause-none : goal.returns-then-sizes-unit-eq0-clause-none
returns-then-sizes-unit-eq0-clause-none c = asked_zero _ _ c.if-sizes-unit-eq0.true
