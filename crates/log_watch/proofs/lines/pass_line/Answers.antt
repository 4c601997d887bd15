use Rattle.std.proofs.Common.{◌≡◌, ◌+◌, ◌^◌, ◌<◌, ◌≤◌, ℕ, List, length, slice_get, slice_index, Some, refl, sym, subst, arith}
use mathlib.Core.Option.{some}
use lib.ListN.{get_elem?}
use Rattle.pl_event.specs.declared.heads.Heads.{Heads}
use Rattle.pl_event.specs.declared.log.Line.{Line}
use Rattle.pl_event.specs.Edges.{IsFlow}
use Rattle.pl_event.specs.Heads.{IsNext, Tells}
use Rattle.pl_event.specs.Numbers.{hart_of}
use Rattle.pl_event.specs.Records.{records_before}
use Rattle.pl_event.proofs.Before.{got, room}
use Rattle.log_watch.proofs.FeedingLemmas.{may_push, pushed}
use Rattle.log_watch.proofs.lines.pass_line.Goals as goal

-- there is room for one line more, and its hart is one of the run
record HasRoom (harts : ℕ) (s : Heads) (lines : List Line) (i : ℕ) (line : Line) : Type 0 where
  pub there : get_elem? lines i ≡ some line
  pub next : IsNext lines i (hart_of line.what) line
  pub inside : hart_of line.what < harts
  pub room : (hart_of line.what < 8) × (slice_index s.records (hart_of line.what) + 1 < 2 ^ 32) × (s.place + 1 < 2 ^ 32) × (slice_index s.events (hart_of line.what) + 1 < 2 ^ 32)

has_room : (harts : ℕ) (s : Heads) (lines : List Line) (i : ℕ) (line : Line) → IsFlow harts lines → harts ≤ 8 → length lines < 2 ^ 32 → Tells s lines i → slice_get lines i ≡ Some line
    → HasRoom harts s lines i line
has_room harts s lines i line flow few short tells is =
    let there = got lines i line is in
    let next : IsNext lines i (hart_of line.what) line = record { at = there; hart = refl; number = refl } in
    record {
      there = there;
      next = next;
      inside = flow.within i (hart_of line.what) (records_before (hart_of line.what) lines i + 1) line next;
      room = room harts lines flow few short s i line tells there;
    }

pub fed-fed-requires-clause-hart : goal.fed-fed-requires-clause-hart
fed-fed-requires-clause-hart g c = (has_room (length c.args.feedings.now) c.args.heads.now c.args.lines.now c.args.at c.get-line.result c.requires.flow c.requires.harts c.requires.few c.requires.heads c.get-line.ensures).room.0

pub fed-fed-requires-clause-records : goal.fed-fed-requires-clause-records
fed-fed-requires-clause-records g c = (has_room (length c.args.feedings.now) c.args.heads.now c.args.lines.now c.args.at c.get-line.result c.requires.flow c.requires.harts c.requires.few c.requires.heads c.get-line.ensures).room.1

pub fed-fed-requires-clause-place : goal.fed-fed-requires-clause-place
fed-fed-requires-clause-place g c = (has_room (length c.args.feedings.now) c.args.heads.now c.args.lines.now c.args.at c.get-line.result c.requires.flow c.requires.harts c.requires.few c.requires.heads c.get-line.ensures).room.2

pub fed-fed-requires-clause-events : goal.fed-fed-requires-clause-events
fed-fed-requires-clause-events g c = (has_room (length c.args.feedings.now) c.args.heads.now c.args.lines.now c.args.at c.get-line.result c.requires.flow c.requires.harts c.requires.few c.requires.heads c.get-line.ensures).room.3

pub push_to-requires-clause-hart : goal.push_to-requires-clause-hart
push_to-requires-clause-hart g c = subst (λ (z : ℕ). z < length c.args.feedings.now) (sym c.record_hart-hart.ensures) (has_room (length c.args.feedings.now) c.args.heads.now c.args.lines.now c.args.at c.get-line.result c.requires.flow c.requires.harts c.requires.few c.requires.heads c.get-line.ensures).inside

pub push_to-requires-clause-may : goal.push_to-requires-clause-may
push_to-requires-clause-may g c =
    let more = has_room (length c.args.feedings.now) c.args.heads.now c.args.lines.now c.args.at c.get-line.result c.requires.flow c.requires.harts c.requires.few c.requires.heads c.get-line.ensures in
    may_push (λ f. g.W.TurnWorker.view f.worker) (λ f. f.piece.items) c.args.lines.now c.requires.fed.0 c.args.at c.args.feedings.now c.requires.fed.1 c.get-line.result more.there
    c.record_hart-hart.result (sym c.record_hart-hart.ensures) (subst (λ (z : ℕ). z < length c.args.feedings.now) (sym c.record_hart-hart.ensures) more.inside) c.fed-fed.result
    (c.fed-fed.ensures (length c.args.feedings.now) c.args.lines.now c.args.at c.requires.flow c.requires.heads more.next)

pub pass-requires-clause-hart : goal.pass-requires-clause-hart
pass-requires-clause-hart g c = (has_room (length c.args.feedings.now) c.args.heads.now c.args.lines.now c.args.at c.get-line.result c.requires.flow c.requires.harts c.requires.few c.requires.heads c.get-line.ensures).room.0

pub pass-requires-clause-records : goal.pass-requires-clause-records
pass-requires-clause-records g c = (has_room (length c.args.feedings.now) c.args.heads.now c.args.lines.now c.args.at c.get-line.result c.requires.flow c.requires.harts c.requires.few c.requires.heads c.get-line.ensures).room.1

pub pass-requires-clause-place : goal.pass-requires-clause-place
pass-requires-clause-place g c = (has_room (length c.args.feedings.now) c.args.heads.now c.args.lines.now c.args.at c.get-line.result c.requires.flow c.requires.harts c.requires.few c.requires.heads c.get-line.ensures).room.2

pub pass-requires-clause-events : goal.pass-requires-clause-events
pass-requires-clause-events g c = (has_room (length c.args.feedings.now) c.args.heads.now c.args.lines.now c.args.at c.get-line.result c.requires.flow c.requires.harts c.requires.few c.requires.heads c.get-line.ensures).room.3

pub returns-clause-heads : goal.returns-clause-heads
returns-clause-heads g c = c.pass.ensures (length c.args.feedings.now) c.args.lines.now c.args.at c.requires.flow c.requires.heads
    (has_room (length c.args.feedings.now) c.args.heads.now c.args.lines.now c.args.at c.get-line.result c.requires.flow c.requires.harts c.requires.few c.requires.heads c.get-line.ensures).next

pub returns-clause-fed : goal.returns-clause-fed
returns-clause-fed g c starts are =
    let more = has_room (length c.args.feedings.now) c.args.heads.now c.args.lines.now c.args.at c.get-line.result c.requires.flow c.requires.harts c.requires.few c.requires.heads c.get-line.ensures in
    pushed (λ f. g.W.TurnWorker.view f.worker) (λ f. f.piece.items) c.args.lines.now starts c.args.at c.args.feedings.now are c.get-line.result more.there
    c.record_hart-hart.result (sym c.record_hart-hart.ensures) (subst (λ (z : ℕ). z < length c.args.feedings.now) (sym c.record_hart-hart.ensures) more.inside) c.fed-fed.result
    (c.fed-fed.ensures (length c.args.feedings.now) c.args.lines.now c.args.at c.requires.flow c.requires.heads more.next) c.push_to.new.feedings c.in_ok-push_to.ensures
