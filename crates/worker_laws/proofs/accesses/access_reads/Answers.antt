use Rattle.std.proofs.Common.{◌≡◌, ℕ, ◌+◌, ◌*◌, ◌-◌, ◌/◌, ◌%◌, ◌≤◌, ap, arith}
use Rattle.std.proofs.Math.Logic.{∥∥₁_elim}
use denote.Struct.Props.{props}
use Rattle.pl_event.specs.Records.{line_number}
use Rattle.order_core.specs.Course.{course_of}
use Rattle.order_core.proofs.Known.{known}
use Rattle.shadow_frames.specs.Words.{WordsRepresent}
use Rattle.worker_laws.specs.Runs.{before}
use Rattle.worker_laws.specs.Reads.{directory_of}
use Rattle.worker_laws.proofs.Access.{check_able, directory_able, near, reach_access, reach_kind, value_able}
use Rattle.worker_laws.proofs.Reading.{no_page_nibble, own_lane, read_nibble}
use Rattle.worker_laws.proofs.Taking.{come}
use Rattle.worker_laws.proofs.accesses.access_reads.Goals as goal

pub returns-clause-directory : goal.returns-clause-directory
returns-clause-directory _ p h n v parts c ready reach =
    let from : 1 ≤ n + 1 = omega arith in
    let kd = reach_kind p ready.run h (n + 1) c reach in
    let is = reach_access p ready.run h (n + 1) from ready.next.within c kd.0 kd.1 kd.2 in
    directory_able p ready.run h (n + 1) (known (course_of p.plan) ready.run.lawful) from ready.next.within c.addr is.0 is.1 v (come p ready.run (known (course_of p.plan) ready.run.lawful) h v n ready.kept.taken ready.next)

pub returns-clause-check : goal.returns-clause-check
returns-clause-check _ p h n v parts c ready reach some other =
    let from : 1 ≤ n + 1 = omega arith in
    let kd = reach_kind p ready.run h (n + 1) c reach in
    let is = reach_access p ready.run h (n + 1) from ready.next.within c kd.0 kd.1 kd.2 in
    check_able p ready.run h (n + 1) (known (course_of p.plan) ready.run.lawful) from ready.next.within c.addr is.0 is.1 some v (come p ready.run (known (course_of p.plan) ready.run.lawful) h v n ready.kept.taken ready.next) other

pub returns-clause-value : goal.returns-clause-value
returns-clause-value _ p h n v parts c ready reach some other =
    let from : 1 ≤ n + 1 = omega arith in
    let kd = reach_kind p ready.run h (n + 1) c reach in
    let is = reach_access p ready.run h (n + 1) from ready.next.within c kd.0 kd.1 kd.2 in
    value_able p ready.run h (n + 1) (known (course_of p.plan) ready.run.lawful) from ready.next.within c.addr is.0 is.1 some v (come p ready.run (known (course_of p.plan) ready.run.lawful) h v n ready.kept.taken ready.next) other

pub returns-clause-nibbles : goal.returns-clause-nibbles
returns-clause-nibbles _ p run h m x i c reach some has lt =
    let kd = reach_kind p run h m c reach in
    let fits = near p run h m kd.0 c kd.1 kd.2 in
    let low : c.addr % 4 + c.width ≤ 4 = fits.1 in
    ∥∥₁_elim (run.represents (line_number p.plan.log.lines h m - 1)) (hlevel props) (λ (st : WordsRepresent (before p h m).words (before p h m).state.bytes).
    read_nibble (before p h m).words (before p h m).state.bytes st c.addr fits.0 some x (has (c.addr % 16 / 4) (omega arith) (own_lane p.plan.log.block c.addr)) i (omega arith))

pub returns-clause-no_page : goal.returns-clause-no_page
returns-clause-no_page _ p run h m i c reach none lt =
    let kd = reach_kind p run h m c reach in
    let fits = near p run h m kd.0 c kd.1 kd.2 in
    let low : c.addr % 4 + c.width ≤ 4 = fits.1 in
    ∥∥₁_elim (run.represents (line_number p.plan.log.lines h m - 1)) (hlevel props) (λ (st : WordsRepresent (before p h m).words (before p h m).state.bytes).
    no_page_nibble (before p h m).words (before p h m).state.bytes st c.addr fits.0 none i (omega arith))

pub returns-clause-words : goal.returns-clause-words
returns-clause-words _ w addr =
    let page : 17 + addr / 16 / 256 ≡ 17 + addr / 4096 = omega arith in
    let place : 16 * (addr / 16) % 4096 / 16 ≡ addr % 4096 / 16 = omega arith in
    (page, ap (λ (z : ℕ). 4113 + 256 * (w (directory_of addr) - 1) + z) place)
