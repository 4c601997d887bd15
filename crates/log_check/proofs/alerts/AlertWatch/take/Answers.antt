use Rattle.std.proofs.Common.{◌≡◌, ℕ, ◌<◌, List, Bool, length, IsTrue, true, false, slice_index_or, get_or-set_same, sym, ◌∙◌, subst, arith, rules}
use Rattle.pl_event.specs.declared.event.Kind.{Kind}
use Rattle.pl_event.specs.declared.event.Kind.TheVariants.{Ld, St, Op, Mv, Im, Br, Jr, Al, Fr, Bf, Mp, Um, Rd, Wr, Ex, Ft}
use Rattle.pl_event.specs.Alerts.{is_alert_kind}
use Rattle.pl_event.specs.Conflicts.{is_access, HasNotice}
use Rattle.log_check.proofs.Positions.{next_of}
use Rattle.log_check.proofs.Watching.{watched_more, set_true}
use Rattle.log_check.proofs.alerts.AlertWatch.take.Goals as goal

pub returns-then-is_alert : goal.returns-then-is_alert
returns-then-is_alert c harts g i m flow tells is watched =
    let b = c.args.event.now in
    watched_more g i m b is c.args.self.now c.miss.new.self watched c.miss.ensures.kept
    (λ _ u low e apart. subst (λ (z : ℕ). HasNotice g u b.hart z) is.1.number (c.miss.ensures.missed u low e apart harts g i is.0 flow tells (next_of g i m b is)))
    (λ u t. subst (λ (z : List Bool). IsTrue (slice_index_or z u false)) (sym c.miss.ensures.active) t)
    (λ access. absurd (apart b.kind (sym c.is_alert.ensures ∙ c.if-is_alert.true) access))
  where
    apart : (k : Kind) → is_alert_kind k ≡ true → IsTrue (is_access k) → ⊥
    apart (Ld width rd rb addr) e f = cc
    apart (St width rv rb addr) e f = cc
    apart (Op rd r1 r2) e f = cc
    apart (Mv rd rs) e f = cc
    apart (Im rd) e f = cc
    apart (Br r1 r2) e f = cc
    apart (Jr rd rs) e f = cc
    apart (Al addr len) e f = cc
    apart (Fr addr len) e f = cc
    apart (Bf addr) e f = cc
    apart (Mp page count) e f = cc
    apart (Um page count) e f = cc
    apart (Rd addr len) e f = cc
    apart (Wr addr len) e f = cc
    apart Ex e f = cc
    apart (Ft cause addr) e f = cc

pub returns-then-is_access : goal.returns-then-is_access
returns-then-is_access c harts g i m flow tells is watched =
    let b = c.args.event.now in
    let long : length c.args.self.now.active ≡ 8 = search rules in
    let low : b.hart < length c.args.self.now.active = omega (arith, c.requires.hart) in
    watched_more g i m b is c.args.self.now _ watched (λ u e. e)
    (λ alert. absurd (let f : false ≡ true = sym c.if-is_alert.false ∙ (c.is_alert.ensures ∙ alert) in cc))
    (λ u t. set_true c.args.self.now.active b.hart u low t)
    (λ access. get_or-set_same c.args.self.now.active b.hart true false low)

pub returns-else-is_access : goal.returns-else-is_access
returns-else-is_access c harts g i m flow tells is watched =
    watched_more g i m c.args.event.now is c.args.self.now c.args.self.now watched (λ u e. e)
    (λ alert. absurd (let f : false ≡ true = sym c.if-is_alert.false ∙ (c.is_alert.ensures ∙ alert) in cc))
    (λ u t. t)
    (λ access. absurd (let f : false ≡ true = sym c.if-is_access.false ∙ (c.is_access.ensures ∙ access) in cc))
