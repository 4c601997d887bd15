use Rattle.std.proofs.Common.{◌≡◌, rules, ℕ, ◌%◌, List, Option, ap, ◌∙◌, subst, sym, ◌==◌, false}
use Rattle.std.proofs.lemmas.Bool.{both_ways, eq-eqb, eqb-true}
use Rattle.pl_base.specs.declared.widths.FaultCause.TheVariants.{Align, Unmapped}
use Rattle.pl_base.specs.Widths.{load_bytes}
use Rattle.pl_event.specs.declared.event.Kind.TheVariants.{Ld}
use Rattle.guest_mem.specs.Bytes.{AllMapped, number_at}
use Rattle.guest_mem.specs.Faults.{IsReadFault}
use Rattle.guest_mem.specs.Image.{PageImage}
use Rattle.guest_mem.specs.Memory.{bytes}
use Rattle.rv_exec.specs.Hart.{Hart}
use Rattle.core_sim.specs.Doing.{did_go_on}
use Rattle.core_sim.proofs.Doings.{address_is, load_faults, load_does, not_mapped}
use Rattle.core_sim.proofs.step.do_load.Goals as goal

pub returns-then-not-is_load_aligned : goal.returns-then-not-is_load_aligned
returns-then-not-is_load_aligned c =
    let fails : (c.address-addr.result % load_bytes c.args.load.width == 0) ≡ false = sym c.is_load_aligned.ensures ∙ c.if-not-is_load_aligned.true in
    load_faults _ c.args.hart.now.state c.args.load _ Align _ (address_is c.args.hart.now.state c.args.load.rs1 c.args.load.imm _ (search rules) c.address-addr.ensures) (λ e. both_ways _ fails (eq-eqb _ _ e)) c.fault.ensures

pub returns-in-Ok : goal.returns-in-Ok
returns-in-Ok c =
    let aligned : c.address-addr.result % load_bytes c.args.load.width ≡ 0 = eqb-true _ _ (sym c.is_load_aligned.ensures ∙ c.if-not-is_load_aligned.false) in
    let read : AllMapped (bytes c.mem.result.now) c.address-addr.result c.bytes.result = c.in-Ok.ensures.mapped in
    let here : AllMapped (bytes c.args.kernel.now.memory) c.address-addr.result c.bytes.result = subst (λ (m : List (Option PageImage)). AllMapped (bytes m) c.address-addr.result c.bytes.result) c.mem.ensures read in
    let mapped : AllMapped (bytes c.args.kernel.now.memory) c.address-addr.result (load_bytes c.args.load.width) = subst (λ (n : ℕ). AllMapped (bytes c.args.kernel.now.memory) c.address-addr.result n) c.bytes.ensures here in
    let given : c.in-Ok.raw ≡ number_at (bytes c.mem.result.now) c.address-addr.result c.bytes.result = c.in-Ok.ensures.value in
    let value : c.in-Ok.raw ≡ number_at (bytes c.args.kernel.now.memory) c.address-addr.result (load_bytes c.args.load.width) =
    given ∙ ap (λ (m : List (Option PageImage)). number_at (bytes m) c.address-addr.result c.bytes.result) c.mem.ensures ∙ ap (number_at (bytes c.args.kernel.now.memory) c.address-addr.result) c.bytes.ensures in
    load_does _ c.args.hart.now.state c.args.load _ c.in-Ok.raw _ (address_is c.args.hart.now.state c.args.load.rs1 c.args.load.imm _ (search rules) c.address-addr.ensures) (record { aligned = aligned; all_mapped = mapped }) value
    (c.goes_on.ensures ∙ ap (λ (h : Hart). did_go_on (Ld c.args.load.width c.args.load.rd c.args.load.rs1 c.address-addr.result) h) c.end_load.ensures)

pub returns-in-Err : goal.returns-in-Err
returns-in-Err c =
    let aligned : c.address-addr.result % load_bytes c.args.load.width ≡ 0 = eqb-true _ _ (sym c.is_load_aligned.ensures ∙ c.if-not-is_load_aligned.false) in
    let why : IsReadFault c.mem.result.now c.address-addr.result c.bytes.result c.in-Err.field-0 = c.in-Err.ensures.fault in
    let here : IsReadFault c.args.kernel.now.memory c.address-addr.result c.bytes.result c.in-Err.field-0 = subst (λ (m : List (Option PageImage)). IsReadFault m c.address-addr.result c.bytes.result c.in-Err.field-0) c.mem.ensures why in
    let so : IsReadFault c.args.kernel.now.memory c.address-addr.result (load_bytes c.args.load.width) c.in-Err.field-0 = subst (λ (n : ℕ). IsReadFault c.args.kernel.now.memory c.address-addr.result n c.in-Err.field-0) c.bytes.ensures here in
    load_faults _ c.args.hart.now.state c.args.load _ Unmapped _ (address_is c.args.hart.now.state c.args.load.rs1 c.args.load.imm _ (search rules) c.address-addr.ensures) (aligned, not_mapped _ _ _ c.in-Err.field-0 so) c.fault-in-Err.ensures
