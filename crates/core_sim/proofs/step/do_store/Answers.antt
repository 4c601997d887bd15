use Rattle.std.proofs.Common.{◌≡◌, rules, ℕ, ◌%◌, List, Option, take, refl, ap, ◌∙◌, subst, sym, ◌==◌, false}
use Rattle.std.specs.Int.{to_le_bytes, w32}
use Rattle.std.proofs.lemmas.Bool.{both_ways, eq-eqb, eqb-true}
use Rattle.pl_base.specs.declared.widths.FaultCause.TheVariants.{Align, Unmapped, ReadOnly}
use Rattle.pl_base.specs.Widths.{store_bytes}
use Rattle.pl_event.specs.declared.event.Kind.TheVariants.{St}
use Rattle.guest_mem.specs.Bytes.{written}
use Rattle.guest_mem.specs.declared.fault.MemFault.TheVariants as mem_faults
use Rattle.guest_mem.specs.Faults.{IsWritable, IsWriteFault}
use Rattle.guest_mem.specs.Image.{PageImage}
use Rattle.guest_mem.specs.Memory.{bytes, mapped, texts}
use Rattle.guest_kernel.specs.State.{state_of}
use Rattle.rv_exec.specs.Hart.{Hart}
use Rattle.core_sim.specs.Doing.{did_go_on}
use Rattle.core_sim.proofs.Doings.{address_is, store_faults, store_does, not_mapped, not_clear}
use Rattle.core_sim.proofs.step.do_store.Goals as goal

pub returns-then-not-is_store_aligned : goal.returns-then-not-is_store_aligned
returns-then-not-is_store_aligned c =
    let fails : (c.address-addr.result % store_bytes c.args.store.width == 0) ≡ false = sym c.is_store_aligned.ensures ∙ c.if-not-is_store_aligned.true in
    store_faults _ _ c.args.hart.now.state c.args.store _ Align _ (address_is c.args.hart.now.state c.args.store.rs1 c.args.store.imm _ (search rules) c.address-addr.ensures) (λ e. both_ways _ fails (eq-eqb _ _ e)) c.fault.ensures refl

pub returns-in-Ok : goal.returns-in-Ok
returns-in-Ok c =
    let aligned : c.address-addr.result % store_bytes c.args.store.width ≡ 0 = eqb-true _ _ (sym c.is_store_aligned.ensures ∙ c.if-not-is_store_aligned.false) in
    let there : IsWritable c.mem_mut.result.now c.address-addr.result c.bytes.result = c.in-Ok.ensures.can in
    let can : IsWritable c.args.kernel.now.memory c.address-addr.result c.bytes.result = subst (λ (m : List (Option PageImage)). IsWritable m c.address-addr.result c.bytes.result) c.mem_mut.ensures.value there in
    let writable : IsWritable c.args.kernel.now.memory c.address-addr.result (store_bytes c.args.store.width) = subst (λ (n : ℕ). IsWritable c.args.kernel.now.memory c.address-addr.result n) c.bytes.ensures can in
    let now : bytes c.write.new.self ≡ written (bytes c.args.kernel.now.memory) c.address-addr.result (take c.bytes.result (to_le_bytes w32 c.reg-value.result)) =
    c.in-Ok.ensures.bytes ∙ ap (λ (m : List (Option PageImage)). written (bytes m) c.address-addr.result (take c.bytes.result (to_le_bytes w32 c.reg-value.result))) c.mem_mut.ensures.value in
    store_does c.args.kernel.now _ c.args.hart.now.state c.args.store _ _ _ (address_is c.args.hart.now.state c.args.store.rs1 c.args.store.imm _ (search rules) c.address-addr.ensures) c.reg-value.ensures.value
    (record { aligned = aligned; all_mapped = writable.all_mapped; no_text = writable.no_text })
    (c.goes_on.ensures ∙ ap (λ (h : Hart). did_go_on (St c.args.store.width c.args.store.rs2 c.args.store.rs1 c.address-addr.result) h) c.end_store.ensures)
    (now ∙ ap (λ (n : ℕ). written (bytes c.args.kernel.now.memory) c.address-addr.result (take n (to_le_bytes w32 c.reg-value.result))) c.bytes.ensures)
    (c.in-Ok.ensures.mapped ∙ ap mapped c.mem_mut.ensures.value) (c.in-Ok.ensures.texts ∙ ap texts c.mem_mut.ensures.value) refl refl refl

pub returns-in-Err-Unmapped : goal.returns-in-Err-Unmapped
returns-in-Err-Unmapped c =
    let aligned : c.address-addr.result % store_bytes c.args.store.width ≡ 0 = eqb-true _ _ (sym c.is_store_aligned.ensures ∙ c.if-not-is_store_aligned.false) in
    let there : IsWriteFault c.mem_mut.result.now c.address-addr.result c.bytes.result (mem_faults.Unmapped c.in-Err-Unmapped.field-0-0) = rw c.in-Err-Unmapped.field-0-is at c.in-Err-Unmapped.ensures.fault in
    let why : IsWriteFault c.args.kernel.now.memory c.address-addr.result c.bytes.result (mem_faults.Unmapped c.in-Err-Unmapped.field-0-0) = subst (λ (m : List (Option PageImage)). IsWriteFault m c.address-addr.result c.bytes.result (mem_faults.Unmapped c.in-Err-Unmapped.field-0-0)) c.mem_mut.ensures.value there in
    let so : IsWriteFault c.args.kernel.now.memory c.address-addr.result (store_bytes c.args.store.width) (mem_faults.Unmapped c.in-Err-Unmapped.field-0-0) = subst (λ (n : ℕ). IsWriteFault c.args.kernel.now.memory c.address-addr.result n (mem_faults.Unmapped c.in-Err-Unmapped.field-0-0)) c.bytes.ensures why in
    store_faults _ _ c.args.hart.now.state c.args.store _ Unmapped _ (address_is c.args.hart.now.state c.args.store.rs1 c.args.store.imm _ (search rules) c.address-addr.ensures)
    (aligned, not_mapped _ _ _ (mem_faults.Unmapped c.in-Err-Unmapped.field-0-0) so) c.fault-in-Err-Unmapped.ensures
    (ap (λ (m : List (Option PageImage)). state_of (record c.args.kernel.now { memory = m })) (c.in-Err-Unmapped.ensures.unchanged ∙ c.mem_mut.ensures.value))

pub returns-in-Err-ReadOnly : goal.returns-in-Err-ReadOnly
returns-in-Err-ReadOnly c =
    let aligned : c.address-addr.result % store_bytes c.args.store.width ≡ 0 = eqb-true _ _ (sym c.is_store_aligned.ensures ∙ c.if-not-is_store_aligned.false) in
    let there : IsWriteFault c.mem_mut.result.now c.address-addr.result c.bytes.result mem_faults.ReadOnly = rw c.in-Err-ReadOnly.field-0-is at c.in-Err-ReadOnly.ensures.fault in
    let why : IsWriteFault c.args.kernel.now.memory c.address-addr.result c.bytes.result mem_faults.ReadOnly = subst (λ (m : List (Option PageImage)). IsWriteFault m c.address-addr.result c.bytes.result mem_faults.ReadOnly) c.mem_mut.ensures.value there in
    let so : IsWriteFault c.args.kernel.now.memory c.address-addr.result (store_bytes c.args.store.width) mem_faults.ReadOnly = subst (λ (n : ℕ). IsWriteFault c.args.kernel.now.memory c.address-addr.result n mem_faults.ReadOnly) c.bytes.ensures why in
    store_faults _ _ c.args.hart.now.state c.args.store _ ReadOnly _ (address_is c.args.hart.now.state c.args.store.rs1 c.args.store.imm _ (search rules) c.address-addr.ensures)
    (aligned, (so.0, not_clear _ _ _ so.1)) c.fault-in-Err-ReadOnly.ensures
    (ap (λ (m : List (Option PageImage)). state_of (record c.args.kernel.now { memory = m })) (c.in-Err-ReadOnly.ensures.unchanged ∙ c.mem_mut.ensures.value))
