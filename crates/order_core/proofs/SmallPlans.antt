-- What the plans that are run as tests share.
use Rattle.std.proofs.Common.{◌≡◌, ◌≢◌, ℕ, zero, suc, ◌/◌, ◌%◌, ◌^◌, ◌==◌, ◌<◌, ◌≤◌, true, false, List, replicate, Option, None, slice_index, sym, ap, ◌∙◌, inl, inr, arith}
use Rattle.std.proofs.Math.Nat.{div-eq_of_lt}
use Rattle.std.proofs.Math.Pow.{pow_mono}
use Rattle.pl_event.specs.declared.log.Line.{Line}
use Rattle.pl_event.specs.Edges.{Into}
use Rattle.pl_event.specs.Graph.{Path}
use Rattle.order_core.specs.declared.course.Course.{Course}
use Rattle.order_core.specs.declared.course.Op.{Op}
use Rattle.order_core.specs.declared.course.Operation.{Operation}
use Rattle.order_core.specs.Course.{At, Clash, operation_of, left_in, before}
use Rattle.order_core.specs.Lanes.{lane, covers}
use Rattle.order_core.proofs.Ranks.{eqb_is}
use Rattle.order_core.proofs.Plain.{AllFrom, each, plain}

abbrev pub line_of : ℕ → List (Option ℕ) → Line
line_of h arcs = record { what = plain h; arcs = arcs }

abbrev pub no_arcs : List (Option ℕ)
no_arcs = replicate 8 None

abbrev pub write : ℕ → ℕ → ℕ → Op
write word lanes value = record { word = word; lanes = lanes; write = true; check = false; value = value }

abbrev pub read : ℕ → ℕ → ℕ → Op
read word lanes value = record { word = word; lanes = lanes; write = false; check = false; value = value }

-- lanes below 2 ^ k name no lane from k on
pub no_lane : (a k j : ℕ) → a < 2 ^ k → k ≤ j → (a / 2 ^ j % 2 == 1) ≡ true → ⊥
no_lane a k j low high p =
    let up : 2 ^ k ≤ 2 ^ j = pow_mono high in
    let nothing : a / 2 ^ j ≡ 0 = div-eq_of_lt (omega arith) in
    let z : a / 2 ^ j % 2 ≡ 0 = ap (λ (n : ℕ). n % 2) nothing in
    let o : a / 2 ^ j % 2 ≡ 1 = eqb_is (a / 2 ^ j % 2) 1 p in
    omega arith

-- lane 0 alone and lane 1 alone have none in common
pub lane_apart : (j : ℕ) → (1 / 2 ^ j % 2 == 1) ≡ true → (2 / 2 ^ j % 2 == 1) ≡ true → ⊥
lane_apart zero p q = absurd (let f : false ≡ true = q in cc)
lane_apart (suc j) p q = no_lane 1 1 (suc j) (omega arith) (omega arith) p

-- two writes of word 9, one of lane 0 and one of lane 1, do not meet
pub lanes_apart : (h n i g m k v w : ℕ) → Clash (operation_of h n i (write 9 1 v)) (operation_of g m k (write 9 2 w)) → ⊥
unfolding covers
lanes_apart h n i g m k v w clash = lane_apart clash.0.1 clash.0.2 clash.0.3

pub reads_apart : (a b : Operation) → a.what.write ≡ false → b.what.write ≡ false → Clash a b → ⊥
reads_apart a b x y (on, inl w) = absurd (let f : true ≡ false = sym w ∙ x in cc)
reads_apart a b x y (on, inr w) = absurd (let f : true ≡ false = sym w ∙ y in cc)

abbrev pub AreOnPaths : Course → Type 0
AreOnPaths c = AllFrom (λ p a. AllFrom (λ q b. p < q → a.hart ≢ b.hart → Clash a b → Path (Into c.log.lines) a.hart a.number b.hart b.number) 0 c.operations) 0 c.operations

pub on_paths : (c : Course) → AreOnPaths c → (p q : ℕ) (a b : Operation) → At c p a → At c q b → p < q → a.hart ≢ b.hart → Clash a b → Path (Into c.log.lines) a.hart a.number b.hart b.number
on_paths c all p q a b x y = each (λ q b. p < q → a.hart ≢ b.hart → Clash a b → Path (Into c.log.lines) a.hart a.number b.hart b.number) c.operations
    (each (λ p a. AllFrom (λ q b. p < q → a.hart ≢ b.hart → Clash a b → Path (Into c.log.lines) a.hart a.number b.hart b.number) 0 c.operations) c.operations all p a x) q b y

abbrev pub HasValue : Course → ℕ → Operation → Type 0
HasValue c p a = a.what.write ≡ false → (j : ℕ) → j < 4 → covers a.what.lanes j ≡ true → lane j a.what.value ≡ left_in (before p) 0 c.operations a.what.word j (lane j (slice_index c.opening a.what.word))

pub no_value : (c : Course) (p : ℕ) (a : Operation) → a.what.write ≡ true → HasValue c p a
no_value c p a w r = absurd (let f : true ≡ false = sym w ∙ r in cc)
