-- A kernel call reads at most three registers, which are registers.
use Rattle.std.specs.Prelude.{ℕ, ◌<◌, ◌≤◌, [], ◌∷◌, length, All}
use Rattle.std.proofs.Common.{lit<, lit≤}
use Rattle.std.proofs.lemmas.List.Elements.{All-nil, All-cons}
use Rattle.pl_event.specs.declared.event.Kind.{Kind}
use Rattle.pl_event.specs.declared.event.Kind.TheVariants.{Ld, St, Op, Mv, Im, Br, Jr, Al, Fr, Bf, Mp, Um, Rd, Wr, Ex, Ft}
use Rattle.lifeguard.specs.Calls.{call_registers}

pub call_registers_few : (kind : Kind) → length (call_registers kind) ≤ 3
call_registers_few (Ld width rd rb addr) = lit≤ tt
call_registers_few (St width rv rb addr) = lit≤ tt
call_registers_few (Op rd r1 r2) = lit≤ tt
call_registers_few (Mv rd rs) = lit≤ tt
call_registers_few (Im rd) = lit≤ tt
call_registers_few (Br r1 r2) = lit≤ tt
call_registers_few (Jr rd rs) = lit≤ tt
call_registers_few (Al addr len) = lit≤ tt
call_registers_few (Fr addr len) = lit≤ tt
call_registers_few (Bf addr) = lit≤ tt
call_registers_few (Mp page count) = lit≤ tt
call_registers_few (Um page count) = lit≤ tt
call_registers_few (Rd addr len) = lit≤ tt
call_registers_few (Wr addr len) = lit≤ tt
call_registers_few Ex = lit≤ tt
call_registers_few (Ft cause addr) = lit≤ tt

abbrev IsRegister : ℕ → Type 0
IsRegister register = register < 34

two : (a b : ℕ) → a < 34 → b < 34 → All IsRegister (a ∷ b ∷ [])
two a b first second = All-cons IsRegister a (b ∷ []) first (All-cons IsRegister b [] second (All-nil IsRegister))

three : (a b c : ℕ) → a < 34 → b < 34 → c < 34 → All IsRegister (a ∷ b ∷ c ∷ [])
three a b c first second third = All-cons IsRegister a (b ∷ c ∷ []) first (two b c second third)

pub call_registers_below : (kind : Kind) → All (λ register. register < 34) (call_registers kind)
call_registers_below (Ld width rd rb addr) = All-nil IsRegister
call_registers_below (St width rv rb addr) = All-nil IsRegister
call_registers_below (Op rd r1 r2) = All-nil IsRegister
call_registers_below (Mv rd rs) = All-nil IsRegister
call_registers_below (Im rd) = All-nil IsRegister
call_registers_below (Br r1 r2) = All-nil IsRegister
call_registers_below (Jr rd rs) = All-nil IsRegister
call_registers_below (Al addr len) = two 10 17 (lit< tt) (lit< tt)
call_registers_below (Fr addr len) = two 10 17 (lit< tt) (lit< tt)
call_registers_below (Bf addr) = two 10 17 (lit< tt) (lit< tt)
call_registers_below (Mp page count) = three 10 11 17 (lit< tt) (lit< tt) (lit< tt)
call_registers_below (Um page count) = three 10 11 17 (lit< tt) (lit< tt) (lit< tt)
call_registers_below (Rd addr len) = three 11 12 17 (lit< tt) (lit< tt) (lit< tt)
call_registers_below (Wr addr len) = three 11 12 17 (lit< tt) (lit< tt) (lit< tt)
call_registers_below Ex = two 10 17 (lit< tt) (lit< tt)
call_registers_below (Ft cause addr) = All-nil IsRegister
