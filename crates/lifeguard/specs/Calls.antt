-- Which registers a kernel call reads.
use Rattle.std.specs.Prelude.{ℕ, List, [], ◌∷◌}
use Rattle.pl_event.specs.declared.event.Kind.{Kind}
use Rattle.pl_event.specs.declared.event.Kind.TheVariants.{Ld, St, Op, Mv, Im, Br, Jr, Al, Fr, Bf, Mp, Um, Rd, Wr, Ex, Ft}

-- the arguments of the call, from register 10 on, and its number in register 17 last; an event of no call reads none
abbrev pub call_registers : Kind → List ℕ
call_registers (Ld width rd rb addr) = []
call_registers (St width rv rb addr) = []
call_registers (Op rd r1 r2) = []
call_registers (Mv rd rs) = []
call_registers (Im rd) = []
call_registers (Br r1 r2) = []
call_registers (Jr rd rs) = []
call_registers (Al addr len) = 10 ∷ 17 ∷ []
call_registers (Fr addr len) = 10 ∷ 17 ∷ []
call_registers (Bf addr) = 10 ∷ 17 ∷ []
call_registers (Mp page count) = 10 ∷ 11 ∷ 17 ∷ []
call_registers (Um page count) = 10 ∷ 11 ∷ 17 ∷ []
call_registers (Rd addr len) = 11 ∷ 12 ∷ 17 ∷ []
call_registers (Wr addr len) = 11 ∷ 12 ∷ 17 ∷ []
call_registers Ex = 10 ∷ 17 ∷ []
call_registers (Ft cause addr) = []
