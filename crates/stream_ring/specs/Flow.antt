-- The rule of a ring: what was offered is what was taken and then what the ring holds, and the hart's stream begins so.
use Rattle.std.specs.Prelude.{◌≡◌, ◌≤◌, length, ℕ, Bool, true, false, List, [], ◌∷◌, ◌++◌}
use mathlib.Core.Option.{some}
use lib.ListN.{get_elem?}
use Rattle.pl_event.specs.declared.fed.Fed.{Fed}
use Rattle.pl_event.specs.declared.log.Log.{Log}
use Rattle.pl_event.specs.Feeds.{feds_of}
use Rattle.pl_base.specs.declared.layout.TheConstants.{CHUNK_RECORDS}
use Rattle.stream_ring.specs.declared.view.View.{View}

-- the stream of a hart in a run
abbrev pub stream_of : Log → ℕ → List Fed
stream_of log hart = feds_of hart log.lines

-- the stream begins with these records
abbrev pub Begins : List Fed → List Fed → Type 0
Begins stream records = (rest : List Fed) × (stream ≡ records ++ rest)

-- the piece is what follows these records in the stream
abbrev pub IsNext : List Fed → List Fed → List Fed → Type 0
IsNext stream before piece = Begins stream (before ++ piece)

-- records that make a chunk
abbrev pub IsChunk : List Fed → Type 0
IsChunk records = (1 ≤ length records) × (length records ≤ CHUNK_RECORDS)

-- the records of these chunks, in order
abbrev pub records_of : List (List Fed) → List Fed
records_of [] = []
records_of (chunk ∷ rest) = chunk ++ records_of rest

abbrev pub AreChunks : List (List Fed) → Type 0
AreChunks [] = Unit {0}
AreChunks (chunk ∷ rest) = IsChunk chunk × AreChunks rest

abbrev pub view_of : Bool → Bool → ℕ → List Fed → List Fed → View
view_of offers takes hart sent got = record { offers = offers; takes = takes; hart = hart; sent = sent; got = got }

-- the view of a ring's first pass, which has both rights
abbrev pub opening : View
opening = view_of true true 0 [] []

abbrev pub sender : ℕ → List Fed → View
sender hart sent = view_of true false hart sent []

abbrev pub taker : ℕ → List Fed → View
taker hart got = view_of false true hart [] got

-- the view of pass number `at`, of a ring of this hart: pass `writer` alone may offer, and it knows what was offered;
-- pass `reader` alone may take, and it knows what was taken
abbrev pub Knows : ℕ → ℕ → ℕ → List Fed → List Fed → ℕ → View → Type 0
Knows writer reader hart sent got at v =
    (v.offers ≡ true → (at ≡ writer) × (v.hart ≡ hart) × (v.sent ≡ sent))
    × (v.takes ≡ true → (at ≡ reader) × (v.hart ≡ hart) × (v.got ≡ got))

-- what holds of the chunks of a ring and the views of its passes at each moment
abbrev pub Flows : Log → List (List Fed) → List View → Type 0
Flows log chunks views =
    (writer : ℕ) × (reader : ℕ) × (hart : ℕ) × (sent : List Fed) × (got : List Fed)
    × (sent ≡ got ++ records_of chunks)
    × Begins (stream_of log hart) sent
    × ((at : ℕ) (v : View) → get_elem? views at ≡ some v → Knows writer reader hart sent got at v)
    × AreChunks chunks

-- what was offered is what was taken, and then these chunks
abbrev pub SomeGot : List Fed → List (List Fed) → Type 0
SomeGot sent chunks = (got : List Fed) × (sent ≡ got ++ records_of chunks) × AreChunks chunks

-- the stream begins with what was taken, and then these chunks
abbrev pub SomeSent : List Fed → List Fed → List (List Fed) → Type 0
SomeSent stream got chunks = Begins stream (got ++ records_of chunks)
