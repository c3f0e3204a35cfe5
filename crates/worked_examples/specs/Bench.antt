-- The benches, computed: a table of readings and eleven more cycles through a station, rows of 1, 2 and 8, and what is refused.
use Prim.Native.Char.{code}
use Rattle.std.specs.Prelude.{true, false, List, [], ◌∷◌, ◌++◌, ◌≡◌, refl, ℕ, eqb, ℤ, pos, negsuc, replicate, None, Some}
use Rattle.laws.specs.Below.{all_below}
use Rattle.laws.specs.Choice.{◌if◌else◌}
use Rattle.laws.specs.Lists.{padded, zero_from}
use Rattle.relay.specs.declared.Station.{Station}
use Rattle.relay.specs.Link.{Link, letter, reading}
use Rattle.relay.specs.Station.{held, station_of, place_after}
use Rattle.relay.specs.Row.{stopped, leaving, row_after}
use Rattle.bench.specs.declared.Records.{Records}
use Rattle.bench.specs.Bench.{Told, fits, bench_number, refusal, reply, bench_answer, bench_after}
use Rattle.bench.specs.ByValue.{station_benched, records_benched}

-- the answers T, R, I and S of a bench that took no token
abbrev t : ℕ → Told
t x = record { number = 0; letter = code "T"; value = pos x; taken = false }

abbrev r : ℕ → Told
r x = record { number = 0; letter = code "R"; value = pos x; taken = false }

abbrev i : Told
i = record { number = 0; letter = code "I"; value = pos 0; taken = false }

abbrev s : Told
s = record { number = 0; letter = code "S"; value = pos 0; taken = false }

-- the answer of a bench that took its token
abbrev took : Told → Told
took a = record { number = a.number; letter = a.letter; value = a.value; taken = true }

-- a record: its tokens, and how many it counts
abbrev station : ℤ → ℤ → ℕ → Station
station a b n = record { tokens = a ∷ b ∷ []; count = n }

abbrev none : Station
none = station (pos 0) (pos 0) 0

-- the link of a token, of which 0 stands for none
abbrev offered : ℕ → Link
offered x = None if eqb x 0 else Some (pos x)

abbrev answers : List Station → List ℕ → List ℕ → List Told
answers row [] stops = []
answers row (x ∷ xs) [] = []
answers row (x ∷ xs) (stop ∷ stops) =
    bench_answer row (offered x) (eqb stop 1) ∷ answers (bench_after row (offered x) (eqb stop 1)) xs stops

abbrev row_left : List Station → List ℕ → List ℕ → List Station
row_left row [] stops = row
row_left row (x ∷ xs) [] = row
row_left row (x ∷ xs) (stop ∷ stops) = row_left (bench_after row (offered x) (eqb stop 1)) xs stops

-- ---- one station
-- a table of readings: "I T R R T T I S R T" where its valid bits and stops are those of the station's leaving link
table1 :
    answers (none ∷ []) (1 ∷ 2 ∷ 3 ∷ 0 ∷ 0 ∷ 0 ∷ 0 ∷ 4 ∷ 0 ∷ 0 ∷ []) (0 ∷ 0 ∷ 1 ∷ 1 ∷ 0 ∷ 0 ∷ 0 ∷ 1 ∷ 1 ∷ 0 ∷ []) ≡
    took i ∷ took (t 1) ∷ took (r 2) ∷ r 2 ∷ t 2 ∷ t 3 ∷ i ∷ took s ∷ r 4 ∷ t 4 ∷ []
unfolding
    letter reading held station_of place_after stopped leaving row_after padded all_below zero_from fits bench_number refusal reply bench_answer
    bench_after
table1 = refl

-- eleven more cycles: 7 is not taken in cycle 10, when the station stops its link (stopOut), and is taken in cycle 11
figure6 :
    let enter : List ℕ = 1 ∷ 0 ∷ 2 ∷ 0 ∷ 3 ∷ 4 ∷ 0 ∷ 5 ∷ 6 ∷ 7 ∷ 7 ∷ [] in
    let stop : List ℕ = 0 ∷ 0 ∷ 0 ∷ 0 ∷ 1 ∷ 0 ∷ 1 ∷ 0 ∷ 1 ∷ 0 ∷ 0 ∷ [] in
    (answers (none ∷ []) enter stop ≡
    took i ∷ t 1 ∷ took i ∷ t 2 ∷ took s ∷ took (t 3) ∷ r 4 ∷ took (t 4) ∷ took (r 5) ∷ t 5 ∷ took (t 6) ∷ []) ×
    (row_left (none ∷ []) enter stop ≡ station (pos 7) (pos 0) 1 ∷ [])
unfolding
    letter reading held station_of place_after stopped leaving row_after padded all_below zero_from fits bench_number refusal reply bench_answer
    bench_after
figure6 = (refl, refl)

-- a full station takes none, though one leaves it; two tokens of 0 are two tokens
edges :
    let one : ℤ → List Station = λ x. station x (pos 0) 1 ∷ [] in
    let full : List Station = station (pos 4) (pos 5) 2 ∷ [] in
    let zeros : List Station = station (pos 0) (pos 0) 2 ∷ [] in
    (bench_answer full (Some (pos 6)) false ≡ t 4) × (bench_after full (Some (pos 6)) false ≡ one (pos 5)) ×
    (bench_answer zeros (Some (pos 6)) true ≡ r 0) × (bench_after zeros (Some (pos 6)) false ≡ one (pos 0)) ×
    (bench_answer (one (negsuc 3)) None true ≡ record { number = 0; letter = code "R"; value = negsuc 3; taken = false }) ×
    (bench_after (one (negsuc 3)) None true ≡ one (negsuc 3))
unfolding
    letter reading held station_of place_after stopped leaving row_after padded all_below zero_from fits bench_number refusal reply bench_answer
    bench_after
edges = (refl, refl, refl, refl, refl, refl)

-- ---- rows
-- two stations: tokens 1 to 7 come in, are held up until both are full, and leave in order
two :
    let enter : List ℕ = 1 ∷ 2 ∷ 3 ∷ 4 ∷ 5 ∷ 5 ∷ 5 ∷ 5 ∷ 0 ∷ 6 ∷ 7 ∷ 0 ∷ 0 ∷ 0 ∷ [] in
    let stop : List ℕ = 0 ∷ 0 ∷ 1 ∷ 1 ∷ 1 ∷ 0 ∷ 1 ∷ 0 ∷ 0 ∷ 1 ∷ 1 ∷ 0 ∷ 1 ∷ 0 ∷ [] in
    (answers (none ∷ none ∷ []) enter stop ≡
    took i ∷ took i ∷ took (r 1) ∷ took (r 1) ∷ r 1 ∷ t 1 ∷ r 2 ∷ took (t 2) ∷ t 3 ∷ took (r 4) ∷ took (r 4) ∷ t 4 ∷ r 5 ∷ t 5 ∷ []) ×
    (row_left (none ∷ none ∷ []) enter stop ≡ station (pos 7) (pos 0) 1 ∷ station (pos 6) (pos 0) 1 ∷ [])
unfolding
    letter reading held station_of place_after stopped leaving row_after padded all_below zero_from fits bench_number refusal reply bench_answer
    bench_after
two = (refl, refl)

-- eight stations with a token each hand them all on. Eight full ones hand on one, and take none: each stop is read from the row at the start
eight :
    let one : List Station = replicate 7 (station (pos 1) (pos 0) 1) in
    let full : List Station = replicate 7 (station (pos 1) (pos 2) 2) in
    (bench_answer (one ++ (station (pos 3) (pos 0) 1 ∷ [])) (Some (pos 4)) false ≡ took (t 3)) ×
    (bench_after (one ++ (station (pos 3) (pos 0) 1 ∷ [])) (Some (pos 4)) false ≡ station (pos 4) (pos 0) 1 ∷ one) ×
    (bench_answer (full ++ (station (pos 3) (pos 4) 2 ∷ [])) (Some (pos 5)) false ≡ t 3) ×
    (bench_after (full ++ (station (pos 3) (pos 4) 2 ∷ [])) (Some (pos 5)) false ≡ full ++ (station (pos 4) (pos 0) 1 ∷ []))
unfolding
    letter reading held station_of place_after stopped leaving row_after padded all_below zero_from fits bench_number refusal reply bench_answer
    bench_after
eight = (refl, refl, refl, refl)

-- ---- what is refused
-- 15 also where a record does not fit; 21 for a count over 2, an unused token of a station that holds one or none, and such a record among others.
-- The row stays
refusals :
    let over : Station = station (pos 4) (pos 5) 3 in
    let behind : Station = station (pos 4) (pos 5) 1 in
    let before : Station = station (negsuc 0) (pos 0) 0 in
    (bench_number [] ≡ 15) × (bench_number (replicate 9 none) ≡ 15) × (bench_number (replicate 9 over) ≡ 15) ×
    (bench_number (over ∷ []) ≡ 21) × (bench_number (behind ∷ []) ≡ 21) × (bench_number (before ∷ []) ≡ 21) ×
    (bench_number (none ∷ none ∷ behind ∷ []) ≡ 21) × (bench_number (replicate 8 none) ≡ 0) ×
    (bench_answer (replicate 9 none) (Some (pos 1)) true ≡ record { number = 15; letter = 0; value = pos 0; taken = false }) ×
    (bench_answer (behind ∷ []) (Some (pos 1)) true ≡ record { number = 21; letter = 0; value = pos 0; taken = false }) ×
    (bench_after (replicate 9 none) (Some (pos 1)) false ≡ replicate 9 none) × (bench_after (none ∷ behind ∷ []) (Some (pos 1)) false ≡ none ∷ behind ∷ [])
unfolding all_below zero_from fits bench_number refusal bench_answer bench_after
refusals = (refl, refl, refl, refl, refl, refl, refl, refl, refl, refl, refl, refl)

-- ---- by value
-- a station; two of nine records, of which the others stay though one does not fit; more than nine
by_value :
    let one : Station = station (pos 1) (pos 0) 1 in
    let nine : Records = record { stations = one ∷ one ∷ station (pos 1) (pos 2) 7 ∷ replicate 6 one } in
    (station_benched one (Some (pos 2)) true ≡ record { after = station (pos 1) (pos 2) 2; answer = took (r 1) }) ×
    (records_benched nine 2 (Some (pos 2)) false ≡
    record { after = record { stations = station (pos 2) (pos 0) 1 ∷ one ∷ station (pos 1) (pos 2) 7 ∷ replicate 6 one }; answer = took (t 1) }) ×
    (records_benched nine 3 (Some (pos 2)) false ≡ record { after = nine; answer = refusal 21 }) ×
    (records_benched nine 12 (Some (pos 2)) false ≡ record { after = nine; answer = refusal 15 })
unfolding
    letter reading held station_of place_after stopped leaving row_after padded all_below zero_from fits bench_number refusal reply bench_answer
    bench_after
    station_benched records_benched
by_value = (refl, refl, refl, refl)
