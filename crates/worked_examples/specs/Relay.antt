-- Stations, computed: a table of readings, a station through eleven cycles, a row of two stations, and records.
use Prim.Native.Char.{code}
use Rattle.std.specs.Prelude.{Bool, true, false, List, [], ◌∷◌, ◌++◌, ◌≡◌, refl, ℕ, pred, eqb, ltb, ℤ, pos, negsuc, replicate}
use Rattle.std.specs.Bool.{then_some}
use Rattle.laws.specs.Below.{all_below}
use Rattle.laws.specs.Lists.{one_if, padded, zero_from}
use Rattle.relay.specs.declared.Reading.{Reading}
use Rattle.relay.specs.Link.{link_of, letter, reading}
use Rattle.relay.specs.Station.{held, station_of, clear, place_after}
use Rattle.relay.specs.Row.{stopped, leaving, row_after}

-- the letters T and R with their value, T also with one below 0; I and S
abbrev pub t : ℕ → Reading
t x = record { letter = code "T"; value = pos x }

abbrev pub t- : ℕ → Reading
t- x = record { letter = code "T"; value = negsuc (pred x) }

abbrev pub r : ℕ → Reading
r x = record { letter = code "R"; value = pos x }

abbrev pub i : Reading
i = record { letter = code "I"; value = pos 0 }

abbrev pub s : Reading
s = record { letter = code "S"; value = pos 0 }

-- a list of bits, each 0 or 1
abbrev bits : List ℕ → List Bool
bits [] = []
bits (x ∷ xs) = eqb x 1 ∷ bits xs

-- ---- "Valid 0111110011 with stop 0011000110 reads I T R R T T I S R T". Each token is a 7
abbrev readings : List Bool → List Bool → List Reading
readings [] stops = []
readings (valid ∷ valids) [] = []
readings (valid ∷ valids) (stop ∷ stops) = reading (then_some valid (pos 7)) stop ∷ readings valids stops

table1 :
    readings (bits (0 ∷ 1 ∷ 1 ∷ 1 ∷ 1 ∷ 1 ∷ 0 ∷ 0 ∷ 1 ∷ 1 ∷ [])) (bits (0 ∷ 0 ∷ 1 ∷ 1 ∷ 0 ∷ 0 ∷ 0 ∷ 1 ∷ 1 ∷ 0 ∷ [])) ≡
    i ∷ t 7 ∷ r 7 ∷ r 7 ∷ t 7 ∷ t 7 ∷ i ∷ s ∷ r 7 ∷ t 7 ∷ []
unfolding reading letter
table1 = refl

-- ---- a row through many cycles
-- what enters a row in a cycle: a token, of which 0 stands for none
abbrev on : ℕ → List ℤ
on x = one_if (ltb 0 x) (pos x)

-- what a row's leaving link reads, cycle by cycle, given what enters and the stops below
abbrev leaves : List (List ℤ) → List ℕ → List Bool → List Reading
leaves row [] stops = []
leaves row (x ∷ xs) [] = []
leaves row (x ∷ xs) (stop ∷ stops) = reading (link_of (leaving (on x) row)) stop ∷ leaves (row_after (on x) row stop) xs stops

-- whether a row's entering link is stopped, cycle by cycle
abbrev stops_above : List (List ℤ) → List ℕ → List Bool → List Bool
stops_above row [] stops = []
stops_above row (x ∷ xs) [] = []
stops_above row (x ∷ xs) (stop ∷ stops) = stopped row stop ∷ stops_above (row_after (on x) row stop) xs stops

-- a station through eleven cycles: what enters, the stop below, what leaves, and the stop above. Its second place fills in cycle 9, and holds up 7
figure6 :
    let enter : List ℕ = 1 ∷ 0 ∷ 2 ∷ 0 ∷ 3 ∷ 4 ∷ 0 ∷ 5 ∷ 6 ∷ 7 ∷ 7 ∷ [] in
    let stop = bits (0 ∷ 0 ∷ 0 ∷ 0 ∷ 1 ∷ 0 ∷ 1 ∷ 0 ∷ 1 ∷ 0 ∷ 0 ∷ []) in
    (leaves ([] ∷ []) enter stop ≡ i ∷ t 1 ∷ i ∷ t 2 ∷ s ∷ t 3 ∷ r 4 ∷ t 4 ∷ r 5 ∷ t 5 ∷ t 6 ∷ []) ×
    (stops_above ([] ∷ []) enter stop ≡ bits (0 ∷ 0 ∷ 0 ∷ 0 ∷ 0 ∷ 0 ∷ 0 ∷ 0 ∷ 0 ∷ 1 ∷ 0 ∷ []))
unfolding reading letter stopped leaving row_after place_after
figure6 = (refl, refl)

-- two stations: tokens 1 to 7 come in, are held up until both stations are full, and leave in order
two_stations :
    let enter : List ℕ = 1 ∷ 2 ∷ 3 ∷ 4 ∷ 5 ∷ 5 ∷ 5 ∷ 5 ∷ 0 ∷ 6 ∷ 7 ∷ 0 ∷ 0 ∷ 0 ∷ 0 ∷ 0 ∷ [] in
    let stop = bits (0 ∷ 0 ∷ 1 ∷ 1 ∷ 1 ∷ 0 ∷ 1 ∷ 0 ∷ 0 ∷ 1 ∷ 1 ∷ 0 ∷ 1 ∷ 0 ∷ 0 ∷ 0 ∷ []) in
    (leaves ([] ∷ [] ∷ []) enter stop ≡
    i ∷ i ∷ r 1 ∷ r 1 ∷ r 1 ∷ t 1 ∷ r 2 ∷ t 2 ∷ t 3 ∷ r 4 ∷ r 4 ∷ t 4 ∷ r 5 ∷ t 5 ∷ t 6 ∷ t 7 ∷ []) ×
    (stops_above ([] ∷ [] ∷ []) enter stop ≡ bits (0 ∷ 0 ∷ 0 ∷ 0 ∷ 1 ∷ 1 ∷ 1 ∷ 0 ∷ 1 ∷ 0 ∷ 0 ∷ 1 ∷ 1 ∷ 0 ∷ 0 ∷ 0 ∷ []))
unfolding reading letter stopped leaving row_after place_after
two_stations = (refl, refl)

-- ---- records
-- a count over two is read as two, and a token that is not held is not looked at; after the cycle the unused places are 0
unfit :
    (station_of (place_after [] (held (record { tokens = pos 4 ∷ pos 5 ∷ []; count = 9 })) false) ≡ record { tokens = pos 5 ∷ pos 0 ∷ []; count = 1 }) ×
    (station_of (place_after [] (held (record { tokens = pos 4 ∷ pos 5 ∷ []; count = 1 })) true) ≡ record { tokens = pos 4 ∷ pos 0 ∷ []; count = 1 }) ×
    (station_of (place_after [] (held (record { tokens = pos 4 ∷ pos 5 ∷ []; count = 0 })) true) ≡ record { tokens = pos 0 ∷ pos 0 ∷ []; count = 0 })
unfolding held station_of place_after padded
unfit = (refl, refl, refl)

-- a record is clear if every place that holds no token is 0, whatever its count
clears :
    (clear (record { tokens = pos 4 ∷ pos 0 ∷ []; count = 1 }) ≡ true) × (clear (record { tokens = pos 4 ∷ pos 5 ∷ []; count = 1 }) ≡ false) ×
    (clear (record { tokens = pos 4 ∷ pos 0 ∷ []; count = 0 }) ≡ false) × (clear (record { tokens = pos 4 ∷ pos 5 ∷ []; count = 9 }) ≡ true)
unfolding zero_from all_below
clears = (refl, refl, refl, refl)

-- a row of no stations is its link. Eight stations with a token each, stopped below: all pass theirs on but the last, which keeps it
rows :
    let offer : List ℤ = pos 2 ∷ [] in
    let eight : List (List ℤ) = replicate 8 (pos 1 ∷ []) in
    (leaving offer [] ≡ offer) × (stopped [] true ≡ true) × (row_after offer [] true ≡ []) ×
    (leaving offer eight ≡ pos 1 ∷ []) × (stopped eight true ≡ false) ×
    (row_after offer eight true ≡ offer ∷ (replicate 6 (pos 1 ∷ []) ++ ((pos 1 ∷ pos 1 ∷ []) ∷ [])))
unfolding place_after stopped leaving row_after
rows = (refl, refl, refl, refl, refl, refl)
