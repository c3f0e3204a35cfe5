-- What a bench that is not refused keeps: the row fits (21), and every token is there, in order. Assumes nothing.
use Prim.Native.Char.{code}
use Rattle.std.specs.Prelude.{Bool, false, not, ◌||◌, ◌≡◌, refl, ℕ, ◌<◌, ◌≤◌, eqb, ℤ, pos, None, Some, unwrap_or}
use Rattle.std.proofs.Math.Bool.{true}
use mathlib.Core.List.{List, [], ◌∷◌, ◌++◌, map}
use Rattle.std.proofs.Math.Logic.{⊎_elim}
use Rattle.std.proofs.Common.{ap₂, not-suc-le-zero, arith, length-take}
use borrow.Author.Tests.{not-false}
use Rattle.std.proofs.Math.Dec.{leb, ltb}
use Rattle.std.proofs.Math.ListN.{length, get_or, length-map, get_or-map, get_or-eq_default}
use Rattle.laws.specs.Below.{all_below}
use Rattle.laws.specs.Laws.Below.{all_at, all_from}
use Rattle.laws.specs.Laws.Cases.{and_left, lt-or-ge}
use Rattle.laws.specs.Laws.Choice.{past}
use Rattle.laws.specs.Lists.{holds, one_if, padded, zero_from}
use Rattle.laws.specs.Laws.Table.{get_d_any}
use Rattle.laws.specs.Laws.Tests.{le_iff}
use Rattle.relay.specs.declared.Station.{Station}
use Rattle.relay.specs.Link.{Link, token, passing}
use Rattle.relay.specs.Laws.Link.{letter-passing, token_few}
use Rattle.relay.specs.Station.{held, station_of, clear, no_station}
use Rattle.relay.specs.Laws.Station.{held_of}
use Rattle.relay.specs.Row.{stopped, leaving, row_after, contents}
use Rattle.relay.specs.Laws.Row.{row_fifo, row_few, link_few, length-after, leaving-at}
use Rattle.bench.specs.Bench.{fits, bench_number, reply, bench_answer, bench_after}
use Rattle.bench.proofs.BenchLaws.{length_bench}

-- a station record written of a place of at most two tokens fits
fits_of : (place : List ℤ) → length place ≤ 2 → fits (station_of place) ≡ true
unfolding fits station_of padded zero_from all_below
fits_of [] h = refl
fits_of (x ∷ []) h = refl
fits_of (x ∷ y ∷ []) h = refl
fits_of (x ∷ y ∷ z ∷ place) h = absurd (not-suc-le-zero {n = 0} (omega arith))

-- the token that a bench takes is the one that passes link 0
taken_passing : (link : Link) (stop : Bool) → passing (token link) stop ≡ one_if (holds (passing (token link) stop)) (unwrap_or link (pos 0))
taken_passing (Some x) true = refl
taken_passing (Some x) false = refl
taken_passing None true = refl
taken_passing None false = refl

held_all : (places : List (List ℤ)) → map held (map station_of places) ≡ places
held_all [] = refl
held_all (place ∷ places) = ap₂ {C = List (List ℤ)} (λ p ps. p ∷ ps) (held_of place) (held_all places)

-- a row that is accepted has the cause of neither number
module _ (row : List Station) (accepted : bench_number row ≡ 0) where
  pub accepted_long : (eqb (length row) 0 || ltb 8 (length row)) ≡ false
  unfolding bench_number
  accepted_long = (past 14 _ (eqb (length row) 0 || ltb 8 (length row)) accepted).0

  pub accepted-fits : all_below (λ i. fits (get_or row i no_station)) (length row) ≡ true
  unfolding bench_number
  accepted-fits =
      let all = all_below (λ i. fits (get_or row i no_station)) (length row) in
      not-false all (past 20 0 (not all) (past 14 _ (eqb (length row) 0 || ltb 8 (length row)) accepted).1).0

module _ (row : List Station) (link : Link) (stop : Bool) (accepted : bench_number row ≡ 0) where
  abbrev incoming : List ℤ
  incoming = token link

  after : bench_after row link stop ≡ map station_of (row_after incoming (map held row) stop)
  unfolding bench_after
  after = rw accepted

  -- first in, first out: the token that leaves, and then those of the row after the cycle, are those before it, and then the one that was taken
  pub bench_fifo :
      let a = bench_answer row link stop in
      one_if (eqb a.letter (code "T")) a.value ++ contents (map held (bench_after row link stop)) ≡
      contents (map held row) ++ one_if a.taken (unwrap_or link (pos 0))
  unfolding bench_answer reply
  bench_fifo =
      let places = map held row in
      let shown = leaving incoming places in
      let few : length shown ≤ 1 = rw leaving-at (link_few incoming places (length places) (token_few link)) in
      rw (accepted, after, held_all, letter-passing shown stop few, ← (taken_passing link (stopped places stop)))
      (row_fifo incoming places stop)

  -- no place holds more than two tokens after a bench
  places_few : (j : ℕ) → length (get_or (map held row) j []) ≤ 2
  unfolding held fits
  places_few j =
      ⊎_elim
      (λ (h : j < length row).
      let s = get_or row j no_station in
      let f : leb s.count 2 ≡ true = and_left (leb s.count 2) (clear s)
      (all_at (λ i. fits (get_or row i no_station)) j (length row) h (accepted-fits row accepted)) in
      rw (get_or-map held row j no_station, length-take) (omega (arith, (le_iff s.count 2).0 f)))
      (λ (h : length row ≤ j).
      let l : length (map held row) ≤ j = rw length-map h in
      rw (get_or-eq_default (map held row) [] l) (omega arith))
      (lt-or-ge j (length row))

  -- "A place that then holds no token is 0": the row that is left is accepted again
  pub bench_again : bench_number (bench_after row link stop) ≡ 0
  unfolding bench_number
  bench_again =
      let left = bench_after row link stop in
      let places = row_after incoming (map held row) stop in
      let all : all_below (λ i. fits (get_or left i no_station)) (length row) ≡ true =
      all_from (λ i. fits (get_or left i no_station)) (length row) (λ i h.
      let l : i < length (map station_of places) = rw (length-map, length-after, length-map) h in
      rw (after, get_d_any (map station_of places) i no_station (station_of []) l, get_or-map station_of places i [])
      (fits_of (get_or places i []) (row_few incoming (map held row) stop (token_few link) places_few i))) in
      rw (length_bench row link stop, (accepted_long row accepted), all)
