-- "Stations on their own": what a bench answers, and what the row that it is lent holds after it. The station bench is the row bench on a row of one
-- record.
use Rattle.std.specs.Prelude.{Bool, false, not, ◌&&◌, ◌||◌, List, map, ◌≡◌, ℕ, eqb, leb, ltb, ℤ, pos, length, get_or, Result, Ok, Err}
use Rattle.laws.specs.Below.{all_below}
use Rattle.laws.specs.Choice.{◌if◌else◌}
use Rattle.laws.specs.Lists.{holds}
use Rattle.refusal.specs.declared.Refusal.{Refusal}
use Rattle.refusal.specs.Number.{number}
use Rattle.relay.specs.declared.Station.{Station}
use Rattle.relay.specs.Link.{Link, token, link_of, passing, reading}
use Rattle.relay.specs.Station.{held, station_of, clear, no_station}
use Rattle.relay.specs.Row.{stopped, leaving, row_after}
use Rattle.bench.specs.declared.Answer.{Answer}

-- "On the benches 21 means a count over 2 or a nonzero unused token": a record with neither fits
unfoldable pub fits : Station → Bool
fits s = leb s.count 2 && clear s

-- the number of a bench on a row: "Benches: 15, then 21."
unfoldable pub bench_number : List Station → ℕ
bench_number row =
    -- row of no records or over 8
    15 if eqb (length row) 0 || ltb 8 (length row) else
    -- a count over 2 or a nonzero unused token
    21 if not (all_below (λ i. fits (get_or row i no_station)) (length row)) else
    0

-- what a bench answers: its number, 0 if it is not refused, the letter and value of the leaving link, and whether the incoming token was taken
pub record Told : Type 0 where
  pub number : ℕ
  pub letter : ℕ
  pub value : ℤ
  pub taken : Bool

-- a bench that is refused answers its number beside 0, 0 and no
unfoldable pub refusal : ℕ → Told
refusal number = record { number = number; letter = 0; value = pos 0; taken = false }

-- a bench that is not refused answers "the letter and value of the leaving link, and whether the incoming token was taken"
unfoldable pub reply : Link → Bool → Bool → Told
reply link stop taken = record { number = 0; letter = (reading link stop).letter; value = (reading link stop).value; taken = taken }

-- what the code's answer of a bench tells, with a number for its refusal
abbrev pub told : Result Answer Refusal → Told
told (Ok answer) = record { number = 0; letter = answer.letter; value = answer.value; taken = answer.taken }
told (Err r) = refusal (number r)

-- a bench that is lent `row`, in the order in which a token goes through it
module _ (row : List Station) (link : Link) (stop : Bool) where
  -- what stands on the incoming link: "The incoming bit is the row's link 0"
  abbrev incoming : List ℤ
  incoming = token link

  -- what a bench answers. "The leaving link is valid while the last record holds a token, and stopped as given." A token is taken if it passes link
  -- 0, "which is no when none came"
  unfoldable pub bench_answer : Told
  bench_answer =
      reply (link_of (leaving incoming (map held row))) stop (holds (passing incoming (stopped (map held row) stop)))
      if eqb (bench_number row) 0 else refusal (bench_number row)

  -- what the lent row holds after a bench: "the links between records follow the cycle's rules. .. A place that then holds no token is 0." "A refused
  -- .. bench writes nothing"
  unfoldable pub bench_after : List Station
  bench_after = map station_of (row_after incoming (map held row) stop) if eqb (bench_number row) 0 else row

-- what a bench has done that was lent `row` and left `after`: each bench's contract ensures this record
pub record BenchDone (row : List Station) (link : Link) (stop : Bool) (answer : Told) (after : List Station) : Type 0 where
  pub answered : answer ≡ bench_answer row link stop
  pub left : after ≡ bench_after row link stop
