-- The benches by value: the records are handed in, and come back beside the answer.
use Rattle.std.specs.Prelude.{Bool, List, [], ◌∷◌, ◌++◌, ℕ, get_or, take, drop}
use Rattle.relay.specs.declared.Station.{Station}
use Rattle.relay.specs.Link.{Link}
use Rattle.relay.specs.Station.{no_station}
use Rattle.bench.specs.declared.Records.{Records}
use Rattle.bench.specs.declared.Benched.{Benched}
use Rattle.bench.specs.Bench.{Told, told, bench_answer, bench_after}

-- what a bench by value returns: what was benched as it is afterwards, and what the answer tells
pub record BenchedTold (A : Type 0) : Type 0 where
  pub after : A
  pub answer : Told

-- what the code's answer of a bench by value tells
abbrev pub benched_told : {A : Type 0} → Benched A → BenchedTold A
benched_told b = record { after = b.after; answer = told b.answer }

-- a station benched by value: the bench of the row of it alone
unfoldable pub station_benched : Station → Link → Bool → BenchedTold Station
station_benched s link stop =
    record { after = get_or (bench_after (s ∷ []) link stop) 0 no_station; answer = bench_answer (s ∷ []) link stop }

-- a list of records after a bench of the first n as a row: the others stay
abbrev pub first_after : List Station → ℕ → Link → Bool → List Station
first_after records n link stop = bench_after (take n records) link stop ++ drop n records

-- the first n of nine records benched by value, one more than a row may have: all nine where n is more
unfoldable pub records_benched : Records → ℕ → Link → Bool → BenchedTold Records
records_benched records n link stop =
    record {
      after = record { stations = first_after records.stations n link stop };
      answer = bench_answer (take n records.stations) link stop;
    }
