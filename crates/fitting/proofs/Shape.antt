-- What the declared type says of a state that a function is handed: the lengths of its arrays. Assumes nothing.
use mathlib.Core.List.{List, [], ◌∷◌}
use mathlib.Core.Path.{◌≡◌}
use Prim.Native.Nat.{ℕ, zero, suc, ◌<◌}
use native.Mathlib.Nat.{not-suc-le-zero, le_of_suc-le-suc}
use native.Mathlib.Omega.{arith}
use lib.ListN.{length, get_or}
use mir.Val.{Val}
use denote.Array.{each}
use denote.Shadow.{shadow}
use denote.Struct.Declared.{row}
use denote.RattleType.{RattleType}
use Rattle.relay.specs.declared.Station.{Station}
use Rattle.relay.specs.Station.{no_station}
use Rattle.relay.specs.contracts.Station as station
use Rattle.shell.specs.declared.Queue.{Queue}
use Rattle.shell.specs.contracts.Queue as queue
use Rattle.state.specs.declared.State.{State}
use Rattle.state.specs.State.{no_queue}
use Rattle.fitting.specs.Fitting.{Shaped}
use Rattle.state.specs.contracts.State.{the_type}

-- what each element of an array has, the one at a place has
element :
    (R : RattleType) (P : R.Denot → Type 0) → ((x : R.Denot) (vs : List Val) → shadow (R.own_val x vs) → P x)
    → (l : List R.Denot) (us : List Val) → shadow (each R.Denot R.own_val l us)
    → (i : ℕ) (d : R.Denot) → i < length l → P (get_or l i d)
element R P f [] us g i d h = absurd (not-suc-le-zero h)
element R P f (x ∷ l) [] g i d h = absurd g
element R P f (x ∷ l) (u ∷ us) g zero d h = f x (u ∷ []) g.0
element R P f (x ∷ l) (u ∷ us) g (suc i) d h = element R P f l us g.1 i d (le_of_suc-le-suc h)

-- a station has two places, and a queue eight
station_long : (x : Station) (vs : List Val) → shadow ((station.the_row).own_val x vs) → length x.tokens ≡ 2
station_long x vs g = g.1.1.0.1.0.1

queue_long : (x : Queue) (vs : List Val) → shadow ((queue.the_row).own_val x vs) → length x.tokens ≡ 8
queue_long x vs g = g.1.1.0.1.0.1

-- g is `START.good.0` where the state is the first parameter, `START.good.1.0` where it is the second
pub shaped : (s : State) (vs : List Val) → shadow ((row the_type).own_val s vs) → Shaped s
shaped s vs g =
    let stations : length s.stations ≡ 768 = g.1.1.1.1.1.0.1.0.1 in
    let queues : length s.queues ≡ 96 = g.1.1.1.1.1.1.0.1.0.1 in
    record {
      nodes = g.1.1.1.0.1.0.1;
      pending = g.1.1.1.1.0.1.0.1;
      stations = stations;
      queues = queues;
      station =
          λ i h.
          element station.the_row (λ x. length x.tokens ≡ 2) station_long s.stations _ g.1.1.1.1.1.0.1.1 i no_station (omega arith);
      queue =
          λ c h.
          element queue.the_row (λ x. length x.tokens ≡ 8) queue_long s.queues _ g.1.1.1.1.1.1.0.1.1 c no_queue (omega arith);
    }
