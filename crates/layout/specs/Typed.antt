-- What the declared type says of a state beyond its shape: the range of its numbers.
use Rattle.std.specs.Prelude.{ℕ, ◌^◌, ◌<◌, pos, get_or}
use Rattle.std.specs.Int.Signed.{mag}
use Rattle.relay.specs.Station.{no_station}
use Rattle.state.specs.declared.State.{State}
use Rattle.state.specs.State.{value_at, firings_at, queue_at}
use Rattle.fitting.specs.Fitting.{Shaped}

-- a state whose numbers are in the ranges of their declared types
pub record Typed (s : State) : Type 0 where
  pub shaped : Shaped s
  pub cycled : s.cycles < 2 ^ 32
  pub valued : (n : ℕ) → n < 64 → mag (value_at s n) < 2 ^ 31
  pub fired : (n : ℕ) → n < 64 → firings_at s n < 2 ^ 32
  pub held : (i : ℕ) → i < 768 → (k : ℕ) → k < 2 → mag (get_or (get_or s.stations i no_station).tokens k (pos 0)) < 2 ^ 31
  pub queued : (c : ℕ) → c < 96 → (k : ℕ) → k < 8 → mag (get_or (queue_at s c).tokens k (pos 0)) < 2 ^ 31
