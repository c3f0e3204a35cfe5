-- A state that fits its image, as facts: all that other proofs use of number 21. Laws/Fits proves that a state of the declared shape passes the test
-- `fits` exactly if it has them.
use Rattle.std.specs.Prelude.{List, [], ◌≡◌, ℕ, suc, ◌+◌, ◌<◌, ◌≤◌, length, get_or}
use Rattle.image.specs.Image.{nodes, channels, from, to, depth}
use Rattle.relay.specs.Station.{no_station}
use Rattle.shell.specs.Channel.{tokens}
use Rattle.state.specs.declared.State.{State}
use Rattle.state.specs.State.{no_queue, node_at, firings_at, channel_in, state_of}

-- the lengths of a state's arrays: what the declared type says of every state
pub record Shaped (s : State) : Type 0 where
  pub nodes : length s.nodes ≡ 64
  pub pending : length s.pending ≡ 96
  pub stations : length s.stations ≡ 768
  pub queues : length s.queues ≡ 96
  pub station : (i : ℕ) → i < 768 → length (get_or s.stations i no_station).tokens ≡ 2
  pub queue : (c : ℕ) → c < 96 → length (get_or s.queues c no_queue).tokens ≡ 8

-- what every cycle keeps of a state, whatever the cycle count: what is said of time needs no more of it
pub record Steady (img : List ℕ) (s : State) : Type 0 where
  -- station and queue counts are within their depths
  pub few : (c : ℕ) → c < channels img → (j : ℕ) → length (get_or (channel_in img s c).row j []) ≤ 2
  pub within : (c : ℕ) → c < channels img → length (channel_in img s c).queue ≤ depth img c
  -- the tokens of a channel are those that were made and not yet taken
  pub balance : (c : ℕ) → c < channels img → firings_at s (to img c) + length (tokens (channel_in img s c)) ≡ suc (firings_at s (from img c))

-- what holds of a state that fits its image
pub record Fitting (img : List ℕ) (s : State) : Type 0 where
  pub cycled : s.cycles ≤ 1000000
  pub fired : (n : ℕ) → n < nodes img → firings_at s n ≤ s.cycles
  -- "pending marks are 0 or 1", and every unused place is 0: the state is what its own nodes and channels write
  pub written : s ≡ state_of img s.cycles (node_at s) (channel_in img s)
  pub steady : Steady img s
