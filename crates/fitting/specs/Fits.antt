-- Number 21: "the state does not fit the image. It fits when:" the six conditions below hold, in this order. And the number that refuses an image or a
-- state.
use Rattle.std.specs.Prelude.{Bool, not, ◌&&◌, ◌||◌, List, ℕ, ◌+◌, eqb, leb, ltb}
use Rattle.laws.specs.Below.{all_below, sum_below}
use Rattle.laws.specs.Choice.{◌if◌else◌, ◌then◌}
use Rattle.laws.specs.Lists.{zero_from}
use Rattle.laws.specs.Signed.{is_zero}
use Rattle.image.specs.Image.{nodes, channels, from, to, stations, depth}
use Rattle.verdict.specs.Judge.{judge}
use Rattle.relay.specs.Station.{clear}
use Rattle.state.specs.declared.State.{State}
use Rattle.state.specs.State.{value_at, firings_at, pending_at, station_at, queue_at}

module _ (img : List ℕ) (s : State) where
  -- "the cycle count is at most 1,000,000;"
  unfoldable pub cycles_fit : Bool
  cycles_fit = leb s.cycles 1000000

  -- "firings are at most the cycle count;"
  unfoldable pub firings_fit : Bool
  firings_fit = all_below (λ n. leb (firings_at s n) s.cycles) (nodes img)

  -- "pending marks are 0 or 1;"
  unfoldable pub pending_fit : Bool
  pending_fit = all_below (λ c. leb (pending_at s c) 1) (channels img)

  -- the counts of channel c's stations are within their depth
  unfoldable pub stations_fit : ℕ → Bool
  stations_fit c = all_below (λ j. leb (station_at s c j).count 2) (stations img c)

  -- "station and queue counts are within their depths;"
  unfoldable pub counts_fit : Bool
  counts_fit = all_below (λ c. stations_fit c && leb (queue_at s c).count (depth img c)) (channels img)

  -- node n is 0 unless it is one of the image
  unfoldable pub node_clear : ℕ → Bool
  node_clear n = ltb n (nodes img) || (is_zero (value_at s n) && eqb (firings_at s n) 0)

  -- the pending byte of channel c is 0 unless the channel is one of the image
  unfoldable pub pending_clear : ℕ → Bool
  pending_clear c = ltb c (channels img) || eqb (pending_at s c) 0

  -- station j of channel c is 0 where it holds no token, and holds none unless it is one of the image
  unfoldable pub station_clear : ℕ → ℕ → Bool
  station_clear c j =
      clear (station_at s c j) && ((ltb c (channels img) && ltb j (stations img c)) || eqb (station_at s c j).count 0)

  -- the queue of channel c is 0 where it holds no token, and holds none unless the channel is one of the image
  unfoldable pub queue_clear : ℕ → Bool
  queue_clear c = zero_from 8 (queue_at s c).count (queue_at s c).tokens && (ltb c (channels img) || eqb (queue_at s c).count 0)

  -- "every place that no node below N, channel below C, station of the image or held token uses is 0;"
  unfoldable pub unused_clear : Bool
  unused_clear = all_below node_clear 64 && all_below (λ c. pending_clear c && all_below (station_clear c) 8 && queue_clear c) 96

  -- "and for each channel, pending + stations + queue = firings of from + 1 − firings of to." What is taken away on the right is added on the left,
  -- so that a difference below 0 does not pass as 0
  unfoldable pub balanced : ℕ → Bool
  balanced c =
      eqb (pending_at s c + sum_below (λ j. (station_at s c j).count) (stations img c) + (queue_at s c).count + firings_at s (to img c))
      (firings_at s (from img c) + 1)

  -- whether a state fits an image: all six conditions hold
  unfoldable pub fits : Bool
  fits = cycles_fit && firings_fit && pending_fit && counts_fit && unused_clear && all_below balanced (channels img)

  -- the number that refuses an image or a state, whatever the call: the judge's, then 21
  unfoldable pub state_number : ℕ
  state_number = judge img then 21 if not fits else 0
