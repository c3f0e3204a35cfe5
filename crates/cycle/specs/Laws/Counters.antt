-- The counting view of a state: how many tokens have entered each place of a channel since the fresh state. Place 0 is the from node, places 1 to r
-- are the stations, place r + 1 is the queue. What one cycle makes of these numbers is the least of three (`Laws/Counting`), so what is said of time
-- looks at no station again.
use Rattle.std.specs.Prelude.{false, List, ◌≡◌, ℕ, zero, suc, ◌+◌, ◌<◌, ltb, length, drop}
use Rattle.laws.specs.Choice.{◌if◌else◌}
use Rattle.image.specs.Image.{channels, from, to, stations, depth}
use Rattle.relay.specs.Row.{contents}
use Rattle.state.specs.declared.State.{State}
use Rattle.state.specs.State.{firings_at, channel_in}
use Rattle.cycle.specs.Word.{stalled}

module _ (img : List ℕ) (s : State) where
  -- how many tokens have entered place j of channel c. Place 0: those that were made, the parameter and one at each firing of the from node. A place
  -- below it: those that were taken, wait in the queue, or are in this station or a later one
  unfoldable pub entered : ℕ → ℕ → ℕ
  entered c zero = suc (firings_at s (from img c))
  entered c (suc j) = firings_at s (to img c) + length (channel_in img s c).queue + length (contents (drop j (channel_in img s c).row))

  -- how many tokens can have entered place j + 1 of channel c: two more than have left the station, or the depth more than were taken from the queue
  unfoldable pub limit : ℕ → ℕ → ℕ
  limit c j = entered c (suc (suc j)) + 2 if ltb j (stations img c) else firings_at s (to img c) + depth img c

  -- node n can fire: it is not stalled, its next token has come up to each of its queues, and on each of its channels there is room for one more
  pub record Enabled (word n : ℕ) : Type 0 where
    pub awake : stalled word n ≡ false
    pub fed : (c : ℕ) → c < channels img → to img c ≡ n → firings_at s n < entered c (stations img c)
    pub free : (c : ℕ) → c < channels img → from img c ≡ n → firings_at s n < limit c 0
