-- One channel in one cycle: the token pending at its from node, its row of stations, and its queue.
use Rattle.std.specs.Prelude.{Bool, ◌&&◌, ◌||◌, List, [], ◌∷◌, ◌++◌, ℕ, ℤ, length}
use Rattle.laws.specs.Choice.{◌if◌else◌}
use Rattle.laws.specs.Lists.{drop_if}
use Rattle.relay.specs.declared.Reading.{Reading}
use Rattle.relay.specs.Link.{Link, link_of, passing, staying, reading}
use Rattle.relay.specs.Row.{stopped, leaving, row_after, contents}
use Rattle.shell.specs.Queue.{full}

-- what a channel holds: each place is the list of its tokens, oldest first. Link 0 shows the source: "valid while the token is pending"
pub record Channel : Type 0 where
  pub source : List ℤ
  pub row : List (List ℤ)
  pub queue : List ℤ

-- the tokens of a channel, oldest first
unfoldable pub tokens : Channel → List ℤ
tokens ch = ch.queue ++ (contents ch.row ++ ch.source)

-- whether a from node's token is held up: "a pending token on a stopped link 0"
unfoldable pub blocked : Bool → Bool → Bool
blocked pending stop = pending && stop

-- whether a token is pending after a cycle: a new one where the from node fires, else the old one if it did not pass
unfoldable pub pending_after : Bool → Bool → Bool → Bool
pending_after pending stop fires = fires || blocked pending stop

-- what link r shows, the link that arrives at the queue
unfoldable pub arriving : Channel → List ℤ
arriving ch = leaving ch.source ch.row

-- the input of the to node: valid where "its queue holds a token or link r is valid", and it shows the oldest token.
-- "With an empty queue the arriving token is used at once"
unfoldable pub input : Channel → Link
input ch = link_of (ch.queue ++ arriving ch)

module _ (depth : ℕ) (ch : Channel) where
  -- whether link r is stopped
  unfoldable pub stop_below : Bool
  stop_below = full depth (length ch.queue)

  -- whether link 0 is stopped
  unfoldable pub stop_above : Bool
  stop_above = stopped ch.row stop_below

  -- the reading of the channel: its letter and value, which are those of link r
  unfoldable pub channel_reading : Reading
  channel_reading = reading (link_of (arriving ch)) stop_below

  -- the channel after a cycle, given whether its to node fires, whether its from node fires, and the value that the from node then shows
  unfoldable pub channel_after : Bool → Bool → ℤ → Channel
  channel_after to from value =
      record {
        source = (value ∷ []) if from else staying ch.source stop_above;
        row = row_after ch.source ch.row stop_below;
        queue = drop_if to (ch.queue ++ passing (arriving ch) stop_below);
      }
