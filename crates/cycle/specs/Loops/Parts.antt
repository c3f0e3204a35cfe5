-- What the loops of a cycle hold, by the counter: what is known of the nodes from the channels below c, which of the nodes below n fire, and the
-- state whose channels below c have moved.
use Rattle.std.specs.Prelude.{is_some, unwrap_or, Bool, false, not, ◌&&◌, List, [], ℕ, ◌/◌, ◌%◌, eqb, ℤ, pos, get_or, replicate}
use Rattle.laws.specs.Below.{any_below}
use Rattle.laws.specs.Choice.{◌if◌else◌}
use Rattle.laws.specs.Lists.{holds}
use Rattle.laws.specs.Table.{table, table_over}
use Rattle.image.specs.Image.{from, to}
use Rattle.image.specs.Loops.Ports.{ports_below}
use Rattle.relay.specs.declared.Station.{Station}
use Rattle.relay.specs.Station.{station_of}
use Rattle.shell.specs.declared.Queue.{Queue}
use Rattle.shell.specs.Queue.{queue_of}
use Rattle.state.specs.declared.Node.{Node}
use Rattle.state.specs.declared.State.{State}
use Rattle.cycle.specs.Cycle.{input_at, blocked_at, fires, node_after, channel_after_at}

module _ (img : List ℕ) (s : State) where
  -- data validation: which nodes have an input, among the channels below c, that is not ready
  unfoldable pub starved_below : ℕ → List Bool
  starved_below c = table (λ n. any_below (λ k. eqb (to img k) n && not (is_some (input_at img s k))) c) 64

  -- the values that the channels below c bring to the nodes' ports, 0 where none does
  unfoldable pub brought_below : ℕ → List ℤ
  brought_below c = ports_below img (λ k. unwrap_or (input_at img s k) (pos 0)) (pos 0) c

  -- back pressure: which nodes feed a blocked channel below c
  unfoldable pub blocked_below : ℕ → List Bool
  blocked_below c = table (λ n. any_below (λ k. eqb (from img k) n && blocked_at img s k) c) 64

module _ (img : List ℕ) (word : ℕ) (s : State) where
  -- clock gating: which of the nodes below n fire
  unfoldable pub fires_below : ℕ → List Bool
  fires_below n = table_over (fires img word s) n (replicate 64 false)

  -- the nodes below n after the cycle, and the others as they were
  unfoldable pub nodes_below : ℕ → List Node
  nodes_below n = table_over (node_after img word s) n s.nodes

  -- channel c's pending byte after the cycle
  unfoldable pub pending_after_at : ℕ → ℕ
  pending_after_at c = 1 if holds (channel_after_at img word s c).source else 0

  -- the record at place i of the stations after the cycle
  unfoldable pub station_after_at : ℕ → Station
  station_after_at i = station_of (get_or (channel_after_at img word s (i / 8)).row (i % 8) [])

  -- channel c's queue record after the cycle
  unfoldable pub queue_after_at : ℕ → Queue
  queue_after_at c = queue_of (channel_after_at img word s c).queue

  -- the state whose channels below c, and stations below place i, are as after the cycle; its cycle count and nodes are given
  unfoldable pub moved_below : ℕ → List Node → ℕ → ℕ → State
  moved_below cycles nodes c i =
      record s {
        cycles = cycles;
        nodes = nodes;
        pending = table_over pending_after_at c s.pending;
        stations = table_over station_after_at i s.stations;
        queues = table_over queue_after_at c s.queues;
      }
