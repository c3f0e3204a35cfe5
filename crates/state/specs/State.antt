-- The state of a netlist: what its nodes show and its channels hold, and how a state is written.
use Rattle.std.specs.Prelude.{List, [], ℕ, ◌+◌, ◌*◌, ◌/◌, ◌%◌, eqb, ℤ, pos, get_or}
use Rattle.laws.specs.Choice.{◌if◌else◌}
use Rattle.laws.specs.Lists.{holds, one_if, padded}
use Rattle.laws.specs.Table.{table}
use Rattle.image.specs.Image.{nodes, channels, from, stations}
use Rattle.relay.specs.declared.Station.{Station}
use Rattle.relay.specs.Station.{held, station_of, no_station}
use Rattle.shell.specs.declared.Queue.{Queue}
use Rattle.shell.specs.Queue.{waiting, queue_of}
use Rattle.shell.specs.Channel.{Channel}
use Rattle.state.specs.declared.Node.{Node}
use Rattle.state.specs.declared.State.{State}

-- a node that is not there
abbrev pub no_node : Node
no_node = record { value = pos 0; firings = 0 }

-- what is read past the end of an array of queues
abbrev pub no_queue : Queue
no_queue = record { tokens = []; count = 0 }

-- ---- the places of a state
unfoldable pub node_at : State → ℕ → Node
node_at s n = get_or s.nodes n no_node

abbrev pub value_at : State → ℕ → ℤ
value_at s n = (node_at s n).value

abbrev pub firings_at : State → ℕ → ℕ
firings_at s n = (node_at s n).firings

-- the pending byte of channel c
unfoldable pub pending_at : State → ℕ → ℕ
pending_at s c = get_or s.pending c 0

-- station j of channel c, counted from 0
unfoldable pub station_at : State → ℕ → ℕ → Station
station_at s c j = get_or s.stations (8 * c + j) no_station

-- the queue of channel c
unfoldable pub queue_at : State → ℕ → Queue
queue_at s c = get_or s.queues c no_queue

-- what channel c holds: its from node's value, "pending" if the channel's pending byte is 1; the tokens of its stations; those of its queue
unfoldable pub channel_in : List ℕ → State → ℕ → Channel
channel_in img s c =
    record {
      source = one_if (eqb (pending_at s c) 1) (value_at s (from img c));
      row = table (λ j. held (station_at s c j)) (stations img c);
      queue = waiting (queue_at s c);
    }

-- the state of an image at a cycle count, with these nodes and channels: "Every unused place is 0"
unfoldable pub state_of : List ℕ → ℕ → (ℕ → Node) → (ℕ → Channel) → State
state_of img cycles node channel =
    record {
      cycles = cycles;
      nodes = padded 64 no_node (table node (nodes img));
      pending = padded 96 0 (table (λ c. 1 if holds (channel c).source else 0) (channels img));
      stations = padded 768 (station_of []) (table (λ i. station_of (get_or (channel (i / 8)).row (i % 8) [])) (8 * channels img));
      queues = padded 96 (queue_of []) (table (λ c. queue_of (channel c).queue) (channels img));
    }
