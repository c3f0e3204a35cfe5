-- A state and station records as bytes: how they are written, and what bytes are read as.
use mathlib.Core.List.{List, [], ◌∷◌, ◌++◌, flat_map}
use Rattle.std.specs.Prelude.{ℕ, ◌+◌, ◌*◌, ◌/◌, eqb, leb, pos, length, get_or}
use Rattle.laws.specs.Choice.{◌if◌else◌}
use Rattle.laws.specs.Table.{table}
use Rattle.numbers.specs.Numbers.{number_bytes, signed_bytes, four_bytes, signed_in}
use Rattle.relay.specs.declared.Station.{Station}
use Rattle.relay.specs.Station.{no_station}
use Rattle.shell.specs.declared.Queue.{Queue}
use Rattle.state.specs.declared.Node.{Node}
use Rattle.state.specs.declared.State.{State}
use Rattle.state.specs.State.{node_at, pending_at, queue_at}
use Rattle.state.specs.Fresh.{zeros}
use Rattle.layout.specs.Places.{node_length, record_length, queue_length, nodes_place, pending_place, stations_place, queues_place, state_length}

-- ---- written
-- a node as bytes: its value, its firings
unfoldable pub node_bytes : Node → List ℕ
node_bytes n = signed_bytes n.value ++ number_bytes n.firings

-- the bytes of g 0, g 1, .., g (n - 1), one after another
abbrev pub each : {A : Type 0} → (A → List ℕ) → (ℕ → A) → ℕ → List ℕ
each f g n = flat_map f (table g n)

-- a station record as bytes: its two tokens, oldest first, and how many it holds
unfoldable pub station_bytes : Station → List ℕ
station_bytes s = each signed_bytes (λ i. get_or s.tokens i (pos 0)) 2 ++ (s.count ∷ [])

-- a queue as bytes: its eight tokens, oldest first, and how many it holds
unfoldable pub queue_bytes : Queue → List ℕ
queue_bytes q = each signed_bytes (λ i. get_or q.tokens i (pos 0)) 8 ++ (q.count ∷ [])

-- a state as bytes: the cycle count, the nodes, the pending bytes, the stations, the queues
unfoldable pub state_bytes : State → List ℕ
state_bytes s =
    number_bytes s.cycles ++ (
    each node_bytes (node_at s) 64 ++ (
    table (pending_at s) 96 ++ (
    each station_bytes (λ i. get_or s.stations i no_station) 768 ++
    each queue_bytes (queue_at s) 96)))

-- ---- read, from a place on
-- the node in the bytes from a place on
unfoldable pub node_in : List ℕ → ℕ → Node
node_in bytes at = record { value = signed_in bytes at; firings = four_bytes bytes (at + 4) }

-- the station record in the bytes from a place on
unfoldable pub station_in : List ℕ → ℕ → Station
station_in bytes at = record { tokens = signed_in bytes at ∷ signed_in bytes (at + 4) ∷ []; count = get_or bytes (at + 8) 0 }

-- the queue in the bytes from a place on
unfoldable pub queue_in : List ℕ → ℕ → Queue
queue_in bytes at = record { tokens = table (λ i. signed_in bytes (at + 4 * i)) 8; count = get_or bytes (at + 32) 0 }

-- the state in as many bytes as a state has, each part at its place
unfoldable pub places_in : List ℕ → State
places_in bytes =
    record {
      cycles = four_bytes bytes 0;
      nodes = table (λ n. node_in bytes (nodes_place + node_length * n)) 64;
      pending = table (λ c. get_or bytes (pending_place + c) 0) 96;
      stations = table (λ i. station_in bytes (stations_place + record_length * i)) 768;
      queues = table (λ c. queue_in bytes (queues_place + queue_length * c)) 96;
    }

-- what fewer bytes than a state has are read as: a state that fits no image, by its cycle count
unfoldable pub no_state : State
no_state = record zeros { cycles = 1000001 }

-- the state that bytes are read as: it stands in the first of them, and what follows it is not looked at
unfoldable pub state_in : List ℕ → State
state_in bytes = places_in bytes if leb state_length (length bytes) else no_state

-- what bytes of any other length than a record's are read as: a record that fits no bench, by its count
unfoldable pub no_record : Station
no_record = record { tokens = pos 0 ∷ pos 0 ∷ []; count = 3 }

-- the station record that bytes are read as
unfoldable pub record_in : List ℕ → Station
record_in bytes = station_in bytes 0 if eqb (length bytes) record_length else no_record

-- record i of the row that bytes are read as: one that fits no bench where the last is not whole
unfoldable pub row_record : List ℕ → ℕ → Station
row_record bytes i = station_in bytes (record_length * i) if leb (record_length * i + record_length) (length bytes) else no_record

-- how many records bytes are read as, the last of them whole or not
unfoldable pub record_count : List ℕ → ℕ
record_count bytes = (length bytes + 8) / record_length

-- the row of records that bytes are read as
unfoldable pub row_in : List ℕ → List Station
row_in bytes = table (row_record bytes) (record_count bytes)
