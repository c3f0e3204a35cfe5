-- How many bytes each part of a state has, and where it stands: each place is the one before and what stands there, so what is put behind the last
-- moves no other.
use Rattle.std.specs.Prelude.{ℕ, ◌+◌, ◌*◌}

-- how many bytes a node has
abbrev pub node_length : ℕ
node_length = 8

-- how many bytes a station record has
abbrev pub record_length : ℕ
record_length = 9

-- how many bytes a queue has
abbrev pub queue_length : ℕ
queue_length = 33

-- where the nodes begin, behind the cycle count
abbrev pub nodes_place : ℕ
nodes_place = 4

-- where the pending bytes begin, behind the nodes
abbrev pub pending_place : ℕ
pending_place = nodes_place + 64 * node_length

-- where the station records begin, behind the pending bytes
abbrev pub stations_place : ℕ
stations_place = pending_place + 96

-- where the queues begin, behind the station records
abbrev pub queues_place : ℕ
queues_place = stations_place + 768 * record_length

-- how many bytes a state has
abbrev pub state_length : ℕ
state_length = queues_place + 96 * queue_length
