-- What the readers of a node's, of a channel's and of all channels' fields answer.
use Rattle.std.specs.Prelude.{List, ℕ, ◌<◌, ◌≤◌}
use Rattle.laws.specs.Lists.{padded}
use Rattle.laws.specs.Table.{table}
use Rattle.image.specs.declared.Core.{Core}
use Rattle.image.specs.declared.Wire.{Wire}
use Rattle.image.specs.Image.{channels, kind, parameter, from, to, port, stations, depth}

-- the fields of node n
unfoldable pub core_at : List ℕ → ℕ → Core
core_at img n = record { kind = kind img n; parameter = parameter img n }

-- the fields of channel c
unfoldable pub wire_at : List ℕ → ℕ → Wire
wire_at img c =
    record { from = from img c; to = to img c; port = port img c; stations = stations img c; depth = depth img c }

-- a wire of zeros, for the places of an array that no channel has
abbrev pub no_wire : Wire
no_wire = record { from = 0; to = 0; port = 0; stations = 0; depth = 0 }

-- the fields of all channels, at their places in an array of 96
unfoldable pub wires : List ℕ → List Wire
wires img = padded 96 no_wire (table (wire_at img) (channels img))

-- what the fields of a channel of an accepted image are: nodes below 64, a port below 3, at most 8 stations, and a queue of depth at most 8
pub record Placed (w : Wire) : Type 0 where
  pub from : w.from < 64
  pub to : w.to < 64
  pub port : w.port < 3
  pub stations : w.stations ≤ 8
  pub depth : w.depth ≤ 8
