-- A node in its netlist: what its feeders bring to its ports, and its next value. The strict system and the cycle engine differ in what a channel
-- brings and in when a node fires; this they share.
use Rattle.std.specs.Prelude.{List, ℕ, ℤ, pos}
use Rattle.laws.specs.Below.{pick_below}
use Rattle.image.specs.Image.{channels, kind, feeds}
use Rattle.pearl.specs.Next.{next_value}

-- the value on port p of node n, where channel c brings `brings c`: what the channel that feeds the port brings, 0 on a port that none feeds
unfoldable pub port_value : List ℕ → (ℕ → ℤ) → ℕ → ℕ → ℤ
port_value img brings n p = pick_below (feeds img n p) brings (pos 0) (channels img)

-- "With s the node's present value and a, b, c its ports 0, 1, 2, the next value is": the table of kinds at node n
unfoldable pub next_of : List ℕ → (ℕ → ℤ) → ℕ → ℤ → ℤ
next_of img brings n s = next_value (kind img n) s (port_value img brings n 0) (port_value img brings n 1) (port_value img brings n 2)
