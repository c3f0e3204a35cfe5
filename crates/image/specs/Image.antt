-- The image: N and C, two parallel arrays for nodes, two for channels. An image is the list of its bytes; past its end a field reads 0.
use Rattle.std.specs.Prelude.{Bool, ◌&&◌, List, ℕ, ◌+◌, ◌*◌, eqb, ℤ, get_or}
use Rattle.laws.specs.Below.{most_below}
use Rattle.numbers.specs.Numbers.{signed_in}

-- "Sizes first: one byte N (nodes), one byte C (channels)."
unfoldable pub nodes : List ℕ → ℕ
nodes img = get_or img 0 0

unfoldable pub channels : List ℕ → ℕ
channels img = get_or img 1 0

-- "Then two parallel arrays for nodes: N kind bytes,"
unfoldable pub kind : List ℕ → ℕ → ℕ
kind img n = get_or img (2 + n) 0

-- "and N parameters of 4 bytes, signed two's complement, low byte first."
unfoldable pub parameter : List ℕ → ℕ → ℤ
parameter img n = signed_in img (2 + nodes img + 4 * n)

-- "Then two parallel arrays for channels: C wires of 3 bytes (from node, to node, input port),": where that of channel c begins
unfoldable pub wire : List ℕ → ℕ → ℕ
wire img c = 2 + 5 * nodes img + 3 * c

unfoldable pub from : List ℕ → ℕ → ℕ
from img c = get_or img (wire img c) 0

unfoldable pub to : List ℕ → ℕ → ℕ
to img c = get_or img (wire img c + 1) 0

unfoldable pub port : List ℕ → ℕ → ℕ
port img c = get_or img (wire img c + 2) 0

-- whether channel c feeds port p of node n
unfoldable pub feeds : List ℕ → ℕ → ℕ → ℕ → Bool
feeds img n p c = eqb (to img c) n && eqb (port img c) p

-- "and C depths of 2 bytes (stations 0 to 8, queue 1 to 8).": where those of channel c begin
unfoldable pub depths : List ℕ → ℕ → ℕ
depths img c = 2 + 5 * nodes img + 3 * channels img + 2 * c

unfoldable pub stations : List ℕ → ℕ → ℕ
stations img c = get_or img (depths img c) 0

unfoldable pub depth : List ℕ → ℕ → ℕ
depth img c = get_or img (depths img c + 1) 0

-- "R is the largest station count on any channel, or 0 without channels."
unfoldable pub most_stations : List ℕ → ℕ
most_stations img = most_below (stations img) (channels img)

-- "The length is 2 + 5N + 5C.": how many bytes an image has by its own N and C
abbrev pub length_due : List ℕ → ℕ
length_due img = 2 + 5 * nodes img + 5 * channels img
