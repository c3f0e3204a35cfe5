-- The judge: "Order: 1 to 11 rising, each over the whole image."
use Rattle.std.specs.Prelude.{Bool, not, ◌||◌, List, ℕ, eqb, leb, ltb, length}
use Rattle.laws.specs.Below.{any_below, sum_below}
use Rattle.laws.specs.Choice.{◌if◌else◌, ◌then◌}
use Rattle.laws.specs.Range.{outside}
use Rattle.kinds.specs.Kinds.{no_kind, inputs}
use Rattle.image.specs.Image.{nodes, channels, kind, from, to, port, feeds, stations, depth, length_due}

-- whether number 4 has a cause at node n: its kind is none of the table
unfoldable pub bad_kind : List ℕ → ℕ → Bool
bad_kind img n = no_kind (kind img n)

-- whether number 5 has a cause at channel c: "wire names a node not there"
unfoldable pub bad_wire : List ℕ → ℕ → Bool
bad_wire img c = leb (nodes img) (from img c) || leb (nodes img) (to img c)

-- whether number 6 has a cause at channel c: "port not below the to node's inputs"
unfoldable pub bad_port : List ℕ → ℕ → Bool
bad_port img c = leb (inputs (kind img (to img c))) (port img c)

-- whether number 7 has a cause at channel c: "a port fed twice", by c and by a channel before it
unfoldable pub fed_twice : List ℕ → ℕ → Bool
fed_twice img c = any_below (feeds img (to img c) (port img c)) c

-- whether number 8 has a cause at node n: "a port not fed"
unfoldable pub not_fed : List ℕ → ℕ → Bool
not_fed img n = any_below (λ p. not (any_below (feeds img n p) (channels img))) (inputs (kind img n))

-- whether number 9 has a cause at channel c: "stations over 8"
unfoldable pub bad_stations : List ℕ → ℕ → Bool
bad_stations img c = ltb 8 (stations img c)

-- whether number 10 has a cause at channel c: "queue 0 or over 8"
unfoldable pub bad_depth : List ℕ → ℕ → Bool
bad_depth img c = outside 1 8 (depth img c)

-- the first of the numbers 1 to 3, of the sizes, that has a cause, and 0 if none has
unfoldable pub sizes_number : List ℕ → ℕ
sizes_number img =
    -- image under 2 bytes
    1 if ltb (length img) 2 else
    -- N is 0 or over 64, or C over 96
    2 if outside 1 64 (nodes img) || ltb 96 (channels img) else
    -- length not 2 + 5N + 5C
    3 if not (eqb (length img) (length_due img)) else
    0

-- the first of the numbers 9 to 11, of the depths, that has a cause, and 0 if none has
unfoldable pub depth_number : List ℕ → ℕ
depth_number img =
    9 if any_below (bad_stations img) (channels img) else
    10 if any_below (bad_depth img) (channels img) else
    -- over 256 stations in all
    11 if ltb 256 (sum_below (stations img) (channels img)) else
    0

-- the first of the numbers 4 to 11, of what the image contains, that has a cause, and 0 if none has
unfoldable pub contents_number : List ℕ → ℕ
contents_number img =
    4 if any_below (bad_kind img) (nodes img) else
    5 if any_below (bad_wire img) (channels img) else
    6 if any_below (bad_port img) (channels img) else
    7 if any_below (fed_twice img) (channels img) else
    8 if any_below (not_fed img) (nodes img) else
    depth_number img

-- 0 where the image is accepted, else the first of the numbers 1 to 11 that has a cause
unfoldable pub judge : List ℕ → ℕ
judge img = sizes_number img then contents_number img
