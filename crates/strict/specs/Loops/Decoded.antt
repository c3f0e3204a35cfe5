-- What the code decodes of an image, once: the node that feeds each port.
use Rattle.std.specs.Prelude.{List, ℕ, ◌<◌, ℤ, pos, get_or}
use Rattle.laws.specs.Lists.{padded}
use Rattle.image.specs.Image.{from}
use Rattle.image.specs.Loops.Ports.{ports_below}
use Rattle.strict.specs.Strict.{strict_cycle}

-- the node that feeds each port, by the channels below c; a port that none feeds has 64, a place where the value is always 0
unfoldable pub feeders_below : List ℕ → ℕ → List ℕ
feeders_below img c = ports_below img (from img) 64 c

-- each of the 192 entries of a list of feeders names one of 65 places
abbrev pub NamesPlaces : List ℕ → Type 0
NamesPlaces feeders = (at : ℕ) → at < 192 → get_or feeders at 0 < 65

-- the value on the port at a place, given all values and the node that feeds each port
unfoldable pub port_on : List ℤ → List ℕ → ℕ → ℤ
port_on values feeders at = get_or values (get_or feeders at 0) (pos 0)

-- the strict system's values of cycle t in 65 places, of which those from N on are 0
unfoldable pub values_at : List ℕ → ℕ → List ℤ
values_at img t = padded 65 (pos 0) (strict_cycle img t)
