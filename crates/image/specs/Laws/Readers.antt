-- Laws of what the readers answer. Assumes nothing.
use Rattle.std.specs.Prelude.{List, ◌≡◌, ℕ, ◌<◌, get_or}
use Rattle.laws.specs.Laws.Table.{padded-at}
use Rattle.image.specs.declared.Wire.{Wire}
use Rattle.image.specs.Image.{channels}
use Rattle.image.specs.Readers.{wire_at, no_wire, wires}

-- a channel's fields stand at its place among those of all channels
pub wires-at : (img : List ℕ) (c : ℕ) → c < channels img → (all : List Wire) → all ≡ wires img → get_or all c no_wire ≡ wire_at img c
unfolding wires
wires-at img c h all e = rw e (padded-at (wire_at img) (channels img) 96 c _ _ h)
