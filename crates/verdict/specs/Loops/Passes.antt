-- What the judge's passes look at: the ports that the channels below c feed.
use Rattle.std.specs.Prelude.{Bool, true, false, not, List, ℕ, get_or}
use Rattle.laws.specs.Below.{any_below}
use Rattle.kinds.specs.Kinds.{inputs}
use Rattle.image.specs.Image.{kind, to, port}
use Rattle.image.specs.Loops.Ports.{port_place, ports_below}

-- at the place of each port, whether a channel below c feeds it
unfoldable pub fed_below : List ℕ → ℕ → List Bool
fed_below img c = ports_below img (λ k. true) false c

-- whether channel c finds its port fed already, by a channel below c
abbrev pub finds : List ℕ → ℕ → Bool
finds img c = get_or (fed_below img c) (port_place (to img c) (port img c)) false

-- whether some channel below c finds its port fed already
unfoldable pub twice_below : List ℕ → ℕ → Bool
twice_below img c = any_below (finds img) c

-- whether some port of node n is not among those that are fed
unfoldable pub misses : List ℕ → List Bool → ℕ → Bool
misses img ports n = any_below (λ p. not (get_or ports (port_place n p) false)) (inputs (kind img n))
