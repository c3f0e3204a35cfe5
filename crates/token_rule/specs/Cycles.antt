-- What a list of cycles does: how often each node fires in it, and what arrives on each channel.
use Prim.Native.Char.{code}
use Rattle.std.specs.Prelude.{List, [], ◌∷◌, ◌++◌, ℕ, ◌+◌, eqb, ℤ}
use Rattle.laws.specs.Choice.{◌if◌else◌}
use Rattle.laws.specs.Lists.{one_if}
use Rattle.state.specs.declared.State.{State}
use Rattle.cycle.specs.Cycle.{reading_at, fires, state_after}

-- how often node n fires in a list of cycles: "A node's firings are the cycles in which it fires by the rule."
unfoldable pub fired_in : List ℕ → State → List ℕ → ℕ → ℕ
fired_in img s [] n = 0
fired_in img s (word ∷ words) n = (1 if fires img word s n else 0) + fired_in img (state_after img word s) words n

-- "What has arrived on a channel is the values of its letters T in these cycles, in order"
unfoldable pub arrivals : List ℕ → State → List ℕ → ℕ → List ℤ
arrivals img s [] c = []
arrivals img s (word ∷ words) c =
    one_if (eqb (reading_at img s c).letter (code "T")) (reading_at img s c).value ++ arrivals img (state_after img word s) words c
