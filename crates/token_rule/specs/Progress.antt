-- The words of the token rule's last part: "wherever R + 1 cycles of the list follow one another, every node furthest behind in firings at their
-- start, and stalled in none of them, fires at least once in them."
use Rattle.std.specs.Prelude.{false, List, [], ◌∷◌, ◌≡◌, ℕ, ◌<◌, ◌≤◌}
use Rattle.image.specs.Image.{nodes}
use Rattle.state.specs.declared.State.{State}
use Rattle.state.specs.State.{firings_at}
use Rattle.cycle.specs.Word.{stalled}

-- "Furthest behind are the nodes with the least firings of all N.": n is one of them
abbrev pub Furthest : List ℕ → State → ℕ → Type 0
Furthest img s n = (i : ℕ) → i < nodes img → firings_at s n ≤ firings_at s i

-- "A node is stalled in a cycle if its bit is set in that word.": n is stalled in none of these words' cycles
unfoldable pub Awake : ℕ → List ℕ → Type 0
Awake n [] = Unit {0}
Awake n (word ∷ words) = (stalled word n ≡ false) × Awake n words
