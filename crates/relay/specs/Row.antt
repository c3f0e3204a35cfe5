-- A row of places in one cycle, each the list of the tokens that it holds: the first is the one nearest to the from node. The row may be empty.
-- `link` is what the link that enters the row shows, and `stop` is the stop on the link that leaves it.
use Rattle.std.specs.Prelude.{Bool, List, [], ◌∷◌, ◌++◌, ℕ, zero, suc, ℤ, get_or, take}
use Rattle.laws.specs.Lists.{holds_two}
use Rattle.relay.specs.Station.{place_after}

-- whether the link that enters the row is stopped: "while station j + 1 holds 2 tokens", and as given where there is no station
unfoldable pub stopped : List (List ℤ) → Bool → Bool
stopped [] stop = stop
stopped (place ∷ row) stop = holds_two place

-- what the link that leaves the row shows: the oldest token of the last place, and what the entering link shows where there is no station
unfoldable pub leaving : List ℤ → List (List ℤ) → List ℤ
leaving link [] = link
leaving link (place ∷ row) = leaving (take 1 place) row

-- the row after a cycle
unfoldable pub row_after : List ℤ → List (List ℤ) → Bool → List (List ℤ)
row_after link [] stop = []
row_after link (place ∷ row) stop = place_after link place (stopped row stop) ∷ row_after (take 1 place) row stop

-- the tokens of a row, oldest first
unfoldable pub contents : List (List ℤ) → List ℤ
contents [] = []
contents (place ∷ row) = contents row ++ place

-- what link j shows, for a loop: "Link j above 0 is valid while station j holds a token, and shows the oldest". (Its stop is `stopped (drop j row)`)
unfoldable pub link_at : List ℤ → List (List ℤ) → ℕ → List ℤ
link_at link row zero = link
link_at link row (suc j) = take 1 (get_or row j [])
