-- The starred edges of the arithmetic: kind, inputs and expected value. `negsuc n` is - (n + 1).
use Rattle.std.specs.Prelude.{List, [], ◌∷◌, ℕ, ℤ, pos, negsuc, get_or}
use Rattle.pearl.specs.Next.{next_value}
use Rattle.starred.specs.declared.Edge.{Edge}

-- an edge: a kind, the inputs s, a, b and c, and the next value expected
abbrev edge : ℕ → List ℤ → ℤ → Edge
edge kind inputs expected = record { kind = kind; inputs = inputs; expected = expected }

-- the table of the arithmetic's starred edges
abbrev pub edges : List Edge
edges =
    -- "halve −1 gives −1", "halve −3 gives −2", "halve 7 gives 3"
    edge 5 (pos 0 ∷ negsuc 0 ∷ pos 0 ∷ pos 0 ∷ []) (negsuc 0)
    ∷ edge 5 (pos 0 ∷ negsuc 2 ∷ pos 0 ∷ pos 0 ∷ []) (negsuc 1)
    ∷ edge 5 (pos 0 ∷ pos 7 ∷ pos 0 ∷ pos 0 ∷ []) (pos 3)
    -- "negate −2147483648 gives itself"
    ∷ edge 4 (pos 0 ∷ negsuc 2147483647 ∷ pos 0 ∷ pos 0 ∷ []) (negsuc 2147483647)
    -- "2147483647 + 1 gives −2147483648": by count, total and sum
    ∷ edge 1 (pos 2147483647 ∷ pos 0 ∷ pos 0 ∷ pos 0 ∷ []) (negsuc 2147483647)
    ∷ edge 3 (pos 2147483647 ∷ pos 1 ∷ pos 0 ∷ pos 0 ∷ []) (negsuc 2147483647)
    ∷ edge 6 (pos 0 ∷ pos 2147483647 ∷ pos 1 ∷ pos 0 ∷ []) (negsuc 2147483647)
    -- "choose takes b at −1 and c at 0"
    ∷ edge 9 (pos 0 ∷ negsuc 0 ∷ pos 11 ∷ pos 22 ∷ []) (pos 11)
    ∷ edge 9 (pos 0 ∷ pos 0 ∷ pos 11 ∷ pos 22 ∷ []) (pos 22)
    ∷ []

-- entry i of the table, all zeros past the table's end
abbrev pub edge_at : ℕ → Edge
edge_at i = get_or edges i (edge 0 (pos 0 ∷ pos 0 ∷ pos 0 ∷ pos 0 ∷ []) (pos 0))

-- the value that an edge's inputs give
abbrev pub given : Edge → ℤ
given e =
    let input : ℕ → ℤ = λ i. get_or e.inputs i (pos 0) in
    next_value e.kind (input 0) (input 1) (input 2) (input 3)
