-- The strict system: every node takes its next value in every cycle, from the values that the nodes feeding it have in that cycle.
use Rattle.std.specs.Prelude.{List, ℕ, zero, suc, ℤ, pos, get_or}
use Rattle.laws.specs.Table.{table}
use Rattle.image.specs.Image.{nodes, parameter, from}
use Rattle.node.specs.Node.{next_of}

-- node n's "next value from all values of cycle t", which are `values`: a channel brings its from node's
unfoldable pub strict_next : List ℕ → List ℤ → ℕ → ℤ
strict_next img values n = next_of img (λ c. get_or values (from img c) (pos 0)) n (get_or values n (pos 0))

-- all N values of a cycle: "Each node's value in cycle 0 is its parameter. In cycle t + 1 it is the next value from all values of cycle t."
unfoldable pub strict_cycle : List ℕ → ℕ → List ℤ
strict_cycle img zero = table (parameter img) (nodes img)
strict_cycle img (suc t) = table (strict_next img (strict_cycle img t)) (nodes img)

-- node n's value of cycle t in the strict system
unfoldable pub strict : List ℕ → ℕ → ℕ → ℤ
strict img n t = get_or (strict_cycle img t) n (pos 0)

-- "A channel's stream is its from node's values of cycles 0, 1, 2 and so on."
unfoldable pub stream : List ℕ → ℕ → ℕ → ℤ
stream img c t = strict img (from img c) t
