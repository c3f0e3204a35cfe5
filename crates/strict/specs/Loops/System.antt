-- A cycle worked from what the code decodes of an image.
use Rattle.std.specs.Prelude.{List, ◌≡◌, ℕ, ◌+◌, ◌*◌, ℤ, pos, get_or}
use Rattle.laws.specs.Table.{table_over}
use Rattle.image.specs.Image.{nodes, channels}
use Rattle.pearl.specs.declared.Kind.TheVariants.{Count}
use Rattle.pearl.specs.Kind.{kind_byte}
use Rattle.pearl.specs.Next.{next_value}
use Rattle.node.specs.Kinds.{KindsBelow}
use Rattle.strict.specs.declared.System.{System}
use Rattle.strict.specs.Loops.Decoded.{feeders_below, port_on}

-- what the code decodes of an image: the number of nodes, their kinds, and the node that feeds each port
pub record DecodedFrom (img : List ℕ) (system : System) : Type 0 where
  pub counted : system.nodes ≡ nodes img
  pub kinds : KindsBelow img (nodes img) system.kinds
  pub fed : system.feeders ≡ feeders_below img (channels img)

-- node n's value after a cycle
unfoldable pub value_after : System → List ℤ → ℕ → ℤ
value_after system values n =
    let on : ℕ → ℤ = port_on values system.feeders in
    next_value (kind_byte (get_or system.kinds n Count)) (get_or values n (pos 0)) (on (3 * n)) (on (3 * n + 1)) (on (3 * n + 2))

-- the 65 values after a cycle
unfoldable pub values_after : System → List ℤ → List ℤ
values_after system values = table_over (value_after system values) system.nodes values
