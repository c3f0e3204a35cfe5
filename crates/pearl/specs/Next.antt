-- A node's next value from its present value s and its ports' values a, b and c: what the table of kinds says, wrapped.
use Rattle.std.specs.Prelude.{Result, Ok, Err, ℕ, ℤ}
use Rattle.laws.specs.Choice.{◌if◌else◌}
use Rattle.refusal.specs.declared.Refusal.{Refusal}
use Rattle.refusal.specs.declared.Refusal.TheVariants.{Kind as NoKind}
use Rattle.kinds.specs.Kinds.{no_kind, exact}
use Rattle.pearl.specs.Wrap.{wrap}

-- the next value of a node
unfoldable pub next_value : ℕ → ℤ → ℤ → ℤ → ℤ → ℤ
next_value kind s a b c = wrap (exact kind s a b c)

-- the next value by any number: one that is no kind is refused
unfoldable pub next : ℕ → ℤ → ℤ → ℤ → ℤ → Result ℤ Refusal
next kind s a b c = Err NoKind if no_kind kind else Ok (next_value kind s a b c)
