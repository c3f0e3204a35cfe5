-- A number outside a range.
use Rattle.std.specs.Prelude.{Bool, ◌||◌, ℕ, ltb}

-- whether x is not from a to b
abbrev pub outside : ℕ → ℕ → ℕ → Bool
outside a b x = ltb x a || ltb b x
