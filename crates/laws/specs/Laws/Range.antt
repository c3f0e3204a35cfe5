-- What a range's test says. Assumes nothing.
use Rattle.std.specs.Prelude.{false, ◌↔◌, ◌≡◌, ℕ, ◌≤◌, ltb}
use Rattle.laws.specs.Range.{outside}
use Rattle.laws.specs.Laws.Tests.{ge-iff, nor-iff}

-- the test that x is outside the range fails exactly if x is from a to b
pub inside : (a b x : ℕ) → (outside a b x ≡ false) ↔ ((a ≤ x) × (x ≤ b))
inside a b x = nor-iff (ltb x a) (ltb b x) (ge-iff x a) (ge-iff b x)
