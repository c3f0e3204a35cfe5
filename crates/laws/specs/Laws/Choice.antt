-- Laws of choices between numbers. Assumes nothing.
use Rattle.std.specs.Prelude.{Bool, true, false, ◌≡◌, refl, ℕ, zero, suc, ◌≤◌}
use Rattle.std.proofs.Common.{arith, ne_eqb}
use Rattle.laws.specs.Choice.{◌if◌else◌, ◌then◌}

-- a test counted as 1 or as 0 is at most 1
pub one_few : (b : Bool) → (1 if b else 0) ≤ 1
one_few true = omega arith
one_few false = omega arith

-- ---- a chain, "14 if .. else 13 if .. else 0", whose answer is 0
-- where a chain of numbers answers 0, its first test has failed, and the rest of the chain answers 0
pub past : (k later : ℕ) (test : Bool) → (suc k if test else later) ≡ 0 → (test ≡ false) × (later ≡ 0)
past k later true e = absurd (omega arith)
past k later false e = (refl, e)

-- where a chain that begins with the number of another chain answers 0, that number is 0, and the rest of the chain answers 0
pub past_number : (number later : ℕ) → (number then later) ≡ 0 → (number ≡ 0) × (later ≡ 0)
past_number zero later e = (refl, e)
past_number (suc k) later e = let h : suc k ≡ 0 = rw (ne_eqb (suc k) 0 (λ q. omega arith)) at e in absurd (omega arith)

-- ---- two chains that begin alike
-- they have the same answer if the rest has, where it is asked: where the first test has failed
pub alike : (k later other : ℕ) (test : Bool) → (test ≡ false → later ≡ other) → (k if test else later) ≡ (k if test else other)
alike k later other true h = refl
alike k later other false h = h refl

-- and where the number that they begin with is 0
pub alike_number : (number later other : ℕ) → (number ≡ 0 → later ≡ other) → (number then later) ≡ (number then other)
alike_number zero later other h = h refl
alike_number (suc k) later other h = rw (ne_eqb (suc k) 0 (λ q. omega arith))
