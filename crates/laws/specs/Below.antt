-- What a test or a count says of all numbers below n. Each definition goes by its last number, so that one turn of a loop that counts up is one step
-- of the definition.
use Rattle.std.specs.Prelude.{Bool, true, false, ◌&&◌, ◌||◌, ℕ, zero, suc, ◌+◌, max}
use Rattle.laws.specs.Choice.{◌if◌else◌}

-- f holds at every number below n
unfoldable pub all_below : (ℕ → Bool) → ℕ → Bool
all_below f zero = true
all_below f (suc n) = all_below f n && f n

-- f holds at some number below n
unfoldable pub any_below : (ℕ → Bool) → ℕ → Bool
any_below f zero = false
any_below f (suc n) = any_below f n || f n

-- f 0 + f 1 + .. + f (n - 1)
unfoldable pub sum_below : (ℕ → ℕ) → ℕ → ℕ
sum_below f zero = 0
sum_below f (suc n) = sum_below f n + f n

-- the largest of f 0, f 1, .., f (n - 1), and 0 if there is none
unfoldable pub most_below : (ℕ → ℕ) → ℕ → ℕ
most_below f zero = 0
most_below f (suc n) = max (most_below f n) (f n)

-- f at the last number below n where the test holds, and d if it holds at none
unfoldable pub pick_below : {A : Type 0} → (ℕ → Bool) → (ℕ → A) → A → ℕ → A
pick_below test f d zero = d
pick_below test f d (suc n) = f n if test n else pick_below test f d n
