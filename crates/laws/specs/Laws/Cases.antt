-- Cases on an order or a flag, and the parts of a flag. Assumes nothing.
use Rattle.std.specs.Prelude.{◌≡◌, refl, Bool, true, false, not, ◌&&◌, ◌||◌, ◌⊎◌, ℕ, suc, ◌<◌, ◌≤◌}
use Rattle.std.proofs.lemmas.Bool.{false≢true}
use Rattle.std.proofs.Common.{true≢false, inl, inr, le_of_suc-le-suc, eq-or-lt_of_le, arith}
use Rattle.std.proofs.Math.Decide.{dec_lt}

-- a flag is true or is false
pub true_or_false : (b : Bool) → (b ≡ true) ⊎ (b ≡ false)
true_or_false true = inl refl
true_or_false false = inr refl

-- of two numbers a and b, a is below b or b is at most a
pub lt-or-ge : (a b : ℕ) → (a < b) ⊎ (b ≤ a)
lt-or-ge a b = by_dec (dec_lt a b)
  where
    by_dec : Dec (a < b) → (a < b) ⊎ (b ≤ a)
    by_dec (yes h) = inl h
    by_dec (no f) = inr (omega arith)

-- a number below suc n is n, or is below n
pub below_suc : {k n : ℕ} → k < suc n → (k ≡ n) ⊎ (k < n)
below_suc h = eq-or-lt_of_le (le_of_suc-le-suc h)

-- an `&&` that holds: both of its parts hold
pub and_left : (a b : Bool) → (a && b) ≡ true → a ≡ true
and_left true b e = refl
and_left false b e = e

pub and_right : (a b : Bool) → (a && b) ≡ true → b ≡ true
and_right true b e = e
and_right false b e = absurd (false≢true e)

-- an `||` that fails: both of its parts fail
pub or_left : (a b : Bool) → (a || b) ≡ false → a ≡ false
or_left true b e = absurd (true≢false e)
or_left false b e = refl

pub or_right : (a b : Bool) → (a || b) ≡ false → b ≡ false
or_right true b e = absurd (true≢false e)
or_right false b e = e

-- an `||` fails exactly where both of its parts fail
pub not-or : (a b : Bool) → not (a || b) ≡ (not a && not b)
not-or true b = refl
not-or false b = refl
