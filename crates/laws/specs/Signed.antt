-- Signed numbers of 32 bits in two's complement.
use Rattle.std.specs.Prelude.{Bool, false, cond, ℕ, suc, ◌-◌, ◌^◌, eqb, ltb, ℤ, pos, negsuc}

-- the signed number whose 32 bits are those of n, a number below 2 ^ 32: n below 2 ^ 31, else n - 2 ^ 32 (`negsuc m` is - (m + 1))
unfoldable pub signed : ℕ → ℤ
signed n = cond (ltb n (2 ^ 31)) (pos n) (negsuc (2 ^ 32 - suc n))

-- whether the number is 0
abbrev pub is_zero : ℤ → Bool
is_zero (pos n) = eqb n 0
is_zero (negsuc n) = false
