-- Numbers as bytes: how they are written, and what bytes are read as. Each stands low byte first, a signed one in two's complement.
use Rattle.std.specs.Prelude.{List, [], ◌∷◌, ℕ, suc, ◌+◌, ◌*◌, ◌-◌, ◌/◌, ◌%◌, ◌^◌, ℤ, pos, negsuc, get_or}
use Rattle.laws.specs.Signed.{signed}

-- ---- written
-- a number of 32 bits as bytes
unfoldable pub number_bytes : ℕ → List ℕ
number_bytes n = n % 2 ^ 8 ∷ n / 2 ^ 8 % 2 ^ 8 ∷ n / 2 ^ 16 % 2 ^ 8 ∷ n / 2 ^ 24 % 2 ^ 8 ∷ []

-- the number from 0 on that has the same 32 bits as a signed one
unfoldable pub bits_of : ℤ → ℕ
bits_of (pos n) = n
bits_of (negsuc n) = 2 ^ 32 - suc n

-- a signed number as bytes
unfoldable pub signed_bytes : ℤ → List ℕ
signed_bytes value = number_bytes (bits_of value)

-- ---- read, from a place on. Past the last byte is 0.
-- the number in four bytes
abbrev pub four_bytes : List ℕ → ℕ → ℕ
four_bytes bytes at =
    get_or bytes at 0 + 2 ^ 8 * get_or bytes (at + 1) 0 + 2 ^ 16 * get_or bytes (at + 2) 0 + 2 ^ 24 * get_or bytes (at + 3) 0

-- the number in eight bytes
abbrev pub eight_bytes : List ℕ → ℕ → ℕ
eight_bytes bytes at = four_bytes bytes at + 2 ^ 32 * four_bytes bytes (at + 4)

-- the signed number in four bytes
abbrev pub signed_in : List ℕ → ℕ → ℤ
signed_in bytes at = signed (four_bytes bytes at)
