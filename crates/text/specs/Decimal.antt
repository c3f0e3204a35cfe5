-- Numbers as text: "Numbers are decimal, with a minus sign if negative and no needless leading zeros."
use Rattle.std.specs.Prelude.{List, [], ◌∷◌, ◌++◌, ℕ, zero, suc, ◌+◌, ◌^◌, ◌/◌, ◌%◌, ltb, ℤ, pos, negsuc}
use Prim.Native.Char.{code}
use Rattle.laws.specs.Choice.{◌if◌else◌}

-- the last digit of n, as its byte
abbrev pub digit : ℕ → ℕ
digit n = code "0" + n % 10

-- n in decimal, with at most `more` digits before the last: a number below 10 is its digit; any other is n / 10 in decimal, and then its last digit
unfoldable pub places : ℕ → ℕ → List ℕ
places zero n = digit n ∷ []
places (suc more) n = (digit n ∷ []) if ltb n 10 else (places more (n / 10) ++ (digit n ∷ []))

-- n in decimal: `decimal n ≡ digit n ∷ []` below 10 (`decimal_small` in Laws/Decimal), `decimal n ≡ decimal (n / 10) ++ (digit n ∷ [])` from 10 on
-- (`decimal_step`), since so many digits are enough: 20 up to 10^20 - 1, which holds every number of 64 bits, and more for larger numbers
unfoldable pub decimal : ℕ → List ℕ
decimal n = places (19 + n / 10 ^ 19) n

-- a signed number in decimal, "with a minus sign if negative"
unfoldable pub signed_text : ℤ → List ℕ
signed_text (pos n) = decimal n
signed_text (negsuc n) = code "-" ∷ decimal (suc n)
