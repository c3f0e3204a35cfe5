-- The table of kinds: how many inputs a node of each kind has, and its next value from its present value s and its ports' values a, b and c.
use Rattle.std.specs.Prelude.{Bool, List, [], ◌∷◌, ℕ, ◌/◌, ℤ, pos, negsuc, ◌+ℤ◌, ◌-ℤ◌, get_or}
use Rattle.std.specs.Int.Signed.{lt_z}
use Rattle.laws.specs.Choice.{◌if◌else◌}
use Rattle.laws.specs.Range.{outside}

-- "a / 2, rounded toward minus infinity" (`negsuc n` is - (n + 1); half of that, rounded down, is - (n / 2 + 1))
unfoldable pub halve : ℤ → ℤ
halve (pos n) = pos (n / 2)
halve (negsuc n) = negsuc (n / 2)

-- "the greater of a and b"
unfoldable pub larger : ℤ → ℤ → ℤ
larger a b = b if lt_z a b else a

-- "b if a is negative, otherwise c"
unfoldable pub choose : ℤ → ℤ → ℤ → ℤ
choose a b c = b if lt_z a (pos 0) else c

-- a line of the table: the number of inputs, and the next value in the integers, where nothing is wrapped
pub record Line : Type 0 where
  pub inputs : ℕ
  pub exact : ℤ → ℤ → ℤ → ℤ → ℤ

abbrev line : ℕ → (ℤ → ℤ → ℤ → ℤ → ℤ) → Line
line inputs exact = record { inputs = inputs; exact = exact }

-- what stands for a number that is no kind
abbrev pub no_line : Line
no_line = line 0 (λ s a b c. pos 0)

-- the line of each kind, at the place of its number
abbrev pub kinds : List Line
kinds =
    no_line  -- 0 is no kind
    ∷ line 0 (λ s a b c. s +ℤ pos 1)  -- 1, count
    ∷ line 1 (λ s a b c. a)  -- 2, hold
    ∷ line 1 (λ s a b c. s +ℤ a)  -- 3, total
    ∷ line 1 (λ s a b c. pos 0 -ℤ a)  -- 4, negate
    ∷ line 1 (λ s a b c. halve a)  -- 5, halve
    ∷ line 2 (λ s a b c. a +ℤ b)  -- 6, sum
    ∷ line 2 (λ s a b c. a -ℤ b)  -- 7, difference
    ∷ line 2 (λ s a b c. larger a b)  -- 8, larger
    ∷ line 3 (λ s a b c. choose a b c)  -- 9, choose
    ∷ []

-- the largest number of a kind
abbrev pub last_kind : ℕ
last_kind = 9

-- "kind not 1 to 9"
abbrev pub no_kind : ℕ → Bool
no_kind kind = outside 1 last_kind kind

-- how many inputs a kind has, 0 for a number that is no kind
unfoldable pub inputs : ℕ → ℕ
inputs kind = (get_or kinds kind no_line).inputs

-- the next value of a node of a kind, in the integers, 0 for a number that is no kind
unfoldable pub exact : ℕ → ℤ → ℤ → ℤ → ℤ → ℤ
exact kind s a b c = (get_or kinds kind no_line).exact s a b c
