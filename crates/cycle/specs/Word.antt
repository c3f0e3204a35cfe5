-- Stall words: "A stall word has 64 bits; bit i stalls node i."
use Rattle.std.specs.Prelude.{Bool, false, not, List, ◌≡◌, ℕ, ◌/◌, ◌%◌, ◌^◌, eqb}
use Rattle.std.specs.List.{All}

-- whether a word stalls node n: its bit n is set
unfoldable pub stalled : ℕ → ℕ → Bool
stalled word n = eqb (word / 2 ^ n % 2) 1

-- 12, "stall word sets a bit at or above N": the word's bits from n on are not all 0
unfoldable pub sets_above : ℕ → ℕ → Bool
sets_above n word = not (eqb (word / 2 ^ n) 0)

-- no word of a list sets a bit at or above n
abbrev pub Own : ℕ → List ℕ → Type 0
Own n words = All (λ word. sets_above n word ≡ false) words
