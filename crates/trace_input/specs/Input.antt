-- What standard input holds: "the image, then 8-byte words, low byte first."
use Rattle.std.specs.Prelude.{Bool, not, List, ℕ, ◌+◌, ◌*◌, ◌-◌, ◌/◌, ◌%◌, eqb, ltb, length, take}
use Rattle.laws.specs.Below.{any_below}
use Rattle.laws.specs.Choice.{◌if◌else◌, ◌then◌}
use Rattle.laws.specs.Table.{table}
use Rattle.numbers.specs.Numbers.{eight_bytes}
use Rattle.image.specs.Image.{nodes, length_due}
use Rattle.verdict.specs.Judge.{sizes_number, contents_number}
use Rattle.cycle.specs.Word.{sets_above}

-- the image of an input: as many bytes as its N and C ask for, or fewer where some are missing
unfoldable pub image_of : List ℕ → List ℕ
image_of input = take (length_due input) input

-- word k of an input, which has its words behind the image
unfoldable pub word_at : List ℕ → ℕ → ℕ
word_at input k = eight_bytes input (length_due input + 8 * k)

-- how many whole words follow the image of an input
unfoldable pub word_count : List ℕ → ℕ
word_count input = (length input - length_due input) / 8

-- the whole words of an input, in order
unfoldable pub words_of : List ℕ → List ℕ
words_of input = table (word_at input) (word_count input)

-- whether word k of an input sets a bit at or above N
abbrev pub above_at : List ℕ → ℕ → Bool
above_at input k = sets_above (nodes input) (word_at input k)

-- whether some word of an input sets a bit at or above N
abbrev pub any_above : List ℕ → Bool
any_above input = any_below (above_at input) (word_count input)

-- the number of an input of `size` bytes that begins with the given ones, or 0: "Bytes missing from the image, or a tail not of whole words, give 3.
-- Order: 1 to 11, 14, 12 over all words."
unfoldable pub input_number : List ℕ → ℕ → ℕ
input_number input size =
    let image = image_of input in
    let tail = size - length_due input in
    -- 1 and 2, and 3 for bytes missing from the image
    sizes_number image then
    -- a tail not of whole words
    3 if not (eqb (tail % 8) 0) else
    -- 4 to 11
    contents_number image then
    -- over 4,096 words
    14 if ltb 4096 (tail / 8) else
    -- a stall word sets a bit at or above N
    12 if any_above input else
    0
