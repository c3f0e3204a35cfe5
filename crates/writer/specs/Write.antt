-- What a writer that is lent a slice answers, and what the slice holds after it: the text from its first place on and all else as it was; or a
-- refusal and nothing written, where it is "shorter than the result".
use Rattle.std.specs.Prelude.{List, ◌++◌, ◌≡◌, ℕ, ltb, length, take, drop, Result, Ok, Err}
use Rattle.io.specs.Counts.{IsPrefixLen}
use Rattle.laws.specs.Choice.{◌if◌else◌}
use Rattle.refusal.specs.Number.{number}
use Rattle.refusal.specs.declared.Refusal.{Refusal}
use Rattle.refusal.specs.declared.Refusal.TheVariants.{Room}

module _ (text out : List ℕ) where
  -- what a writer of the text answers that is lent a slice that holds `out`: how long the text is, or a refusal where the slice is shorter
  unfoldable pub written_answer : Result ℕ Refusal
  written_answer = Err Room if ltb (length out) (length text) else Ok (length text)

  -- what the slice holds after a writer of the text: the text and then what it held, or all that it held where it is shorter
  unfoldable pub written_over : List ℕ
  written_over = out if ltb (length out) (length text) else text ++ drop (length text) out

-- a writer of the text that was lent a slice that held `out` and holds `left` after it: its contract ensures this record
pub record WriteDone (text out : List ℕ) (answer : Result ℕ Refusal) (left : List ℕ) : Type 0 where
  pub answered : answer ≡ written_answer text out
  pub over : left ≡ written_over text out

-- what a writer's answer tells: the number of its refusal, 0 where there is none, and how long the text is, 0 where nothing was written
pub record WriteTold : Type 0 where
  pub number : ℕ
  pub length : ℕ

-- a writer that is refused answers its number beside 0
abbrev pub write_refusal : ℕ → WriteTold
write_refusal number = record { number = number; length = 0 }

-- what the code's answer of a writer tells
abbrev pub write_told : Result ℕ Refusal → WriteTold
write_told (Ok length) = record { number = 0; length = length }
write_told (Err refusal) = write_refusal (number refusal)

-- the first `count` bytes of a slice are the text
pub record Begins (bytes : List ℕ) (count : ℕ) (text : List ℕ) : Type 0 where
  pub counts : IsPrefixLen count bytes
  pub text_is : take count bytes ≡ text
