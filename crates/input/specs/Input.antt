-- What holds of an input that was read to its end, and what is left free.
use Rattle.std.specs.Prelude.{List, ◌≡◌, ℕ, Option, IfSome, min, length, take}
use Rattle.std.specs.Io.{StartsWith}
use Rattle.std.specs.Io.Iter.{u64_saturate}
use Rattle.io.specs.Counts.{IsPrefixLen}
use Rattle.input.specs.declared.Input.{Input}

-- What was read, whether or not a read failed; `buffer` is what the buffer holds then. `known` is what the reader knows of the bytes that it is to
-- bring: `Some` list for bytes in memory, `None` for standard input, which knows nothing. Free are
--   which bytes come, and how many, where nothing is known;
--   whether a read fails, and how many bytes came before it;
--   what the buffer holds behind the bytes that are kept.
pub record Read (known : Option (List ℕ)) (input : Input) (buffer : List ℕ) : Type 0 where
  -- the bytes kept are the first of the buffer
  pub counts : IsPrefixLen input.kept buffer
  -- as many are kept as came and had room
  pub kept_is : input.kept ≡ min input.length (length buffer)
  -- they are the first that the reader was to bring
  pub kept_known : IfSome known (λ bytes. StartsWith bytes (take input.kept buffer))

-- no read failed: all that the reader was to bring came, and is counted
pub record Whole (known : Option (List ℕ)) (input : Input) (buffer : List ℕ) : Type 0 where
  pub read : Read known input buffer
  pub length_known : IfSome known (λ bytes. input.length ≡ u64_saturate (length bytes))

-- a read failed: what came before it is counted as far as it is kept
pub record Part (known : Option (List ℕ)) (input : Input) (buffer : List ℕ) : Type 0 where
  pub read : Read known input buffer
  pub length_is : input.length ≡ input.kept
