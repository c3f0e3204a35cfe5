-- What the parts of a writer do: they store a text from a place of the slice on.
use Rattle.std.specs.Prelude.{List, ◌≡◌, ℕ, ◌+◌, leb, length}
use Rattle.std.proofs.lemmas.List.Edits.{sets}
use Rattle.laws.specs.Choice.{◌if◌else◌}

-- a text was stored: it stands from place `at` on, all else is as it was, and `end` is the place after it
pub record Put (text : List ℕ) (at : ℕ) (old new : List ℕ) (end : ℕ) : Type 0 where
  pub bytes : new ≡ sets old at text
  pub next : end ≡ at + length text

-- the same for any place and slice: where the text has no room from `at` on, nothing was stored, and `end` is `at`
pub record PutDone (text : List ℕ) (at : ℕ) (old new : List ℕ) (end : ℕ) : Type 0 where
  pub bytes : new ≡ (sets old at text if leb (at + length text) (length old) else old)
  pub next : end ≡ (at + length text if leb (at + length text) (length old) else at)
