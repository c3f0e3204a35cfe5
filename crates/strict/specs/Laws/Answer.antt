-- What the strict run has written. Assumes nothing.
use Rattle.std.specs.Prelude.{List, ◌++◌, ◌≡◌, ℕ, ℤ, length, drop}
use borrow.Author.Tests.{ne_eqb, eq-eqb}
use Rattle.image.specs.Image.{nodes}
use Rattle.strict.specs.Strict.{strict_cycle}
use Rattle.strict.specs.Answer.{strict_number, strict_written}

module _ (img : List ℕ) (cycle : ℕ) (old : List ℤ) where
  pub written_none : (strict_number img cycle (length old) ≡ 0 → ⊥) → old ≡ strict_written img cycle old
  unfolding strict_written
  written_none n = rw (ne_eqb (strict_number img cycle (length old)) 0 n)

  pub written_all : strict_number img cycle (length old) ≡ 0 → strict_cycle img cycle ++ drop (nodes img) old ≡ strict_written img cycle old
  unfolding strict_written
  written_all e = rw (eq-eqb (strict_number img cycle (length old)) 0 e)
