-- The edition of the calls for C. It rises with each change after which a program that was built with the header of before, or a state that it has kept,
-- is of no use any more.
use Rattle.std.specs.Prelude.{ℕ}

-- the edition
abbrev pub edition : ℕ
edition = 1
