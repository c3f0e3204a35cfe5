-- A choice by a test, read from the top: "a if p else b if q else c"; and the first of several numbers that is not 0.
use Rattle.std.specs.Prelude.{Bool, cond, not, ℕ, eqb}

infixr 5 ◌if◌else◌
-- x where the test holds, otherwise y
abbrev pub ◌if◌else◌ : {A : Type 0} → A → Bool → A → A
x if test else y = cond test x y

infixr 5 ◌then◌
-- the first of two numbers that is not 0: of numbers that refuse a call, in their order, the one that it answers. It binds as the choice does, so that
-- a chain of tests goes on through it
abbrev pub ◌then◌ : ℕ → ℕ → ℕ
number then later = number if not (eqb number 0) else later
