-- What the strict run answers: "writes all N values of a cycle t, 0 to 1,000,000, to a lent array and touches nothing beyond its first N."
use Rattle.std.specs.Prelude.{List, ◌++◌, ℕ, eqb, ltb, ℤ, length, drop}
use Rattle.laws.specs.Choice.{◌if◌else◌, ◌then◌}
use Rattle.image.specs.Image.{nodes}
use Rattle.verdict.specs.Judge.{judge}
use Rattle.strict.specs.Strict.{strict_cycle}

-- the strict run's number, given a lent array of `room` places: "1 to 11 rising, each over the whole image; then .. 14, 13"
unfoldable pub strict_number : List ℕ → ℕ → ℕ → ℕ
strict_number img cycle room =
    judge img then
    -- strict cycle over 1,000,000
    14 if ltb 1000000 cycle else
    -- a lent array shorter than the result
    13 if ltb room (nodes img) else
    0

-- what the lent array holds after the strict run, from what it held before: a refused run writes nothing
unfoldable pub strict_written : List ℕ → ℕ → List ℤ → List ℤ
strict_written img cycle old =
    (strict_cycle img cycle ++ drop (nodes img) old) if eqb (strict_number img cycle (length old)) 0 else
    old
