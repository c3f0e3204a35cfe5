-- What is left in the arrays that the letters and values of a cycle are written to. "The step writes C letters .. and C values, two parallel lent
-- arrays, and touches nothing beyond the first C of each."
use Rattle.std.specs.Prelude.{◌||◌, List, ◌++◌, ◌≡◌, ℕ, eqb, ltb, ℤ, length, drop}
use Rattle.laws.specs.Choice.{◌if◌else◌}
use Rattle.image.specs.Image.{channels}
use Rattle.state.specs.declared.State.{State}
use Rattle.cycle.specs.Cycle.{letters_of, values_of}

-- arrays are lent that hold `letters` and `values`
module _ (img : List ℕ) (s : State) (letters : List ℕ) (values : List ℤ) where
  -- 13, "a lent array shorter than the result", if one of them is
  unfoldable pub shown_number : ℕ
  shown_number = 13 if ltb (length letters) (channels img) || ltb (length values) (channels img) else 0

  -- the C letters and then the others as they were, or all as they were if one array is shorter
  unfoldable pub letters_shown : List ℕ
  letters_shown = (letters_of img s ++ drop (channels img) letters) if eqb shown_number 0 else letters

  -- the C values likewise
  unfoldable pub values_shown : List ℤ
  values_shown = (values_of img s ++ drop (channels img) values) if eqb shown_number 0 else values

-- what was done to arrays that hold `letters_left` and `values_left` after it: the contract ensures this record
pub record ShownDone
    (img : List ℕ) (s : State) (letters : List ℕ) (values : List ℤ) (number : ℕ) (letters_left : List ℕ) (values_left : List ℤ)
    : Type 0 where
  pub numbered : number ≡ shown_number img s letters values
  pub lettered : letters_left ≡ letters_shown img s letters values
  pub valued : values_left ≡ values_shown img s letters values
