-- Lists that are filled at the end and emptied at the front, and arrays that hold such a list.
use Rattle.std.specs.Prelude.{Bool, true, false, ◌||◌, List, [], ◌∷◌, ◌++◌, ◌≡◌, ℕ, ◌-◌, ◌≤◌, ltb, ℤ, pos, length, get_or, drop, replicate}
use Rattle.laws.specs.Below.{all_below}
use Rattle.laws.specs.Choice.{◌if◌else◌}
use Rattle.laws.specs.Signed.{is_zero}

module _ {A : Type 0} where
  -- whether the list holds an element
  abbrev pub holds : List A → Bool
  holds [] = false
  holds (x ∷ xs) = true

  -- whether the list holds two elements or more
  abbrev pub holds_two : List A → Bool
  holds_two [] = false
  holds_two (x ∷ xs) = holds xs

  -- x alone where the test holds, and nothing where it does not
  abbrev pub one_if : Bool → A → List A
  one_if test x = (x ∷ []) if test else []

  -- the list without its first element where the test holds
  abbrev pub drop_if : Bool → List A → List A
  drop_if test xs = drop 1 xs if test else xs

  -- the list with d behind it until it has n elements
  unfoldable pub padded : ℕ → A → List A → List A
  padded n d xs = xs ++ replicate (n - length xs) d

-- an array of n places of which the first `count` hold an element, and each of the others is d
pub record Stored {A : Type 0} (n : ℕ) (d : A) (l : List A) (count : ℕ) : Type 0 where
  pub few : count ≤ n
  pub long : length l ≡ n
  pub rest : (k : ℕ) → count ≤ k → get_or l k d ≡ d

-- whether in an array of n numbers all places from `count` on are 0
unfoldable pub zero_from : ℕ → ℕ → List ℤ → Bool
zero_from n count l = all_below (λ i. ltb i count || is_zero (get_or l i (pos 0))) n
