-- Lists given by what stands at each place: a whole table, and a table written over the front of a list, which is what a loop leaves in a lent array.
use Rattle.std.specs.Prelude.{List, [], ◌∷◌, ◌++◌, ℕ, zero, suc, drop}

module _ {A : Type 0} where
  -- f 0, f 1, .., f (n - 1)
  unfoldable pub table : (ℕ → A) → ℕ → List A
  table f zero = []
  table f (suc n) = table f n ++ (f n ∷ [])

  -- the list l with f 0, f 1, .., f (n - 1) over its first n places: what follows them stays
  unfoldable pub table_over : (ℕ → A) → ℕ → List A → List A
  table_over f n l = table f n ++ drop n l
