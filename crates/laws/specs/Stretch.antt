-- A stretch of a stream: the list is f a, f (a + 1), f (a + 2) and so on, as long as it is.
use Rattle.std.specs.Prelude.{List, [], ◌∷◌, ◌≡◌, ℕ, suc}

unfoldable pub Stretch : {A : Type 0} → (ℕ → A) → ℕ → List A → Type 0
Stretch f a [] = Unit {0}
Stretch f a (x ∷ xs) = (x ≡ f a) × Stretch f (suc a) xs
