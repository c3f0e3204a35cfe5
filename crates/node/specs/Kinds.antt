-- The kinds of an image's nodes, as they are read into an array of 64.
use Rattle.std.specs.Prelude.{List, ◌≡◌, ℕ, ◌<◌, ◌≤◌, get_or, length}
use Rattle.image.specs.Image.{kind}
use Rattle.pearl.specs.declared.Kind.{Kind}
use Rattle.pearl.specs.declared.Kind.TheVariants.{Count}
use Rattle.pearl.specs.Kind.{kind_byte}

-- an array of the kinds of the nodes below n, whose other places hold the first kind
pub record KindsBelow (img : List ℕ) (n : ℕ) (kinds : List Kind) : Type 0 where
  pub long : length kinds ≡ 64
  pub each : (k : ℕ) → k < n → kind_byte (get_or kinds k Count) ≡ kind img k
  pub others : (k : ℕ) → n ≤ k → get_or kinds k Count ≡ Count
