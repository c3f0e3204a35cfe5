-- Images that differ at most in their depths: the same nodes on the same wires.
use Rattle.std.specs.Prelude.{List, ◌≡◌, ℕ, ◌<◌, get_or}
use Rattle.image.specs.Image.{nodes, channels, kind, parameter, from, to, port, depths}

-- every byte before the depths is the same in both images: they differ in station and queue bytes only
abbrev pub SameButDepths : List ℕ → List ℕ → Type 0
SameButDepths img other = (at : ℕ) → at < depths img 0 → get_or img at 0 ≡ get_or other at 0

-- both images have the same nodes on the same wires, field by field. Laws/Alike proves it of images that are `SameButDepths`.
pub record Alike (img other : List ℕ) : Type 0 where
  pub sizes : (nodes img ≡ nodes other) × (channels img ≡ channels other)
  pub cores : (n : ℕ) → n < nodes img → (kind img n ≡ kind other n) × (parameter img n ≡ parameter other n)
  pub wires : (c : ℕ) → c < channels img → (from img c ≡ from other c) × (to img c ≡ to other c) × (port img c ≡ port other c)
