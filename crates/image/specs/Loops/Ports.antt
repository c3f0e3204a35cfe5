-- Arrays with a place for each input port: whether it is fed, and what a cycle brings to it.
use Rattle.std.specs.Prelude.{List, ℕ, zero, suc, ◌+◌, ◌*◌, ◌<◌, set, replicate}
use Rattle.image.specs.Image.{to, port}

-- the place of port p of node n among 3 ports for each of 64 nodes
abbrev pub port_place : ℕ → ℕ → ℕ
port_place n p = 3 * n + p

-- each channel below c leads to a port that has a place: a node below 64, an input below 3
pub record Wired (img : List ℕ) (c : ℕ) : Type 0 where
  pub node : (k : ℕ) → k < c → to img k < 64
  pub input : (k : ℕ) → k < c → port img k < 3

-- the array in which each channel k below c has written `brings k` to the place of the port that it feeds; d stands where none has written
unfoldable pub ports_below : {A : Type 0} → List ℕ → (ℕ → A) → A → ℕ → List A
ports_below img brings d zero = replicate 192 d
ports_below img brings d (suc c) = set (ports_below img brings d c) (port_place (to img c) (port img c)) (brings c)
