-- Laws of a node's ports and of its next value. Assumes nothing.
use Rattle.std.specs.Prelude.{List, ◌≡◌, refl, ℕ, ◌<◌, ℤ, pos}
use Rattle.std.proofs.Common.{ap, ◌∙◌}
use Rattle.laws.specs.Below.{pick_below}
use Rattle.laws.specs.Laws.Below.{pick_same, pick_only}
use Rattle.image.specs.Image.{nodes, channels, to, port, feeds}
use Rattle.verdict.specs.Accepted.{Accepted}
use Rattle.image.specs.Alike.{Alike}
use Rattle.image.specs.Loops.PortsLaws.{feeds_ok}
use Rattle.node.specs.Node.{port_value, next_of}

-- "Each input port is fed by exactly one channel": what that channel brings is on the port
pub port_fed : (img : List ℕ) → Accepted img → (brings : ℕ → ℤ) (c : ℕ) → c < channels img → port_value img brings (to img c) (port img c) ≡ brings c
unfolding port_value
port_fed img a brings c h =
    let n = to img c in
    let p = port img c in
    pick_only (feeds img n p) brings (pos 0) c (channels img) h ((feeds_ok img n p c).1 (refl, refl))
    (λ b l e. let f = (feeds_ok img n p b).0 e in a.once b c l h f.0 f.1)

feeds_same : (img other : List ℕ) → Alike img other → (n p c : ℕ) → c < channels img → feeds img n p c ≡ feeds other n p c
unfolding feeds
feeds_same img other a n p c l = rw ((a.wires c l).1, (a.wires c l).2)

-- the value on a node's port depends on the wires and on what the channels to the node bring, and on no more
port_same :
    (img other : List ℕ) → Alike img other → (f g : ℕ → ℤ) (n p : ℕ)
    → ((c : ℕ) → c < channels img → to img c ≡ n → f c ≡ g c) → port_value img f n p ≡ port_value other g n p
unfolding port_value
port_same img other a f g n p h =
    pick_same (feeds img n p) (feeds other n p) f g (pos 0) (channels img) (λ c l. feeds_same img other a n p c l)
    (λ c l e. h c l ((a.wires c l).1 ∙ ((feeds_ok other n p c).0 e).0))
    ∙ ap (pick_below (feeds other n p) g (pos 0)) a.sizes.1

pub next_same :
    (img other : List ℕ) → Alike img other → (f g : ℕ → ℤ) (n : ℕ) (s : ℤ) → n < nodes img
    → ((c : ℕ) → c < channels img → to img c ≡ n → f c ≡ g c) → next_of img f n s ≡ next_of other g n s
unfolding next_of
next_same img other a f g n s l h = rw ((a.cores n l).0, port_same img other a f g n 0 h, port_same img other a f g n 1 h, port_same img other a f g n 2 h)
