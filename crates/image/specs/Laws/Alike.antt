-- Images that differ in no byte before their depths have the same nodes on the same wires. Assumes nothing.
use Rattle.std.specs.Prelude.{List, ◌≡◌, refl, ℕ, ◌<◌, ◌+◌, ◌*◌, get_or}
use Rattle.std.proofs.Common.{arith}
use Rattle.image.specs.Image.{nodes, channels, kind, parameter, wire, from, to, port, depths}
use Rattle.image.specs.Alike.{SameButDepths, Alike}

-- an image is like itself
pub alike_same : (img : List ℕ) → Alike img img
alike_same img = record { sizes = (refl, refl); cores = λ n h. (refl, refl); wires = λ c h. (refl, refl, refl) }

pub bytes_alike : (img other : List ℕ) → SameButDepths img other → Alike img other
unfolding nodes channels kind parameter wire from to port depths
bytes_alike img other same =
    let n = nodes img in
    let c = channels img in
    let at : (k : ℕ) → k < 2 + 5 * n + 3 * c → get_or img k 0 ≡ get_or other k 0 = λ k h. same k (omega arith) in
    let ns : n ≡ nodes other = at 0 (omega arith) in
    record {
      sizes = (ns, at 1 (omega arith));
      cores = λ i h.
          let b = 2 + n + 4 * i in (
            at (2 + i) (omega arith),
            rw (← ns, at b (omega arith), at (b + 1) (omega arith), at (b + 2) (omega arith), at (b + 3) (omega arith)),
          );
      wires = λ i h.
          let w = 2 + 5 * n + 3 * i in
          (rw (← ns) (at w (omega arith)), rw (← ns) (at (w + 1) (omega arith)), rw (← ns) (at (w + 2) (omega arith)));
    }
