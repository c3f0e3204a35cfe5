-- What the judge's passes find is what its definition asks, once numbers 4 to 6 have no cause. Assumes nothing.
use Rattle.std.specs.Prelude.{true, List, ◌≡◌, ℕ, suc, ◌≤◌, ◌<◌}
use Rattle.std.proofs.Math.Bool.{false, not}
use Rattle.std.proofs.Math.Path.{ap}
use Rattle.std.proofs.Common.{◌∙◌, arith}
use Rattle.std.proofs.Math.ListN.{get_or}
use Rattle.laws.specs.Below.{any_below}
use Rattle.laws.specs.Laws.Below.{none-iff, any_same, any_hit, pick_any}
use Rattle.kinds.specs.Kinds.{inputs}
use Rattle.kinds.specs.Laws.Kinds.{inputs_few}
use Rattle.image.specs.Image.{feeds, nodes, channels, kind, to, port}
use Rattle.verdict.specs.Judge.{bad_wire, bad_port, fed_twice, not_fed}
use Rattle.verdict.specs.Laws.Judge.{wire_ok, port_ok}
use Rattle.verdict.specs.Loops.Passes.{fed_below, finds, twice_below, misses}
use Rattle.image.specs.Loops.Ports.{port_place, Wired}
use Rattle.image.specs.Loops.PortsLaws.{fewer, ports_at}

module _ (img : List ℕ) where
  -- where numbers 5 and 6 have no cause, every channel leads to a port that has a place
  pub wired : (c : ℕ) → nodes img ≤ 64 → any_below (bad_wire img) c ≡ false → any_below (bad_port img) c ≡ false → Wired img c
  wired c few w p =
      record {
        node = λ k h. omega (arith, (none-iff (bad_wire img) c (wire_ok img)).0 w k h);
        input = λ k h. omega (arith, (none-iff (bad_port img) c (port_ok img)).0 p k h, inputs_few (kind img (to img k)));
      }

  -- the place of a port says that it is fed exactly if a channel below c feeds it
  fed_at : (c : ℕ) → Wired img c → (n p : ℕ) → n < 64 → p < 3 → get_or (fed_below img c) (port_place n p) false ≡ any_below (feeds img n p) c
  unfolding fed_below
  fed_at c w n p h l = ports_at img (λ k. true) false c w n p h l ∙ pick_any (feeds img n p) c

  -- number 7: some channel below c finds its port fed already exactly if the definition finds a port fed twice
  pub twice_is : (c : ℕ) → Wired img c → twice_below img c ≡ any_below (fed_twice img) c
  unfolding twice_below fed_twice
  twice_is c w =
      any_same (finds img) (fed_twice img) c λ k h.
      fed_at k (fewer img k c (omega arith) w) (to img k) (port img k) (w.node k h) (w.input k h)

  -- for the loop: a channel that finds its port fed already is a cause of number 7, and a channel that does not adds none
  pub twice_found : (k c : ℕ) → k < c → finds img k ≡ true → twice_below img c ≡ true
  unfolding twice_below
  twice_found k c h e = any_hit (finds img) k c h e

  pub twice_more : (k : ℕ) → twice_below img k ≡ false → finds img k ≡ false → twice_below img (suc k) ≡ false
  unfolding twice_below any_below
  twice_more k h e = rw (h, e)

  -- number 8: the pass misses a port of some node exactly if the definition finds a port not fed
  pub misses_is : nodes img ≤ 64 → Wired img (channels img) →
      any_below (misses img (fed_below img (channels img))) (nodes img) ≡ any_below (not_fed img) (nodes img)
  unfolding misses not_fed
  misses_is few w =
      let c = channels img in
      any_same (misses img (fed_below img c)) (not_fed img) (nodes img) λ n h.
      any_same (λ p. not (get_or (fed_below img c) (port_place n p) false)) (λ p. not (any_below (feeds img n p) c)) (inputs (kind img n)) λ p l.
      ap not (fed_at c w n p (omega arith) (omega (arith, inputs_few (kind img n))))
