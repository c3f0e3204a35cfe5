-- Laws of ports, and of arrays with a place for each of them. Assumes nothing.
use Rattle.std.specs.Prelude.{true, false, List, ◌↔◌, ◌≡◌, eqb, get_or}
use Rattle.std.proofs.Common.{true≢false, sym, ◌∙◌, arith, get_or-set_same}
use Rattle.std.proofs.Math.Logic.{⊎_elim}
use Prim.Native.Nat.{ℕ, zero, suc, ◌≤◌, ◌<◌}
use Rattle.std.proofs.Math.ListN.{length, length-set, length-replicate, get_or-replicate}
use Rattle.std.proofs.Math.Seq.{get_or-set_other}
use Rattle.laws.specs.Below.{pick_below}
use Rattle.laws.specs.Laws.Cases.{true_or_false}
use Rattle.laws.specs.Laws.Tests.{eq_iff, and-iff}
use Rattle.image.specs.Image.{to, port, feeds}
use Rattle.image.specs.Loops.Ports.{port_place, Wired, ports_below}

module _ (img : List ℕ) where
  -- the test `feeds` says that channel c leads to node n, at port p
  pub feeds_ok : (n p c : ℕ) → (feeds img n p c ≡ true) ↔ ((to img c ≡ n) × (port img c ≡ p))
  unfolding feeds
  feeds_ok n p c = and-iff (eqb (to img c) n) (eqb (port img c) p) (eq_iff (to img c) n) (eq_iff (port img c) p)

  -- a channel writes to the place of the port that it feeds, and to no other
  feeds_here : (n p c : ℕ) → feeds img n p c ≡ true → port_place n p ≡ port_place (to img c) (port img c)
  feeds_here n p c e = omega (arith, (feeds_ok n p c).0 e)

  feeds_there : (n p c : ℕ) → p < 3 → port img c < 3 → feeds img n p c ≡ false → port_place n p ≡ port_place (to img c) (port img c) → ⊥
  feeds_there n p c l h e q = true≢false (sym ((feeds_ok n p c).1 (omega arith, omega arith)) ∙ e)

  -- the place of the port of each channel below c is one of 192
  pub place_there : (c : ℕ) → Wired img c → (k : ℕ) → k < c → port_place (to img k) (port img k) < 192
  place_there c w k h = omega (arith, w.node k h, w.input k h)

  pub fewer : (b c : ℕ) → b ≤ c → Wired img c → Wired img b
  fewer b c l w = record { node = λ k h. w.node k (omega arith); input = λ k h. w.input k (omega arith) }

-- what stands at a port's place is what the channel that feeds it brings
module _ {A : Type 0} (img : List ℕ) (brings : ℕ → A) (d : A) where
  pub ports_length : (c : ℕ) → length (ports_below img brings d c) ≡ 192
  unfolding ports_below
  ports_length zero = length-replicate 192 d
  ports_length (suc c) = rw length-set (ports_length c)

  pub ports_at :
      (c : ℕ) → Wired img c → (n p : ℕ) → n < 64 → p < 3 → get_or (ports_below img brings d c) (port_place n p) d ≡ pick_below (feeds img n p) brings d c
  unfolding ports_below pick_below
  ports_at zero w n p h l = get_or-replicate 192 (port_place n p) d d (omega arith)
  ports_at (suc c) w n p h l =
      let old = ports_below img brings d c in
      let at = port_place (to img c) (port img c) in
      let there : at < length old = rw ports_length (place_there img (suc c) w c (omega arith)) in
      ⊎_elim
      (λ (e : feeds img n p c ≡ true). rw (e, feeds_here img n p c e) (get_or-set_same old at (brings c) d there))
      (λ (e : feeds img n p c ≡ false).
      rw (e, get_or-set_other old at (port_place n p) (brings c) d (feeds_there img n p c l (w.input c (omega arith)) e))
      (ports_at c (fewer img c (suc c) (omega arith) w) n p h l))
      (true_or_false (feeds img n p c))
