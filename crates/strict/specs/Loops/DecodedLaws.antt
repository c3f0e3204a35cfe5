-- A cycle worked from what was decoded is a cycle of the strict system. Assumes nothing.
use Rattle.std.specs.Prelude.{List, ◌≡◌, ℤ, ℕ, suc, ◌+◌, ◌*◌, ◌/◌, ◌%◌, ◌<◌, take}
use Rattle.std.proofs.Common.{ap, ◌∙◌, arith, add-one}
use Rattle.std.proofs.Math.Nat.{add-zero}
use Rattle.std.proofs.Math.IntN.{pos}
use Rattle.std.proofs.Math.ListN.{length, get_or, get_or-eq_default}
use Rattle.laws.specs.Below.{pick_below}
use Rattle.laws.specs.Laws.Below.{pick_one, pick_map}
use Rattle.laws.specs.Laws.Lists.{get_or-padded, take-padded}
use Rattle.laws.specs.Table.{table_over}
use Rattle.laws.specs.Laws.Table.{get_d_any, over_padded, over_same}
use Rattle.image.specs.Image.{nodes, channels, from, feeds}
use Rattle.verdict.specs.Accepted.{Accepted}
use Rattle.verdict.specs.Laws.Accepted.{accepted-wired}
use Rattle.image.specs.Loops.Ports.{port_place, ports_below}
use Rattle.image.specs.Loops.PortsLaws.{ports_length, ports_at}
use Rattle.node.specs.Node.{port_value, next_of}
use Rattle.strict.specs.Strict.{strict_next, strict_cycle}
use Rattle.strict.specs.Laws.Strict.{length_cycle}
use Rattle.strict.specs.declared.System.{System}
use Rattle.strict.specs.Loops.Decoded.{feeders_below, NamesPlaces, port_on, values_at}
use Rattle.strict.specs.Loops.System.{DecodedFrom, value_after, values_after}

module _ (img : List ℕ) (a : Accepted img) where
  abbrev feeders : List ℕ
  feeders = feeders_below img (channels img)

  -- the feeder of port p of node n is the from node of the channel that feeds it
  feeder-at : (n p : ℕ) → n < 64 → p < 3 → get_or feeders (port_place n p) 0 ≡ pick_below (feeds img n p) (from img) 64 (channels img)
  unfolding feeders_below
  feeder-at n p h l =
      let c = channels img in
      let k : port_place n p < length (ports_below img (from img) 64 c) = rw ports_length (omega arith) in
      get_d_any feeders (port_place n p) 0 64 k ∙ ports_at img (from img) 64 c (accepted-wired img a) n p h l

  -- each feeder names one of 65 places
  pub feeders-within : NamesPlaces feeders
  feeders-within k h =
      let e : k ≡ port_place (k / 3) (k % 3) = omega arith in
      rw e
      (rw (feeder-at (k / 3) (k % 3) (omega arith) (omega arith))
      (pick_one (λ n. n < 65) (feeds img (k / 3) (k % 3)) (from img) 64 (channels img) (omega arith)
      (λ c l. omega (arith, a.wires c l, a.few_nodes))))

  value_at_lem : (t n : ℕ) → get_or (values_at img t) n (pos 0) ≡ get_or (strict_cycle img t) n (pos 0)
  unfolding values_at
  value_at_lem t n = get_or-padded 65 (pos 0) (strict_cycle img t) n

  -- the value at a port's feeder is what stands on the port
  port-on :
      (t n p : ℕ) → n < 64 → p < 3
      → port_on (values_at img t) feeders (port_place n p) ≡ port_value img (λ c. get_or (strict_cycle img t) (from img c) (pos 0)) n p
  unfolding port_on port_value
  port-on t n p h l =
      let vs = strict_cycle img t in
      let none : get_or vs 64 (pos 0) ≡ pos 0 = get_or-eq_default vs (pos 0) (omega (arith, length_cycle img t, a.few_nodes)) in
      rw (feeder-at n p h l, value_at_lem t, pick_map (λ k. get_or vs k (pos 0)) (feeds img n p) (from img) 64 (channels img), none)

  module _ (system : System) (d : DecodedFrom img system) where
    value_after_lem : (t n : ℕ) → n < nodes img → value_after system (values_at img t) n ≡ strict_next img (strict_cycle img t) n
    unfolding value_after strict_next next_of
    value_after_lem t n h =
        let l : n < 64 = omega (arith, a.few_nodes) in
        let first : port_on (values_at img t) feeders (3 * n) ≡ port_on (values_at img t) feeders (port_place n 0) = rw add-zero in
        rw (d.kinds.each n h, d.fed, value_at_lem t n, first, port-on t n 0 l (omega arith), port-on t n 1 l (omega arith), port-on t n 2 l (omega arith))

    -- all values after a cycle are the next cycle's
    values-after : (t : ℕ) → values_after system (values_at img t) ≡ values_at img (suc t)
    unfolding values_after values_at strict_cycle
    values-after t =
        let vs = strict_cycle img t in
        let old = values_at img t in
        ap (λ n. table_over (value_after system old) n old) d.counted
        ∙ rw (
          over_same (value_after system old) (strict_next img vs) (nodes img) old (value_after_lem t),
          over_padded (strict_next img vs) (nodes img) 65 (pos 0) vs (omega (arith, length_cycle img t)),
        )

    -- one turn of the loop over the cycles goes from one cycle's values to the next cycle's
    pub values_next : (t : ℕ) {vs : List ℤ} → vs ≡ values_at img t → values_after system vs ≡ values_at img (t + 1)
    values_next t e = rw (e, add-one t) (values-after t)

  -- the first N of the 65 values are the strict system's
  pub take-values : (t : ℕ) → take (nodes img) (values_at img t) ≡ strict_cycle img t
  unfolding values_at
  take-values t = rw (← (length_cycle img t)) (take-padded 65 (pos 0) (strict_cycle img t))
