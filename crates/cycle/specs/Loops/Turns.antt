-- One turn of each loop of the cycle, on what the code read and what its calls answered. Assumes nothing.
use Rattle.std.specs.Prelude.{is_some, unwrap_or, Bool, true, not, ◌&&◌, ◌||◌, List, [], ◌∷◌, ◌++◌, ◌⊎◌, ◌≡◌, ℤ, pos, get_or, set, take, replicate}
use Rattle.std.proofs.Math.Bool.{false}
use Rattle.std.proofs.Math.Logic.{⊎_elim}
use Rattle.std.proofs.Math.Path.{refl, sym, ap}
use Rattle.std.proofs.Common.{◌∙◌, not-suc-le-zero, le_of_suc-le-suc}
use Prim.Native.Nat.{ℕ, zero, suc, ◌+◌, ◌-◌, ◌*◌, ◌<◌, ◌≤◌}
use Rattle.std.proofs.Math.Numerals.{add-one}
use native.Mathlib.Omega.{arith}
use Rattle.std.proofs.Math.Dec.{eqb}
use Rattle.std.proofs.Math.ListN.{length, length-replicate}
use Rattle.std.proofs.lemmas.List.{get_or-replicate}
use Rattle.std.specs.Bool.{then_some}
use Rattle.laws.specs.Laws.Cases.{or_left, or_right}
use Rattle.laws.specs.Choice.{◌if◌else◌}
use Rattle.laws.specs.Lists.{holds_two}
use Rattle.laws.specs.Table.{table_over}
use Rattle.laws.specs.Laws.Table.{over_set, over_at, over_same_at}
use Rattle.image.specs.declared.Wire.{Wire}
use Rattle.image.specs.Image.{nodes, channels, from, to, stations, depth}
use Rattle.verdict.specs.Accepted.{Accepted}
use Rattle.image.specs.Readers.{wire_at}
use Rattle.relay.specs.declared.Station.{Station}
use Rattle.relay.specs.Link.{Link, token, link_of, passing, reading}
use Rattle.relay.specs.Laws.Link.{reading-token}
use Rattle.relay.specs.Station.{held, station_of, place_after, no_station}
use Rattle.pearl.specs.declared.Kind.{Kind}
use Rattle.pearl.specs.declared.Kind.TheVariants.{Count}
use Rattle.pearl.specs.Kind.{kind_byte}
use Rattle.pearl.specs.Next.{next_value}
use Rattle.node.specs.Kinds.{KindsBelow}
use Rattle.shell.specs.declared.Queue.{Queue}
use Rattle.shell.specs.Queue.{waiting, full, queue_after}
use Rattle.shell.specs.Laws.Queue.{full_waiting, after_idle}
use Rattle.shell.specs.Channel.{blocked, pending_after, arriving, stop_below, channel_reading}
use Rattle.state.specs.declared.Node.{Node}
use Rattle.state.specs.declared.State.{State}
use Rattle.state.specs.State.{no_node, no_queue, node_at, pending_at, station_at, queue_at, channel_in}
use Rattle.cycle.specs.Cycle.{input_at, blocked_at, reading_at, fires, node_after, state_after, after}
use Rattle.cycle.specs.Word.{stalled}
use Rattle.fitting.specs.Fitting.{Fitting}
use Rattle.fitting.specs.Laws.Fitting.{nodes_long, pending_long, stations_long, queues_long, queue_count}
use Rattle.cycle.specs.Loops.Parts.{starved_below, brought_below, blocked_below, fires_below, nodes_below}
use Rattle.cycle.specs.Loops.Parts.{station_after_at, queue_after_at, pending_after_at, moved_below}
use Rattle.cycle.specs.Loops.PartsLaws.{link_in, stop_in, link_source, link_above, link_last, stop_inside, stop_last, input-at, blocked-at}
use Rattle.cycle.specs.Loops.PartsLaws.{starved_turn, blocked_turn, brought_turn, station_turn, pending_turn, queue_turn, gate_turn, taken_turn}
use Rattle.cycle.specs.Loops.PartsLaws.{row_skip, cycle_done}

-- a table over the first n places of an array, with the next entry set, is the table over n + 1 places
pub written :
    {A : Type 0} (f : ℕ → A) (n : ℕ) (old : List A) → n < length old → (l : List A) → l ≡ table_over f n old → (x : A) → x ≡ f n
    → set l n x ≡ table_over f (n + 1) old
written f n old h l e x q = rw (e, q, add-one) (over_set f n old h)

-- ---- channel c of any state, as it is read: `wire` has its fields
module _ (img : List ℕ) (s : State) (c : ℕ) (wire : Wire) (e : wire ≡ wire_at img c) where
  -- link 0, as the code reads it from the pending byte and the from node's value
  pub source_read :
      (link : Link) (v : ℤ) → link ≡ then_some (eqb (get_or s.pending c 0) 1) v → v ≡ (get_or s.nodes wire.from no_node).value
      → token link ≡ link_in img s c 0
  unfolding wire_at pending_at node_at
  source_read link v p q =
      ap token p
      ∙ ap (λ (x : ℤ). token (then_some (eqb (get_or s.pending c 0) 1) x))
      (q ∙ ap (λ (w : Wire). (get_or s.nodes w.from no_node).value) e)
      ∙ link_source img s c

  -- what link r shows, as the code reads it from the last station or from link 0
  pub arriving-read :
      (link : Link)
      → ((0 < wire.stations) × (link ≡ link_of (held (get_or s.stations (8 * c + (wire.stations - 1)) no_station)))) ⊎
      ((wire.stations ≤ 0) × (token link ≡ link_in img s c 0)) → token link ≡ arriving (channel_in img s c)
  unfolding wire_at station_at
  arriving-read link =
      let r : wire.stations ≡ stations img c = ap (λ (w : Wire). w.stations) e in
      ⊎_elim
      (λ d.
      let k : stations img c ≡ suc (stations img c - 1) = omega (arith, r, d.0) in
      ap token (d.1 ∙ ap (λ (n : ℕ). link_of (held (get_or s.stations (8 * c + (n - 1)) no_station))) r)
      ∙ link_above img s c (stations img c - 1) (omega arith) ∙ ap (link_in img s c) (sym k) ∙ link_last img s c)
      (λ d.
      let k : 0 ≡ stations img c = omega (arith, r, d.0) in
      d.1 ∙ ap (link_in img s c) k ∙ link_last img s c)

  -- what link j + 1 shows, as the code reads it from station j
  pub link_read :
      (j : ℕ) → j < wire.stations → (link : Link) → link ≡ link_of (held (get_or s.stations (8 * c + j) no_station))
      → token link ≡ link_in img s c (j + 1)
  unfolding wire_at station_at
  link_read j l link q =
      let r : wire.stations ≡ stations img c = ap (λ (w : Wire). w.stations) e in
      ap token q ∙ link_above img s c j (omega (arith, r)) ∙ ap (link_in img s c) (sym (add-one j))

  -- the stop of link j, as the code reads it from station j or from the queue's count
  pub stop_read :
      (j : ℕ) (stop : Bool)
      → ((j < wire.stations) × (stop ≡ holds_two (held (get_or s.stations (8 * c + j) no_station)))) ⊎
      ((wire.stations ≤ j) × (stop ≡ stop_below (depth img c) (channel_in img s c))) → stop ≡ stop_in img s c j
  unfolding wire_at station_at
  stop_read j stop =
      let r : wire.stations ≡ stations img c = ap (λ (w : Wire). w.stations) e in
      ⊎_elim
      (λ d. d.1 ∙ stop_inside img s c j (omega (arith, r, d.0)))
      (λ d. d.1 ∙ stop_last img s c j (omega (arith, r, d.0)))

  -- a channel's letter and value, from the link that arrives at its queue and the stop of that link
  pub reading_read :
      (link : Link) (stop : Bool) → token link ≡ arriving (channel_in img s c) → stop ≡ stop_below (depth img c) (channel_in img s c)
      → reading link stop ≡ reading_at img s c
  unfolding reading_at channel_reading
  reading_read link stop p q = reading-token link stop ∙ rw (p, q)

  -- the stop of link r, as the code reads it from the count of a queue of eight places
  pub stop_shown :
      Accepted img → c < channels img → length (get_or s.queues c no_queue).tokens ≡ 8
      → full wire.depth (get_or s.queues c no_queue).count ≡ stop_below (depth img c) (channel_in img s c)
  unfolding wire_at channel_in queue_at stop_below
  stop_shown a h l =
      ap (λ (w : Wire). full w.depth (get_or s.queues c no_queue).count) e
      ∙ full_waiting (depth img c) (get_or s.queues c no_queue) l (a.queues c h).1

-- ---- channel c of a state that fits
module _ (img : List ℕ) (a : Accepted img) (s : State) (fit : Fitting img s) (c : ℕ) (h : c < channels img)
    (wire : Wire) (e : wire ≡ wire_at img c) where
  -- the stop of link r, as the code reads it from the queue's count
  pub full-read : full wire.depth (get_or s.queues c no_queue).count ≡ stop_below (depth img c) (channel_in img s c)
  unfolding wire_at queue_at stop_below
  full-read =
      ap (λ (w : Wire). full w.depth (get_or s.queues c no_queue).count) e ∙ ap (full (depth img c)) (queue_count img s fit c h)

  -- ---- the scan: one more channel
  pub starved_read :
      (starved : List Bool) → starved ≡ starved_below img s c → (void : Bool) → is_some (input_at img s c) ≡ not void
      → set starved wire.to (get_or starved wire.to false || void) ≡ starved_below img s (c + 1)
  unfolding wire_at
  starved_read starved q void r =
      rw (add-one, e, q) (starved_turn img s c (omega (arith, a.wires c h, a.few_nodes)) void r)

  pub brought_read :
      (brought : List ℤ) → brought ≡ brought_below img s c → (value : ℤ) → value ≡ unwrap_or (input_at img s c) (pos 0)
      → set brought (3 * wire.to + wire.port) value ≡ brought_below img s (c + 1)
  unfolding wire_at
  brought_read brought q value r = rw (add-one, e, q) (brought_turn img s c value r)

  pub blocked-read :
      (held_back : List Bool) → held_back ≡ blocked_below img s c → (b : Bool) → b ≡ blocked_at img s c
      → set held_back wire.from (get_or held_back wire.from false || b) ≡ blocked_below img s (c + 1)
  unfolding wire_at
  blocked-read held_back q b r = rw (add-one, e, q) (blocked_turn img s c (omega (arith, a.wires c h, a.few_nodes)) b r)

  pub input-read :
      (link : Link) → token link ≡ arriving (channel_in img s c) → link_of (waiting (get_or s.queues c no_queue) ++ token link) ≡ input_at img s c
  unfolding queue_at
  input-read link q = input-at img s c link q

  pub held-read : (stop : Bool) → stop ≡ stop_in img s c 0 → blocked (eqb (get_or s.pending c 0) 1) stop ≡ blocked_at img s c
  unfolding pending_at
  held-read stop q = blocked-at img s c (eqb (get_or s.pending c 0) 1) stop refl q

  -- ---- the move
  module _ (w : ℕ) where
    -- one turn of the loop over a channel's stations: station j has moved
    pub station-read :
        (j : ℕ) → j < wire.stations → (link : Link) (stop : Bool) → token link ≡ link_in img s c j → stop ≡ stop_in img s c (suc j)
        → station_of (place_after (token link) (held (get_or s.stations (8 * c + j) no_station)) stop) ≡ station_after_at img w s (8 * c + j)
    unfolding wire_at station_at
    station-read j l link stop p q =
        let r : wire.stations ≡ stations img c = ap (λ (w : Wire). w.stations) e in
        station_turn img s c w j (omega (arith, r)) (a.rows c h) link stop p q

    pub row_turn :
        (cycles : ℕ) (ns : List Node) (j : ℕ) → j < wire.stations → (t : State) → t ≡ moved_below img w s cycles ns c (8 * c + j)
        → (next : Station) → next ≡ station_after_at img w s (8 * c + j)
        → record t { stations = set t.stations (8 * c + j) next } ≡ moved_below img w s cycles ns c (8 * c + (j + 1))
    unfolding wire_at moved_below
    row_turn cycles ns j l t q next p =
        let r : wire.stations ≡ stations img c = ap (λ (w : Wire). w.stations) e in
        let k : 8 * c + (j + 1) ≡ suc (8 * c + j) = omega arith in
        let there : 8 * c + j < length s.stations = omega (arith, r, a.rows c h, a.few_channels, stations_long img s fit a) in
        rw (q, p, k, over_set (station_after_at img w s) (8 * c + j) s.stations there)

    -- what link r shows is what arrives at the queue
    pub last_read : (link : Link) → token link ≡ link_in img s c wire.stations → token link ≡ arriving (channel_in img s c)
    unfolding wire_at
    last_read link q = q ∙ ap (λ (w : Wire). link_in img s c w.stations) e ∙ link_last img s c

    -- whether the nodes at a channel's ends fire, as the code reads it from the array of firing nodes
    pub ends_read :
        (now : List Bool) → now ≡ fires_below img w s (nodes img)
        → (get_or now wire.to false ≡ fires img w s (to img c)) × (get_or now wire.from false ≡ fires img w s (from img c))
    unfolding wire_at fires_below
    ends_read now q =
        rw (e, q) (
          over_at (fires img w s) (nodes img) (replicate 64 false) (to img c) false (a.wires c h).1,
          over_at (fires img w s) (nodes img) (replicate 64 false) (from img c) false (a.wires c h).0,
        )

    pub pending_read :
        (stop fired : Bool) → stop ≡ stop_in img s c 0 → fired ≡ fires img w s (from img c)
        → (1 if pending_after (eqb (get_or s.pending c 0) 1) stop fired else 0) ≡ pending_after_at img w s c
    unfolding pending_at
    pending_read stop fired p q = pending_turn img s c w (eqb (get_or s.pending c 0) 1) stop fired refl p q

    -- a channel's queue record after the cycle, which the code stores only if it changes
    pub queue_read :
        (link : Link) (stop fired : Bool) → token link ≡ arriving (channel_in img s c) → stop ≡ stop_below (depth img c) (channel_in img s c)
        → fired ≡ fires img w s (to img c)
        → queue_after (get_or s.queues c no_queue) (passing (token link) stop) fired ≡ queue_after_at img w s c
    unfolding queue_at
    queue_read link stop fired p q r = queue_turn img s fit c h a w link stop fired p q r

    pub queue_idle :
        (link : Link) (stop fired : Bool) → token link ≡ arriving (channel_in img s c) → stop ≡ stop_below (depth img c) (channel_in img s c)
        → fired ≡ fires img w s (to img c) → (valid : Bool) → valid ≡ is_some link → fired || (valid && not stop) ≡ false
        → queue_after_at img w s c ≡ get_or s.queues c no_queue
    queue_idle link stop fired p q r valid v z =
        sym (queue_read link stop fired p q r)
        ∙ after_idle (get_or s.queues c no_queue) link stop fired (or_left fired (valid && not stop) z)
        (rw v at (or_right fired (valid && not stop) z))

    -- one turn of the loop over the channels: channel c has moved
    pub channel_turn :
        (cycles : ℕ) (ns : List Node) (t u : State) → t ≡ moved_below img w s cycles ns c (8 * c + wire.stations)
        → ((queue : Queue) × (queue ≡ queue_after_at img w s c) × (u ≡ record t { queues = set t.queues c queue })) ⊎
        ((u ≡ t) × (queue_after_at img w s c ≡ get_or s.queues c no_queue))
        → (pending : ℕ) → pending ≡ pending_after_at img w s c
        → record u { pending = set u.pending c pending } ≡ moved_below img w s cycles ns (c + 1) (8 * (c + 1))
    unfolding wire_at moved_below
    channel_turn cycles ns t u q came pending m =
        let r : wire.stations ≡ stations img c = ap (λ (w : Wire). w.stations) e in
        let long : c < length s.pending = omega (arith, pending_long img s fit a, a.few_channels) in
        let few : c < length s.queues = omega (arith, queues_long img s fit a, a.few_channels) in
        let k :
        u ≡
        record (moved_below img w s cycles ns c (8 * c + stations img c)) { queues = table_over (queue_after_at img w s) (suc c) s.queues } =
        ⊎_elim
        (λ z. z.2 ∙ rw (z.1, q, r, over_set (queue_after_at img w s) c s.queues few))
        (λ z. z.0 ∙ rw (q, r, over_same_at (queue_after_at img w s) no_queue c s.queues few z.1))
        came in
        rw (k, m, add-one, row_skip img s fit c h a w, over_set (pending_after_at img w s) c s.pending long)

-- ---- the gate: one more node
module _ (img : List ℕ) (a : Accepted img) (s : State) (fit : Fitting img s) (w : ℕ) (n : ℕ) (h : n < nodes img) where
  pub fires-read :
      (starved held_back : List Bool) → starved ≡ starved_below img s (channels img) → held_back ≡ blocked_below img s (channels img)
      → (stall : Bool) → stall ≡ stalled w n → (not stall && not (get_or starved n false)) && not (get_or held_back n false) ≡ fires img w s n
  fires-read starved held_back p q stall r = rw (p, q, r) (gate_turn img s n w (omega (arith, a.few_nodes)))

  -- one turn of the gate where node n fires
  pub fired-read :
      fires img w s n ≡ true → (kinds : List Kind) → KindsBelow img (nodes img) kinds → (brought : List ℤ) → brought ≡ brought_below img s (channels img)
      → (x y z : ℤ) → x ≡ get_or brought (3 * n) (pos 0) → y ≡ get_or brought (3 * n + 1) (pos 0) → z ≡ get_or brought (3 * n + 2) (pos 0)
      → ◌≡◌ {A = Node}
      (record {
        value = next_value (kind_byte (get_or kinds n Count)) (get_or s.nodes n no_node).value x y z;
        firings = suc (get_or s.nodes n no_node).firings;
      })
      (node_after img w s n)
  unfolding node_after node_at
  fired-read f kinds p brought q x y z a1 a2 a3 =
      rw (f, a1, a2, a3, p.each n h, q, taken_turn img s n a h (get_or s.nodes n no_node).value)

  pub gated_turn :
      (t u : State) (was now : List Bool) → t ≡ moved_below img w s s.cycles (nodes_below img w s n) 0 0 → was ≡ fires_below img w s n
      → ((fires img w s n ≡ true) × ((node : Node) × (node ≡ node_after img w s n) × (u ≡ record t { nodes = set t.nodes n node })) × (now ≡ set was n true)) ⊎
      ((fires img w s n ≡ false) × (u ≡ t) × (now ≡ was))
      → (u ≡ moved_below img w s s.cycles (nodes_below img w s (n + 1)) 0 0) × (now ≡ fires_below img w s (n + 1))
  unfolding moved_below nodes_below fires_below
  gated_turn t u was now p q =
      let few : n < 64 = omega (arith, a.few_nodes) in
      let long : n < length s.nodes = omega (arith, nodes_long img s fit a) in
      let flags : n < length (replicate 64 false) = rw length-replicate few in
      ⊎_elim
      (λ z. (
        z.1.2 ∙ rw (z.1.1, p, add-one, over_set (node_after img w s) n s.nodes long),
        z.2 ∙ rw (q, add-one, ← z.0, over_set (fires img w s) n (replicate 64 false) flags),
      ))
      (λ z. (
        z.1 ∙ p ∙ rw (add-one, over_same_at (node_after img w s) no_node n s.nodes long (unfold node_after node_at in (rw z.0))),
        z.2 ∙ q ∙ rw (add-one, over_same_at (fires img w s) false n (replicate 64 false) flags (z.0 ∙ sym (get_or-replicate 64 n false false few))),
      ))

-- ---- one more cycle
pub cycle_turn :
    (img : List ℕ) (w : ℕ) (s : State) → Fitting img s → (t : State)
    → t ≡ moved_below img w s s.cycles (nodes_below img w s (nodes img)) (channels img) (8 * channels img)
    → record t { cycles = s.cycles + 1 } ≡ state_after img w s
unfolding moved_below
cycle_turn img w s fit t e = rw (e, add-one) (cycle_done img w s fit)

pub after_next :
    (img : List ℕ) (s : State) (words : List ℕ) (t : ℕ) → t < length words
    → after img s (take (suc t) words) ≡ state_after img (get_or words t 0) (after img s (take t words))
unfolding after
after_next img s [] t h = absurd (not-suc-le-zero h)
after_next img s (word ∷ words) zero h = refl
after_next img s (word ∷ words) (suc t) h = after_next img (state_after img word s) words t (le_of_suc-le-suc h)
