-- Laws of the cycle's loops: one turn of each, and what they leave is the cycle. Assumes nothing.
use Rattle.std.specs.Prelude.{is_some, unwrap_or, Bool, true, ◌&&◌, ◌||◌, ◌≡◌, pos, drop, set}
use Rattle.std.proofs.Math.Bool.{false, not, not-not}
use mathlib.Core.List.{List, [], ◌++◌}
use Rattle.std.proofs.Math.Path.{refl, sym, ap}
use Rattle.std.proofs.Common.{◌∙◌, arith}
use Prim.Native.Nat.{ℕ, suc, ◌+◌, ◌-◌, ◌*◌, ◌<◌, ◌≤◌}
use Rattle.std.proofs.Math.Nat.{add-zero}
use Rattle.std.proofs.Math.Dec.{eqb}
use Rattle.std.proofs.Math.IntN.{ℤ}
use Rattle.std.proofs.Math.ListN.{length, get_or, take, get_or-eq_default}
use Rattle.std.specs.Bool.{then_some}
use Rattle.laws.specs.Below.{any_below, pick_below}
use Rattle.laws.specs.Laws.Below.{all_any, any_same}
use Rattle.laws.specs.Choice.{◌if◌else◌}
use Rattle.laws.specs.Lists.{holds, holds_two}
use Rattle.laws.specs.Laws.Lists.{holds_one}
use Rattle.laws.specs.Table.{table_over}
use Rattle.laws.specs.Laws.Table.{table_at, table_raise, over_skip, over_table}
use Rattle.image.specs.Image.{nodes, channels, kind, from, to, port, feeds, stations, depth}
use Rattle.image.specs.Loops.Ports.{ports_below}
use Rattle.image.specs.Loops.PortsLaws.{ports_at}
use Rattle.verdict.specs.Accepted.{Accepted}
use Rattle.verdict.specs.Laws.Accepted.{accepted-wired}
use Rattle.pearl.specs.Next.{next_value}
use Rattle.node.specs.Node.{port_value, next_of}
use Rattle.relay.specs.Link.{Link, token, link_of, passing}
use Rattle.relay.specs.Laws.Link.{token_if, token_of, passing_few}
use Rattle.relay.specs.Station.{held, station_of, place_after, no_station}
use Rattle.relay.specs.Row.{stopped, link_at}
use Rattle.relay.specs.Laws.Row.{after-at, leaving-at, stopped_inside, stopped_end}
use Rattle.shell.specs.Queue.{waiting, queue_of, full, queue_after}
use Rattle.shell.specs.Laws.Queue.{after_of}
use Rattle.shell.specs.Channel.{blocked, pending_after, arriving, input, stop_below, stop_above, channel_after}
use Rattle.shell.specs.Laws.Channel.{arrived_few}
use Rattle.state.specs.declared.State.{State}
use Rattle.state.specs.State.{no_node, node_at, value_at, pending_at, station_at, queue_at, channel_in, state_of}
use Rattle.state.specs.Laws.State.{place_channel, place_station, length-row, row_at, row_past, arriving_few}
use Rattle.cycle.specs.Cycle.{input_at, blocked_at, all_ready, any_blocked, fires, node_after, channel_after_at, state_after}
use Rattle.cycle.specs.Word.{stalled}
use Rattle.cycle.specs.Laws.Cycle.{length-next, source_next}
use Rattle.fitting.specs.Fitting.{Fitting}
use Rattle.fitting.specs.Laws.Fitting.{stations_long, station_written, queue_written}
use Rattle.cycle.specs.Loops.Parts.{starved_below, brought_below, blocked_below}
use Rattle.cycle.specs.Loops.Parts.{nodes_below, pending_after_at, station_after_at, queue_after_at, moved_below}

-- ---- a channel of a state, by index
module _ (img : List ℕ) (s : State) (c : ℕ) where
  -- what link j of channel c shows
  unfoldable pub link_in : ℕ → List ℤ
  link_in j = link_at (channel_in img s c).source (channel_in img s c).row j

  pub link_source : token (then_some (eqb (pending_at s c) 1) (value_at s (from img c))) ≡ link_in 0
  unfolding channel_in link_at link_in
  link_source = token_if (eqb (pending_at s c) 1) (value_at s (from img c))

  pub link_above : (j : ℕ) → j < stations img c → token (link_of (held (station_at s c j))) ≡ link_in (suc j)
  unfolding link_at link_in
  link_above j h = token_of (held (station_at s c j)) ∙ ap (λ (p : List ℤ). take 1 p) (sym (row_at img s c j h))

  pub link_last : link_in (stations img c) ≡ arriving (channel_in img s c)
  unfolding arriving link_in
  link_last =
      ap (link_at (channel_in img s c).source (channel_in img s c).row) (sym (length-row img s c))
      ∙ sym (leaving-at (channel_in img s c).source (channel_in img s c).row)

  -- whether link j of channel c is stopped
  unfoldable pub stop_in : ℕ → Bool
  stop_in j = stopped (drop j (channel_in img s c).row) (stop_below (depth img c) (channel_in img s c))

  pub stop_inside : (j : ℕ) → j < stations img c → holds_two (held (station_at s c j)) ≡ stop_in j
  unfolding stop_in
  stop_inside j h =
      ap (λ (p : List ℤ). holds_two p) (sym (row_at img s c j h))
      ∙ sym (stopped_inside (channel_in img s c).row (stop_below (depth img c) (channel_in img s c)) j (rw (length-row img s c) h))

  pub stop_last : (j : ℕ) → stations img c ≤ j → stop_below (depth img c) (channel_in img s c) ≡ stop_in j
  unfolding stop_in
  stop_last j h = sym (stopped_end (channel_in img s c).row (stop_below (depth img c) (channel_in img s c)) j (rw (length-row img s c) h))

  pending_holds : holds (channel_in img s c).source ≡ eqb (pending_at s c) 1
  unfolding channel_in
  pending_holds = holds_one (eqb (pending_at s c) 1) (value_at s (from img c))

  -- ---- the turns of the moving loop
  module _ (w : ℕ) where
    pub station_turn :
        (j : ℕ) → j < stations img c → stations img c ≤ 8 → (link : Link) (stop : Bool) → token link ≡ link_in j → stop ≡ stop_in (suc j)
        → station_of (place_after (token link) (held (station_at s c j)) stop) ≡ station_after_at img w s (8 * c + j)
    unfolding station_after_at channel_after_at channel_after link_in stop_in
    station_turn j h short link stop e f =
        let ch = channel_in img s c in
        rw (e, f, place_channel c j (omega arith), place_station c j (omega arith), ← (row_at img s c j h))
        (ap station_of (sym (after-at ch.source ch.row (stop_below (depth img c) ch) j (rw (length-row img s c) h))))

    pub pending_turn :
        (pending stop fired : Bool) → pending ≡ eqb (pending_at s c) 1 → stop ≡ stop_in 0 → fired ≡ fires img w s (from img c)
        → (1 if pending_after pending stop fired else 0) ≡ pending_after_at img w s c
    unfolding pending_after_at stop_in stop_above
    pending_turn pending stop fired e f g = rw (source_next img w s c, holds_one, e, f, g)

-- ---- a channel of a state that fits
module _ (img : List ℕ) (s : State) (fit : Fitting img s) (c : ℕ) (h : c < channels img) (a : Accepted img) (w : ℕ) where
  pub queue_turn :
      (link : Link) (stop fired : Bool) → token link ≡ arriving (channel_in img s c) → stop ≡ stop_below (depth img c) (channel_in img s c)
      → fired ≡ fires img w s (to img c) → queue_after (queue_at s c) (passing (token link) stop) fired ≡ queue_after_at img w s c
  unfolding queue_after_at channel_after_at channel_after stop_below
  queue_turn link stop fired e f g =
      let ch = channel_in img s c in
      let one = arriving_few img s c in
      let few = arrived_few (depth img c) ch.queue (arriving ch) (fit.steady.within c h) one in
      rw (queue_written img s fit c h, e, f, g)
      (after_of ch.queue (passing (arriving ch) (full (depth img c) (length ch.queue))) (fires img w s (to img c))
      (passing_few (arriving ch) (full (depth img c) (length ch.queue)) one) (omega (arith, few, a.queues c h)))

  -- a station's place past a channel's row holds nothing, before a cycle and after it
  past_row : (j : ℕ) → stations img c ≤ j → j < 8 → station_after_at img w s (8 * c + j) ≡ get_or s.stations (8 * c + j) no_station
  unfolding station_after_at station_at
  past_row j l m =
      let new : length (channel_after_at img w s c).row ≤ j = rw (length-next img w s c) l in
      rw (place_channel c j m, place_station c j m, get_or-eq_default (channel_after_at img w s c).row [] new)
      (sym (station_written img s fit c h j m ∙ ap station_of (row_past img s c j l)))

  -- the loop over a channel's stations leaves out the places past the channel's row
  pub row_skip :
      table_over (station_after_at img w s) (8 * c + stations img c) s.stations ≡ table_over (station_after_at img w s) (8 * suc c) s.stations
  row_skip =
      let r = stations img c in
      let short = a.rows c h in
      let e : 8 * c + r + (8 - r) ≡ 8 * suc c = omega arith in
      over_skip (station_after_at img w s) no_station (8 * c + r) (8 - r) s.stations (omega (arith, stations_long img s fit a, a.few_channels))
      (λ i l m.
      let k : i ≡ 8 * c + (i - 8 * c) = omega arith in
      rw k (past_row (i - 8 * c) (omega arith) (omega arith)))
      ∙ ap (λ (k : ℕ). table_over (station_after_at img w s) k s.stations) e

-- ---- the turns of the loop that scans the channels
module _ (img : List ℕ) (s : State) (c : ℕ) where
  pub starved_turn :
      to img c < 64 → (void : Bool) → is_some (input_at img s c) ≡ not void
      → set (starved_below img s c) (to img c) (get_or (starved_below img s c) (to img c) false || void) ≡ starved_below img s (suc c)
  unfolding starved_below any_below
  starved_turn h void e =
      rw (e, not-not) (table_raise (λ n. any_below (λ k. eqb (to img k) n && not (is_some (input_at img s k))) c) 64 (to img c) void h)

  pub blocked_turn :
      from img c < 64 → (held_up : Bool) → held_up ≡ blocked_at img s c
      → set (blocked_below img s c) (from img c) (get_or (blocked_below img s c) (from img c) false || held_up) ≡ blocked_below img s (suc c)
  unfolding blocked_below any_below
  blocked_turn h held_up e = rw e (table_raise (λ n. any_below (λ k. eqb (from img k) n && blocked_at img s k) c) 64 (from img c) (blocked_at img s c) h)

  pub brought_turn :
      (value : ℤ) → value ≡ unwrap_or (input_at img s c) (pos 0)
      → set (brought_below img s c) (3 * to img c + port img c) value ≡ brought_below img s (suc c)
  unfolding brought_below ports_below
  brought_turn value e = rw e

  -- a channel's input, from its queue record and the link that arrives there
  pub input-at : (link : Link) → token link ≡ arriving (channel_in img s c) → link_of (waiting (queue_at s c) ++ token link) ≡ input_at img s c
  unfolding input_at input channel_in
  input-at link e = rw e

  -- whether a channel is blocked, from its pending byte and the stop of its link 0
  pub blocked-at : (pending stop : Bool) → pending ≡ eqb (pending_at s c) 1 → stop ≡ stop_in img s c 0 → blocked pending stop ≡ blocked_at img s c
  unfolding blocked_at stop_in stop_above
  blocked-at pending stop e f = rw (e, f, pending_holds img s c)

-- ---- the turn of the loop over the nodes
not-asked : (b v : Bool) → not (v if b else true) ≡ b && not v
not-asked true v = refl
not-asked false v = refl

module _ (img : List ℕ) (s : State) (n : ℕ) where
  ready_all : not (any_below (λ k. eqb (to img k) n && not (is_some (input_at img s k))) (channels img)) ≡ all_ready img s n
  unfolding all_ready
  ready_all =
      sym (all_any (λ k. is_some (input_at img s k) if eqb (to img k) n else true) (channels img)
      ∙ ap not (any_same _ _ (channels img) (λ k l. not-asked (eqb (to img k) n) (is_some (input_at img s k)))))

  pub gate_turn :
      (w : ℕ) → n < 64
      → (not (stalled w n) && not (get_or (starved_below img s (channels img)) n false)) && not (get_or (blocked_below img s (channels img)) n false) ≡
      fires img w s n
  unfolding starved_below blocked_below fires any_blocked
  gate_turn w h =
      rw (
        table_at (λ n. any_below (λ k. eqb (to img k) n && not (is_some (input_at img s k))) (channels img)) 64 n false h,
        table_at (λ n. any_below (λ k. eqb (from img k) n && blocked_at img s k) (channels img)) 64 n false h,
        ready_all,
      )

  -- a firing node's next value, from what stands at its ports' places
  pub taken_turn :
      Accepted img → n < nodes img → (v : ℤ)
      → let brought = brought_below img s (channels img) in
      next_value (kind img n) v (get_or brought (3 * n) (pos 0)) (get_or brought (3 * n + 1) (pos 0)) (get_or brought (3 * n + 2) (pos 0)) ≡
      next_of img (λ c. unwrap_or (input_at img s c) (pos 0)) n v
  unfolding brought_below next_of port_value
  taken_turn a h v =
      let f : ℕ → ℤ = λ c. unwrap_or (input_at img s c) (pos 0) in
      let ports = ports_below img f (pos 0) (channels img) in
      let at : (p : ℕ) → p < 3 → get_or ports (3 * n + p) (pos 0) ≡ pick_below (feeds img n p) f (pos 0) (channels img) =
      λ p l. ports_at img f (pos 0) (channels img) (accepted-wired img a) n p (omega (arith, a.few_nodes)) l in
      let first : get_or ports (3 * n) (pos 0) ≡ get_or ports (3 * n + 0) (pos 0) = rw add-zero in
      rw (first, at 0 (omega arith), at 1 (omega arith), at 2 (omega arith))

-- what the loops leave is the state after the cycle
pub cycle_done :
    (img : List ℕ) (w : ℕ) (s : State) → Fitting img s
    → moved_below img w s (suc s.cycles) (nodes_below img w s (nodes img)) (channels img) (8 * channels img) ≡ state_after img w s
unfolding moved_below nodes_below state_after state_of pending_after_at station_after_at queue_after_at
cycle_done img w s fit =
    rw (
      over_table (node_after img w s) (node_at s) (nodes img) 64 no_node s.nodes (ap (λ (x : State). x.nodes) fit.written),
      over_table (pending_after_at img w s) _ (channels img) 96 0 s.pending (ap (λ (x : State). x.pending) fit.written),
      over_table (station_after_at img w s) _ (8 * channels img) 768 (station_of []) s.stations (ap (λ (x : State). x.stations) fit.written),
      over_table (queue_after_at img w s) _ (channels img) 96 (queue_of []) s.queues (ap (λ (x : State). x.queues) fit.written),
    )
