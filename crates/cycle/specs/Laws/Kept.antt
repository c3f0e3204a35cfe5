-- A steady state is steady after a cycle, and a state that fits its image fits it after a cycle, up to the last cycle count. Assumes nothing.
use Rattle.std.specs.Prelude.{List, [], ◌≡◌, ℕ, suc, ◌+◌, ◌<◌, ◌≤◌, length, get_or}
use Rattle.std.proofs.Common.{ap, arith, length-append}
use Rattle.laws.specs.Laws.Choice.{one_few}
use Rattle.laws.specs.Lists.{one_if, drop_if}
use Rattle.laws.specs.Laws.Lists.{length_dropped, length-one_if}
use Rattle.image.specs.Image.{channels, from, to, depth}
use Rattle.verdict.specs.Accepted.{Accepted}
use Rattle.relay.specs.Laws.Row.{row_few}
use Rattle.shell.specs.Channel.{tokens, arriving, stop_below, channel_after}
use Rattle.shell.specs.Laws.Channel.{queue_few}
use Rattle.state.specs.declared.State.{State}
use Rattle.state.specs.State.{value_at, firings_at, channel_in, state_of}
use Rattle.state.specs.Laws.State.{source_few, arriving_few, written_of}
use Rattle.cycle.specs.Cycle.{fires, node_after, channel_after_at, state_after}
use Rattle.cycle.specs.Laws.Cycle.{channel-after_at, firings_next, fires-holds, tokens-next}
use Rattle.fitting.specs.Fitting.{Steady, Fitting}

module _ (img : List ℕ) (a : Accepted img) (w : ℕ) (s : State) where
  -- the three conditions of a steady state hold after a cycle, whatever the cycle count
  module _ (ok : Steady img s) (c : ℕ) (h : c < channels img) where
    few_next : (j : ℕ) → length (get_or (channel_in img (state_after img w s) c).row j []) ≤ 2
    unfolding channel_after_at channel_after
    few_next j =
        let ch = channel_in img s c in
        rw (channel-after_at img a w s c h) (row_few ch.source ch.row (stop_below (depth img c) ch) (source_few img s c) (ok.few c h) j)

    within-next : length (channel_in img (state_after img w s) c).queue ≤ depth img c
    unfolding channel_after_at channel_after stop_below
    within-next =
        let ch = channel_in img s c in
        rw (channel-after_at img a w s c h)
        (queue_few (depth img c) ch.queue (arriving ch) (fires img w s (to img c)) (ok.within c h) (arriving_few img s c))

    balance_next :
        let next = state_after img w s in
        firings_at next (to img c) + length (tokens (channel_in img next c)) ≡ suc (firings_at next (from img c))
    balance_next =
        let old = tokens (channel_in img s c) in
        let takes = fires img w s (to img c) in
        let makes = fires img w s (from img c) in
        let new = value_at (state_after img w s) (from img c) in
        omega (
          arith,
          ok.balance c h,
          ap length (tokens-next img w s c h a),
          length-append (drop_if takes old) (one_if makes new),
          length_dropped takes old (fires-holds img w s c h),
          length-one_if makes new,
          firings_next img a w s (to img c) (a.wires c h).1,
          firings_next img a w s (from img c) (a.wires c h).0,
        )

  pub steady-next : Steady img s → Steady img (state_after img w s)
  steady-next ok = record { few = few_next ok; within = within-next ok; balance = balance_next ok }

  pub fitting-next : Fitting img s → s.cycles < 1000000 → Fitting img (state_after img w s)
  unfolding state_after state_of
  fitting-next ok l =
      record {
        cycled = l;
        fired = λ n h. omega (arith, firings_next img a w s n h, one_few (fires img w s n), ok.fired n h);
        written = written_of img (suc s.cycles) (node_after img w s) (channel_after_at img w s) (channel-after_at img a w s);
        steady = steady-next ok.steady;
      }
