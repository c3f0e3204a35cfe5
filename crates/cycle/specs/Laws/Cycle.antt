-- Laws of a cycle: what each node and each channel is after a cycle, and what firing asks. Assumes nothing.
use Rattle.std.specs.Prelude.{is_some, unwrap_or, pos, Bool, true, false, not, ◌&&◌, List, ◌++◌, ◌↔◌, ◌≡◌, ℕ, suc, ◌+◌, ◌<◌, ℤ, length}
use Rattle.std.proofs.Math.Logic.Iff.{rfl}
use Rattle.std.proofs.Math.Path.{refl, sym, ap}
use Rattle.std.proofs.Common.{◌∙◌, arith}
use Rattle.std.proofs.Math.Dec.{eqb}
use Rattle.std.proofs.Math.ListN.{length-append}
use Rattle.laws.specs.Laws.Below.{none-iff, all_iff}
use Rattle.laws.specs.Choice.{◌if◌else◌}
use Rattle.laws.specs.Lists.{holds, one_if, drop_if}
use Rattle.laws.specs.Laws.Lists.{length_dropped, holds_one}
use Rattle.laws.specs.Laws.Tests.{eq_iff, not_iff, and-iff, nand-iff, if-iff}
use Rattle.image.specs.Image.{nodes, channels, from, to, stations, depth}
use Rattle.verdict.specs.Accepted.{Accepted}
use Rattle.node.specs.Node.{next_of}
use Rattle.relay.specs.Link.{Link, passing}
use Rattle.relay.specs.Laws.Link.{valid_holds}
use Rattle.relay.specs.Laws.Row.{length-after}
use Rattle.shell.specs.Queue.{full}
use Rattle.shell.specs.Channel.{tokens, pending_after, arriving, input, stop_below, stop_above, channel_after}
use Rattle.shell.specs.Laws.Channel.{oldest_first, still_ready, channel_fifo, source_after}
use Rattle.state.specs.declared.Node.{Node}
use Rattle.state.specs.declared.State.{State}
use Rattle.state.specs.State.{node_at, value_at, firings_at, pending_at, channel_in, state_of}
use Rattle.state.specs.Laws.State.{length-row, node_of, channel_of}
use Rattle.cycle.specs.Cycle.{input_at, blocked_at, all_ready, any_blocked, fires, node_after, channel_after_at, state_after}
use Rattle.cycle.specs.Word.{stalled}

-- the value of a chosen node, where the old node's value is chosen once more
kept_value : (b : Bool) (new old : Node) → let node = new if b else old in (node.value if b else old.value) ≡ node.value
kept_value true new old = refl
kept_value false new old = refl

value_if : (b : Bool) (new old : Node) → (new if b else old).value ≡ (new.value if b else old.value)
value_if true new old = refl
value_if false new old = refl

firings_if :
    (b : Bool) (v : ℤ) (old : Node) → (record { value = v; firings = suc old.firings } if b else old).firings ≡ old.firings + (1 if b else 0)
firings_if true v old = omega arith
firings_if false v old = omega arith

-- ---- what there is after a cycle
module _ (img : List ℕ) (w : ℕ) (s : State) where
  pub cycles-next : (state_after img w s).cycles ≡ suc s.cycles
  unfolding state_after state_of
  cycles-next = refl

  pub length-next : (c : ℕ) → length (channel_after_at img w s c).row ≡ stations img c
  unfolding channel_after_at channel_after
  length-next c = length-after (channel_in img s c).source (channel_in img s c).row (stop_below (depth img c) (channel_in img s c)) ∙ length-row img s c

  -- after a cycle a channel's source shows its from node's value, while that is pending
  pub source_next :
      (c : ℕ) → (channel_after_at img w s c).source ≡
      one_if (pending_after (eqb (pending_at s c) 1) (stop_above (depth img c) (channel_in img s c)) (fires img w s (from img c)))
      (node_after img w s (from img c)).value
  unfolding channel_after_at channel_after node_after channel_in
  source_next c =
      let n = from img c in
      let b = fires img w s n in
      sym (source_after (eqb (pending_at s c) 1) (stop_above (depth img c) (channel_in img s c)) b (value_at s n) (node_after img w s n).value)
      ∙ ap (one_if (pending_after (eqb (pending_at s c) 1) (stop_above (depth img c) (channel_in img s c)) b)) (kept_value b _ (node_at s n))

module _ (img : List ℕ) (a : Accepted img) (w : ℕ) (s : State) where
  pub node_next : (n : ℕ) → n < nodes img → node_at (state_after img w s) n ≡ node_after img w s n
  unfolding state_after
  node_next n h = node_of img (suc s.cycles) (node_after img w s) (channel_after_at img w s) n h

  -- channel c of the state after a cycle is what the cycle makes of channel c
  pub channel-after_at : (c : ℕ) → c < channels img → channel_in img (state_after img w s) c ≡ channel_after_at img w s c
  unfolding state_after
  channel-after_at c h =
      channel_of img (suc s.cycles) (node_after img w s) (channel_after_at img w s) c h (a.wires c h).0 (a.rows c h)
      (length-next img w s c) (rw (source_next img w s c, holds_one))

  -- ---- a node's value and firings
  pub value_next :
      (n : ℕ) → n < nodes img
      → value_at (state_after img w s) n ≡ (next_of img (λ c. unwrap_or (input_at img s c) (pos 0)) n (value_at s n) if fires img w s n else value_at s n)
  unfolding node_after
  value_next n h = ap (λ (x : Node). x.value) (node_next n h) ∙ value_if (fires img w s n) _ (node_at s n)

  pub firings_next : (n : ℕ) → n < nodes img → firings_at (state_after img w s) n ≡ firings_at s n + (1 if fires img w s n else 0)
  unfolding node_after
  firings_next n h = ap (λ (x : Node). x.firings) (node_next n h) ∙ firings_if (fires img w s n) _ (node_at s n)

-- ---- firing
-- a node fires exactly if it is not stalled, each of its inputs is ready, and no channel that it feeds is blocked
module _ (img : List ℕ) (w : ℕ) (s : State) (n : ℕ) where
  pub fires-iff : (fires img w s n ≡ true) ↔
      (((stalled w n ≡ false) × ((c : ℕ) → c < channels img → to img c ≡ n → is_some (input_at img s c) ≡ true)) ×
      ((c : ℕ) → c < channels img → from img c ≡ n → blocked_at img s c ≡ false))
  unfolding fires all_ready any_blocked
  fires-iff =
      and-iff (not (stalled w n) && all_ready img s n) (not (any_blocked img s n))
      (and-iff (not (stalled w n)) (all_ready img s n) (not_iff (stalled w n) rfl)
      (all_iff (λ c. is_some (input_at img s c) if eqb (to img c) n else true) (channels img)
      (λ c. if-iff (eqb (to img c) n) (is_some (input_at img s c)) (eq_iff (to img c) n) rfl)))
      (not_iff (any_blocked img s n)
      (none-iff (λ c. eqb (from img c) n && blocked_at img s c) (channels img)
      (λ c. nand-iff (eqb (from img c) n) (blocked_at img s c) (eq_iff (from img c) n) rfl)))

module _ (img : List ℕ) (w : ℕ) (s : State) (c : ℕ) (h : c < channels img) where
  -- a node that fires finds each of its inputs ready
  pub fires_ready : fires img w s (to img c) ≡ true → is_some (input_at img s c) ≡ true
  fires_ready f = ((fires-iff img w s (to img c)).0 f).0.1 c h refl

  -- a channel whose to node fires holds a token
  pub fires-holds : fires img w s (to img c) ≡ true → holds (tokens (channel_in img s c)) ≡ true
  unfolding input_at
  fires-holds f =
      let ch = channel_in img s c in
      let e = fires_ready f in
      valid_holds (tokens ch) (ap (λ (l : Link). is_some l) (oldest_first ch e) ∙ e)

  -- a channel whose from node fires is not blocked
  pub fires-clear : fires img w s (from img c) ≡ true → blocked_at img s c ≡ false
  fires-clear f = ((fires-iff img w s (from img c)).0 f).1 c h refl

  -- FIFO law of a channel in a cycle: if its to node fires its oldest token is gone, and if its from node fires the new value is its last
  pub tokens-next :
      Accepted img
      → tokens (channel_in img (state_after img w s) c) ≡
      drop_if (fires img w s (to img c)) (tokens (channel_in img s c)) ++ one_if (fires img w s (from img c)) (value_at (state_after img w s) (from img c))
  unfolding input_at blocked_at channel_after_at
  tokens-next a =
      ap tokens (channel-after_at img a w s c h)
      ∙ channel_fifo (depth img c) (channel_in img s c) (fires img w s (to img c)) (fires img w s (from img c)) (node_after img w s (from img c)).value
      (a.queues c h).0 fires_ready fires-clear
      ∙ ap (λ (v : ℤ). drop_if (fires img w s (to img c)) (tokens (channel_in img s c)) ++ one_if (fires img w s (from img c)) v)
      (sym (ap (λ (x : Node). x.value) (node_next img a w s (from img c) (a.wires c h).0)))

  -- a channel's queue after a cycle, counted: the token that passes link r has come in, and the one that the to node takes is gone
  pub queue_next_lem :
      Accepted img
      → let ch = channel_in img s c in
      length (channel_in img (state_after img w s) c).queue + (1 if fires img w s (to img c) else 0) ≡
      length ch.queue + length (passing (arriving ch) (stop_below (depth img c) ch))
  unfolding input_at input channel_after_at channel_after stop_below
  queue_next_lem a =
      let ch = channel_in img s c in
      let more = passing (arriving ch) (full (depth img c) (length ch.queue)) in
      rw (channel-after_at img a w s c h)
      (length_dropped (fires img w s (to img c)) (ch.queue ++ more)
      (λ f. still_ready (depth img c) ch.queue (arriving ch) (a.queues c h).0 (fires_ready f))
      ∙ length-append ch.queue more)
