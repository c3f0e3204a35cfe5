-- The a tokens that have arrived on a channel are the first a of its strict stream. Assumes nothing.
use Prim.Native.Char.{code}
use Rattle.std.specs.Prelude.{Bool, true, false, ◌≡◌, ℕ, ◌+◌, ◌<◌, eqb, ℤ}
use mathlib.Core.List.{List, [], ◌∷◌, ◌++◌}
use Rattle.std.proofs.Math.Path.{ap, sym}
use Rattle.std.proofs.Common.{subst, arith}
use Rattle.std.proofs.Math.ListN.{length}
use Rattle.laws.specs.Lists.{one_if}
use Rattle.laws.specs.Stretch.{Stretch}
use Rattle.laws.specs.Laws.Stretch.{stretch-append, stretch-first, stretch_second, stretch-table}
use Rattle.laws.specs.Table.{table}
use Rattle.image.specs.Image.{channels, to, depth}
use Rattle.verdict.specs.Accepted.{Accepted}
use Rattle.strict.specs.Strict.{stream}
use Rattle.relay.specs.Link.{passing}
use Rattle.relay.specs.Laws.Link.{letter-passing}
use Rattle.relay.specs.Row.{leaving, contents}
use Rattle.relay.specs.Laws.Row.{leaving-first, behind}
use Rattle.shell.specs.Channel.{Channel, tokens, arriving, stop_below, channel_reading}
use Rattle.state.specs.declared.State.{State}
use Rattle.state.specs.State.{firings_at, channel_in}
use Rattle.state.specs.Laws.State.{arriving_few}
use Rattle.state.specs.Fresh.{fresh_state}
use Rattle.state.specs.Laws.Fresh.{fresh_firings, fresh-channel}
use Rattle.cycle.specs.Cycle.{reading_at, state_after}
use Rattle.cycle.specs.Laws.Cycle.{firings_next, queue_next_lem}
use Rattle.fitting.specs.Fitting.{Steady}
use Rattle.fitting.specs.Laws.Fitting.{fitting-fresh}
use Rattle.cycle.specs.Laws.Kept.{steady-next}
use Rattle.token_rule.specs.Laws.Sound.{Sound}
use Rattle.token_rule.specs.Laws.Safety.{sound-fresh, sound-next}
use Rattle.token_rule.specs.Cycles.{arrivals}

stretch-passing : (f : ℕ → ℤ) (a : ℕ) (link : List ℤ) (stop : Bool) → Stretch f a link → Stretch f a (passing link stop)
unfolding Stretch
stretch-passing f a link true s = tt
stretch-passing f a link false s = s

module _ (img : List ℕ) (s : State) (c : ℕ) where
  -- what passes link r in the cycle
  unfoldable arriving_now : List ℤ
  arriving_now = passing (arriving (channel_in img s c)) (stop_below (depth img c) (channel_in img s c))

  -- how many tokens have arrived on a channel: those that were taken, and those that wait in the queue
  unfoldable arrived_so_far : ℕ
  arrived_so_far = firings_at s (to img c) + length (channel_in img s c).queue

  reading_now : one_if (eqb (reading_at img s c).letter (code "T")) (reading_at img s c).value ≡ arriving_now
  unfolding reading_at channel_reading arriving_now
  reading_now = letter-passing (arriving (channel_in img s c)) (stop_below (depth img c) (channel_in img s c)) (arriving_few img s c)

  -- the tokens that arrive in a cycle are the next of the stream
  stretch_now : Sound img s → c < channels img → Stretch (stream img c) arrived_so_far arriving_now
  unfolding arriving_now arrived_so_far tokens arriving
  stretch_now ok h =
      let ch = channel_in img s c in
      let rest = behind ch.source ch.row in
      let all = stretch_second (stream img c) (firings_at s (to img c)) ch.queue (contents ch.row ++ ch.source) (ok.streamed c h) in
      let shown : Stretch (stream img c) (firings_at s (to img c) + length ch.queue) (leaving ch.source ch.row) =
      stretch-first (stream img c) (firings_at s (to img c) + length ch.queue) (leaving ch.source ch.row) rest
      (rw leaving-first at all) in
      stretch-passing (stream img c) (firings_at s (to img c) + length ch.queue) (leaving ch.source ch.row) (stop_below (depth img c) ch) shown

module _ (img : List ℕ) (a : Accepted img) (c : ℕ) (h : c < channels img) where
  arrived_next : (w : ℕ) (s : State) → arrived_so_far img (state_after img w s) c ≡ arrived_so_far img s c + length (arriving_now img s c)
  unfolding arriving_now arrived_so_far
  arrived_next w s = omega (arith, firings_next img a w s (to img c) (a.wires c h).1, queue_next_lem img w s c h a)

  -- what arrives from a state on goes on in the stream where what has arrived before ends
  arrivals-next :
      (words : List ℕ) (s : State) → Steady img s → Sound img s → Stretch (stream img c) (arrived_so_far img s c) (arrivals img s words c)
  unfolding arrivals Stretch
  arrivals-next [] s steady ok = tt
  arrivals-next (w ∷ words) s steady ok =
      let next = state_after img w s in
      let came = arrivals img next words c in
      subst (λ (now : List ℤ). Stretch (stream img c) (arrived_so_far img s c) (now ++ came)) (sym (reading_now img s c))
      (stretch-append (stream img c) (arrived_so_far img s c) (arriving_now img s c) came (stretch_now img s c ok h)
      (rw (← (arrived_next w s)) (arrivals-next words next (steady-next img a w s steady) (sound-next img a w s steady ok))))

  pub arrivals-fresh : (words : List ℕ) → let arrived = arrivals img (fresh_state img) words c in arrived ≡ table (stream img c) (length arrived)
  unfolding arrived_so_far
  arrivals-fresh words =
      let none : arrived_so_far img (fresh_state img) c ≡ 0 =
      rw (fresh_firings img (to img c) (a.wires c h).1, ap (λ (x : Channel). x.queue) (fresh-channel img a c h)) in
      stretch-table (stream img c) (arrivals img (fresh_state img) words c)
      (rw none at (arrivals-next words (fresh_state img) (fitting-fresh img a).steady (sound-fresh img a)))
