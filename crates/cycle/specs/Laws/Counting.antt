-- The counter law: what one cycle does to the counts, and when a node fires by them. It holds of every steady state, reached or not. Assumes nothing.
use Rattle.std.specs.Prelude.{is_some, true, false, ◌≡◌, leb, ltb, ℤ, drop}
use mathlib.Core.List.{List, [], ◌∷◌, ◌++◌}
use Rattle.std.proofs.Math.Logic.{⊎_elim}
use Rattle.std.proofs.Math.Path.{refl, ap}
use Rattle.std.proofs.Common.{sym, ◌∙◌, le-leb, lt-ltb, le-ltb, ltb-true, ltb-false, drop_of_length-le, drop-cons}
use Prim.Native.Nat.{ℕ, zero, suc, ◌+◌, ◌-◌, ◌<◌, ◌≤◌, min}
use native.Mathlib.Omega.{arith}
use Rattle.std.proofs.lemmas.Bool.{lt-leb}
use Rattle.std.proofs.Math.ListN.{length, get_or, length-append, length-take}
use Rattle.laws.specs.Laws.Cases.{lt-or-ge}
use Rattle.laws.specs.Lists.{holds}
use Rattle.laws.specs.Laws.Lists.{two_count}
use Rattle.laws.specs.Laws.Tests.{leb_shift}
use Rattle.image.specs.Image.{channels, from, to, stations, depth}
use Rattle.verdict.specs.Accepted.{Accepted}
use Rattle.relay.specs.Link.{passing}
use Rattle.relay.specs.Laws.Link.{valid_count}
use Rattle.relay.specs.Row.{stopped, leaving, row_after, contents, link_at}
use Rattle.relay.specs.Laws.Row.{part_fifo, stopped_inside, stopped_end, leaving-at}
use Rattle.shell.specs.Channel.{Channel, tokens, blocked, arriving, input, stop_below, stop_above, channel_after}
use Rattle.shell.specs.Queue.{full}
use Rattle.state.specs.declared.State.{State}
use Rattle.state.specs.State.{firings_at, channel_in}
use Rattle.state.specs.Laws.State.{length-row, source_few}
use Rattle.cycle.specs.Cycle.{input_at, blocked_at, fires, channel_after_at, state_after}
use Rattle.cycle.specs.Laws.Cycle.{channel-after_at, firings_next, fires-iff, queue_next_lem}
use Rattle.fitting.specs.Fitting.{Steady}
use Rattle.cycle.specs.Laws.Counters.{entered, limit, Enabled}

-- ---- the counts of one state
module _ (img : List ℕ) (s : State) (c : ℕ) where
  -- tokens that have entered a station have entered the next place or are in the station
  pub entered_inside :
      (j : ℕ) → j < stations img c → entered img s c (suc j) ≡ entered img s c (suc (suc j)) + length (get_or (channel_in img s c).row j [])
  unfolding entered contents
  entered_inside j l =
      let row = (channel_in img s c).row in
      rw (drop-cons row j [] (rw (length-row img s c) l)) (omega (arith, length-append (contents (drop (suc j) row)) (get_or row j [])))

  -- tokens that have entered the queue were taken from it or are in it
  pub entered_end : (j : ℕ) → stations img c ≤ j → entered img s c (suc j) ≡ firings_at s (to img c) + length (channel_in img s c).queue
  unfolding entered contents
  entered_end j l = rw (drop_of_length-le (channel_in img s c).row {i = j} (rw (length-row img s c) l)) (omega arith)

  pub limit_inside : (j : ℕ) → j < stations img c → limit img s c j ≡ entered img s c (suc (suc j)) + 2
  unfolding limit
  limit_inside j l = rw (lt-ltb j (stations img c) l)

  pub limit_end : (j : ℕ) → stations img c ≤ j → limit img s c j ≡ firings_at s (to img c) + depth img c
  unfolding limit
  limit_end j l = rw (le-ltb j (stations img c) l)

  -- the tokens that were made on a channel are the parameter and one at each firing of its from node
  pub entered_source : entered img s c 0 ≡ suc (firings_at s (from img c))
  unfolding entered
  entered_source = refl

  -- every token that the to node has taken has entered each place of the channel
  pub entered_taken : (j : ℕ) → firings_at s (to img c) ≤ entered img s c (suc j)
  unfolding entered
  entered_taken j = omega arith

  -- the limit of each place is above the number of tokens that the to node has taken
  pub limit_taken : Accepted img → c < channels img → (j : ℕ) → firings_at s (to img c) < limit img s c j
  limit_taken a h j =
      ⊎_elim
      (λ (l : j < stations img c). rw (limit_inside j l) (omega (arith, entered_taken (suc j))))
      (λ (l : stations img c ≤ j). rw (limit_end j l) (omega (arith, (a.queues c h).0)))
      (lt-or-ge j (stations img c))

  -- link j is stopped exactly while as many tokens have entered the place below it as can
  stop_count :
      (j : ℕ) → let ch = channel_in img s c in
      stopped (drop j ch.row) (stop_below (depth img c) ch) ≡ leb (limit img s c j) (entered img s c (suc j))
  unfolding stop_below full
  stop_count j =
      let ch = channel_in img s c in
      let stop = stop_below (depth img c) ch in
      let place = get_or ch.row j [] in
      ⊎_elim
      (λ (l : j < stations img c).
      rw (stopped_inside ch.row stop j (rw (length-row img s c) l), two_count place, limit_inside j l, entered_inside j l)
      (sym (leb_shift (entered img s c (suc (suc j))) 2 (length place))))
      (λ (l : stations img c ≤ j).
      rw (stopped_end ch.row stop j (rw (length-row img s c) l), limit_end j l, entered_end j l)
      (sym (leb_shift (firings_at s (to img c)) (depth img c) (length ch.queue))))
      (lt-or-ge j (stations img c))

  module _ (ok : Steady img s) (h : c < channels img) where
    -- no more tokens have entered a place than can have
    pub room : (j : ℕ) → entered img s c (suc j) ≤ limit img s c j
    room j =
        ⊎_elim
        (λ (l : j < stations img c). rw (limit_inside j l, entered_inside j l) (omega (arith, ok.few c h j)))
        (λ (l : stations img c ≤ j). rw (limit_end j l, entered_end j l) (omega (arith, ok.within c h)))
        (lt-or-ge j (stations img c))

    -- the tokens that were made and have not entered place 1 are pending
    pub entered-first : entered img s c 0 ≡ entered img s c 1 + length (channel_in img s c).source
    unfolding entered tokens
    entered-first =
        let ch = channel_in img s c in
        omega (
          arith,
          ok.balance c h,
          length-append ch.queue (contents ch.row ++ ch.source),
          length-append (contents ch.row) ch.source,
        )

    -- tokens that have entered a place and not the next are in it, and link j shows the oldest of them
    link_count :
        (j : ℕ) → j ≤ stations img c
        → (entered img s c (suc j) ≤ entered img s c j)
        × (length (link_at (channel_in img s c).source (channel_in img s c).row j) ≡ min 1 (entered img s c j - entered img s c (suc j)))
    unfolding link_at
    link_count zero l = (omega (arith, entered-first), omega (arith, entered-first, source_few img s c))
    link_count (suc j) l =
        let place = get_or (channel_in img s c).row j [] in
        let e = entered_inside j l in
        (omega (arith, e), omega (arith, e, length-take 1 place))

-- ---- one cycle
-- what a link passes, counted: from a count of `a` above it, `b` below it and a limit `top`, the new one below is the least of b + 1, a and top
least :
    (link : List ℤ) (a b top : ℕ) → b ≤ a → length link ≡ min 1 (a - b) → b ≤ top
    → b + length (passing link (leb top b)) ≡ min (suc b) (min a top)
least link a b top h e l =
    ⊎_elim
    (λ (k : b < top). rw (lt-leb top b k) (omega (arith, e)))
    (λ (k : top ≤ b). rw (le-leb top b k) (omega arith))
    (lt-or-ge b top)

module _ (img : List ℕ) (a : Accepted img) (w : ℕ) (s : State) (c : ℕ) (h : c < channels img) where
  -- a token that passes link j enters the place below it
  entered_pass :
      (j : ℕ) → j ≤ stations img c → let ch = channel_in img s c in
      entered img (state_after img w s) c (suc j) ≡
      entered img s c (suc j) + length (passing (link_at ch.source ch.row j) (stopped (drop j ch.row) (stop_below (depth img c) ch)))
  unfolding entered channel_after_at channel_after arriving
  entered_pass j l =
      let ch = channel_in img s c in
      let stop = stop_below (depth img c) ch in
      let link = passing (link_at ch.source ch.row j) (stopped (drop j ch.row) stop) in
      let last = passing (leaving ch.source ch.row) stop in
      omega (
        arith,
        queue_next_lem img w s c h a,
        firings_next img a w s (to img c) (a.wires c h).1,
        ap (λ (x : Channel). length (contents (drop j x.row))) (channel-after_at img a w s c h),
        ap length (part_fifo ch.source ch.row stop j (rw (length-row img s c) l)),
        length-append last (contents (drop j (row_after ch.source ch.row stop))),
        length-append (contents (drop j ch.row)) link,
      )

  -- ONE CYCLE, COUNTED: one more token enters a place if one more has entered the place above and the limit allows it
  pub entered-next :
      Steady img s → (j : ℕ) → j ≤ stations img c
      → entered img (state_after img w s) c (suc j) ≡ min (suc (entered img s c (suc j))) (min (entered img s c j) (limit img s c j))
  entered-next ok j l =
      let ch = channel_in img s c in
      let count = link_count img s c ok h j l in
      entered_pass j l
      ∙ rw (stop_count img s c j)
      (least (link_at ch.source ch.row j) (entered img s c j) (entered img s c (suc j)) (limit img s c j)
      count.0 count.1 (room img s c ok h j))

-- ---- firing
blocked_by : (source : List ℤ) (b top : ℕ) → length source ≤ 1 → b ≤ top → blocked (holds source) (leb top b) ≡ ltb top (b + length source)
unfolding blocked
blocked_by [] b top o l = sym (le-ltb top (b + 0) (omega arith))
blocked_by (x ∷ xs) b top o l =
    ⊎_elim
    (λ (k : b < top). rw (lt-leb top b k) (sym (le-ltb top (b + suc (length xs)) (omega arith))))
    (λ (k : top ≤ b). rw (le-leb top b k) (sym (lt-ltb top (b + suc (length xs)) (omega arith))))
    (lt-or-ge b top)

module _ (img : List ℕ) (s : State) (ok : Steady img s) (c : ℕ) (h : c < channels img) where
  -- an input is ready once the to node's next token has come up to its queue
  ready_count : is_some (input_at img s c) ≡ ltb (firings_at s (to img c)) (entered img s c (stations img c))
  unfolding input_at input arriving
  ready_count =
      let ch = channel_in img s c in
      let r = stations img c in
      let shown = link_at ch.source ch.row r in
      let count = link_count img s c ok h r (omega arith) in
      let e = entered_end img s c r (omega arith) in
      let n = length-append ch.queue shown in
      let fired = firings_at s (to img c) in
      let came = entered img s c r in
      rw (leaving-at ch.source ch.row, length-row img s c, valid_count (ch.queue ++ shown))
      (⊎_elim
      (λ (l : fired < came). rw (lt-ltb fired came l) (lt-ltb 0 (length (ch.queue ++ shown)) (omega (arith, e, n, count.0, count.1))))
      (λ (l : came ≤ fired). rw (le-ltb fired came l) (le-ltb 0 (length (ch.queue ++ shown)) (omega (arith, e, n, count.0))))
      (lt-or-ge fired came))

  -- a channel is blocked exactly while more tokens were made than can have entered its place 1
  blocked_count : blocked_at img s c ≡ ltb (limit img s c 0) (entered img s c 0)
  unfolding blocked_at stop_above
  blocked_count =
      let ch = channel_in img s c in
      rw (stop_count img s c 0, entered-first img s c ok h)
      (blocked_by ch.source (entered img s c 1) (limit img s c 0) (source_few img s c) (room img s c ok h 0))

-- FIRING, COUNTED: a node fires exactly if it is enabled
module _ (img : List ℕ) (w : ℕ) (s : State) (ok : Steady img s) (n : ℕ) where
  pub fires-enabled : fires img w s n ≡ true → Enabled img s w n
  fires-enabled f =
      let e = (fires-iff img w s n).0 f in
      record {
        awake = e.0.0;
        fed = λ c h q. rw q at (fed c h (e.0.1 c h q));
        free = λ c h q. rw q at (free c h (e.1 c h q));
      }
    where
      fed : (c : ℕ) → c < channels img → is_some (input_at img s c) ≡ true → firings_at s (to img c) < entered img s c (stations img c)
      fed c h e = ltb-true (firings_at s (to img c)) (entered img s c (stations img c)) (sym (ready_count img s ok c h) ∙ e)

      free : (c : ℕ) → c < channels img → blocked_at img s c ≡ false → firings_at s (from img c) < limit img s c 0
      free c h e =
          let l = ltb-false (limit img s c 0) (entered img s c 0) (sym (blocked_count img s ok c h) ∙ e) in
          omega (arith, l, entered_source img s c)

  pub enabled-fires : Enabled img s w n → fires img w s n ≡ true
  enabled-fires e =
      (fires-iff img w s n).1 (
        (
          e.awake,
          λ c h q. ready_count img s ok c h ∙ lt-ltb (firings_at s (to img c)) (entered img s c (stations img c)) (rw q (e.fed c h q)),
        ),
        λ c h q. blocked_count img s ok c h ∙ le-ltb (limit img s c 0) (entered img s c 0) (rw (entered_source img s c, q) (e.free c h q)),
      )
