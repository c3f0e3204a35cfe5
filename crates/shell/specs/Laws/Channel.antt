-- Laws of a channel in one cycle: first in, first out; the input is the oldest token; the queue stays within its depth. Assumes nothing.
use Rattle.std.specs.Prelude.{is_some, Bool, true, false, ◌≡◌, refl, ℕ, ◌+◌, ◌≤◌, leb, ℤ, length}
use Rattle.std.proofs.Common.{true≢false, ⊎_elim, ◌∙◌, arith, leb-false, length-append}
use mathlib.Core.List.{List, [], ◌∷◌, ◌++◌, append_assoc, append-nil}
use Rattle.std.proofs.Math.Path.{sym, ap}
use Rattle.std.proofs.lemmas.Bool.{lt-leb}
use Rattle.laws.specs.Choice.{◌if◌else◌}
use Rattle.laws.specs.Laws.Cases.{true_or_false}
use Rattle.laws.specs.Lists.{holds, one_if, drop_if}
use Rattle.laws.specs.Laws.Lists.{drop_if-append, length-drop_if}
use Rattle.relay.specs.Link.{Link, link_of, passing, staying}
use Rattle.relay.specs.Laws.Link.{link_first, valid_holds, passing-staying}
use Rattle.relay.specs.Row.{stopped, leaving, row_after, contents}
use Rattle.relay.specs.Laws.Row.{row_fifo, leaving-first, behind}
use Rattle.shell.specs.Queue.{full}
use Rattle.shell.specs.Channel.{Channel, tokens, blocked, pending_after, arriving, input, stop_below, stop_above, channel_after}

-- an input that is ready shows the oldest of all the channel's tokens
pub oldest_first : (ch : Channel) → is_some (input ch) ≡ true → link_of (tokens ch) ≡ input ch
unfolding input tokens arriving
oldest_first ch e =
    let rest = behind ch.source ch.row in
    ap link_of (ap (λ (t : List ℤ). ch.queue ++ t) (leaving-first ch.source ch.row) ∙ sym (append_assoc ch.queue (arriving ch) rest))
    ∙ link_first (ch.queue ++ arriving ch) rest e

-- a node that fires still finds a token once what passes is in the queue: only a queue that holds one is full
pub still_ready :
    (depth : ℕ) (queue link : List ℤ) → 1 ≤ depth → is_some (link_of (queue ++ link)) ≡ true
    → holds (queue ++ passing link (full depth (length queue))) ≡ true
unfolding full
still_ready depth [] link h e = rw (lt-leb depth 0 h) (valid_holds link e)
still_ready depth (x ∷ queue) link h e = refl

-- no token stays at a from node that is not blocked
cleared : (source : List ℤ) (stop : Bool) → blocked (holds source) stop ≡ false → staying source stop ≡ []
unfolding blocked
cleared source false e = refl
cleared [] true e = refl
cleared (x ∷ source) true e = absurd (true≢false e)

renewed : (from : Bool) (stay : List ℤ) (value : ℤ) → (from ≡ true → stay ≡ []) → ((value ∷ []) if from else stay) ≡ stay ++ one_if from value
renewed true stay value h = rw (h refl)
renewed false stay value h = sym (append-nil stay)

-- the lists behind the law: what passes link r (a) and link 0 (p), the row before (r) and after (r'), what stays at the source, and the new token
regroup :
    (q a r r' source p stay new : List ℤ) → a ++ r' ≡ r ++ p → p ++ stay ≡ source
    → (q ++ a) ++ (r' ++ (stay ++ new)) ≡ (q ++ (r ++ source)) ++ new
regroup q a r r' source p stay new e f =
    let x = stay ++ new in
    append_assoc q a (r' ++ x)
    ∙ ap (λ (t : List ℤ). q ++ t)
    (sym (append_assoc a r' x)
    ∙ ap (λ (t : List ℤ). t ++ x) e
    ∙ append_assoc r p x
    ∙ ap (λ (t : List ℤ). r ++ t) (sym (append_assoc p stay new) ∙ ap (λ (t : List ℤ). t ++ new) f)
    ∙ sym (append_assoc r source new))
    ∙ sym (append_assoc q (r ++ source) new)

module _ (depth : ℕ) (ch : Channel) (to from : Bool) (value : ℤ) where
  -- FIFO law of a channel: where its to node fires the first token is gone, and where its from node fires the new one is the last. A node fires only
  -- if its inputs are ready and no token that it sends is blocked
  pub channel_fifo :
      1 ≤ depth → (to ≡ true → is_some (input ch) ≡ true) → (from ≡ true → blocked (holds ch.source) (stop_above depth ch) ≡ false)
      → tokens (channel_after depth ch to from value) ≡ drop_if to (tokens ch) ++ one_if from value
  unfolding tokens channel_after stop_below stop_above arriving input
  channel_fifo deep ready clear =
      let stop = full depth (length ch.queue) in
      let above = stopped ch.row stop in
      let a = passing (leaving ch.source ch.row) stop in
      let stay = staying ch.source above in
      let new = one_if from value in
      let after = contents (row_after ch.source ch.row stop) in
      ap (λ (t : List ℤ). drop_if to (ch.queue ++ a) ++ (after ++ t)) (renewed from stay value (λ e. cleared ch.source above (clear e)))
      ∙ sym (drop_if-append (ch.queue ++ a) (after ++ (stay ++ new)) to (λ e. still_ready depth ch.queue (arriving ch) deep (ready e)))
      ∙ ap (λ (t : List ℤ). drop_if to t)
      (regroup ch.queue a (contents ch.row) after ch.source (passing ch.source above) stay new
      (row_fifo ch.source ch.row stop) (passing-staying ch.source above))
      ∙ drop_if-append (tokens ch) new to (λ e. valid_holds (tokens ch) (ap (λ (l : Link). is_some l) (oldest_first ch (ready e)) ∙ ready e))

-- the token that is pending after a cycle, from the one that was and the value that the from node then shows
pub source_after :
    (pending stop fires : Bool) (old new : ℤ)
    → one_if (pending_after pending stop fires) (new if fires else old) ≡ ((new ∷ []) if fires else staying (one_if pending old) stop)
unfolding pending_after blocked
source_after pending stop true old new = refl
source_after true true false old new = refl
source_after true false false old new = refl
source_after false true false old new = refl
source_after false false false old new = refl

-- a queue never holds more than its depth: what passes link r finds a place
pub arrived_few :
    (depth : ℕ) (queue link : List ℤ) → length queue ≤ depth → length link ≤ 1
    → length queue + length (passing link (full depth (length queue))) ≤ depth
unfolding full
arrived_few depth queue link h l =
    ⊎_elim
    (λ (e : leb depth (length queue) ≡ true). rw e (omega arith))
    (λ (e : leb depth (length queue) ≡ false). let k = leb-false depth (length queue) e in rw e (omega arith))
    (true_or_false (leb depth (length queue)))

pub queue_few :
    (depth : ℕ) (queue link : List ℤ) (fires : Bool) → length queue ≤ depth → length link ≤ 1
    → length (drop_if fires (queue ++ passing link (full depth (length queue)))) ≤ depth
queue_few depth queue link fires h l =
    let a = passing link (full depth (length queue)) in
    let k = length-drop_if fires (queue ++ a) in
    let n = length-append queue a in
    let m = arrived_few depth queue link h l in
    omega (arith, k, n, m)
