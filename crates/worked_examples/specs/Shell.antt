-- Channels, computed: the second channel of figure 4, a channel with two stations that fills up and runs empty, and a queue's record.
use Prim.Native.Char.{code}
use Rattle.std.specs.Prelude.{is_some, true, false, not, ◌&&◌, List, [], ◌∷◌, ◌++◌, map, ◌≡◌, refl, ℕ, zero, suc, eqb, ℤ, pos, drop}
use Rattle.laws.specs.Choice.{◌if◌else◌}
use Rattle.laws.specs.Lists.{holds, padded}
use Rattle.relay.specs.declared.Reading.{Reading}
use Rattle.relay.specs.Link.{letter, reading}
use Rattle.relay.specs.Station.{place_after}
use Rattle.relay.specs.Row.{stopped, leaving, row_after}
use Rattle.shell.specs.Queue.{queue_of, full, pushed, popped, queue_after}
use Rattle.shell.specs.Channel.{Channel, blocked, arriving, input, stop_below, stop_above, channel_reading, channel_after}

-- the readings T and R with their value, and I
abbrev t : ℕ → Reading
t x = record { letter = code "T"; value = pos x }

abbrev r : ℕ → Reading
r x = record { letter = code "R"; value = pos x }

abbrev i : Reading
i = record { letter = code "I"; value = pos 0 }

-- a channel between a count node that shows v and another node, through many cycles. For each: 1 where the to node may fire, and 1 where the from
-- node may. A node fires if it may, its input is ready and its token is not blocked
abbrev states : ℕ → Channel → ℕ → List ℕ → List ℕ → List Channel
states depth ch v [] froms = ch ∷ []
states depth ch v (to ∷ tos) [] = ch ∷ []
states depth ch v (to ∷ tos) (from ∷ froms) =
    let fires = eqb from 1 && not (blocked (holds ch.source) (stop_above depth ch)) in
    let v' = suc v if fires else v in
    ch ∷ states depth (channel_after depth ch (eqb to 1 && is_some (input ch)) fires (pos v')) v' tos froms

abbrev fresh : ℕ → List (List ℤ) → Channel
fresh v row = record { source = pos v ∷ []; row = row; queue = [] }

-- figure 4, the channel from node 1, cycles 0 to 10: its queue of two is full in cycle 5, and the stop stands although its node fires
figure4 :
    map (channel_reading 2) (states 2 (fresh 100 []) 100 (1 ∷ 0 ∷ 1 ∷ 1 ∷ 0 ∷ 1 ∷ 1 ∷ 1 ∷ 0 ∷ 1 ∷ 1 ∷ []) (1 ∷ 1 ∷ 1 ∷ 1 ∷ 1 ∷ 1 ∷ 0 ∷ 0 ∷ 1 ∷ 1 ∷ 1 ∷ [])) ≡
    t 100 ∷ t 101 ∷ t 102 ∷ t 103 ∷ t 104 ∷ r 105 ∷ t 105 ∷ i ∷ i ∷ t 106 ∷ t 107 ∷ t 108 ∷ []
unfolding letter reading stopped leaving row_after place_after full blocked arriving input stop_below stop_above channel_reading channel_after
figure4 = refl

-- two stations and a queue of two: the to node waits until all is full, takes two tokens with stops between them, and then runs freely
two_stations :
    map (channel_reading 2) (states 2 (fresh 1 ([] ∷ [] ∷ [])) 1
    (0 ∷ 0 ∷ 0 ∷ 0 ∷ 0 ∷ 0 ∷ 0 ∷ 0 ∷ 1 ∷ 0 ∷ 1 ∷ 1 ∷ 1 ∷ 1 ∷ 1 ∷ 1 ∷ 1 ∷ 1 ∷ [])
    (1 ∷ 1 ∷ 1 ∷ 1 ∷ 1 ∷ 1 ∷ 1 ∷ 1 ∷ 1 ∷ 1 ∷ 1 ∷ 1 ∷ 0 ∷ 0 ∷ 0 ∷ 0 ∷ 1 ∷ 1 ∷ [])) ≡
    i ∷ i ∷ t 1 ∷ t 2 ∷ r 3 ∷ r 3 ∷ r 3 ∷ r 3 ∷ r 3 ∷ t 3 ∷ r 4 ∷ t 4 ∷ t 5 ∷ t 6 ∷ t 7 ∷ t 8 ∷ i ∷ i ∷ i ∷ []
unfolding letter reading stopped leaving row_after place_after full blocked arriving input stop_below stop_above channel_reading channel_after
two_stations = refl

-- ---- the record
-- a queue of eight that is full has no place for a ninth, and hands on its first; a depth of 1 is full with one token
abbrev up_to : ℕ → List ℤ
up_to zero = []
up_to (suc n) = up_to n ++ (pos (suc n) ∷ [])

eight :
    (pushed (queue_of (up_to 7)) (pos 8 ∷ []) ≡ queue_of (up_to 8)) ×
    (pushed (queue_of (up_to 8)) (pos 9 ∷ []) ≡ queue_of (up_to 8)) ×
    (queue_after (queue_of (up_to 8)) [] true ≡ queue_of (drop 1 (up_to 8))) ×
    (queue_after (queue_of (pos 1 ∷ [])) (pos 2 ∷ []) true ≡ queue_of (pos 2 ∷ [])) ×
    (full 8 7 ≡ false) × (full 8 8 ≡ true) × (full 1 0 ≡ false) × (full 1 1 ≡ true)
unfolding queue_of full pushed popped queue_after padded
eight = (refl, refl, refl, refl, refl, refl, refl, refl)
