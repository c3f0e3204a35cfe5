-- The words of the token rule, computed.
use Rattle.std.specs.Prelude.{true, List, [], ◌∷◌, ◌≡◌, refl, ℕ, pos, map, replicate}
use Rattle.laws.specs.Below.{all_below, any_below, most_below, pick_below}
use Rattle.laws.specs.Signed.{signed}
use Rattle.laws.specs.Lists.{padded}
use Rattle.laws.specs.Table.{table}
use Rattle.kinds.specs.Kinds.{exact}
use Rattle.image.specs.Image.{nodes, channels, kind, parameter, wire, from, to, port, feeds, depths, stations, depth, most_stations}
use Rattle.worked_examples.specs.Netlist.{figure4, ring}
use Rattle.pearl.specs.Wrap.{wrap}
use Rattle.pearl.specs.Next.{next_value}
use Rattle.node.specs.Node.{port_value, next_of}
use Rattle.relay.specs.Link.{letter, reading}
use Rattle.relay.specs.Station.{held, station_of, place_after}
use Rattle.relay.specs.Row.{stopped, leaving, row_after}
use Rattle.shell.specs.Queue.{waiting, queue_of, full}
use Rattle.shell.specs.Channel.{blocked, arriving, input, stop_below, stop_above, channel_reading, channel_after}
use Rattle.state.specs.State.{node_at, pending_at, station_at, queue_at, channel_in, state_of}
use Rattle.state.specs.Fresh.{fresh_state, zeros}
use Rattle.cycle.specs.Cycle.{input_at, blocked_at, reading_at, all_ready, any_blocked, fires, node_after, channel_after_at, state_after}
use Rattle.cycle.specs.Run.{no_step}
use Rattle.cycle.specs.Word.{stalled, sets_above}
use Rattle.engine.specs.Answer.{stepped}
use Rattle.token_rule.specs.Cycles.{fired_in, arrivals}
use Rattle.token_rule.specs.Calls.{Call, step, run, goes, roomy, makes, run_cycles, cycles_in, cycles_of}
use Rattle.token_rule.specs.Progress.{Awake}
use Rattle.token_rule_c.specs.Calls.{CallBytes, step_bytes, run_bytes, on_state}

-- ---- the cycles of a list
-- a step with its word and the lengths of its arrays. Cycles follow from what the calls are given, so the answers are left blank here
abbrev asked : ℕ → ℕ → ℕ → Call
asked w letters values =
    step
    record {
      word = w;
      letters = replicate letters 0;
      values = replicate values (pos 0);
      answer = stepped 0 zeros;
      letters_left = [];
      values_left = [];
    }

abbrev told : List ℕ → Call
told words = run record { words = words; answer = no_step 0 zeros }

-- figure 4 has 5 nodes and 4 channels. A step makes its cycle; a word with bit 5, an array of 3 places, and the rest of a run after such a word make
-- none; the list goes on. The last cycle is the 1,000,000th
made :
    (cycles_of figure4 0 (asked 1 4 4 ∷ asked 32 4 4 ∷ asked 0 3 4 ∷ asked 0 4 3 ∷ told (0 ∷ 16 ∷ 32 ∷ 0 ∷ []) ∷ asked 3 9 4 ∷ []) ≡
    1 ∷ 0 ∷ 16 ∷ 3 ∷ [])
    × (cycles_of figure4 999998 (told (0 ∷ []) ∷ told (1 ∷ 2 ∷ []) ∷ asked 0 4 4 ∷ []) ≡ 0 ∷ 1 ∷ [])
unfolding nodes channels sets_above goes roomy makes run_cycles cycles_in cycles_of
made = (refl, refl)

-- the same calls on the bytes of a state: the second step has a word with bit 5
abbrev asked_bytes : ℕ → CallBytes
asked_bytes w =
    step_bytes
    record { word = w; letters = replicate 4 0; values = replicate 4 (pos 0); number = 0; left = []; letters_left = []; values_left = [] }

abbrev told_bytes : List ℕ → CallBytes
told_bytes words = run_bytes record { words = words; number = 0; steps = 0; left = [] }

made_on_bytes : cycles_of figure4 0 (map on_state (asked_bytes 1 ∷ asked_bytes 32 ∷ told_bytes (0 ∷ 16 ∷ 32 ∷ 0 ∷ []) ∷ [])) ≡ 1 ∷ 0 ∷ 16 ∷ []
unfolding nodes channels sets_above goes roomy makes run_cycles cycles_in cycles_of on_state
made_on_bytes = refl

-- ---- figure 4's eleven cycles: what has arrived on channel 1, where 105 stood a cycle before it passed, and the firings of node 0
words : List ℕ
words = 1 ∷ 0 ∷ 0 ∷ 16 ∷ 0 ∷ 0 ∷ 3 ∷ 3 ∷ 8 ∷ 0 ∷ 0 ∷ []

came :
    (arrivals figure4 (fresh_state figure4) words 1 ≡ pos 100 ∷ pos 101 ∷ pos 102 ∷ pos 103 ∷ pos 104 ∷ pos 105 ∷ pos 106 ∷ pos 107 ∷ [])
    × (fired_in figure4 (fresh_state figure4) words 0 ≡ 8)
unfolding all_below any_below pick_below signed padded table
    nodes channels kind parameter wire from to port feeds depths stations depth wrap exact next_value port_value next_of
    letter reading held station_of place_after stopped leaving row_after
    waiting queue_of full blocked arriving input stop_below stop_above channel_reading channel_after
    node_at pending_at station_at queue_at channel_in state_of fresh_state
    stalled input_at blocked_at reading_at all_ready any_blocked fires node_after channel_after_at state_after
    words fired_in arrivals
came = (refl, refl)

-- ---- R: figure 4 has no stations, the ring has 3 and 8, and one count node has no channels
largest : (most_stations figure4 ≡ 0) × (most_stations ring ≡ 8) × (most_stations (1 ∷ 0 ∷ 1 ∷ 5 ∷ 0 ∷ 0 ∷ 0 ∷ []) ≡ 0)
unfolding nodes channels depths stations most_below most_stations
largest = (refl, refl, refl)

-- the words 1, 4 and 5 do not stall node 1; word 2 does
free : Awake 1 (1 ∷ 4 ∷ 5 ∷ []) × (stalled 2 1 ≡ true)
unfolding stalled Awake
free = ((refl, (refl, (refl, tt))), refl)
