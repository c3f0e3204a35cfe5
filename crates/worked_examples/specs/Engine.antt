-- The step and the run, computed: figure 4, whole; a netlist with stations on every channel through twenty cycles with stalls; states that fit their
-- image and states that do not; the numbers of a step and of a run, in their order.
use Prim.Native.Char.{code}
use Rattle.std.specs.Prelude.{Bool, true, false, ◌&&◌, ◌||◌, List, [], ◌∷◌, ◌++◌, map, ◌≡◌, refl, ℕ, eqb, leb, ltb, ℤ, pos, get_or, set, replicate}
use Rattle.std.proofs.Common.{sym, ap, ◌∙◌, arith}
use Rattle.std.proofs.Math.Dec.{leb-zero}
use Rattle.laws.specs.Below.{all_below, any_below, sum_below, pick_below}
use Rattle.laws.specs.Choice.{◌if◌else◌}
use Rattle.laws.specs.Signed.{signed}
use Rattle.laws.specs.Lists.{padded, zero_from}
use Rattle.laws.specs.Table.{table}
use Rattle.kinds.specs.Kinds.{inputs, exact}
use Rattle.image.specs.Image.{nodes, channels, kind, parameter, wire, from, to, port, feeds, depths, stations, depth}
use Rattle.verdict.specs.Judge.{judge, bad_kind, bad_wire, bad_port, fed_twice, not_fed, bad_stations, bad_depth, sizes_number, contents_number, depth_number}
use Rattle.worked_examples.specs.Netlist.{figure4}
use Rattle.pearl.specs.Wrap.{wrap}
use Rattle.pearl.specs.Next.{next_value}
use Rattle.node.specs.Node.{port_value, next_of}
use Rattle.relay.specs.declared.Reading.{Reading}
use Rattle.relay.specs.declared.Station.{Station}
use Rattle.worked_examples.specs.Relay.{t, t-, r, i, s}
use Rattle.relay.specs.Link.{letter, reading}
use Rattle.relay.specs.Station.{held, station_of, place_after}
use Rattle.relay.specs.Row.{stopped, leaving, row_after}
use Rattle.shell.specs.declared.Queue.{Queue}
use Rattle.shell.specs.Queue.{waiting, queue_of, full}
use Rattle.shell.specs.Channel.{blocked, arriving, input, stop_below, stop_above, channel_reading, channel_after}
use Rattle.state.specs.declared.State.{State}
use Rattle.state.specs.State.{node_at, firings_at, pending_at, station_at, queue_at, channel_in, state_of}
use Rattle.state.specs.Told.{tells}
use Rattle.state.specs.Fresh.{fresh_state, fresh_answer, zeros}
use Rattle.cycle.specs.Cycle.{input_at, blocked_at, reading_at, all_ready, any_blocked, fires, node_after, channel_after_at}
use Rattle.cycle.specs.Cycle.{state_after, after, letters_of, values_of}
use Rattle.fitting.specs.Fits.{cycles_fit, firings_fit, pending_fit, stations_fit, counts_fit, node_clear, pending_clear, station_clear, queue_clear}
use Rattle.fitting.specs.Fits.{unused_clear, balanced, fits, state_number}
use Rattle.fitting.specs.Laws.Number.{state_0}
use Rattle.cycle.specs.Run.{no_step, step_more, ran_from, run_answer}
use Rattle.cycle.specs.Laws.Run.{run-made}
use Rattle.cycle.specs.Word.{stalled, sets_above}
use Rattle.readings.specs.Shown.{shown_number, letters_shown, values_shown}
use Rattle.engine.specs.Answer.{stepped, step_number, number_of_step, step_answer, letters_written, values_written}
use Rattle.engine.specs.Laws.Answer.{step-none, step-made}

-- the readings of each cycle of a trace from a state on, and each node's firings after the last
abbrev lines : List ℕ → State → List ℕ → List (List Reading)
lines img st [] = []
lines img st (w ∷ ws) = table (reading_at img st) (channels img) ∷ lines img (state_after img w st) ws

abbrev fired : List ℕ → State → List ℕ → List ℕ
fired img st words = table (firings_at (after img st words)) (nodes img)

-- ---- two traces
-- figure 4: "words 1 0 0 16 0 0 3 3 8 0 0"
abbrev pub words : List ℕ
words = 1 ∷ 0 ∷ 0 ∷ 16 ∷ 0 ∷ 0 ∷ 3 ∷ 3 ∷ 8 ∷ 0 ∷ 0 ∷ []

-- a count, a sum, a negate and a difference node, parameters 10, 100, 200 and 300. Sum, negate and difference are a ring, and the count forks into
-- it, to the sum and to the difference: wires 0-1-0, 3-1-1, 1-2-0, 2-3-0, 0-3-1; depths 1/1, 1/1, 2/1, 1/2, 3/1
abbrev pub stationed : List ℕ
stationed =
    (4 ∷ 5 ∷ []) ++
    (1 ∷ 6 ∷ 4 ∷ 7 ∷ []) ++
    (10 ∷ 0 ∷ 0 ∷ 0 ∷ 100 ∷ 0 ∷ 0 ∷ 0 ∷ 200 ∷ 0 ∷ 0 ∷ 0 ∷ 44 ∷ 1 ∷ 0 ∷ 0 ∷ []) ++
    (0 ∷ 1 ∷ 0 ∷ 3 ∷ 1 ∷ 1 ∷ 1 ∷ 2 ∷ 0 ∷ 2 ∷ 3 ∷ 0 ∷ 0 ∷ 3 ∷ 1 ∷ []) ++
    (1 ∷ 1 ∷ 1 ∷ 1 ∷ 2 ∷ 1 ∷ 1 ∷ 2 ∷ 3 ∷ 1 ∷ [])

-- words under which each way to misread the rules would show in the trace
abbrev pub stalls : List ℕ
stalls = 4 ∷ 10 ∷ 0 ∷ 2 ∷ 7 ∷ 5 ∷ 13 ∷ 9 ∷ 0 ∷ 0 ∷ 9 ∷ 13 ∷ 3 ∷ 4 ∷ 11 ∷ 12 ∷ 0 ∷ 0 ∷ 14 ∷ 0 ∷ []

record Traced : Type 0 where
  -- figure 4's trace, "The whole output"
  figure4_trace :
      lines figure4 (fresh_state figure4) words ≡
      (t 10 ∷ t 100 ∷ t 0 ∷ t 0 ∷ []) ∷
      (i ∷ t 101 ∷ t 110 ∷ t 110 ∷ []) ∷
      (t 11 ∷ t 102 ∷ i ∷ i ∷ []) ∷
      (t 12 ∷ t 103 ∷ t 112 ∷ t 112 ∷ []) ∷
      (t 13 ∷ t 104 ∷ t 114 ∷ r 114 ∷ []) ∷
      (t 14 ∷ r 105 ∷ i ∷ t 114 ∷ []) ∷
      (t 15 ∷ t 105 ∷ t 116 ∷ t 116 ∷ []) ∷
      (i ∷ i ∷ t 118 ∷ t 118 ∷ []) ∷
      (i ∷ i ∷ t 120 ∷ t 120 ∷ []) ∷
      (t 16 ∷ t 106 ∷ s ∷ i ∷ []) ∷
      (t 17 ∷ t 107 ∷ t 122 ∷ t 122 ∷ []) ∷ []
  figure4-fired : fired figure4 (fresh_state figure4) words ≡ 8 ∷ 8 ∷ 8 ∷ 8 ∷ 8 ∷ []
  -- what a simulator that was written from the rules alone prints
  stationed_trace :
      lines stationed (fresh_state stationed) stalls ≡
      (i ∷ i ∷ i ∷ i ∷ i ∷ []) ∷
      (t 10 ∷ t 300 ∷ i ∷ t 200 ∷ i ∷ []) ∷
      (r 11 ∷ s ∷ t 100 ∷ i ∷ i ∷ []) ∷
      (t 11 ∷ i ∷ i ∷ i ∷ t 10 ∷ []) ∷
      (r 12 ∷ i ∷ i ∷ t- 100 ∷ t 11 ∷ []) ∷
      (r 12 ∷ t 190 ∷ t 310 ∷ i ∷ t 12 ∷ []) ∷
      (t 12 ∷ t- 111 ∷ s ∷ i ∷ r 13 ∷ []) ∷
      (t 13 ∷ i ∷ s ∷ i ∷ r 13 ∷ []) ∷
      (s ∷ i ∷ t 201 ∷ i ∷ r 13 ∷ []) ∷
      (s ∷ i ∷ t- 99 ∷ t- 310 ∷ r 13 ∷ []) ∷
      (r 14 ∷ i ∷ i ∷ t- 201 ∷ t 13 ∷ []) ∷
      (r 14 ∷ t- 322 ∷ i ∷ t 99 ∷ s ∷ []) ∷
      (t 14 ∷ i ∷ i ∷ s ∷ r 14 ∷ []) ∷
      (r 15 ∷ i ∷ i ∷ i ∷ t 14 ∷ []) ∷
      (r 15 ∷ t- 214 ∷ t- 309 ∷ i ∷ t 15 ∷ []) ∷
      (r 15 ∷ r 85 ∷ i ∷ i ∷ s ∷ []) ∷
      (t 15 ∷ t 85 ∷ i ∷ t 309 ∷ s ∷ []) ∷
      (t 16 ∷ i ∷ i ∷ i ∷ t 16 ∷ []) ∷
      (r 17 ∷ t 294 ∷ t- 200 ∷ i ∷ s ∷ []) ∷
      (r 17 ∷ s ∷ r 100 ∷ i ∷ r 17 ∷ []) ∷ []
  stationed-fired : fired stationed (fresh_state stationed) stalls ≡ 9 ∷ 7 ∷ 6 ∷ 6 ∷ []

traced : Traced
unfolding all_below any_below pick_below signed padded table
    nodes channels kind parameter wire from to port feeds depths stations depth wrap exact next_value port_value next_of
    letter reading held station_of place_after stopped leaving row_after
    waiting queue_of full blocked arriving input stop_below stop_above channel_reading channel_after
    node_at pending_at station_at queue_at channel_in state_of fresh_state
    stalled input_at blocked_at reading_at all_ready any_blocked fires node_after channel_after_at state_after after
traced = record { figure4_trace = refl; figure4-fired = refl; stationed_trace = refl; stationed-fired = refl }

-- ---- number 21
-- figure 4's state of so many cycles, with these firings, pending bytes, stations and queues, and nothing past a list's end
abbrev state : ℕ → List ℕ → List ℕ → List Station → List Queue → State
state cycles firings pending stations queues =
    record zeros {
      cycles = cycles;
      nodes = table (λ n. record { value = get_or (pos 10 ∷ pos 100 ∷ []) n (pos 0); firings = get_or firings n 0 }) 64;
      pending = padded 96 0 pending;
      stations = padded 768 (station_of []) stations;
      queues = padded 96 (queue_of []) queues;
    }

-- figure 4's pending bytes where a token is pending on each of its four channels
abbrev all_pending : List ℕ
all_pending = replicate 4 1

-- figure 4's fresh state with another cycle count
abbrev at : ℕ → State
at cycles = state cycles [] all_pending [] []

fresh-state : fresh_state figure4 ≡ at 0
unfolding signed padded table nodes channels parameter depths stations station_of queue_of state_of fresh_state
fresh-state = refl

-- a refused call for a fresh state answers the judge's number beside zeros
fresh_refused : fresh_answer (set figure4 2 0) ≡ tells 4 zeros
unfolding judge sizes_number contents_number depth_number nodes channels kind wire from to port depths stations depth inputs feeds
    bad_kind bad_wire bad_port fed_twice not_fed bad_stations bad_depth any_below sum_below fresh_answer
fresh_refused = refl

-- the fresh state fits with every cycle count up to the last. What does not depend on the count is computed for all counts at once, because to look
-- at all places takes long
at_firings : (cycles : ℕ) → firings_fit figure4 (at cycles) ≡ true
unfolding all_below table nodes node_at firings_fit
at_firings cycles = rw (leb-zero cycles) refl

at_others :
    (cycles : ℕ) → let st = at cycles in
    (pending_fit figure4 st && counts_fit figure4 st && unused_clear figure4 st && all_below (balanced figure4 st) (channels figure4)) ≡ true
unfolding all_below sum_below padded table nodes channels wire from to depths stations depth station_of queue_of node_at pending_at station_at queue_at
    zero_from pending_fit stations_fit counts_fit node_clear pending_clear station_clear queue_clear unused_clear balanced
at_others cycles = refl

at-fits : (cycles : ℕ) → leb cycles 1000000 ≡ true → fits figure4 (at cycles) ≡ true
unfolding cycles_fit fits
at-fits cycles e = rw (e, at_firings cycles) (at_others cycles)

-- states of which each misses one of the six conditions
abbrev misfits : List State
misfits =
    -- cycle count 1,000,001
    at 1000001
    -- each node has fired in no cycle
    ∷ state 0 (replicate 5 1) all_pending [] []
    -- a pending byte of 2 for two tokens
    ∷ state 1 (1 ∷ []) (2 ∷ 1 ∷ 1 ∷ 1 ∷ []) [] []
    -- three tokens in a queue of depth 2
    ∷ state 3 (3 ∷ []) all_pending [] (queue_of (pos 10 ∷ pos 11 ∷ pos 12 ∷ []) ∷ [])
    -- a token that an empty queue does not hold; node 5 has fired; a pending token on channel 4; a token in a station that channel 0 does not have
    ∷ state 0 [] all_pending [] (record { tokens = pos 7 ∷ replicate 7 (pos 0); count = 0 } ∷ [])
    ∷ state 1 (0 ∷ 0 ∷ 0 ∷ 0 ∷ 0 ∷ 1 ∷ []) all_pending [] []
    ∷ state 0 [] (replicate 5 1) [] []
    ∷ state 0 [] all_pending (station_of (pos 7 ∷ []) ∷ []) []
    -- no token on channel 0, fresh and where its to node has taken one that never was, so that 0 + 1 - 2 would have to be 0
    ∷ state 0 [] (0 ∷ 1 ∷ 1 ∷ 1 ∷ []) [] []
    ∷ state 2 (0 ∷ 0 ∷ 2 ∷ 2 ∷ 2 ∷ []) (0 ∷ 0 ∷ 1 ∷ 1 ∷ []) [] []
    ∷ []

-- the conditions of a state that fits, without the fifth, "every place that no .. uses is 0"
abbrev conditions : State → List Bool
conditions st =
    cycles_fit figure4 st ∷ firings_fit figure4 st ∷ pending_fit figure4 st ∷ counts_fit figure4 st ∷ all_below (balanced figure4 st) (channels figure4) ∷ []

record Misfit : Type 0 where
  misfit : map (fits figure4) misfits ≡ replicate 10 false
  missed :
      map conditions misfits ≡
      (false ∷ true ∷ true ∷ true ∷ true ∷ []) ∷
      (true ∷ false ∷ true ∷ true ∷ true ∷ []) ∷
      (true ∷ true ∷ false ∷ true ∷ true ∷ []) ∷
      (true ∷ true ∷ true ∷ false ∷ true ∷ []) ∷
      (true ∷ true ∷ true ∷ true ∷ true ∷ []) ∷
      (true ∷ true ∷ true ∷ true ∷ true ∷ []) ∷
      (true ∷ true ∷ true ∷ true ∷ true ∷ []) ∷
      (true ∷ true ∷ true ∷ true ∷ true ∷ []) ∷
      (true ∷ true ∷ true ∷ true ∷ false ∷ []) ∷
      (true ∷ true ∷ true ∷ true ∷ false ∷ []) ∷ []
  -- a station's count of 3
  station_count : counts_fit stationed (state 0 [] [] (record { tokens = pos 1 ∷ pos 2 ∷ []; count = 3 } ∷ []) []) ≡ false

misfitted : Misfit
unfolding all_below sum_below padded table nodes channels wire from to depths stations depth station_of queue_of node_at pending_at station_at queue_at
    zero_from cycles_fit firings_fit pending_fit stations_fit counts_fit node_clear pending_clear station_clear queue_clear unused_clear balanced fits
misfitted = record { misfit = refl; missed = refl; station_count = refl }

-- ---- the answers
accepted : judge figure4 ≡ 0
unfolding judge sizes_number contents_number depth_number nodes channels kind wire from to port depths stations depth inputs feeds
    bad_kind bad_wire bad_port fed_twice not_fed bad_stations bad_depth any_below sum_below
accepted = refl

-- a step's number where image and state are sound
step-sound :
    (cycles word letters values : ℕ) → leb cycles 1000000 ≡ true
    → step_number figure4 (at cycles) word letters values ≡
    (22 if eqb cycles 1000000 else 12 if sets_above 5 word else 13 if ltb letters 4 || ltb values 4 else 0)
unfolding nodes channels step_number
step-sound cycles word letters values e = rw (← (state_0 figure4 (at cycles) accepted (at-fits cycles e)))

-- what a run returns where image and state are sound
run_sound : (cycles : ℕ) (words : List ℕ) → leb cycles 1000000 ≡ true → run_answer figure4 (at cycles) words ≡ ran_from figure4 (at cycles) words
run_sound cycles words e = sym (run-made figure4 (at cycles) words (state_0 figure4 (at cycles) accepted (at-fits cycles e)))

-- a lent array of six letters, each 7
abbrev letters : List ℕ
letters = replicate 6 7

abbrev values : List ℤ
values = replicate 6 (pos 7)

record Answered : Type 0 where
  fresh-fits : fits figure4 (fresh_state figure4) ≡ true
  -- number 12 with 1, 5 and 64 nodes
  word_of_1 : map (sets_above 1) (0 ∷ 1 ∷ 2 ∷ 3 ∷ []) ≡ false ∷ false ∷ true ∷ true ∷ []
  word_of_5 : map (sets_above 5) (31 ∷ 32 ∷ 9223372036854775808 ∷ []) ≡ false ∷ true ∷ true ∷ []
  word_of_64 : sets_above 64 18446744073709551615 ≡ false
  -- a step's numbers, each where there is cause for all that come after it
  image_first : step_number (set figure4 2 0) (at 1000001) 32 0 0 ≡ 4
  then_21 : step_number figure4 (at 1000001) 32 0 0 ≡ 21
  then_22 : step_number figure4 (at 1000000) 32 0 0 ≡ 22
  then_12 : step_number figure4 (at 999999) 32 0 0 ≡ 12
  then_13 : (step_number figure4 (at 999999) 31 3 4 ≡ 13) × (step_number figure4 (at 999999) 31 4 3 ≡ 13)
  then_0 : step_number figure4 (at 999999) 31 4 4 ≡ 0
  -- a step writes four of six places; a refused one writes none
  step-answer : stepped 0 (state_after figure4 1 (at 0)) ≡ step_answer figure4 (at 0) 1 letters values
  step-letters : code "T" ∷ code "T" ∷ code "T" ∷ code "T" ∷ 7 ∷ 7 ∷ [] ≡ letters_written figure4 (at 0) 1 letters values
  step-values : pos 10 ∷ pos 100 ∷ pos 0 ∷ pos 0 ∷ pos 7 ∷ pos 7 ∷ [] ≡ values_written figure4 (at 0) 1 letters values
  none-answer : stepped 12 (at 0) ≡ step_answer figure4 (at 0) 32 letters values
  none-letters : letters ≡ letters_written figure4 (at 0) 32 letters values
  none-values : values ≡ values_written figure4 (at 0) 32 letters values
  -- letters and values are shown whatever the word; where an array is too short neither is
  shown-letters : letters_shown figure4 (at 0) letters values ≡ code "T" ∷ code "T" ∷ code "T" ∷ code "T" ∷ 7 ∷ 7 ∷ []
  shown-values : values_shown figure4 (at 0) letters values ≡ pos 10 ∷ pos 100 ∷ pos 0 ∷ pos 0 ∷ pos 7 ∷ pos 7 ∷ []
  shown_13 : shown_number figure4 (at 0) (7 ∷ 7 ∷ 7 ∷ []) values ≡ 13
  shown_none : (letters_shown figure4 (at 0) (7 ∷ 7 ∷ 7 ∷ []) values ≡ 7 ∷ 7 ∷ 7 ∷ []) × (values_shown figure4 (at 0) (7 ∷ 7 ∷ 7 ∷ []) values ≡ values)
  -- a run stops at a word that it cannot take, and keeps the cycles before it
  run_12 : run_answer figure4 (at 0) (1 ∷ 0 ∷ 32 ∷ 0 ∷ []) ≡ step_more (step_more (no_step 12 (after figure4 (at 0) (1 ∷ 0 ∷ []))))
  run_first : run_answer figure4 (at 0) (32 ∷ []) ≡ no_step 12 (at 0)
  run_22 : run_answer figure4 (at 999998) (1 ∷ 0 ∷ 32 ∷ []) ≡ step_more (step_more (no_step 22 (after figure4 (at 999998) (1 ∷ 0 ∷ []))))
  run_0 : run_answer figure4 (at 999998) (1 ∷ 0 ∷ []) ≡ step_more (step_more (no_step 0 (after figure4 (at 999998) (1 ∷ 0 ∷ []))))
  run-cycles : ((after figure4 (at 0) (1 ∷ 0 ∷ [])).cycles ≡ 2) × ((after figure4 (at 999998) (1 ∷ 0 ∷ [])).cycles ≡ 1000000)
  -- with cycle count 1,000,000 a run takes no word, and without a word nothing is wrong
  run_last : run_answer figure4 (at 1000000) (32 ∷ []) ≡ no_step 22 (at 1000000)
  run_none : run_answer figure4 (at 1000000) [] ≡ no_step 0 (at 1000000)
  -- a run looks at image and state first, also without a word
  run_21 : run_answer figure4 (at 1000001) [] ≡ no_step 21 (at 1000001)
  run_image : run_answer (set figure4 2 0) (at 1000001) [] ≡ no_step 4 (at 1000001)

answered : Answered
unfolding any_below sum_below padded table nodes channels kind wire from to port feeds depths stations depth inputs
    judge sizes_number contents_number depth_number bad_kind bad_wire bad_port fed_twice not_fed bad_stations bad_depth
    letter reading held leaving waiting queue_of full arriving stop_below channel_reading
    node_at pending_at station_at queue_at channel_in state_of reading_at state_after after letters_of values_of
    cycles_fit fits state_number sets_above shown_number letters_shown values_shown step_number number_of_step step_more ran_from run_answer
answered =
    let step = step-made figure4 (at 0) 1 letters values 0 (sym (step-sound 0 1 6 6 refl)) refl in
    let none = step-none figure4 (at 0) 32 letters values 12 (sym (step-sound 0 32 6 6 refl)) (λ e. omega arith) in
    record {
      fresh-fits = ap (fits figure4) fresh-state ∙ at-fits 0 refl;
      word_of_1 = refl;
      word_of_5 = refl;
      word_of_64 = refl;
      image_first = refl;
      then_21 = refl;
      then_22 = step-sound 1000000 32 0 0 refl;
      then_12 = step-sound 999999 32 0 0 refl;
      then_13 = (step-sound 999999 31 3 4 refl, step-sound 999999 31 4 3 refl);
      then_0 = step-sound 999999 31 4 4 refl;
      step-answer = step.0;
      step-letters = step.1;
      step-values = step.2;
      none-answer = none.0;
      none-letters = none.1;
      none-values = none.2;
      shown-letters = refl;
      shown-values = refl;
      shown_13 = refl;
      shown_none = (refl, refl);
      run_12 = run_sound 0 (1 ∷ 0 ∷ 32 ∷ 0 ∷ []) refl;
      run_first = run_sound 0 (32 ∷ []) refl;
      run_22 = run_sound 999998 (1 ∷ 0 ∷ 32 ∷ []) refl;
      run_0 = run_sound 999998 (1 ∷ 0 ∷ []) refl;
      run-cycles = (refl, refl);
      run_last = run_sound 1000000 (32 ∷ []) refl;
      run_none = run_sound 1000000 [] refl;
      run_21 = refl;
      run_image = refl;
    }
