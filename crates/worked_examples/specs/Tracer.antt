-- The trace program's output, computed: for figure 4, for a netlist with stations on every channel, and for small netlists; the numbers of an input,
-- in their order; the calls for a line.
use mathlib.Core.List.{List, [], ◌∷◌, ◌++◌, flat_map}
use Rattle.std.specs.Prelude.{◌≡◌, refl, ℕ, ◌+◌, ◌*◌, length, set, take, replicate}
use Prim.Native.String.{String}
use Rattle.laws.specs.Below.{all_below, any_below, sum_below, pick_below}
use Rattle.laws.specs.Signed.{signed}
use Rattle.laws.specs.Lists.{padded, zero_from}
use Rattle.laws.specs.Table.{table}
use Rattle.kinds.specs.Kinds.{inputs, exact}
use Rattle.image.specs.Image.{nodes, channels, kind, parameter, wire, from, to, port, feeds, depths, stations, depth}
use Rattle.verdict.specs.Judge.{judge, bad_kind, bad_wire, bad_port, fed_twice, not_fed, bad_stations, bad_depth, sizes_number, contents_number, depth_number}
use Rattle.worked_examples.specs.Netlist.{figure4}
use Rattle.pearl.specs.Wrap.{wrap}
use Rattle.pearl.specs.Next.{next_value}
use Rattle.node.specs.Node.{port_value, next_of}
use Rattle.relay.specs.Link.{letter, reading}
use Rattle.relay.specs.Station.{held, station_of, place_after}
use Rattle.relay.specs.Row.{stopped, leaving, row_after}
use Rattle.shell.specs.Queue.{waiting, queue_of, full}
use Rattle.shell.specs.Channel.{blocked, arriving, input, stop_below, stop_above, channel_reading, channel_after}
use Rattle.state.specs.State.{node_at, pending_at, station_at, queue_at, channel_in, state_of}
use Rattle.state.specs.declared.State.{State}
use Rattle.state.specs.Fresh.{fresh_state, zeros}
use Rattle.fitting.specs.Fits.{cycles_fit, firings_fit, pending_fit, stations_fit, counts_fit, node_clear, pending_clear, station_clear, queue_clear}
use Rattle.fitting.specs.Fits.{unused_clear, balanced, fits, state_number}
use Rattle.cycle.specs.Cycle.{input_at, blocked_at, reading_at, all_ready, any_blocked, fires, node_after, channel_after_at, state_after, after}
use Rattle.cycle.specs.Word.{stalled, sets_above}
use Rattle.engine.specs.Answer.{step_number}
use Rattle.worked_examples.specs.Engine.{words, stationed, stalls}
use Rattle.text.specs.Ascii.{ascii}
use Rattle.text.specs.Decimal.{places, decimal, signed_text}
use Rattle.text.specs.Lines.{shows_value, reading_text, line_text, count_text, labelled_text, closing_text, refused_text}
use Rattle.text.specs.Trace.{header, lines_text, trace_text}
use Rattle.writer.specs.Write.{write_refusal, written_answer, written_over}
use Rattle.trace_input.specs.Input.{image_of, word_at, word_count, words_of, input_number}
use Rattle.tracer.specs.Trace.{readings_from, cycle_text, firings_of, trace_of, printed}
use Rattle.tracer.specs.Done.{line_refusal, line_answer, line_over, closing_answer, closing_over}

-- a word below 256 as its bytes
abbrev word : ℕ → List ℕ
word low = low ∷ 0 ∷ 0 ∷ 0 ∷ 0 ∷ 0 ∷ 0 ∷ 0 ∷ []

-- the word whose bit 63 alone is set, as its bytes
abbrev bit63 : List ℕ
bit63 = 0 ∷ 0 ∷ 0 ∷ 0 ∷ 0 ∷ 0 ∷ 0 ∷ 128 ∷ []

-- an image with words below 256 behind it
abbrev with : List ℕ → List ℕ → List ℕ
with img lows = img ++ flat_map word lows

-- a text of lines: "Every line, the last too, ends with one line feed (byte 10)."
abbrev text : List String → List ℕ
text [] = []
text (line ∷ lines) = ascii line ++ (10 ∷ text lines)

-- n count nodes, with no channel
abbrev counts : ℕ → List ℕ
counts n = (n ∷ 0 ∷ []) ++ replicate n 1 ++ replicate (4 * n) 0

-- two count nodes that feed a hold node each; parameters -2147483648 and 2147483647
abbrev ends : List ℕ
ends =
    (4 ∷ 2 ∷ []) ++ (1 ∷ 1 ∷ 2 ∷ 2 ∷ []) ++ (0 ∷ 0 ∷ 0 ∷ 128 ∷ 255 ∷ 255 ∷ 255 ∷ 127 ∷ []) ++ replicate 8 0
    ++ (0 ∷ 2 ∷ 0 ∷ 1 ∷ 3 ∷ 0 ∷ []) ++ (0 ∷ 1 ∷ 0 ∷ 1 ∷ [])

record Printed : Type 0 where
  -- figure 4's trace, "The whole output"
  of_figure4 :
      printed (with figure4 words) ≡
      text
      ("cycle states" ∷
      "0 T10 T100 T0 T0" ∷
      "1 I T101 T110 T110" ∷
      "2 T11 T102 I I" ∷
      "3 T12 T103 T112 T112" ∷
      "4 T13 T104 T114 R114" ∷
      "5 T14 R105 I T114" ∷
      "6 T15 T105 T116 T116" ∷
      "7 I I T118 T118" ∷
      "8 I I T120 T120" ∷
      "9 T16 T106 S I" ∷
      "10 T17 T107 T122 T122" ∷
      "fired 8 8 8 8 8" ∷ [])
  of_stationed :
      printed (with stationed stalls) ≡
      text
      ("cycle states" ∷
      "0 I I I I I" ∷
      "1 T10 T300 I T200 I" ∷
      "2 R11 S T100 I I" ∷
      "3 T11 I I I T10" ∷
      "4 R12 I I T-100 T11" ∷
      "5 R12 T190 T310 I T12" ∷
      "6 T12 T-111 S I R13" ∷
      "7 T13 I S I R13" ∷
      "8 S I T201 I R13" ∷
      "9 S I T-99 T-310 R13" ∷
      "10 R14 I I T-201 T13" ∷
      "11 R14 T-322 I T99 S" ∷
      "12 T14 I I S R14" ∷
      "13 R15 I I I T14" ∷
      "14 R15 T-214 T-309 I T15" ∷
      "15 R15 R85 I I S" ∷
      "16 T15 T85 I T309 S" ∷
      "17 T16 I I I T16" ∷
      "18 R17 T294 T-200 I S" ∷
      "19 R17 S R100 I R17" ∷
      "fired 9 7 6 6" ∷ [])
  no_words : printed figure4 ≡ text ("cycle states" ∷ "fired 0 0 0 0 0" ∷ [])
  -- without a channel a line is the cycle's number alone
  no_channels : printed (with (counts 1) (0 ∷ 1 ∷ 0 ∷ [])) ≡ text ("cycle states" ∷ "0" ∷ "1" ∷ "2" ∷ "fired 2" ∷ [])
  -- values at the ends of the range, and one that wraps
  at_the_ends :
      printed (with ends (0 ∷ 0 ∷ [])) ≡
      text ("cycle states" ∷ "0 T-2147483648 T2147483647" ∷ "1 T-2147483647 T-2147483648" ∷ "fired 2 2 2 2" ∷ [])
  refused : printed [] ≡ text ("refused 1" ∷ [])
  refused_word : printed (with figure4 (0 ∷ 32 ∷ 0 ∷ [])) ≡ text ("refused 12" ∷ [])

all_printed : Printed
unfolding all_below any_below sum_below pick_below signed padded table flat_map
    nodes channels kind parameter wire from to port feeds depths stations depth inputs wrap exact next_value port_value next_of
    judge sizes_number contents_number depth_number bad_kind bad_wire bad_port fed_twice not_fed bad_stations bad_depth
    letter reading held station_of place_after stopped leaving row_after
    waiting queue_of full blocked arriving input stop_below stop_above channel_reading channel_after
    node_at pending_at station_at queue_at channel_in state_of fresh_state
    stalled input_at blocked_at reading_at all_ready any_blocked fires node_after channel_after_at state_after after
    sets_above ascii places decimal signed_text shows_value reading_text line_text count_text labelled_text closing_text refused_text header lines_text trace_text
    image_of word_at word_count words_of input_number readings_from firings_of trace_of printed
all_printed =
    record {
      of_figure4 = refl;
      of_stationed = refl;
      no_words = refl;
      no_channels = refl;
      at_the_ends = refl;
      refused = refl;
      refused_word = refl;
    }

-- "8-byte words, low byte first"; what is left over is no word
low_first : words_of (figure4 ++ (1 ∷ 2 ∷ 3 ∷ 4 ∷ 5 ∷ 6 ∷ 7 ∷ 8 ∷ 0 ∷ 255 ∷ [])) ≡ 578437695752307201 ∷ []
unfolding table nodes channels word_at word_count words_of
low_first = refl

-- an input's own number
abbrev number : List ℕ → ℕ
number input = input_number input (length input)

-- the number of an input that begins with these bytes and has so many more
abbrev and_more : List ℕ → ℕ → ℕ
and_more head more = input_number head (length head + more)

-- how many bytes 4,096 words have
abbrev most : ℕ
most = 8 * 4096

-- figure 4 with a kind 0
abbrev bad_kind_image : List ℕ
bad_kind_image = set figure4 2 0

record Numbered : Type 0 where
  at_1_empty : number [] ≡ 1
  at_1 : number (5 ∷ []) ≡ 1
  at_2 : number (set figure4 0 0) ≡ 2
  -- a byte missing from the image, a byte too many, seven too many
  at_3_short : number (take 46 figure4) ≡ 3
  at_3_byte : number (figure4 ++ (0 ∷ [])) ≡ 3
  at_3_bytes : number (with figure4 (0 ∷ []) ++ replicate 7 0) ≡ 3
  -- of two causes the first answers: 2 before a ragged tail, a ragged tail before 4, 4 before 14
  sizes_first : number (set figure4 0 0 ++ (0 ∷ [])) ≡ 2
  then_tail : number (bad_kind_image ++ (0 ∷ [])) ≡ 3
  then_kind : and_more bad_kind_image (most + 8) ≡ 4
  at_14 : and_more figure4 (most + 8) ≡ 14
  at_14_not : and_more figure4 most ≡ 0
  tail_before_14 : and_more figure4 (most + 9) ≡ 3
  -- a word that sets bit 5, with 5 nodes; such a word among 4,097
  at_12 : number (with figure4 (31 ∷ 32 ∷ [])) ≡ 12
  at_12_first : number (with figure4 (32 ∷ [])) ≡ 12
  at_12_not : number (with figure4 (31 ∷ 31 ∷ [])) ≡ 0
  then_14 : and_more (with figure4 (32 ∷ [])) most ≡ 14
  -- a word that sets bit 63, with 63 nodes and with 64
  at_12_high : number (counts 63 ++ bit63) ≡ 12
  at_12_high_not : number (counts 64 ++ bit63) ≡ 0

numbered : Numbered
unfolding any_below sum_below flat_map
    nodes channels kind wire from to port feeds depths stations depth inputs
    judge sizes_number contents_number depth_number bad_kind bad_wire bad_port fed_twice not_fed bad_stations bad_depth
    sets_above image_of word_at word_count input_number
numbered =
    record {
      at_1_empty = refl;
      at_1 = refl;
      at_2 = refl;
      at_3_short = refl;
      at_3_byte = refl;
      at_3_bytes = refl;
      sizes_first = refl;
      then_tail = refl;
      then_kind = refl;
      at_14 = refl;
      at_14_not = refl;
      tail_before_14 = refl;
      at_12 = refl;
      at_12_first = refl;
      at_12_not = refl;
      then_14 = refl;
      at_12_high = refl;
      at_12_high_not = refl;
    }

-- ---- the calls for a line, on figure 4's fresh state: a slice with room, one a byte too short, a word that is refused, a state that does not fit
abbrev fresh : State
fresh = fresh_state figure4

abbrev room : ℕ → List ℕ
room n = replicate n 7

record Called : Type 0 where
  line_number : (line_answer figure4 fresh 0 (room 18)).number ≡ 0
  line_length : (line_answer figure4 fresh 0 (room 18)).length ≡ 17
  line_over_lem : line_over figure4 fresh 0 (room 18) ≡ text ("0 T10 T100 T0 T0" ∷ []) ++ (7 ∷ [])
  line_short : line_answer figure4 fresh 0 (room 16) ≡ line_refusal 13 fresh
  line_short_over : line_over figure4 fresh 0 (room 16) ≡ room 16
  line_refused : line_answer figure4 fresh 32 (room 16) ≡ line_refusal 12 fresh
  closing : closing_answer figure4 fresh (room 16) ≡ record { number = 0; length = 16 }
  closing_over_lem : closing_over figure4 fresh (room 16) ≡ text ("fired 0 0 0 0 0" ∷ [])
  closing_short : closing_answer figure4 fresh (room 15) ≡ write_refusal 13
  closing_misfit : closing_answer figure4 zeros (room 15) ≡ write_refusal 21
  closing_misfit_over : closing_over figure4 zeros (room 16) ≡ room 16

called : Called
unfolding all_below any_below sum_below pick_below signed padded table flat_map
    nodes channels kind parameter wire from to port feeds depths stations depth inputs wrap exact next_value port_value next_of
    judge sizes_number contents_number depth_number bad_kind bad_wire bad_port fed_twice not_fed bad_stations bad_depth
    letter reading held station_of place_after stopped leaving row_after
    waiting queue_of full blocked arriving input stop_below stop_above channel_reading channel_after
    node_at pending_at station_at queue_at channel_in state_of fresh_state zeros
    stalled input_at blocked_at reading_at all_ready any_blocked fires node_after channel_after_at state_after
    zero_from cycles_fit firings_fit pending_fit stations_fit counts_fit node_clear pending_clear station_clear queue_clear unused_clear balanced fits
    sets_above step_number state_number
    ascii places decimal signed_text shows_value reading_text line_text count_text labelled_text closing_text
    written_answer written_over firings_of cycle_text line_answer line_over closing_answer closing_over
called =
    record {
      line_number = refl;
      line_length = refl;
      line_over_lem = refl;
      line_short = refl;
      line_short_over = refl;
      line_refused = refl;
      closing = refl;
      closing_over_lem = refl;
      closing_short = refl;
      closing_misfit = refl;
      closing_misfit_over = refl;
    }
