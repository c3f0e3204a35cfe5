-- The bytes that C is handed, computed: tokens at the ends of their range; figure 4's state after five cycles, and one with stations and tokens below
-- 0 after twelve; bytes of other lengths; rows of whole records and others.
use mathlib.Core.List.{List, [], ◌∷◌, ◌++◌, map, flat_map}
use Rattle.std.specs.Prelude.{◌≡◌, refl, ℕ, ◌+◌, ◌*◌, pos, negsuc, take, drop, replicate}
use Rattle.laws.specs.Below.{all_below, any_below, sum_below, pick_below}
use Rattle.laws.specs.Lists.{padded, zero_from}
use Rattle.laws.specs.Signed.{signed}
use Rattle.laws.specs.Table.{table}
use Rattle.kinds.specs.Kinds.{inputs, exact}
use Rattle.image.specs.Image.{nodes, channels, kind, parameter, wire, from, to, port, feeds, depths, stations, depth}
use Rattle.verdict.specs.Judge.{judge, bad_kind, bad_wire, bad_port, fed_twice, not_fed, bad_stations, bad_depth, sizes_number, contents_number, depth_number}
use Rattle.worked_examples.specs.Netlist.{figure4}
use Rattle.pearl.specs.Wrap.{wrap}
use Rattle.pearl.specs.Next.{next_value}
use Rattle.node.specs.Node.{port_value, next_of}
use Rattle.relay.specs.Link.{letter, reading}
use Rattle.relay.specs.Station.{held, station_of, place_after}
use Rattle.relay.specs.Row.{stopped, leaving, row_after}
use Rattle.shell.specs.Queue.{waiting, queue_of, full}
use Rattle.shell.specs.Channel.{blocked, arriving, input, stop_below, stop_above, channel_reading, channel_after}
use Rattle.state.specs.State.{node_at, pending_at, station_at, queue_at, channel_in, state_of}
use Rattle.state.specs.Fresh.{fresh_state}
use Rattle.fitting.specs.Fits.{fits, cycles_fit, state_number}
use Rattle.cycle.specs.Cycle.{input_at, blocked_at, all_ready, any_blocked, fires, node_after, channel_after_at, state_after, after}
use Rattle.cycle.specs.Word.{stalled}
use Rattle.worked_examples.specs.Engine.{stationed, stalls}
use Rattle.bench.specs.Bench.{bench_number}
use Rattle.bench.specs.Bench as bench
use Rattle.numbers.specs.Numbers.{number_bytes, bits_of, signed_bytes, signed_in}
use Rattle.layout.specs.Places.{record_length, queue_length, nodes_place, pending_place, stations_place, queues_place, state_length}
use Rattle.layout.specs.Bytes.{node_bytes, station_bytes, queue_bytes, state_bytes}
use Rattle.layout.specs.Bytes.{station_in, places_in, no_state, state_in, no_record, record_in, row_record, record_count, row_in}

-- n of the bytes, from a place on
abbrev part : ℕ → ℕ → List ℕ → List ℕ
part at n bytes = take n (drop at bytes)

-- a token below 256 as its bytes
abbrev four : ℕ → List ℕ
four n = n ∷ 0 ∷ 0 ∷ 0 ∷ []

record Tokens : Type 0 where
  one : signed_bytes (pos 1) ≡ 1 ∷ 0 ∷ 0 ∷ 0 ∷ []
  minus_one : signed_bytes (negsuc 0) ≡ 255 ∷ 255 ∷ 255 ∷ 255 ∷ []
  greatest : signed_bytes (pos 2147483647) ≡ 255 ∷ 255 ∷ 255 ∷ 127 ∷ []
  least : signed_bytes (negsuc 2147483647) ≡ 0 ∷ 0 ∷ 0 ∷ 128 ∷ []
  read_greatest : signed_in (9 ∷ 255 ∷ 255 ∷ 255 ∷ 127 ∷ []) 1 ≡ pos 2147483647
  read_least : signed_in (9 ∷ 0 ∷ 0 ∷ 0 ∷ 128 ∷ []) 1 ≡ negsuc 2147483647
  a_record : station_bytes (record { tokens = pos 258 ∷ negsuc 1 ∷ []; count = 2 }) ≡ 2 ∷ 1 ∷ 0 ∷ 0 ∷ 254 ∷ 255 ∷ 255 ∷ 255 ∷ 2 ∷ []

tokens : Tokens
unfolding signed_bytes number_bytes bits_of signed station_bytes table flat_map
tokens =
    record {
      one = refl;
      minus_one = refl;
      greatest = refl;
      least = refl;
      read_greatest = refl;
      read_least = refl;
      a_record = refl;
    }

-- where the parts of a state stand, and how many bytes it has: the header's numbers
places : nodes_place ∷ pending_place ∷ stations_place ∷ queues_place ∷ state_length ∷ [] ≡ 4 ∷ 516 ∷ 612 ∷ 7524 ∷ 10692 ∷ []
places = refl

-- figure 4's state after the words 1 0 0 16 0, as bytes
abbrev five : List ℕ
five = state_bytes (after figure4 (fresh_state figure4) (1 ∷ 0 ∷ 0 ∷ 16 ∷ 0 ∷ []))

record Figure4 : Type 0 where
  -- cycle count 5; values 14, 105, 114, 114 and 112 and firings 4, 5, 3, 4 and 3; nothing for the 59 nodes that are not there
  nodes-first :
      take pending_place five ≡
      four 5 ++ four 14 ++ four 4 ++ four 105 ++ four 5 ++ four 114 ++ four 3 ++ four 114 ++ four 4 ++ four 112 ++ four 3 ++ replicate 472 0
  -- the sum's token has passed on channel 2, and is pending on channel 3
  pending-next : part pending_place 96 five ≡ 1 ∷ 1 ∷ 0 ∷ 1 ∷ replicate 92 0
  -- the queue of channel 0 holds 13, that of channel 1 holds 103 and 104, and the others nothing
  queues_last : part queues_place (4 * queue_length) five ≡ four 13 ++ replicate 28 0 ++ (1 ∷ four 103 ++ four 104 ++ replicate 24 0 ++ (2 ∷ replicate 66 0))

figure4_bytes : Figure4
unfolding all_below any_below pick_below signed padded table flat_map
    nodes channels kind parameter wire from to port feeds depths stations depth wrap exact next_value port_value next_of
    letter reading held station_of place_after stopped leaving row_after
    waiting queue_of full blocked arriving input stop_below stop_above channel_reading channel_after
    node_at pending_at station_at queue_at channel_in state_of fresh_state
    stalled input_at blocked_at all_ready any_blocked fires node_after channel_after_at state_after after
    number_bytes bits_of signed_bytes node_bytes station_bytes queue_bytes state_bytes
figure4_bytes = record { nodes-first = refl; pending-next = refl; queues_last = refl }

-- the state of a netlist with stations after twelve words, as bytes
abbrev twelve : List ℕ
twelve = state_bytes (after stationed (fresh_state stationed) (take 12 stalls))

record Stationed : Type 0 where
  -- cycle count 12; the count shows 15 and has fired 5 times, the sum shows -309 and has fired 4 times
  nodes-first : take 20 twelve ≡ four 12 ++ four 15 ++ four 5 ++ (203 ∷ 254 ∷ 255 ∷ 255 ∷ four 4)
  -- the station of channel 0 holds 14 and 15
  full-station : part stations_place record_length twelve ≡ four 14 ++ four 15 ++ (2 ∷ [])
  -- of the three stations of channel 4 the second holds 15 and the third 14
  three_stations : part (stations_place + 32 * record_length) (3 * record_length) twelve ≡ replicate 9 0 ++ four 15 ++ four 0 ++ (1 ∷ four 14 ++ four 0 ++ (1 ∷ []))
  -- the queue of channel 3 holds -201 and 99
  a_queue : part (queues_place + 3 * queue_length) queue_length twelve ≡ (55 ∷ 255 ∷ 255 ∷ 255 ∷ four 99) ++ replicate 24 0 ++ (2 ∷ [])

stationed_bytes : Stationed
unfolding all_below any_below pick_below signed padded table flat_map
    nodes channels kind parameter wire from to port feeds depths stations depth wrap exact next_value port_value next_of
    letter reading held station_of place_after stopped leaving row_after
    waiting queue_of full blocked arriving input stop_below stop_above channel_reading channel_after
    node_at pending_at station_at queue_at channel_in state_of fresh_state
    stalled input_at blocked_at all_ready any_blocked fires node_after channel_after_at state_after after
    number_bytes bits_of signed_bytes node_bytes station_bytes queue_bytes state_bytes
stationed_bytes = record { nodes-first = refl; full-station = refl; three_stations = refl; a_queue = refl }

-- bytes of another length than a state's: none, one too few, and one more, which is not looked at
record Lengths : Type 0 where
  none : state_number figure4 (state_in []) ≡ 21
  too_few : state_number figure4 (state_in (replicate 10691 0)) ≡ 21
  one_more : (state_in (four 5 ++ replicate 10689 0)).cycles ≡ 5
  -- rows of 0, 5, 9, 10, 72, 73, 80 and 81 bytes
  rows :
      map (λ n. bench_number (row_in (replicate n 0))) (0 ∷ 5 ∷ 9 ∷ 10 ∷ 72 ∷ 73 ∷ 80 ∷ 81 ∷ []) ≡ 15 ∷ 21 ∷ 0 ∷ 21 ∷ 0 ∷ 15 ∷ 15 ∷ 15 ∷ []
  -- a station of 0, 8, 9, 10 and 18 bytes
  records : map (λ n. bench_number (record_in (replicate n 0) ∷ [])) (0 ∷ 8 ∷ 9 ∷ 10 ∷ 18 ∷ []) ≡ 21 ∷ 21 ∷ 0 ∷ 21 ∷ 21 ∷ []

lengths : Lengths
unfolding all_below any_below sum_below zero_from nodes channels kind parameter wire from to port feeds depths stations depth inputs
    judge sizes_number contents_number depth_number bad_kind bad_wire bad_port fed_twice not_fed bad_stations bad_depth fits cycles_fit state_number bench_number bench.fits
    table flat_map signed station_in places_in no_state state_in no_record record_in row_record record_count row_in
lengths = record { none = refl; too_few = refl; one_more = refl; rows = refl; records = refl }
