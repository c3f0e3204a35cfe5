-- `encode::put_parts` meets its contract. Assumes nothing.
use mathlib.Core.Path.{◌≡◌}
use native.Mathlib.Omega.{arith}
use borrow.Author.Rules.{rules}
use lib.ListN.{length}
use Rattle.relay.specs.Station.{no_station}
use Rattle.state.specs.State.{no_node, no_queue}
use Rattle.numbers.specs.Laws.Numbers.{number_long}
use Rattle.layout.specs.Places.{node_length, record_length, queue_length}
use Rattle.layout.specs.Bytes.{node_bytes, station_bytes, queue_bytes}
use Rattle.layout.specs.Laws.Bytes.{node_long, station_long, queue_long, flat_long, end_number, end_all, each_own, end_pending, state-put}
use Rattle.encode.proofs.put_parts.Goals as goal

pub put-first-requires : goal.put-first-requires
put-first-requires c = omega (arith, number_long c.args.state.cycles)

pub put_all-second-requires : goal.put_all-second-requires
put_all-second-requires c =
    let s = c.args.state in
    let nodes : length s.nodes ≡ 64 = search rules in
    omega (arith, end_number c.args.state.cycles c.put-first.ensures, flat_long node_bytes node_length node_long s.nodes, nodes)

pub put_bytes-third-requires : goal.put_bytes-third-requires
put_bytes-third-requires c =
    let s = c.args.state in
    let nodes : length s.nodes ≡ 64 = search rules in
    let pending : length s.pending ≡ 96 = search rules in
    omega (arith, end_number c.args.state.cycles c.put-first.ensures, end_all node_bytes node_length node_long s.nodes nodes c.put_all-second.ensures, pending)

pub put_all-fourth-requires : goal.put_all-fourth-requires
put_all-fourth-requires c =
    let s = c.args.state in
    let nodes : length s.nodes ≡ 64 = search rules in
    let pending : length s.pending ≡ 96 = search rules in
    let stations : length s.stations ≡ 768 = search rules in
    let third = end_pending s nodes pending c.put-first.ensures c.put_all-second.ensures c.put_bytes-third.ensures in
    omega (arith, third, flat_long station_bytes record_length station_long s.stations, stations)

pub put_all-requires : goal.put_all-requires
put_all-requires c =
    let s = c.args.state in
    let nodes : length s.nodes ≡ 64 = search rules in
    let pending : length s.pending ≡ 96 = search rules in
    let stations : length s.stations ≡ 768 = search rules in
    let queues : length s.queues ≡ 96 = search rules in
    let third = end_pending s nodes pending c.put-first.ensures c.put_all-second.ensures c.put_bytes-third.ensures in
    let fourth = end_all station_bytes record_length station_long s.stations stations c.put_all-fourth.ensures in
    omega (arith, third, fourth, flat_long queue_bytes queue_length queue_long s.queues, queues)

pub returns : goal.returns
returns c =
    let s = c.args.state in
    let nodes : length s.nodes ≡ 64 = search rules in
    let pending : length s.pending ≡ 96 = search rules in
    let stations : length s.stations ≡ 768 = search rules in
    let queues : length s.queues ≡ 96 = search rules in
    state-put s pending c.put-first.ensures (each_own node_bytes s.nodes no_node nodes c.put_all-second.ensures) c.put_bytes-third.ensures
    (each_own station_bytes s.stations no_station stations c.put_all-fourth.ensures) (each_own queue_bytes s.queues no_queue queues c.put_all.ensures)
