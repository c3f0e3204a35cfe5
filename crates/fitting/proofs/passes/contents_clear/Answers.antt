-- `fitting::passes::contents_clear` meets its contract. Assumes nothing.
use Rattle.std.proofs.Common.{rules, tests, ◌≡◌, ◌≤◌, ◌+◌, ◌*◌, ◌-◌, ◌∙◌, arith, length, take, drop}
use Rattle.std.proofs.lemmas.Iterator.{YieldsList-from_slice}
use Rattle.std.proofs.lemmas.Iterator.Search.{all_from_yields_List}
use Rattle.image.specs.Image.{stations}
use Rattle.verdict.specs.Laws.Accepted.{channels_few}
use Rattle.image.specs.Readers.{wire_at}
use Rattle.relay.specs.Station.{clear, no_station}
use Rattle.state.specs.State.{station_at, queue_at}
use Rattle.fitting.specs.Loops.Passes.{empty_station, contents_clear}
use Rattle.fitting.proofs.Listed.{part, part_rest}
use Rattle.fitting.proofs.passes.contents_clear.Goals as goal

pub returns : goal.returns
unfolding contents_clear queue_at station_at wire_at
returns c =
    let img = c.args.netlist.image.now in
    let all = c.args.state.now.stations in
    let k = c.args.c in
    let r = c.from.result in
    let same : r ≡ stations img k = search rules in
    let short : r ≤ 8 = search (rules, (c.wire.ensures.placed c.requires).stations) in
    let few : 8 * k + 8 ≤ length all = search (rules, channels_few img c.args.netlist.accepted) in
    let used = all_from_yields_List clear _ _ _ c.all-used.ensures.ran (YieldsList-from_slice (take (8 * k + r - 8 * k) (drop (8 * k) all)) (search rules)) (λ x b q p. search (rules, tests)) in
    let rest = all_from_yields_List empty_station _ _ _ c.all-unused.ensures.ran (YieldsList-from_slice (take (8 * k + 8 - (8 * k + r)) (drop (8 * k + r) all)) (search rules)) (λ x b q p. search (rules, tests)) in
    let cut : 8 * k + r - 8 * k ≡ r = omega arith in
    let cut_rest : 8 * k + 8 - (8 * k + r) ≡ 8 - r = omega (arith, short) in
    let stations_clear = (rw cut at used) ∙ part clear no_station all (8 * k) r (omega (arith, short, few)) in
    let others_empty = (rw cut_rest at rest) ∙ part_rest empty_station no_station all (8 * k) r 8 short few in
    rw (stations_clear, others_empty, c.clear_queue.ensures, same, c.from-2.ensures)
