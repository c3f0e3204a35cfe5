-- `fitting::passes::channel_fits` meets its contract. Assumes nothing.
use Rattle.std.proofs.Common.{rules, tests, ◌≡◌, ◌≤◌, ◌+◌, ◌*◌, ◌-◌, ◌∙◌, arith, length, take, drop}
use Rattle.std.specs.Prelude.{leb, Bool}
use Rattle.std.proofs.lemmas.Iterator.{YieldsList-from_slice}
use Rattle.std.proofs.lemmas.Iterator.Search.{all_from_yields_List}
use Rattle.image.specs.Image.{stations}
use Rattle.verdict.specs.Laws.Accepted.{channels_few}
use Rattle.image.specs.Readers.{wire_at}
use Rattle.relay.specs.declared.Station.{Station}
use Rattle.relay.specs.Station.{no_station}
use Rattle.state.specs.State.{node_at, pending_at, station_at, queue_at}
use Rattle.fitting.specs.Fits.{stations_fit, balanced}
use Rattle.laws.specs.Below.{sum_below}
use Rattle.fitting.specs.Loops.Passes.{counted, channel_fits}
use Rattle.fitting.proofs.Listed.{part, counted_part}
use Rattle.fitting.proofs.passes.channel_fits.Goals as goal

pub returns : goal.returns
unfolding channel_fits node_at pending_at queue_at station_at stations_fit balanced wire_at
returns c =
    let img = c.args.netlist.image.now in
    let all = c.args.state.now.stations in
    let k = c.args.c in
    let at : c.from-at.result ≡ k = search rules in
    let channel = c.wire-wire.ensures.value in
    let r = c.from.result in
    let same : r ≡ stations img k = search rules in
    let few : 8 * k + r ≤ length all = search (rules, channels_few img c.args.netlist.accepted, (c.wire-wire.ensures.placed c.requires).stations) in
    let cut : 8 * k + r - 8 * k ≡ r = omega arith in
    let shallow : Station → Bool = λ x. leb x.count 2 in
    let row : c.iter.result.rest.now ≡ take (8 * k + r - 8 * k) (drop (8 * k) all) = search rules in
    let seen = all_from_yields_List shallow _ _ _ c.all-stations.ensures.ran (YieldsList-from_slice (take r (drop (8 * k) all)) (rw cut at row)) (λ x b q p. search (rules, tests)) in
    let within : c.all-stations.result ≡ stations_fit img c.args.state.now k = rw same at (seen ∙ part shallow no_station all (8 * k) r few) in
    let cut_off : c.held.result ≡ counted (take (8 * k + r - 8 * k) (drop (8 * k) all)) = search rules in
    let sum : c.held.result ≡ sum_below (λ j. (station_at c.args.state.now k j).count) (stations img k) =
    rw same at ((rw cut at cut_off) ∙ counted_part all (8 * k) r few) in
    rw (c.balanced.ensures, sum, within, c.from-2.ensures, c.from-3.ensures, at, channel)
