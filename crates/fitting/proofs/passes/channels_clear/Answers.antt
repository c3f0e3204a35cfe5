-- `fitting::passes::channels_clear` meets its contract. Assumes nothing.
use Rattle.std.proofs.Common.{rules, tests, ◌≡◌, ◌*◌, ◌-◌, ◌∙◌, arith, length, take, drop, refl}
use Rattle.std.specs.Prelude.{eqb}
use Rattle.std.proofs.lemmas.Iterator.{YieldsList-from_slice, YieldsList-from_range}
use Rattle.std.proofs.lemmas.Iterator.Search.{all_from_yields_List}
use Rattle.laws.specs.Laws.Below.{all_range}
use Rattle.image.specs.Image.{channels}
use Rattle.relay.specs.Station.{no_station}
use Rattle.state.specs.State.{no_queue, pending_at, queue_at}
use Rattle.fitting.specs.Fits.{pending_clear}
use Rattle.fitting.specs.Loops.Passes.{empty_station, empty_queue, contents_clear, place_clear, queue_empty, channels_clear}
use Rattle.fitting.proofs.Listed.{behind}
use Rattle.fitting.proofs.passes.channels_clear.Goals as goal

pub returns : goal.returns
unfolding channels_clear pending_clear pending_at place_clear queue_empty queue_at
returns c =
    let img = c.args.netlist.image.now in
    let s = c.args.state.now in
    let n = c.from-channels.result in
    let m = c.channels-count.result in
    let same : n ≡ channels img = search rules in
    let pending_length : length s.pending ≡ 96 = search rules in
    let stations_long : length s.stations ≡ 768 = search rules in
    let queues_long : length s.queues ≡ 96 = search rules in
    let used = all_from_yields_List (contents_clear img s) _ _ _ c.all-used.ensures.ran (YieldsList-from_range 0 m m refl (omega arith)) (λ x b q k. search (rules, tests)) ∙ all_range (contents_clear img s) m in
    let idle = all_from_yields_List (λ x. eqb x 0) _ _ _ c.all-idle.ensures.ran (YieldsList-from_slice (take (96 - n) (drop n s.pending)) cc) (λ x b q k. search (rules, tests)) in
    let places = all_from_yields_List empty_station _ _ _ c.all-stations.ensures.ran (YieldsList-from_slice (take (768 - 8 * n) (drop (8 * n) s.stations)) cc) (λ x b q k. search (rules, tests)) in
    let queues = all_from_yields_List empty_queue _ _ _ c.all-queues.ensures.ran (YieldsList-from_slice (take (96 - n) (drop n s.queues)) cc) (λ x b q k. search (rules, tests)) in
    let up : m ≡ channels img = search rules in
    rw (
      used,
      idle ∙ behind (λ x. eqb x 0) 0 s.pending n 96 pending_length,
      places ∙ behind empty_station no_station s.stations (8 * n) 768 stations_long,
      queues ∙ behind empty_queue no_queue s.queues n 96 queues_long,
      up,
      same,
    )
