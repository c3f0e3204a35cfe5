-- Acceptance is the record `Accepted`, both ways. Assumes nothing.
use Rattle.std.specs.Prelude.{true, List, ◌≡◌, ℕ, ◌≤◌, ◌<◌}
use Rattle.std.proofs.Common.{◌∙◌, arith, ltb-false, le-ltb}
use Rattle.laws.specs.Below.{any_below, sum_below}
use Rattle.laws.specs.Laws.Below.{any_where, any_hit, none-iff}
use Rattle.laws.specs.Laws.Choice.{past_number}
use Rattle.image.specs.Image.{nodes, channels, kind, to, feeds, stations}
use Rattle.kinds.specs.Laws.Kinds.{inputs_few}
use Rattle.image.specs.Loops.Ports.{Wired}
use Rattle.image.specs.Readers.{wire_at, Placed}
use Rattle.verdict.specs.Judge.{sizes_number, contents_number, judge, bad_kind, bad_wire, bad_port, bad_stations, bad_depth}
use Rattle.image.specs.Loops.PortsLaws.{feeds_ok}
use Rattle.verdict.specs.Laws.Judge.{kind_ok, wire_ok, port_ok, stations_ok, depth_ok}
use Rattle.verdict.specs.Accepted.{Feeder, Accepted}
use Rattle.verdict.specs.Laws.Sized.{sized, unsized, judge_sized}
use Rattle.verdict.specs.Laws.Clear.{clear, unclear}
use Rattle.verdict.specs.Laws.Fed.{once-iff, fed_iff}

-- the test for a feeding channel finds one exactly if there is one
pub found : (img : List ℕ) (n p : ℕ) → Feeder img n p → any_below (feeds img n p) (channels img) ≡ true
found img n p f = any_hit (feeds img n p) f.channel (channels img) f.there ((feeds_ok img n p f.channel).1 (f.node, f.input))

feeder : (img : List ℕ) (n p : ℕ) → any_below (feeds img n p) (channels img) ≡ true → Feeder img n p
feeder img n p e =
    let r = any_where (feeds img n p) (channels img) e in
    let f = (feeds_ok img n p r.0).0 r.2 in
    record { channel = r.0; there = r.1; node = f.0; input = f.1 }

-- an image that the judge accepts has all the facts of `Accepted`
pub accepted : (img : List ℕ) → judge img ≡ 0 → Accepted img
unfolding judge
accepted img e =
    let h = past_number (sizes_number img) (contents_number img) e in
    let z = sized img h.0 in
    let s = clear img h.1 in
    record {
      some_nodes = z.some_nodes;
      few_nodes = z.few_nodes;
      few_channels = z.few_channels;
      whole = z.whole;
      kinds = (none-iff (bad_kind img) (nodes img) (kind_ok img)).0 s.no_4;
      wires = (none-iff (bad_wire img) (channels img) (wire_ok img)).0 s.no_5;
      ports = (none-iff (bad_port img) (channels img) (port_ok img)).0 s.no_6;
      once = (once-iff img).0 s.no_7;
      fed = λ n p h l. feeder img n p ((fed_iff img).0 s.no_8 n h p l);
      rows = (none-iff (bad_stations img) (channels img) (stations_ok img)).0 s.no_9;
      queues = (none-iff (bad_depth img) (channels img) (depth_ok img)).0 s.no_10;
      few_stations = ltb-false 256 (sum_below (stations img) (channels img)) s.no_11;
    }

-- the judge accepts an image that has all the facts of `Accepted`
pub accepts : (img : List ℕ) → Accepted img → judge img ≡ 0
accepts img a =
    judge_sized img
    (unsized img record { some_nodes = a.some_nodes; few_nodes = a.few_nodes; few_channels = a.few_channels; whole = a.whole })
    ∙ unclear img
    record {
      no_4 = (none-iff (bad_kind img) (nodes img) (kind_ok img)).1 a.kinds;
      no_5 = (none-iff (bad_wire img) (channels img) (wire_ok img)).1 a.wires;
      no_6 = (none-iff (bad_port img) (channels img) (port_ok img)).1 a.ports;
      no_7 = (once-iff img).1 a.once;
      no_8 = (fed_iff img).1 (λ n h p l. found img n p (a.fed n p h l));
      no_9 = (none-iff (bad_stations img) (channels img) (stations_ok img)).1 a.rows;
      no_10 = (none-iff (bad_depth img) (channels img) (depth_ok img)).1 a.queues;
      no_11 = le-ltb 256 (sum_below (stations img) (channels img)) a.few_stations;
    }

-- every channel of an accepted image leads to a port that has a place
pub accepted-wired : (img : List ℕ) → Accepted img → Wired img (channels img)
accepted-wired img a =
    record {
      node = λ c h. omega (arith, a.wires c h, a.few_nodes);
      input = λ c h. omega (arith, a.ports c h, inputs_few (kind img (to img c)));
    }

-- ---- for the readers of an accepted image
pub nodes_few : (img : List ℕ) → judge img ≡ 0 → nodes img ≤ 64
nodes_few img e = (accepted img e).few_nodes

pub channels_few : (img : List ℕ) → judge img ≡ 0 → channels img ≤ 96
channels_few img e = (accepted img e).few_channels

pub wire_placed : (img : List ℕ) → judge img ≡ 0 → (c : ℕ) → c < channels img → Placed (wire_at img c)
unfolding wire_at
wire_placed img e c h =
    let a = accepted img e in
    let w = a.wires c h in
    record {
      from = omega (arith, w.0, a.few_nodes);
      to = omega (arith, w.1, a.few_nodes);
      port = omega (arith, a.ports c h, inputs_few (kind img (to img c)));
      stations = a.rows c h;
      depth = (a.queues c h).1;
    }
