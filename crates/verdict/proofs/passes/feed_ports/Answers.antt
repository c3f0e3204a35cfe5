-- `verdict::passes::feed_ports` meets its contract: a turn writes to the place of its channel's port, and that place is there. Assumes nothing.
use mathlib.Core.Path.{◌≡◌, refl}
use Rattle.std.proofs.Common.{Bool, true, false, ◌<◌, ◌+◌, ◌*◌, get_or, add-one, arith}
use Rattle.laws.specs.Below.{any_below}
use Rattle.image.specs.Image.{channels, to, port}
use Rattle.verdict.specs.Loops.Passes.{fed_below, finds, twice_below}
use Rattle.image.specs.Loops.Ports.{port_place, ports_below}
use Rattle.verdict.specs.Loops.PassesLaws.{twice_found, twice_more}
use Rattle.image.specs.Loops.PortsLaws.{place_there}
use Rattle.image.specs.Readers.{wire_at}
use Rattle.verdict.proofs.passes.feed_ports.Goals.{After-wire_at-w}
use Rattle.verdict.proofs.passes.feed_ports.Goals as goal

at-port : (c : After-wire_at-w) →
    let img = c.args.image.now in
    3 * c.wire_at-w.result.to + c.wire_at-w.result.port ≡ port_place (to img c.loop-i.i) (port img c.loop-i.i)
unfolding wire_at
at-port c = rw c.wire_at-w.ensures

below : (c : After-wire_at-w) → c.loop-i.i < channels c.args.image.now
below c = omega (arith, c.channels-c.ensures)

within : (c : After-wire_at-w) → 3 * c.wire_at-w.result.to + c.wire_at-w.result.port < 192
within c = rw (at-port c) (place_there c.args.image.now _ c.requires c.loop-i.i (below c))

pub loop-i-init : goal.loop-i-init
unfolding any_below ports_below fed_below twice_below
loop-i-init c = (omega arith, refl, refl)

pub bounds-ports-at : goal.bounds-ports-at
bounds-ports-at c = within (goal.at.bounds-ports-at c).After-wire_at-w

-- what stands at the place of a channel's port is what the definition finds
found : (c : After-wire_at-w) → c.loop-i.ports ≡ fed_below c.args.image.now c.loop-i.i → (b : Bool)
    → get_or c.loop-i.ports (3 * c.wire_at-w.result.to + c.wire_at-w.result.port) false ≡ b
    → finds c.args.image.now c.loop-i.i ≡ b
found c e b h = rw e at (rw (at-port c) at h)

pub returns-then-ports-at-clause-number : goal.returns-then-ports-at-clause-number
returns-then-ports-at-clause-number c =
    let d = (goal.at.returns-then-ports-at-clause-number c).After-wire_at-w in
    rw (twice_found c.args.image.now c.loop-i.i _ (below d) (found d c.loop-i.invariant.2 true c.if-ports-at.true))

pub bounds-ports-at-in-loop-i : goal.bounds-ports-at-in-loop-i
bounds-ports-at-in-loop-i c = within (goal.at.bounds-ports-at-in-loop-i c).After-wire_at-w

pub loop-i-preserved : goal.loop-i-preserved
unfolding fed_below ports_below
loop-i-preserved c =
    let d = (goal.at.loop-i-preserved c).After-wire_at-w in (
      omega arith,
      rw add-one (twice_more c.args.image.now c.loop-i.i c.loop-i.invariant.1 (found d c.loop-i.invariant.2 false c.if-ports-at.false)),
      rw (add-one, at-port d, c.loop-i.invariant.2),
    )
