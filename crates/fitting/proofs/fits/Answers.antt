-- `fitting::fits` meets its contract. Assumes nothing.
use Rattle.verdict.specs.Laws.Accepted.{accepted}
use Rattle.fitting.specs.Fits.{cycles_fit}
use Rattle.fitting.specs.Loops.PassesLaws.{passes_fit}
use Rattle.fitting.proofs.fits.Goals as goal

pub returns : goal.returns
unfolding cycles_fit
returns c =
    let net = c.args.netlist in
    rw (c.channels_clear-unused.ensures, c.channels_fit-channels.ensures, c.nodes_fit-nodes.ensures)
    (passes_fit net.image.now (accepted net.image.now net.accepted) c.args.state.now)
