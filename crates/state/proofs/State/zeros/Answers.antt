-- `state::State::zeros` meets its contract. Assumes nothing.
use Rattle.state.specs.Fresh.{zeros}
use Rattle.state.specs.Laws.Fresh.{zeros_of}
use Rattle.state.proofs.State.zeros.Goals as goal

pub returns : goal.returns
unfolding zeros
returns c =
    let s = c.empty-station in
    let q = c.empty-queue in
    zeros_of s.result q.result s.ensures q.ensures
