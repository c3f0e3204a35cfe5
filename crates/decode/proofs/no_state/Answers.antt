-- `decode::no_state` meets its contract. Assumes nothing.
use Rattle.layout.specs.Bytes.{no_state}
use Rattle.decode.proofs.no_state.Goals as goal

pub returns : goal.returns
unfolding no_state
returns c = rw c.zeros-state.ensures
