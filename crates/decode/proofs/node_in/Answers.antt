-- `decode::node_in` meets its contract. Assumes nothing.
use borrow.Author.Rules.{rules}
use Rattle.layout.specs.Bytes.{node_in}
use Rattle.decode.proofs.node_in.Goals as goal

pub returns : goal.returns
unfolding node_in
returns c = search rules
