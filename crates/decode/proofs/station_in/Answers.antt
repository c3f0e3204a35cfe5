-- `decode::station_in` meets its contract. Assumes nothing.
use borrow.Author.Rules.{rules}
use Rattle.layout.specs.Bytes.{station_in}
use Rattle.decode.proofs.station_in.Goals as goal

pub returns : goal.returns
unfolding station_in
returns c = search rules
