-- `decode::record_count` meets its contract. Assumes nothing.
use mathlib.Core.Path.{refl}
use Rattle.layout.specs.Bytes.{record_count}
use Rattle.decode.proofs.record_count.Goals as goal

pub returns : goal.returns
unfolding record_count
returns c = refl
