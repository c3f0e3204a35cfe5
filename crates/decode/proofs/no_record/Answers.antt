-- `decode::no_record` meets its contract. Assumes nothing.
use mathlib.Core.Path.{refl}
use Rattle.layout.specs.Bytes.{no_record}
use Rattle.decode.proofs.no_record.Goals as goal

pub returns : goal.returns
unfolding no_record
returns c = refl
