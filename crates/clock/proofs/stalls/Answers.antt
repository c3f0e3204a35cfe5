-- `clock::stalls` meets its contract. Assumes nothing.
use mathlib.Core.Path.{refl}
use Rattle.cycle.specs.Word.{stalled}
use Rattle.clock.proofs.stalls.Goals as goal

pub returns : goal.returns
unfolding stalled
returns c = refl
