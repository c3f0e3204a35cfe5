-- `trace_input::image_of` meets its contract. Assumes nothing.
use native.Mathlib.Omega.{arith}
use Rattle.trace_input.specs.Laws.Input.{image_first}
use Rattle.trace_input.proofs.image_of.Goals as goal

pub returns : goal.returns
returns c = image_first c.args.input.now _ (omega (arith, c.min.ensures, c.length_due.ensures))
