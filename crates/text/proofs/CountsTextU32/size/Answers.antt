-- How many bytes a count takes. Assumes nothing.
use native.Mathlib.Omega.{arith}
use Rattle.text.specs.Laws.Decimal.{decimal_short}
use Rattle.text.specs.Lines.{count_text}
use Rattle.text.proofs.CountsTextU32.size.Goals as goal

pub returns : goal.returns
unfolding count_text
returns c = let n = c.args.item in omega (arith, c.digits.ensures.0, decimal_short 9 n (omega arith))
