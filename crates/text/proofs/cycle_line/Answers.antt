-- `text::cycle_line` meets its contract. Assumes nothing.
use mathlib.Core.Path.{◌≡◌, ap, ◌∙◌}
use native.Mathlib.Omega.{arith}
use lib.ListN.{length, take}
use Rattle.text.specs.Decimal.{decimal}
use Rattle.text.specs.Laws.Decimal.{digits_decimal, decimal_short}
use Rattle.text.specs.Lines.{line_text}
use Rattle.text.proofs.cycle_line.Goals.{After-decimal-count}
use Rattle.text.proofs.cycle_line.Goals as goal

-- the line begins with the cycle's digits
digits : (c : After-decimal-count) → take c.decimal-count.result c.decimal-count.new.out ≡ decimal c.args.cycle
digits c = c.decimal-count.ensures.digits ∙ digits_decimal c.decimal-count.result c.args.cycle c.decimal-count.ensures.len

pub returns-clause-write_done : goal.returns-clause-write_done
unfolding line_text
returns-clause-write_done c = rw (digits (goal.at.returns-clause-write_done c).After-decimal-count) at c.line.ensures.write_done

pub returns-clause-number_value : goal.returns-clause-number_value
returns-clause-number_value c =
    let a = c.args in
    let e = ap length (digits (goal.at.returns-clause-number_value c).After-decimal-count) in
    λ h. c.line.ensures.number_value (omega (arith, h, e, decimal_short 9 a.cycle (omega arith)))
