-- `text::digits` meets its contract. Assumes nothing.
use native.Mathlib.Omega.{arith}
use Rattle.text.specs.Laws.Decimal.{decimal_log, decimal_short}
use Rattle.text.proofs.digits.Goals as goal

pub returns : goal.returns
returns c =
    let n = c.args.n in
    let l = c.checked_ilog10.ensures in
    let e = decimal_log c.checked_ilog10.result n l.none l.power_le l.next_power_gt c.unwrap_or.ensures in
    (e, omega (arith, e, decimal_short 19 n (omega arith)))
