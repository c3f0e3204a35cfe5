-- `text::signed_length` meets its contract. Assumes nothing.
use mathlib.Core.Path.{◌≡◌, ap}
use native.Mathlib.Omega.{arith}
use lib.IntN.{nat_abs}
use lib.ListN.{length}
use mir.Facts.{to_z-of_z}
use Rattle.text.specs.Decimal.{decimal}
use Rattle.text.specs.Laws.Decimal.{signed_minus, signed_plain, signed_short}
use Rattle.text.proofs.signed_length.Goals.{After-digits-count}
use Rattle.text.proofs.signed_length.Goals as goal

far : (c : After-digits-count) → c.digits-count.result ≡ length (decimal (nat_abs c.args.token))
far c =
    let f = c.ranges.token in
    let e : c.unsigned_abs.result ≡ nat_abs c.args.token = simp to_z-of_z at c.unsigned_abs.ensures.value in
    rw e at c.digits-count.ensures.0

pub returns-then-token-lt0 : goal.returns-then-token-lt0
returns-then-token-lt0 c = let f = c.ranges.token in
    let e = ap length (signed_minus c.args.token (simp to_z-of_z at c.if-token-lt0.true)) in
    omega (arith, e, far (goal.at.returns-then-token-lt0 c).After-digits-count, signed_short c.args.token f.sfits)

pub returns-else-token-lt0 : goal.returns-else-token-lt0
returns-else-token-lt0 c = let f = c.ranges.token in
    let e = ap length (signed_plain c.args.token (simp to_z-of_z at c.if-token-lt0.false)) in
    omega (arith, e, far (goal.at.returns-else-token-lt0 c).After-digits-count, signed_short c.args.token f.sfits)
