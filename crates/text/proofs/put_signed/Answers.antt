-- `text::put_signed` meets its contract: behind the minus sign there is room for the digits. Assumes nothing.
use mathlib.Core.Path.{◌≡◌, ap}
use native.Mathlib.Omega.{arith}
use lib.IntN.{nat_abs}
use lib.ListN.{length, length-set}
use mir.Facts.{to_z-of_z}
use Rattle.text.specs.Laws.Decimal.{signed_minus}
use Rattle.text.proofs.put_signed.Goals as goal

pub put_decimal-requires : goal.put_decimal-requires
put_decimal-requires c =
    let f = c.ranges.value in
    let far : c.unsigned_abs-distance.result ≡ nat_abs c.args.value = simp to_z-of_z at c.unsigned_abs-distance.ensures.value in
    let long = ap length (rw (← far) at (signed_minus c.args.value (simp to_z-of_z at c.if-value-lt0.true))) in
    simp length-set (omega (arith, long))
