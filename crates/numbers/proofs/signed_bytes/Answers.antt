-- `numbers::signed_bytes` meets its contract. Assumes nothing.
use mathlib.Core.Path.{◌≡◌, ap, ◌∙◌}
use mir.Facts.{to_z-of_z}
use mir.Syntax.{w32}
use mir.Val.{of_z}
use Rattle.numbers.specs.Numbers.{number_bytes, bits_of, signed_bytes}
use Rattle.numbers.specs.Laws.Numbers.{bits_same}
use Rattle.numbers.proofs.signed_bytes.Goals as goal

pub returns : goal.returns
unfolding signed_bytes
returns c =
    let f = c.ranges.value in
    let e : c.cast_unsigned.result ≡ bits_of c.args.value = c.cast_unsigned.ensures ∙ ap (of_z w32) (to_z-of_z f) ∙ bits_same c.args.value in
    c.number_bytes.ensures ∙ ap number_bytes e
