-- A signed number is put as its bytes. Assumes nothing.
use mathlib.Core.Path.{ap, ◌∙◌}
use mir.Facts.{to_z-of_z}
use Rattle.numbers.specs.Numbers.{signed_bytes}
use Rattle.encode.proofs.SignedBytesI32.put.Goals as goal

pub put_bytes-requires : goal.put_bytes-requires
put_bytes-requires c = rw (c.signed_bytes.ensures, to_z-of_z c.ranges.item) c.requires

pub returns : goal.returns
returns c = rw (c.signed_bytes.ensures ∙ ap signed_bytes (to_z-of_z c.ranges.item)) at c.put_bytes.ensures
