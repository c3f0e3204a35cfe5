-- A node is put as its value and its firings. Assumes nothing.
use native.Mathlib.Omega.{arith}
use borrow.Author.Rules.{rules}
use mir.Syntax.{w32}
use mir.Val.{SFits}
use mir.Facts.{to_z-of_z}
use Rattle.writer.specs.Laws.Put.{put-after, put_long}
use Rattle.layout.specs.Bytes.{node_bytes}
use Rattle.numbers.specs.Laws.Numbers.{number_long, signed_long}
use Rattle.layout.specs.Laws.Bytes.{node_long}
use Rattle.encode.proofs.NodesBytesNode.put.Goals as goal

pub put-firings-requires : goal.put-firings-requires
put-firings-requires c = rw signed_long (omega (arith, node_long c.args.item))

pub put-requires : goal.put-requires
put-requires c =
    let p = c.put-firings.ensures in
    rw number_long (omega (arith, node_long c.args.item, rw signed_long at p.next, put_long p))

pub returns : goal.returns
unfolding node_bytes
returns c =
    let f : SFits w32 c.args.item.value = search rules in
    put-after (rw (to_z-of_z f) at c.put-firings.ensures) c.put.ensures
