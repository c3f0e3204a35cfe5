-- A queue is put as its tokens and its count. Assumes nothing.
use mathlib.Core.Path.{◌≡◌}
use borrow.Author.Rules.{rules}
use lib.ListN.{length}
use Rattle.layout.specs.Bytes.{queue_bytes}
use Rattle.layout.specs.Laws.Bytes.{tokens_own}
use Rattle.encode.proofs.QueuesBytesQueue.put.Goals as goal

pub put_counted-requires : goal.put_counted-requires
unfolding queue_bytes
put_counted-requires c =
    let long : length c.args.item.tokens ≡ 8 = search rules in
    rw (tokens_own c.args.item.tokens long) c.requires

pub returns : goal.returns
unfolding queue_bytes
returns c =
    let long : length c.args.item.tokens ≡ 8 = search rules in
    rw (tokens_own c.args.item.tokens long) at c.put_counted.ensures
