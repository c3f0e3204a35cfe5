-- `decode::queue_in` meets its contract. Assumes nothing.
use Prim.Native.Nat.{◌+◌, ◌*◌}
use Rattle.std.proofs.Common.{rules}
use Rattle.laws.specs.Laws.Array.{made_table}
use Rattle.numbers.specs.Numbers.{signed_in}
use Rattle.layout.specs.Bytes.{queue_in}
use Rattle.decode.proofs.queue_in.Goals as goal

pub returns : goal.returns
unfolding queue_in
returns c =
    let a = c.args in
    rw (made_table (λ k. signed_in a.bytes.now (a.at + 4 * k)) c.from_fn.ensures.items (λ i y q l called. search rules))
