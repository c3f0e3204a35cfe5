-- `decode::queues_in` meets its contract. Assumes nothing.
use Prim.Native.Nat.{◌+◌, ◌*◌}
use Rattle.layout.specs.Places.{queue_length, queues_place}
use Rattle.layout.specs.Bytes.{queue_in}
use Rattle.std.proofs.Common.{rules}
use Rattle.laws.specs.Laws.Array.{made_table}
use Rattle.decode.proofs.queues_in.Goals as goal

pub returns : goal.returns
returns c = made_table (λ k. queue_in c.args.bytes.now (queues_place + queue_length * k)) c.from_fn.ensures.items (λ i y q l called. search rules)
