-- `decode::nodes_in` meets its contract. Assumes nothing.
use Prim.Native.Nat.{◌+◌, ◌*◌}
use Rattle.layout.specs.Places.{node_length, nodes_place}
use Rattle.layout.specs.Bytes.{node_in}
use Rattle.std.proofs.Common.{rules}
use Rattle.laws.specs.Laws.Array.{made_table}
use Rattle.decode.proofs.nodes_in.Goals as goal

pub returns : goal.returns
returns c = made_table (λ k. node_in c.args.bytes.now (nodes_place + node_length * k)) c.from_fn.ensures.items (λ i y q l called. search rules)
