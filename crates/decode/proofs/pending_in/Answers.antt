-- `decode::pending_in` meets its contract. Assumes nothing.
use Prim.Native.Nat.{◌+◌}
use lib.ListN.{get_or}
use Rattle.std.proofs.Common.{rules}
use Rattle.laws.specs.Laws.Array.{made_table}
use Rattle.layout.specs.Places.{pending_place}
use Rattle.decode.proofs.pending_in.Goals as goal

pub returns : goal.returns
returns c = made_table (λ k. get_or c.args.bytes.now (pending_place + k) 0) c.from_fn.ensures.items (λ i y q l called. search rules)
