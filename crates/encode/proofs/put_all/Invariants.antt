-- What the loop of `encode::put_all` holds: the items before this one stand behind one another. Assumes nothing.
use mathlib.Core.List.{flat_map}
use Prim.Native.Nat.{◌≤◌}
use lib.ListN.{length, take}
use Rattle.writer.specs.Put.{Put}
use Rattle.encode.proofs.put_all.Given as goal

abbrev pub invariant-loop-item : goal.invariant-loop-item
invariant-loop-item g l =
    (l.item-index ≤ length l.items) × Put (flat_map g.F.Bytes.bytes (take l.item-index l.items)) l.at l.initial.out l.out l.end
