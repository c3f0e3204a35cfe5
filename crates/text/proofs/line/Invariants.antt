-- What the loop of `text::line` holds: the items before this one stand behind the first part. Assumes nothing.
use mathlib.Core.List.{flat_map}
use Prim.Native.Nat.{◌≤◌}
use lib.ListN.{length, take}
use Rattle.writer.specs.Put.{Put}
use Rattle.text.proofs.line.Given as goal

abbrev pub invariant-loop-item : goal.invariant-loop-item
invariant-loop-item g l =
    (l.item-index ≤ length l.items) × Put (flat_map g.F.Text.text (take l.item-index l.items)) l.initial.end l.initial.out l.out l.end
