-- What the loop of `text::room_after` holds: what the items before this one leave, and that each takes no more than the longest. Assumes nothing.
use mathlib.Core.List.{flat_map}
use mathlib.Core.Path.{◌≡◌}
use Prim.Native.Nat.{◌+◌, ◌*◌, ◌-◌, ◌≤◌}
use lib.ListN.{length, take}
use Rattle.text.proofs.room_after.Given as goal

abbrev pub invariant-loop-item : goal.invariant-loop-item
invariant-loop-item g l =
    (l.item-index ≤ length l.items) × (l.left ≡ l.room - length (flat_map g.F.Text.text (take l.item-index l.items))) × (l.room ≤ l.left + g.F.Text.longest * l.item-index)
