-- `writer::put` meets its contract. Assumes nothing.
use mathlib.Core.Path.{◌≡◌, ◌∙◌}
use mathlib.Core.List.{List}
use Prim.Native.Nat.{ℕ, ◌+◌, ◌≤◌}
use native.Mathlib.Omega.{arith}
use lib.ListN.{length}
use borrow.Author.Tests.{le-leb}
use Rattle.writer.specs.Put.{Put, PutDone}
use Rattle.writer.specs.Laws.Put.{put_part}
use Rattle.writer.proofs.put.Goals as goal

done : (text old new : List ℕ) (at end : ℕ) → at + length text ≤ length old → Put text at old new end → PutDone text at old new end
done text old new at end h p =
    let e = le-leb (at + length text) (length old) h in
    record { bytes = p.bytes ∙ rw e; next = p.next ∙ rw e }

pub returns : goal.returns
returns c =
    let a = c.args in
    let end : c.saturating_add-end.result ≡ a.at + length a.bytes.now = omega arith in
    rw end
    (done a.bytes.now a.out.now _ a.at _ (omega (arith, c.if-out-end.false, end))
    (put_part a.bytes.now a.at (omega (arith, c.if-out-end.false, end)) c.copy_from_slice.ensures.after))
