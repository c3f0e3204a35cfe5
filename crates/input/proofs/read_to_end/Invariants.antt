-- `input::read_to_end` meets its contract. The invariant: what was read lies within the buffer, and is what the reader no longer has. Assumes nothing.
use Rattle.std.specs.Prelude.{◌≡◌, ◌-◌, ◌≤◌, length, take}
use Rattle.std.specs.Io.KnownBytes.{Consumes}
use Rattle.input.proofs.read_to_end.Given as goal

abbrev pub invariant-loop-read : goal.invariant-loop-read
invariant-loop-read g l = (l.read.kept ≤ length l.buffer) × (l.read.length ≡ l.read.kept)
    × Consumes (g.R.Read.remaining l.initial.reader) (g.R.Read.remaining l.reader) (take l.read.kept l.buffer)

abbrev pub decreases-loop-read : goal.decreases-loop-read
decreases-loop-read g l = length l.buffer - l.read.kept
