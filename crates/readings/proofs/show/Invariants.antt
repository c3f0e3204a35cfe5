-- `readings::show`: the letters and values of the channels below c are written.
use mathlib.Core.Path.{◌≡◌}
use Prim.Native.Nat.{◌≤◌}
use Rattle.laws.specs.Table.{table_over}
use Rattle.cycle.specs.Cycle.{reading_at}
use Rattle.readings.proofs.show.Given as goal

abbrev pub invariant-loop-c : goal.invariant-loop-c
invariant-loop-c l =
    (l.c ≤ l.channels) × (l.letters ≡ table_over (λ k. (reading_at l.netlist.image.now l.state k).letter) l.c l.initial.letters)
    × (l.values ≡ table_over (λ k. (reading_at l.netlist.image.now l.state k).value) l.c l.initial.values)
