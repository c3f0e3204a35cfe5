-- `clock::cycles`: the words made, the channels scanned, the nodes gated, the channels moved, and of the channel that moves the stations moved.
use mathlib.Core.Path.{◌≡◌}
use Prim.Native.Nat.{ℕ, ◌≤◌, ◌+◌, ◌*◌}
use mathlib.Core.List.{List}
use lib.ListN.{length, take}
use Rattle.relay.specs.Link.{token}
use Rattle.state.specs.declared.State.{State}
use Rattle.fitting.specs.Fitting.{Fitting}
use Rattle.cycle.specs.Cycle.{after}
use Rattle.cycle.specs.Loops.Parts.{starved_below, brought_below, blocked_below, fires_below, nodes_below, moved_below}
use Rattle.cycle.specs.Loops.PartsLaws.{link_in}
use Rattle.clock.proofs.cycles.Given as goal

-- the cycles of the first t words are made, and the state fits
pub record Made (img : List ℕ) (words : List ℕ) (first : State) (s : State) (t : ℕ) : Type 0 where
  pub done : t ≤ length words
  pub state : s ≡ after img first (take t words)
  pub fits : Fitting img s
  pub count : s.cycles + length words ≤ 1000000 + t

abbrev pub invariant-loop-c : goal.invariant-loop-c
invariant-loop-c l =
    (l.c ≤ l.channels) × (l.starved ≡ starved_below l.netlist.image.now l.old l.c) × (l.brought ≡ brought_below l.netlist.image.now l.old l.c) × (l.blocked ≡ blocked_below l.netlist.image.now l.old l.c)

abbrev pub invariant-loop-n : goal.invariant-loop-n
invariant-loop-n l =
    (l.n ≤ l.nodes) × (l.state ≡ moved_below l.netlist.image.now l.word l.old l.old.cycles (nodes_below l.netlist.image.now l.word l.old l.n) 0 0) × (l.fires ≡ fires_below l.netlist.image.now l.word l.old l.n)

abbrev pub invariant-loop-j : goal.invariant-loop-j
invariant-loop-j l =
    (l.j ≤ l.length) × (l.state ≡ moved_below l.netlist.image.now l.word l.old l.old.cycles (nodes_below l.netlist.image.now l.word l.old l.nodes) l.c (8 * l.c + l.j)) × (token l.link ≡ link_in l.netlist.image.now l.old l.c l.j)

abbrev pub invariant-loop-c-2 : goal.invariant-loop-c-2
invariant-loop-c-2 l =
    (l.c ≤ l.channels) × (l.state ≡ moved_below l.netlist.image.now l.word l.old l.old.cycles (nodes_below l.netlist.image.now l.word l.old l.nodes) l.c (8 * l.c))

abbrev pub invariant-loop-word : goal.invariant-loop-word
invariant-loop-word l = Made l.netlist.image.now l.words l.initial.state l.state l.word-index
