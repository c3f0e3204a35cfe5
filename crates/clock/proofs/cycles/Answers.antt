-- `clock::cycles` meets its contract. The invariants: the cycles of the first t words are made (loop-word), the channels below c are scanned
-- (loop-c), the nodes below n are gated (loop-n), the channels below c have moved (loop-c-2), and of channel c's stations those below j (loop-j).
-- Assumes nothing.
use mathlib.Core.Bool.{Bool, true, false}
use mathlib.Core.List.{List}
use mathlib.Core.Logic.{inl, inr}
use mathlib.Core.Path.{◌≡◌, refl, sym, ap, ◌∙◌}
use Prim.Native.Nat.{ℕ, ◌≤◌, ◌<◌, ◌+◌, ◌*◌}
use native.Mathlib.Nat.{add-zero}
use native.Mathlib.Numerals.{add-one}
use native.Mathlib.Omega.{arith}
use borrow.Author.Rules.{rules}
use lib.IntN.{ℤ, pos}
use lib.ListN.{take, get_or}
use Rattle.laws.specs.Choice.{◌if◌else◌}
use Rattle.laws.specs.Laws.Signed.{told}
use Rattle.laws.specs.Lists.{holds_two}
use Rattle.image.specs.declared.Wire.{Wire}
use Rattle.image.specs.Image.{nodes, channels}
use Rattle.image.specs.Readers.{no_wire, wires, Placed}
use Rattle.image.specs.Laws.Readers.{wires-at}
use Rattle.verdict.specs.Judge.{judge}
use Rattle.verdict.specs.Laws.Accepted.{accepted, channels_few, wire_placed}
use mir.Syntax.{w32}
use mir.Val.{SFits}
use mir.Facts.{to_z-of_z}
use Rattle.laws.specs.Below.{any_below}
use Rattle.laws.specs.Table.{table, table_over}
use Rattle.image.specs.Loops.Ports.{ports_below}
use Rattle.std.specs.Int.{from_bool}
use Rattle.std.specs.Option.{is_some, unwrap_or}
use Rattle.relay.specs.Link.{Link, token}
use Rattle.relay.specs.Station.{held, no_station}
use Rattle.shell.specs.Channel.{arriving}
use Rattle.state.specs.State.{no_node, node_at, channel_in}
use Rattle.state.specs.declared.State.{State}
use Rattle.cycle.specs.Cycle.{input_at, state_after, after}
use Rattle.cycle.specs.Loops.Parts.{starved_below, brought_below, blocked_below, fires_below, nodes_below, moved_below}
use Rattle.cycle.specs.Loops.PartsLaws.{link_in, stop_in}
use Rattle.cycle.specs.Loops.Turns.{source_read, arriving-read, stop_read, full-read, input-read, held-read, starved_read, brought_read, blocked-read}
use Rattle.cycle.specs.Loops.Turns.{station-read, row_turn, link_read, last_read, ends_read, pending_read, queue_read, queue_idle, channel_turn}
use Rattle.cycle.specs.Loops.Turns.{fires-read, fired-read, gated_turn, cycle_turn, after_next}
use Rattle.cycle.specs.Laws.Kept.{fitting-next}
use Rattle.clock.proofs.cycles.Goals.{In-loop-c, In-loop-c-2, then-length-gt0, else-length-gt0, then-stalls-starved, else-stalls-starved, then-j-length, else-j-length, then-length-gt0-2, else-length-gt0-2, then-takes-is_some, else-takes-is_some}
use Rattle.clock.proofs.cycles.Goals as goal

-- wire i is that of one of the image's channels: its number and its fields are indices
abbrev read_at : List Wire → ℕ → Wire
read_at wires i = get_or wires i no_wire

abbrev Within : ℕ → Wire → Type 0
Within i w = (i < 96) × (w.from < 64) × (w.to < 64) × (w.port < 3) × (w.stations ≤ 8)

within : (img : List ℕ) → judge img ≡ 0 → (all : List Wire) → all ≡ wires img → (i : ℕ) → i < channels img → Within i (read_at all i)
within img ok all e i h =
    let w : Placed (read_at all i) = rw (wires-at img i h all e) (wire_placed img ok i h) in
    (omega (arith, h, channels_few img ok), w.from, w.to, w.port, w.stations)

scan_within : (c : In-loop-c) → Within c.loop-c.c (read_at c.wires-wires.result c.loop-c.c)
scan_within c =
    within c.args.netlist.image.now c.args.netlist.accepted c.wires-wires.result c.wires-wires.ensures c.loop-c.c
    (omega (arith, c.channels-channels.ensures.value))

move_within : (c : In-loop-c-2) → Within c.loop-c-2.c (read_at c.wires-wires.result c.loop-c-2.c)
move_within c =
    within c.args.netlist.image.now c.args.netlist.accepted c.wires-wires.result c.wires-wires.ensures c.loop-c-2.c
    (omega (arith, c.channels-channels.ensures.value))

-- a pending bit as its byte
byte : (b : Bool) → from_bool b ≡ (1 if b else 0)
byte true = refl
byte false = refl

-- the first place of a row
first_place : (s : State) (i : ℕ) → holds_two (held (get_or s.stations (8 * i) no_station)) ≡ holds_two
    (held (get_or s.stations (8 * i + 0) no_station))
first_place s i = ap (λ (n : ℕ). holds_two (held (get_or s.stations n no_station))) (sym (add-zero (8 * i)))

pub loop-word-init : goal.loop-word-init
unfolding after
loop-word-init c = record { done = omega arith; state = refl; fits = c.requires.fitting; count = omega (arith, c.requires.words_bound) }

pub loop-c-init : goal.loop-c-init
unfolding starved_below brought_below blocked_below any_below ports_below table
loop-c-init c = (omega arith, refl, refl, refl)

pub bounds-old-from : goal.bounds-old-from
bounds-old-from c = omega (arith, scan_within (goal.at.bounds-old-from c).In-loop-c)

pub bounds-old-c-then-length-gt0 : goal.bounds-old-c-then-length-gt0
bounds-old-c-then-length-gt0 c = omega (arith, scan_within (goal.at.bounds-old-c-then-length-gt0 c).In-loop-c)

pub bounds-brought-to : goal.bounds-brought-to
bounds-brought-to c = omega (arith, scan_within (goal.at.bounds-brought-to c).In-loop-c)

pub bounds-starved-to : goal.bounds-starved-to
bounds-starved-to c = omega (arith, scan_within (goal.at.bounds-starved-to c).In-loop-c)

pub bounds-starved-to-in-loop-c : goal.bounds-starved-to-in-loop-c
bounds-starved-to-in-loop-c c = omega (arith, scan_within (goal.at.bounds-starved-to-in-loop-c c).In-loop-c)

pub bounds-blocked-from : goal.bounds-blocked-from
bounds-blocked-from c = omega (arith, scan_within (goal.at.bounds-blocked-from c).In-loop-c)

pub bounds-blocked-from-in-loop-c : goal.bounds-blocked-from-in-loop-c
bounds-blocked-from-in-loop-c c = omega (arith, scan_within (goal.at.bounds-blocked-from-in-loop-c c).In-loop-c)

pub loop-c-preserved : goal.loop-c-preserved
loop-c-preserved c =
    let img = c.args.netlist.image.now in
    let net = (accepted c.args.netlist.image.now c.args.netlist.accepted) in
    let s = c.loop-word.state in
    let fit = c.loop-word.invariant.fits in
    let i = c.loop-c.c in
    let h : i < channels img = omega (arith, c.channels-channels.ensures.value) in
    let e = wires-at img i h c.wires-wires.result c.wires-wires.ensures in
    let inv = c.loop-c.invariant in
    let join = c.if-length-gt0 in
    let g : SFits w32 c.unwrap_or.result = search rules in
    let link : token join.link.0 ≡ arriving (channel_in img s i) =
    arriving-read img s i _ e join.link.0
    (elim c.if-length-gt0.branch [
      | then-length-gt0 w ↦ inl (omega arith, ap (λ (p : Link × Bool). p.0) w.link-is ∙ w.link.ensures)
      | else-length-gt0 w ↦
          let f : SFits w32 (get_or s.nodes (read_at c.wires-wires.result i).from no_node).value = search rules in
          inr (omega arith, source_read img s i _ e _ _ (ap (λ (p : Link × Bool). p.0) w.link-is ∙ w.then_some.ensures) (to_z-of_z f))
    ]) in
    let stop : join.link.1 ≡ stop_in img s i 0 =
    stop_read img s i _ e 0 join.link.1
    (elim c.if-length-gt0.branch [
      | then-length-gt0 w ↦ inl (omega arith, ap (λ (p : Link × Bool). p.1) w.link-is ∙ w.full.ensures ∙ first_place s i)
      | else-length-gt0 w ↦ inr (omega arith, ap (λ (p : Link × Bool). p.1) w.link-is ∙ w.full-else-length-gt0.ensures ∙ full-read img net s fit i h _ e)
    ]) in
    let input : c.input-input.result ≡ input_at img s i =
    c.input-input.ensures ∙ input-read img net s fit i h _ e join.link.0 link in (
      omega arith,
      starved_read img net s fit i h _ e _ inv.1 _ (sym (ap (λ (x : Link). is_some x) input) ∙ c.is_none.ensures),
      brought_read img net s fit i h _ e _ inv.2 _ (to_z-of_z g ∙ c.unwrap_or.ensures ∙ ap (λ (x : Link). unwrap_or x (pos 0)) input),
      blocked-read img net s fit i h _ e _ inv.3 _ (c.blocked.ensures ∙ held-read img net s fit i h _ e join.link.1 stop),
    )

pub loop-n-init : goal.loop-n-init
unfolding moved_below nodes_below fires_below table_over table
loop-n-init c = (omega arith, refl, refl)

pub fired-requires : goal.fired-requires
unfolding node_at
fired-requires c =
    let there : c.loop-n.n < nodes c.args.netlist.image.now = omega (arith, c.nodes-nodes.ensures.value) in
    omega (arith, c.loop-word.invariant.fits.fired c.loop-n.n there, c.loop-word.invariant.count)

pub loop-n-preserved : goal.loop-n-preserved
loop-n-preserved c =
    let img = c.args.netlist.image.now in
    let net = (accepted c.args.netlist.image.now c.args.netlist.accepted) in
    let s = c.loop-word.state in
    let fit = c.loop-word.invariant.fits in
    let w = get_or c.args.words.now c.loop-word.word-index 0 in
    let scan = c.loop-c in
    let l = c.loop-n in
    let n = l.n in
    let there : n < nodes img = omega (arith, c.nodes-nodes.ensures.value) in
    let all : scan.c ≡ channels img = omega (arith, c.channels-channels.ensures.value) in
    let join = c.if-stalls-starved in
    let test = fires-read img net s fit w n there scan.starved scan.blocked
    (scan.invariant.1 ∙ ap (starved_below img s) all) (scan.invariant.3 ∙ ap (blocked_below img s) all) _ c.stalls.ensures in
    let brought = scan.invariant.2 ∙ ap (brought_below img s) all in
    let at : ℕ → ℤ = λ (i : ℕ). get_or scan.brought i (pos 0) in
    let r = gated_turn img net s fit w n there l.state join.state l.fires join.fires l.invariant.1 l.invariant.2
    (elim c.if-stalls-starved.branch [
      | then-stalls-starved w' ↦
          let f = sym test ∙ w'.if-stalls-starved.true in
          inl (f, (_, w'.fired.ensures ∙ fired-read img net s fit w n there f _ c.kinds_of-kinds.ensures scan.brought brought _ _ _ (to_z-of_z (told (at (3 * n)) w'.fired-arg-then-stalls-starved-1.given)) (to_z-of_z (told (at (3 * n + 1)) w'.fired-arg-then-stalls-starved-2-1.given)) (to_z-of_z (told (at (3 * n + 2)) w'.fired-arg-then-stalls-starved-3-1.given)), w'.state-is), w'.fires-is)
      | else-stalls-starved w' ↦ inr (sym test ∙ w'.if-stalls-starved.false, w'.state-is, w'.fires-is)
    ]) in
    (omega arith, r.0, r.1)

pub bounds-old-from-in-loop-c-2 : goal.bounds-old-from-in-loop-c-2
bounds-old-from-in-loop-c-2 c = omega (arith, move_within (goal.at.bounds-old-from-in-loop-c-2 c).In-loop-c-2)

pub bounds-old-c-in-loop-j : goal.bounds-old-c-in-loop-j
bounds-old-c-in-loop-j c = omega (arith, move_within (goal.at.bounds-old-c-in-loop-j c).In-loop-c-2)

pub bounds-old-c-then-j-length : goal.bounds-old-c-then-j-length
bounds-old-c-then-j-length c = omega (arith, move_within (goal.at.bounds-old-c-then-j-length c).In-loop-c-2)

pub bounds-state-c : goal.bounds-state-c
bounds-state-c c = omega (arith, move_within (goal.at.bounds-state-c c).In-loop-c-2)

pub bounds-fires-to : goal.bounds-fires-to
bounds-fires-to c = omega (arith, move_within (goal.at.bounds-fires-to c).In-loop-c-2)

pub bounds-fires-from : goal.bounds-fires-from
bounds-fires-from c = omega (arith, move_within (goal.at.bounds-fires-from c).In-loop-c-2)

pub loop-j-init : goal.loop-j-init
loop-j-init c =
    let img = c.args.netlist.image.now in
    let net = (accepted c.args.netlist.image.now c.args.netlist.accepted) in
    let s = c.loop-word.state in
    let fit = c.loop-word.invariant.fits in
    let w = get_or c.args.words.now c.loop-word.word-index 0 in
    let i = c.loop-c-2.c in
    let h : i < channels img = omega (arith, c.channels-channels.ensures.value) in
    let e = wires-at img i h c.wires-wires.result c.wires-wires.ensures in
    let l = c.loop-c-2 in
    let f : SFits w32 (get_or s.nodes (read_at c.wires-wires.result i).from no_node).value = search rules in (
      omega arith,
      l.invariant.1 ∙ ap (moved_below img w s s.cycles (nodes_below img w s c.nodes-nodes.result) i) (sym (add-zero (8 * i))),
      source_read img s i _ e _ _ c.then_some-link.ensures (to_z-of_z f),
    )

pub loop-j-preserved : goal.loop-j-preserved
loop-j-preserved c =
    let img = c.args.netlist.image.now in
    let net = (accepted c.args.netlist.image.now c.args.netlist.accepted) in
    let s = c.loop-word.state in
    let fit = c.loop-word.invariant.fits in
    let w = get_or c.args.words.now c.loop-word.word-index 0 in
    let i = c.loop-c-2.c in
    let h : i < channels img = omega (arith, c.channels-channels.ensures.value) in
    let e = wires-at img i h c.wires-wires.result c.wires-wires.ensures in
    let l = c.loop-j in
    let join = c.if-j-length in
    let inside : l.j < (read_at c.wires-wires.result i).stations = omega arith in
    let stop : join.below ≡ stop_in img s i (l.j + 1) =
    stop_read img s i _ e (l.j + 1) join.below
    (elim c.if-j-length.branch [
      | then-j-length w' ↦ inl (omega arith, w'.below-is ∙ w'.full-below.ensures)
      | else-j-length w' ↦ inr (omega arith, w'.below-is ∙ c.full-full.ensures ∙ full-read img net s fit i h _ e)
    ]) in
    let next = c.after.ensures
    ∙ station-read img net s fit i h _ e w l.j inside l.link join.below l.invariant.2 (rw add-one at stop) in (
      omega arith,
      row_turn img net s fit i h _ e w s.cycles (nodes_below img w s c.nodes-nodes.result) l.j inside l.state l.invariant.1 _ next,
      link_read img s i _ e l.j inside c.link-link.result c.link-link.ensures,
    )

pub loop-c-2-preserved : goal.loop-c-2-preserved
loop-c-2-preserved c =
    let img = c.args.netlist.image.now in
    let net = (accepted c.args.netlist.image.now c.args.netlist.accepted) in
    let s = c.loop-word.state in
    let fit = c.loop-word.invariant.fits in
    let w = get_or c.args.words.now c.loop-word.word-index 0 in
    let i = c.loop-c-2.c in
    let h : i < channels img = omega (arith, c.channels-channels.ensures.value) in
    let e = wires-at img i h c.wires-wires.result c.wires-wires.ensures in
    let l = c.loop-j in
    let end : l.j ≡ (read_at c.wires-wires.result i).stations = omega arith in
    let gate = c.loop-n in
    let n : gate.n ≡ nodes img = omega (arith, c.nodes-nodes.ensures.value, gate.invariant.0, c.loop-n-test.false) in
    let ends = ends_read img net s fit i h _ e w gate.fires (gate.invariant.2 ∙ ap (fires_below img w s) n) in
    let full = c.full-full.ensures ∙ full-read img net s fit i h _ e in
    let link = last_read img net s fit i h _ e w l.link (l.invariant.2 ∙ ap (link_in img s i) end) in
    let stop : c.if-length-gt0-2.stop ≡ stop_in img s i 0 =
    stop_read img s i _ e 0 c.if-length-gt0-2.stop
    (elim c.if-length-gt0-2.branch [
      | then-length-gt0-2 w' ↦ inl (omega arith, w'.stop-is ∙ w'.full-stop.ensures ∙ first_place s i)
      | else-length-gt0-2 w' ↦ inr (omega arith, w'.stop-is ∙ full)
    ]) in
    let ns = nodes_below img w s c.nodes-nodes.result in
    let join = c.if-takes-is_some in (
      omega arith,
      channel_turn img net s fit i h _ e w s.cycles ns l.state join.state
          (l.invariant.1 ∙ ap (λ (j : ℕ). moved_below img w s s.cycles ns i (8 * i + j)) end)
          (elim c.if-takes-is_some.branch [
            | then-takes-is_some w' ↦ inl (_, w'.after-then-takes-is_some.ensures ∙ queue_read img net s fit i h _ e w l.link _ _ link full ends.0, w'.state-is)
            | else-takes-is_some w' ↦ inr (w'.state-is, queue_idle img net s fit i h _ e w l.link _ _ link full ends.0 _ c.is_some.ensures w'.if-takes-is_some.false)
          ])
          _
          (c.from.ensures ∙ byte c.pending_after.result ∙ ap (λ (b : Bool). 1 if b else 0) c.pending_after.ensures
          ∙ pending_read img net s fit i h _ e w _ _ stop ends.1),
    )

pub loop-word-preserved : goal.loop-word-preserved
loop-word-preserved c =
    let img = c.args.netlist.image.now in
    let s = c.loop-word.state in
    let made = c.loop-word.invariant in
    let w = get_or c.args.words.now c.loop-word.word-index 0 in
    let a = c.args in
    let words = a.words.now in
    let t = c.loop-word.word-index in
    let l = c.loop-c-2 in
    let all : l.c ≡ channels img = omega (arith, c.channels-channels.ensures.value) in
    let moved = l.invariant.1
    ∙ ap (λ (n : ℕ). moved_below img w s s.cycles (nodes_below img w s n) l.c (8 * l.c)) c.nodes-nodes.ensures.value
    ∙ ap (λ (k : ℕ). moved_below img w s s.cycles (nodes_below img w s (nodes img)) k (8 * k)) all in
    let e = cycle_turn img w s made.fits l.state moved in
    record {
      done = omega arith;
      state =
          e ∙ ap (state_after img w) made.state ∙ sym (after_next img a.state.now words t (omega arith))
          ∙ ap (λ (n : ℕ). after img a.state.now (take n words)) (sym (add-one t));
      fits = rw e (fitting-next img (accepted c.args.netlist.image.now c.args.netlist.accepted) w s made.fits (omega (arith, made.count)));
      count = omega (arith, made.count);
    }
