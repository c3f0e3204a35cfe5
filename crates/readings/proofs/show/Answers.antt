-- `readings::show` meets its contract. The loop's invariant: the letters and values of the channels below c are written. Assumes nothing.
use mathlib.Core.Logic.{inl, inr}
use mathlib.Core.List.{List}
use mathlib.Core.Bool.{Bool, true, false, ◌||◌}
use mathlib.Core.Path.{◌≡◌, refl, sym, ap, ◌∙◌}
use Prim.Native.Nat.{ℕ, ◌≤◌, ◌<◌, ◌+◌}
use Rattle.std.proofs.Math.Dec.{ltb}
use borrow.Author.Tests.{ltb-false}
use Rattle.laws.specs.Choice.{◌if◌else◌}
use Rattle.laws.specs.Laws.Cases.{or_left, or_right}
use native.Mathlib.Omega.{arith}
use borrow.Author.Rules.{rules}
use lib.IntN.{ℤ}
use lib.ListN.{length, get_or}
use mir.Syntax.{w32}
use mir.Val.{SFits}
use mir.Facts.{to_z-of_z}
use Rattle.laws.specs.Table.{table, table_over}
use Rattle.image.specs.Image.{channels}
use Rattle.verdict.specs.Laws.Accepted.{accepted}
use Rattle.image.specs.Readers.{Placed}
use Rattle.relay.specs.declared.Reading.{Reading}
use Rattle.relay.specs.Link.{token}
use Rattle.shell.specs.Channel.{arriving}
use Rattle.state.specs.declared.State.{State}
use Rattle.state.specs.State.{no_node, channel_in}
use Rattle.cycle.specs.Cycle.{reading_at, letters_of, values_of}
use Rattle.readings.specs.Shown.{shown_number, letters_shown, values_shown}
use Rattle.cycle.specs.Loops.Turns.{written, source_read, stop_shown, arriving-read, reading_read}
use Rattle.fitting.proofs.Shape.{shaped}
use Rattle.readings.proofs.show.Goals.{After-channels-channels, After-wire-wire, In-loop-c, then-length-gt0, else-length-gt0}
use Rattle.readings.proofs.show.Goals as goal

-- channel c is one of the image's, and the fields of its wire are indices
there : (c : In-loop-c) → c.loop-c.c < channels c.args.netlist.image.now
there c = omega (arith, c.channels-channels.ensures.value)

within : (c : After-wire-wire) → (c.loop-c.c < 96) × Placed c.wire-wire.result
within c = (omega (arith, c.channels-channels.ensures.few), c.wire-wire.ensures.placed (omega (arith, c.channels-channels.ensures.value)))

-- what the test for room says, as its answer
number : (c : After-channels-channels) (b : Bool) → let k = c.channels-channels.result in
    (ltb (length c.args.letters.now) k || ltb (length c.args.values.now) k) ≡ b
    → (13 if b else 0) ≡ shown_number c.args.netlist.image.now c.args.state c.args.letters.now c.args.values.now
unfolding shown_number
number c b e =
    let a = c.args in
    ap (λ (t : Bool). 13 if t else 0)
    (sym e ∙ ap (λ (k : ℕ). ltb (length a.letters.now) k || ltb (length a.values.now) k) c.channels-channels.ensures.value)

enough : (c : After-channels-channels) → let k = c.channels-channels.result in
    (ltb (length c.args.letters.now) k || ltb (length c.args.values.now) k) ≡ false
    → (channels c.args.netlist.image.now ≤ length c.args.letters.now) × (channels c.args.netlist.image.now ≤ length c.args.values.now)
enough c e =
    let a = c.args in
    let k = c.channels-channels.result in
    let l = ltb-false (length a.letters.now) k (or_left (ltb (length a.letters.now) k) (ltb (length a.values.now) k) e) in
    let v = ltb-false (length a.values.now) k (or_right (ltb (length a.letters.now) k) (ltb (length a.values.now) k) e) in
    (omega (arith, l, c.channels-channels.ensures.value), omega (arith, v, c.channels-channels.ensures.value))

-- where an array is too short both are as they were
kept : (img : List ℕ) (s : State) (letters : List ℕ) (values : List ℤ) → 13 ≡ shown_number img s letters values
    → (letters ≡ letters_shown img s letters values) × (values ≡ values_shown img s letters values)
unfolding letters_shown values_shown
kept img s letters values e = rw (← e) (refl, refl)

pub returns-then-letters-room : goal.returns-then-letters-room
returns-then-letters-room c =
    let a = c.args in
    let e = number (goal.at.returns-then-letters-room c).After-channels-channels true c.if-letters-room.true in
    let k = kept a.netlist.image.now a.state a.letters.now a.values.now e in
    record { numbered = e; lettered = k.0; valued = k.1 }

pub loop-c-init : goal.loop-c-init
unfolding table_over table
loop-c-init c = (omega arith, refl, refl)

pub loop-c-preserved : goal.loop-c-preserved
loop-c-preserved c =
    let a = c.args in
    let img = a.netlist.image.now in
    let net = accepted img a.netlist.accepted in
    let l = c.loop-c in
    let h = there (goal.at.loop-c-preserved c).In-loop-c in
    let shape = shaped a.state _ c.well_formed.1.0 in
    let w = c.wire-wire in
    let g : SFits w32 c.of-reading.result.value = search rules in
    let join = c.if-length-gt0 in
    let link : token join.link ≡ arriving (channel_in img a.state l.c) =
    arriving-read img a.state l.c w.result w.ensures.value join.link
    (elim c.if-length-gt0.branch [
      | then-length-gt0 w' ↦ inl (omega arith, w'.link-is ∙ w'.link-link.ensures)
      | else-length-gt0 w' ↦
          let f : SFits w32 (get_or a.state.nodes w.result.from no_node).value = search rules in
          inr (omega arith, source_read img a.state l.c w.result w.ensures.value _ _ (w'.link-is ∙ w'.then_some-link.ensures) (to_z-of_z f))
    ]) in
    let seen : c.of-reading.result ≡ reading_at img a.state l.c =
    c.of-reading.ensures
    ∙ reading_read img a.state l.c w.result w.ensures.value join.link _ link
    (c.full.ensures ∙ stop_shown img a.state l.c w.result w.ensures.value net h (shape.queue l.c (omega (arith, h, net.few_channels)))) in
    let room = enough (goal.at.loop-c-preserved c).After-channels-channels c.if-letters-room.false in
    let n : l.c < length a.letters.now = omega (arith, h, room) in
    let m : l.c < length a.values.now = omega (arith, h, room) in
    let size = c.channels-channels in
    let k : l.c + 1 ≤ size.result = omega (arith, h, size.ensures.value) in (
      k,
      written (λ k. (reading_at img a.state k).letter) l.c a.letters.now n l.letters l.invariant.1 _
          (ap (λ (x : Reading). x.letter) seen),
      written (λ k. (reading_at img a.state k).value) l.c a.values.now m l.values l.invariant.2 _
          (to_z-of_z g ∙ ap (λ (x : Reading). x.value) seen),
    )

pub returns : goal.returns
unfolding letters_shown values_shown letters_of values_of table_over
returns c =
    let a = c.args in
    let img = a.netlist.image.now in
    let e = number (goal.at.returns c).After-channels-channels false c.if-letters-room.false in
    let l = c.loop-c in
    let all : l.c ≡ channels img = omega (arith, c.channels-channels.ensures.value) in
    record {
      numbered = e;
      lettered = l.invariant.1 ∙ ap (λ (n : ℕ). table_over (λ k. (reading_at img a.state k).letter) n a.letters.now) all ∙ rw (← e);
      valued = l.invariant.2 ∙ ap (λ (n : ℕ). table_over (λ k. (reading_at img a.state k).value) n a.values.now) all ∙ rw (← e);
    }
