-- `clock::words_taken` meets its contract. Assumes nothing.
use Rattle.std.proofs.Common.{◌≡◌, ◌+◌, length, sym, ◌∙◌, arith}
use Rattle.cycle.specs.Laws.Run.{taken_first, taken_all, taken_22, taken_12, taken_next}
use Rattle.clock.proofs.words_taken.Goals.{Else-i-room}
use Rattle.clock.proofs.words_taken.Goals as goal

-- a cycle is left for word i
left : (c : Else-i-room) → c.args.cycles + c.loop-i.i ≡ 1000000 → ⊥
left c e = c.if-i-room.false (omega arith)

pub loop-i-init : goal.loop-i-init
loop-i-init c = (omega arith, taken_first c.args.nodes c.args.cycles c.args.words.now)

pub returns-then-i-room : goal.returns-then-i-room
returns-then-i-room c =
    let a = c.args in
    let l = c.loop-i in
    sym (l.invariant.1 ∙ taken_22 a.nodes a.cycles a.words.now l.i (omega arith) (omega (arith, c.if-i-room.true)))

pub returns-then-sets_above : goal.returns-then-sets_above
returns-then-sets_above c =
    let a = c.args in
    let l = c.loop-i in
    sym (l.invariant.1 ∙ taken_12 a.nodes a.cycles a.words.now l.i (omega arith) (left (goal.at.returns-then-sets_above c).Else-i-room)
    (sym c.sets_above.ensures ∙ c.if-sets_above.true))

pub loop-i-preserved : goal.loop-i-preserved
loop-i-preserved c =
    let a = c.args in
    let l = c.loop-i in
    let n = left (goal.at.loop-i-preserved c).Else-i-room in
    (omega (arith, n), l.invariant.1 ∙ taken_next a.nodes a.cycles a.words.now l.i (omega arith) n (sym c.sets_above.ensures ∙ c.if-sets_above.false))

pub returns : goal.returns
returns c =
    let a = c.args in
    let l = c.loop-i in
    let e : l.i ≡ length a.words.now = omega arith in
    sym (l.invariant.1 ∙ taken_all a.nodes a.cycles a.words.now l.i (omega arith) ∙ rw e)
