-- `clock::run` meets its contract. Assumes nothing.
use Rattle.std.proofs.Common.{◌≡◌, ℕ, ◌≤◌, ◌+◌, length, sym, ap, ◌∙◌, arith, length-take}
use Rattle.image.specs.Image.{nodes}
use Rattle.verdict.specs.Laws.Accepted.{accepted}
use Rattle.state.specs.declared.State.{State}
use Rattle.fitting.specs.Fitting.{Fitting}
use Rattle.fitting.specs.Laws.Fits.{fitting}
use Rattle.fitting.specs.Laws.Number.{state_21, state_0}
use Rattle.fitting.proofs.Shape.{shaped}
use Rattle.cycle.specs.Laws.Run.{run_none, run-made, ran_taken, taken_few}
use Rattle.cycle.specs.Loops.Taken.{TakenTold, taken_from, ran_by}
use Rattle.clock.specs.Loops.Told.{taken_told}
use Rattle.clock.proofs.run.Goals.{Then-fits, After-words_taken-taken}
use Rattle.clock.proofs.run.Goals as goal

pub returns-else-fits : goal.returns-else-fits
returns-else-fits c =
    let n = c.args.netlist in
    let e = state_21 n.image.now c.args.state n.accepted (sym c.fits.ensures ∙ c.if-fits.false) in
    record { answered = run_none n.image.now c.args.state c.args.words.now 21 e (λ z. absurd (omega (arith, z))) }

fit : (c : Then-fits) → Fitting c.args.netlist.image.now c.args.state
fit c =
    let n = c.args.netlist in
    fitting n.image.now (accepted n.image.now n.accepted) c.args.state (shaped c.args.state _ c.well_formed.1.0)
    (sym c.fits.ensures ∙ c.if-fits.true)

few : (c : After-words_taken-taken) → c.args.state.cycles ≤ 1000000 →
    let a = c.args in
    (c.words_taken-taken.result.steps ≤ length a.words.now) × (a.state.cycles + c.words_taken-taken.result.steps ≤ 1000000)
few c h =
    let a = c.args in
    let e = ap (λ (t : TakenTold). t.steps) c.words_taken-taken.ensures in
    let f = taken_few c.nodes.result a.state.cycles a.words.now h in
    (omega (arith, e, f), omega (arith, e, f))

pub words_taken-taken-requires : goal.words_taken-taken-requires
words_taken-taken-requires c = (fit (goal.at.words_taken-taken-requires c).Then-fits).cycled

pub overflow_cast-ran : goal.overflow_cast-ran
overflow_cast-ran c = omega (arith, few (goal.at.overflow_cast-ran c).After-words_taken-taken (fit (goal.at.overflow_cast-ran c).Then-fits).cycled)

pub slice_bounds-cycles-end : goal.slice_bounds-cycles-end
slice_bounds-cycles-end c =
    let t = c.words_taken-taken.result.steps in
    omega (
      arith,
      few (goal.at.slice_bounds-cycles-end c).After-words_taken-taken (fit (goal.at.slice_bounds-cycles-end c).Then-fits).cycled,
      length-take t c.args.words.now,
    )

pub cycles-requires-clause-fitting : goal.cycles-requires-clause-fitting
cycles-requires-clause-fitting c = fit (goal.at.cycles-requires-clause-fitting c).Then-fits

pub cycles-requires-clause-words_bound : goal.cycles-requires-clause-words_bound
cycles-requires-clause-words_bound c =
    let t = c.words_taken-taken.result.steps in
    omega (
      arith,
      few (goal.at.cycles-requires-clause-words_bound c).After-words_taken-taken (fit (goal.at.cycles-requires-clause-words_bound c).Then-fits).cycled,
      length-take t c.args.words.now,
    )

pub returns-then-fits : goal.returns-then-fits
returns-then-fits c =
    let a = c.args in
    let img = a.netlist.image.now in
    let words = a.words.now in
    let t = c.words_taken-taken in
    let k : taken_told t.result ≡ taken_from (nodes img) a.state.cycles words =
    t.ensures ∙ ap (λ (n : ℕ). taken_from n a.state.cycles words) c.nodes.ensures.value in
    record {
      answered =
          ap (λ (x : State). record (ran_by img a.state words (taken_told t.result)) { state = x }) c.cycles.ensures
          ∙ ap (ran_by img a.state words) k ∙ ran_taken img words a.state
          ∙ run-made img a.state words (state_0 img a.state a.netlist.accepted (sym c.fits.ensures ∙ c.if-fits.true));
    }
