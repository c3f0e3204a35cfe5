-- `engine::fitted` meets its contract. Assumes nothing.
use Rattle.std.proofs.Common.{rules, ◌≡◌, sym, ap, ◌∙◌, arith}
use Rattle.refusal.specs.Laws.Number.{number_positive}
use Rattle.fitting.specs.Fits.{fits}
use Rattle.fitting.specs.Laws.Number.{state-judge, state_21, state_0}
use Rattle.engine.proofs.fitted.Goals.{After-fits}
use Rattle.engine.proofs.fitted.Goals as goal

pub returns-in_err-netlist-clause-number : goal.returns-in_err-netlist-clause-number
returns-in_err-netlist-clause-number c =
    let r = c.in_err-netlist.field-0.0 in
    let p = number_positive r in
    let h = state-judge c.args.image.now c.args.state.now _ c.in_err-netlist.ensures.number (λ z. absurd (omega (arith, z, p))) in
    rw (sym h) (search rules)

-- the netlist is the image's
same : (c : After-fits) → c.in_ok-netlist.netlist.image.now ≡ c.args.image.now
same c = ap (λ r. r.now) c.in_ok-netlist.ensures.same

fit : (c : After-fits) → c.fits.result ≡ fits c.args.image.now c.args.state.now
fit c = c.fits.ensures ∙ ap (λ i. fits i c.args.state.now) (same c)

pub returns-then-not-fits-clause-number : goal.returns-then-not-fits-clause-number
returns-then-not-fits-clause-number c =
    state_21 c.args.image.now c.args.state.now (sym c.in_ok-netlist.ensures.number)
    (sym (fit (goal.at.returns-then-not-fits-clause-number c).After-fits) ∙ c.if-not-fits.true)

pub returns-clause-number : goal.returns-clause-number
returns-clause-number c =
    state_0 c.args.image.now c.args.state.now (sym c.in_ok-netlist.ensures.number)
    (sym (fit (goal.at.returns-clause-number c).After-fits) ∙ c.if-not-fits.false)
