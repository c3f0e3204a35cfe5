-- A number names its refusal: a contract on the number of an answer determines which refusal it is. Assumes nothing.
use Rattle.std.specs.Prelude.{◌≡◌, refl, ℕ, ◌≤◌, eqb, cond}
use Rattle.std.proofs.Common.{arith, ap, sym, ◌∙◌}
use Rattle.refusal.specs.declared.Refusal.{Refusal}
use Rattle.refusal.specs.declared.Refusal.TheVariants.{Short, Sizes, Length, Kind, Wire, Port, FedTwice, NotFed, Stations, Depth, Total, Stall, Room, Limit, Row, Misfit, Cycles}
use Rattle.refusal.specs.Number.{number}

-- no refusal has the number 0
pub number_positive : (r : Refusal) → 1 ≤ number r
number_positive Short = omega arith
number_positive Sizes = omega arith
number_positive Length = omega arith
number_positive Kind = omega arith
number_positive Wire = omega arith
number_positive Port = omega arith
number_positive FedTwice = omega arith
number_positive NotFed = omega arith
number_positive Stations = omega arith
number_positive Depth = omega arith
number_positive Total = omega arith
number_positive Stall = omega arith
number_positive Room = omega arith
number_positive Limit = omega arith
number_positive Row = omega arith
number_positive Misfit = omega arith
number_positive Cycles = omega arith

-- the refusal that has a number, where one has it
named : ℕ → Refusal
named n =
    cond (eqb n 1) Short (cond (eqb n 2) Sizes (cond (eqb n 3) Length (cond (eqb n 4) Kind (cond (eqb n 5) Wire (cond (eqb n 6) Port (cond (eqb n 7) FedTwice (cond (eqb n 8) NotFed (cond (eqb n 9) Stations (cond (eqb n 10) Depth (cond (eqb n 11) Total (cond (eqb n 12) Stall (cond (eqb n 13) Room (cond (eqb n 14) Limit (cond (eqb n 15) Row (cond (eqb n 21) Misfit Cycles)))))))))))))))

named_number : (r : Refusal) → named (number r) ≡ r
unfolding named
named_number Short = refl
named_number Sizes = refl
named_number Length = refl
named_number Kind = refl
named_number Wire = refl
named_number Port = refl
named_number FedTwice = refl
named_number NotFed = refl
named_number Stations = refl
named_number Depth = refl
named_number Total = refl
named_number Stall = refl
named_number Room = refl
named_number Limit = refl
named_number Row = refl
named_number Misfit = refl
named_number Cycles = refl

-- two refusals of one number are one
pub number_injective : (a b : Refusal) → number a ≡ number b → a ≡ b
number_injective a b e = sym (named_number a) ∙ ap named e ∙ named_number b
