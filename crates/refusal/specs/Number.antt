-- The numbers of refusals: 0 says that a call is not refused.
use Rattle.std.specs.Prelude.{ℕ, Option, None, Some, Result, Ok, Err}
use Rattle.refusal.specs.declared.Refusal.{Refusal}
use Rattle.refusal.specs.declared.Refusal.TheVariants.{Short, Sizes, Length, Kind, Wire, Port, FedTwice, NotFed, Stations, Depth, Total, Stall, Room, Limit, Row, Misfit, Cycles}

-- the number of a refusal: "Numbers caused by the input", 1 to 15, and "numbers caused by the state", 21 and 22
abbrev pub number : Refusal → ℕ
number Short = 1
number Sizes = 2
number Length = 3
number Kind = 4
number Wire = 5
number Port = 6
number FedTwice = 7
number NotFed = 8
number Stations = 9
number Depth = 10
number Total = 11
number Stall = 12
number Room = 13
number Limit = 14
number Row = 15
number Misfit = 21
number Cycles = 22

-- the number that the answer of a call tells: that of its refusal, and 0 where it is not refused
abbrev pub number_of : {A : Type 0} → Result A Refusal → ℕ
number_of (Ok answer) = 0
number_of (Err refusal) = number refusal

-- the number that may end what a call does: that of the refusal, and 0 where there is none
abbrev pub number_if : Option Refusal → ℕ
number_if None = 0
number_if (Some refusal) = number refusal
