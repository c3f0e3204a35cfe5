-- The whole trace: "the fixed header line, then for each cycle its number and each channel's letter .., then `fired` and each node's firings".
use Rattle.std.specs.Prelude.{List, [], ◌∷◌, ◌++◌, ℕ, suc}
use Rattle.relay.specs.declared.Reading.{Reading}
use Rattle.text.specs.Ascii.{ascii}
use Rattle.text.specs.Lines.{line_text, closing_text}

-- "the fixed header line"
unfoldable pub header : List ℕ
header = ascii "cycle states\n"

-- a line for each cycle, given the first cycle's number and each cycle's readings
unfoldable pub lines_text : ℕ → List (List Reading) → List ℕ
lines_text cycle [] = []
lines_text cycle (readings ∷ cycles) = line_text cycle readings ++ lines_text (suc cycle) cycles

-- the whole trace, given the readings of each cycle from 0 on, and each node's firings after the last
unfoldable pub trace_text : List (List Reading) → List ℕ → List ℕ
trace_text cycles firings = header ++ (lines_text 0 cycles ++ closing_text firings)
