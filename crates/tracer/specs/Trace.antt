-- The trace of an image and words, and all that the trace program prints.
use Rattle.std.specs.Prelude.{not, List, [], ◌∷◌, ℕ, eqb, length}
use Rattle.laws.specs.Choice.{◌if◌else◌}
use Rattle.laws.specs.Table.{table}
use Rattle.image.specs.Image.{nodes, channels}
use Rattle.relay.specs.declared.Reading.{Reading}
use Rattle.state.specs.declared.State.{State}
use Rattle.state.specs.State.{firings_at}
use Rattle.state.specs.Fresh.{fresh_state}
use Rattle.cycle.specs.Cycle.{reading_at, state_after, after}
use Rattle.text.specs.Lines.{line_text, refused_text}
use Rattle.text.specs.Trace.{trace_text}
use Rattle.trace_input.specs.Input.{image_of, words_of, input_number}

-- the readings of the cycle that starts from a state: "for each cycle .. each channel's letter, with its value"
abbrev pub readings_of : List ℕ → State → List Reading
readings_of img s = table (reading_at img s) (channels img)

-- the readings of each cycle from a state on, one cycle for each word
unfoldable pub readings_from : List ℕ → State → List ℕ → List (List Reading)
readings_from img s [] = []
readings_from img s (word ∷ words) = readings_of img s ∷ readings_from img (state_after img word s) words

-- the line of the cycle that starts from a state
unfoldable pub cycle_text : List ℕ → State → List ℕ
cycle_text img s = line_text s.cycles (readings_of img s)

-- "each node's firings", as a state counts them
unfoldable pub firings_of : List ℕ → State → List ℕ
firings_of img s = table (firings_at s) (nodes img)

-- the trace of an accepted image and its words, from the fresh state
unfoldable pub trace_of : List ℕ → List ℕ → List ℕ
trace_of img words = let s = fresh_state img in trace_text (readings_from img s words) (firings_of img (after img s words))

-- what the program prints for an input. "A refusal prints only the line `refused` and the number."
unfoldable pub printed : List ℕ → List ℕ
printed input =
    let number = input_number input (length input) in
    refused_text number if not (eqb number 0) else
    trace_of (image_of input) (words_of input)
