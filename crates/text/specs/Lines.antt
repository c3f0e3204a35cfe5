-- The lines of a trace: "One space separates fields, and a value follows its letter directly. .. Every line, the last too, ends with one line feed."
use Rattle.std.specs.Prelude.{Bool, ◌||◌, ℕ, eqb, ℤ, pos, get_or}
use mathlib.Core.List.{List, [], ◌∷◌, ◌++◌, flat_map}
use Prim.Native.Char.{code}
use Rattle.laws.specs.Choice.{◌if◌else◌}
use Rattle.relay.specs.declared.Reading.{Reading}
use Rattle.text.specs.Ascii.{ascii}
use Rattle.text.specs.Decimal.{decimal, signed_text}

-- whether a letter stands "with its value for T and R"
unfoldable pub shows_value : ℕ → Bool
shows_value letter = eqb letter (code "T") || eqb letter (code "R")

-- a channel's reading in a cycle's line: a space, its letter, and its value if the letter shows one
unfoldable pub reading_text : Reading → List ℕ
reading_text x = code " " ∷ x.letter ∷ (signed_text x.value if shows_value x.letter else [])

-- a cycle's line: "its number and each channel's letter"
unfoldable pub line_text : ℕ → List Reading → List ℕ
line_text cycle readings = decimal cycle ++ (flat_map reading_text readings ++ ascii "\n")

-- a number in a line, behind a space
unfoldable pub count_text : ℕ → List ℕ
count_text n = code " " ∷ decimal n

-- a line of a label and numbers
unfoldable pub labelled_text : List ℕ → List ℕ → List ℕ
labelled_text label counts = label ++ (flat_map count_text counts ++ ascii "\n")

-- the closing line: "then `fired` and each node's firings"
unfoldable pub closing_text : List ℕ → List ℕ
closing_text firings = labelled_text (ascii "fired") firings

-- the line of a refusal: "the line `refused` and the number"
unfoldable pub refused_text : ℕ → List ℕ
refused_text number = labelled_text (ascii "refused") (number ∷ [])

-- channel c's reading, given letters and values in two arrays
unfoldable pub reading_in : List ℕ → List ℤ → ℕ → Reading
reading_in letters values c = record { letter = get_or letters c 0; value = get_or values c (pos 0) }
