-- Texts, computed: numbers, lines, a whole trace, and what a writer leaves in a slice that is too short, just long enough and longer.
use mathlib.Core.List.{[], ◌∷◌, ◌++◌, flat_map}
use Rattle.std.specs.Prelude.{◌≡◌, refl, pos, negsuc, Ok, Err}
use Rattle.laws.specs.Table.{table}
use Rattle.refusal.specs.declared.Refusal.TheVariants.{Room}
use Rattle.worked_examples.specs.Relay.{t, t-, r, i, s}
use Rattle.text.specs.Ascii.{ascii}
use Rattle.text.specs.Decimal.{places, decimal, signed_text}
use Rattle.text.specs.Lines.{shows_value, reading_text, line_text, count_text, labelled_text, closing_text, refused_text, reading_in}
use Rattle.text.specs.Trace.{header, lines_text, trace_text}
use Rattle.writer.specs.Write.{written_answer, written_over}

-- ---- numbers
-- one digit and two, the largest of 64 bits, and a larger one
numbers :
    (decimal 0 ≡ ascii "0") × (decimal 9 ≡ ascii "9") × (decimal 10 ≡ ascii "10") × (decimal 1000000 ≡ ascii "1000000") ×
    (decimal 18446744073709551615 ≡ ascii "18446744073709551615") × (decimal 100000000000000000000 ≡ ascii "100000000000000000000")
unfolding decimal places ascii
numbers = (refl, refl, refl, refl, refl, refl)

-- values at both ends of the range, and 0, which has no sign
values :
    (signed_text (pos 2147483647) ≡ ascii "2147483647") × (signed_text (negsuc 2147483647) ≡ ascii "-2147483648") ×
    (signed_text (pos 0) ≡ ascii "0") × (signed_text (negsuc 0) ≡ ascii "-1")
unfolding signed_text decimal places ascii
values = (refl, refl, refl, refl)

-- ---- lines
lines :
    (line_text 4 (t 13 ∷ t 104 ∷ t 114 ∷ r 114 ∷ []) ≡ ascii "4 T13 T104 T114 R114\n") ×
    (line_text 4095 (s ∷ i ∷ t- 2147483648 ∷ t 0 ∷ []) ≡ ascii "4095 S I T-2147483648 T0\n") ×
    -- a cycle's line without channels
    (line_text 7 [] ≡ ascii "7\n")
unfolding line_text reading_text shows_value signed_text decimal places flat_map ascii
lines = (refl, refl, refl)

closing : (closing_text (8 ∷ 0 ∷ 1000000 ∷ []) ≡ ascii "fired 8 0 1000000\n") × (closing_text (3 ∷ []) ≡ ascii "fired 3\n")
unfolding closing_text labelled_text count_text decimal places flat_map ascii
closing = (refl, refl)

refusal : (refused_text 3 ≡ ascii "refused 3\n") × (refused_text 12 ≡ ascii "refused 12\n")
unfolding refused_text labelled_text count_text decimal places flat_map ascii
refusal = (refl, refl)

-- the readings of letters and values in two arrays, the second of them shorter
readings : table (reading_in (ascii "TIR") (negsuc 4 ∷ pos 0 ∷ [])) 3 ≡ t- 5 ∷ i ∷ r 0 ∷ []
unfolding reading_in table ascii
readings = refl

-- ---- traces
-- the trace of two cycles, and of none
traces :
    (trace_text ((t 10 ∷ i ∷ []) ∷ (r 11 ∷ t- 3 ∷ []) ∷ []) (2 ∷ 1 ∷ []) ≡ ascii "cycle states\n0 T10 I\n1 R11 T-3\nfired 2 1\n") ×
    (trace_text [] (0 ∷ []) ≡ ascii "cycle states\nfired 0\n")
unfolding trace_text header lines_text line_text closing_text labelled_text reading_text count_text shows_value signed_text decimal places flat_map ascii
traces = (refl, refl)

-- ---- a text of three bytes, written to slices of two, three and five
short : (written_answer (ascii "abc") (1 ∷ 2 ∷ []) ≡ Err Room) × (written_over (ascii "abc") (1 ∷ 2 ∷ []) ≡ 1 ∷ 2 ∷ [])
unfolding written_answer written_over ascii
short = (refl, refl)

exact :
    (written_answer (ascii "abc") (1 ∷ 2 ∷ 3 ∷ []) ≡ Ok 3) × (written_over (ascii "abc") (1 ∷ 2 ∷ 3 ∷ []) ≡ ascii "abc")
unfolding written_answer written_over ascii
exact = (refl, refl)

longer :
    (written_answer (ascii "abc") (1 ∷ 2 ∷ 3 ∷ 4 ∷ 5 ∷ []) ≡ Ok 3) ×
    (written_over (ascii "abc") (1 ∷ 2 ∷ 3 ∷ 4 ∷ 5 ∷ []) ≡ ascii "abc" ++ (4 ∷ 5 ∷ []))
unfolding written_answer written_over ascii
longer = (refl, refl)
