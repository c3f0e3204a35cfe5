-- The trace is its header, the line of each cycle and the closing line. Assumes nothing.
use mathlib.Core.List.{List, [], ◌∷◌, ◌++◌, flat_map}
use Rattle.std.specs.Prelude.{◌≡◌, ℕ, zero, suc, length, take}
use Rattle.std.proofs.Math.Path.{refl, ap}
use Rattle.std.proofs.Common.{sym, ◌∙◌}
use Rattle.laws.specs.Table.{table}
use Rattle.state.specs.declared.State.{State}
use Rattle.state.specs.Fresh.{fresh_state}
use Rattle.state.specs.Laws.Fresh.{fresh-cycles}
use Rattle.cycle.specs.Cycle.{state_after, after}
use Rattle.cycle.specs.Laws.Cycle.{cycles-next}
use Rattle.text.specs.Lines.{closing_text}
use Rattle.text.specs.Trace.{header, lines_text, trace_text}
use Rattle.tracer.specs.Trace.{readings_from, cycle_text, firings_of, trace_of}

-- the first entry of a table
table-first : (f : ℕ → List ℕ) (n : ℕ) → table f (suc n) ≡ f 0 ∷ table (λ k. f (suc k)) n
unfolding table
table-first f zero = refl
table-first f (suc n) = rw (table-first f n)

module _ (img : List ℕ) where
  -- the line of the cycle that follows the first k words
  abbrev pub line_after : State → List ℕ → ℕ → List ℕ
  line_after s words k = cycle_text img (after img s (take k words))

  lines_joined :
      (s : State) (words : List ℕ)
      → lines_text s.cycles (readings_from img s words) ≡ flat_map (λ line. line) (table (line_after s words) (length words))
  unfolding lines_text readings_from cycle_text table flat_map after
  lines_joined s [] = refl
  lines_joined s (word ∷ words) =
      let t = state_after img word s in
      let rest = ap (λ n. lines_text n (readings_from img t words)) (sym (cycles-next img word s)) ∙ lines_joined t words in
      rw (rest, table-first (line_after s (word ∷ words)) (length words))

  pub trace_lines :
      (words : List ℕ)
      → let s = fresh_state img in
      trace_of img words ≡
      header ++ (flat_map (λ line. line) (table (line_after s words) (length words)) ++ closing_text (firings_of img (after img s words)))
  unfolding trace_of trace_text
  trace_lines words =
      let s = fresh_state img in
      ap (λ l. header ++ (l ++ closing_text (firings_of img (after img s words))))
      (ap (λ n. lines_text n (readings_from img s words)) (sym (fresh-cycles img)) ∙ lines_joined s words)
