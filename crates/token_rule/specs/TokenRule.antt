-- The statement: what the token rule says of a list of calls, in its own words and order. `proofs/TokenRuleLaws` proves it of every list of steps and
-- runs that did what their contracts ensure, from the fresh state of every accepted image.
use Rattle.std.specs.Prelude.{true, not, List, ◌∷◌, ◌++◌, ◌↔◌, ◌≢◌, ◌≡◌, ℕ, suc, ◌+◌, ◌<◌, ◌≤◌, eqb, ltb, length, drop}
use Rattle.laws.specs.Choice.{◌if◌else◌}
use Rattle.laws.specs.Table.{table}
use Rattle.image.specs.Image.{nodes, channels, most_stations}
use Rattle.strict.specs.Strict.{strict, stream}
use Rattle.state.specs.declared.State.{State}
use Rattle.state.specs.State.{value_at, firings_at}
use Rattle.cycle.specs.Cycle.{letters_of, values_of, after}
use Rattle.cycle.specs.Word.{sets_above}
use Rattle.token_rule.specs.Cycles.{fired_in, arrivals}
use Rattle.token_rule.specs.Calls.{Step, Run, Call, step, run, last_state, makes, run_cycles, cycles_of}
use Rattle.token_rule.specs.Progress.{Awake}

-- ---- one call, which was handed the state s after d cycles of the list
module _ (img : List ℕ) (d : ℕ) (s : State) where
  -- what is said of a step
  pub record StepRule (x : Step) : Type 0 where
    -- it answers 0 exactly when what it was given makes a cycle,
    pub accepted : (x.answer.number ≡ 0) ↔ (makes img d x ≡ true)
    -- else the first of 22, 12 and 13 whose condition holds;
    pub refused : x.answer.number ≢ 0 → x.answer.number ≡ (22 if not (ltb d 1000000) else 12 if sets_above (nodes img) x.word else 13)
    -- it then has left its arrays as they were, and has returned the state that it was handed
    pub untouched : x.answer.number ≢ 0 → (x.letters_left ≡ x.letters) × (x.values_left ≡ x.values) × (x.answer.state ≡ s)
    -- "the letters and values each accepted step wrote and those of its cycle;" what follows the first C of each array is as it was
    pub letters : x.answer.number ≡ 0 → x.letters_left ≡ letters_of img s ++ drop (channels img) x.letters
    pub values : x.answer.number ≡ 0 → x.values_left ≡ values_of img s ++ drop (channels img) x.values

  -- what is said of a run
  pub record RunRule (x : Run) : Type 0 where
    -- "the steps done that a run returned and the cycles it made;"
    pub steps : x.answer.steps ≡ length (run_cycles img d x.words)
    -- its number is 0 exactly when each of its words made a cycle, else 22 if 1,000,000 cycles were then done, else 12
    pub ended : x.answer.number ≡ (0 if eqb x.answer.steps (length x.words) else 22 if not (ltb (d + x.answer.steps) 1000000) else 12)

  -- what is said of a call. None answers 21 or one of 1 to 11: `refused` and `ended` leave 22, 12 and 13
  unfoldable pub CallRule : Call → Type 0
  CallRule (step x) = StepRule x
  CallRule (run x) = RunRule x

-- ---- the list: `start` is the state that the call for a fresh state returned, `calls` are the calls with what they returned, and `cycles` are the
-- words of the cycles that follow from what the calls were given. A place in the list is told by the calls before it and the later ones; before it the
-- cycles `cycles_of img 0 before` were made, so their length is its d
pub record TokenRule (img : List ℕ) (start : State) (calls : List Call) (cycles : List ℕ) : Type 0 where
  -- "The cycles of the list follow from what the calls are given.": those of the later calls stand behind those of the calls before them
  pub placed :
      (before later : List Call) → calls ≡ before ++ later
      → cycles ≡ cycles_of img 0 before ++ cycles_of img (length (cycles_of img 0 before)) later
  -- "Each cycle is worked by the rules above on the state the cycle before left, the first on the fresh state.": the state returned last is the one
  -- that the cycles so far have left
  pub worked : (before later : List Call) → calls ≡ before ++ later → last_state start before ≡ after img start (cycles_of img 0 before)
  -- each call was handed the state that was returned last, and of it is said what stands above
  pub called :
      (before later : List Call) (call : Call) → calls ≡ before ++ (call ∷ later)
      → CallRule img (length (cycles_of img 0 before)) (last_state start before) call
  -- ---- "After the list these are equal:" those of each call, above;
  -- "the a values arrived on a channel and the first a of its strict stream;"
  pub arrived : (c : ℕ) → c < channels img → let came = arrivals img start cycles c in came ≡ table (stream img c) (length came)
  -- "the value the last state shows for a node and its strict value of cycle k, k being its firings;"
  pub shown : (n : ℕ) → n < nodes img → value_at (last_state start calls) n ≡ strict img n (fired_in img start cycles n)
  -- "that state's count of each node's firings and the firings defined here;"
  pub firings : (n : ℕ) → n < nodes img → firings_at (last_state start calls) n ≡ fired_in img start cycles n
  -- "its cycle count and d."
  pub count : (last_state start calls).cycles ≡ length cycles
  -- ---- "wherever R + 1 cycles of the list follow one another, every node furthest behind in firings at their start, and stalled in none of them,
  -- fires at least once in them." These cycles are `span`, and R is `most_stations img`
  pub progress :
      (us span vs : List ℕ) → cycles ≡ us ++ (span ++ vs) → length span ≡ suc (most_stations img)
      → (n : ℕ) → n < nodes img → ((i : ℕ) → i < nodes img → fired_in img start us n ≤ fired_in img start us i) → Awake n span
      → 1 ≤ fired_in img (after img start us) span n
