-- Which of its words a run takes, found out before it makes a cycle.
use Rattle.std.specs.Prelude.{List, [], ◌∷◌, ℕ, suc, ◌+◌, eqb, drop, take}
use Rattle.laws.specs.Choice.{◌if◌else◌}
use Rattle.state.specs.declared.State.{State}
use Rattle.cycle.specs.Cycle.{after}
use Rattle.cycle.specs.Run.{RunTold}
use Rattle.cycle.specs.Word.{sets_above}

-- how many words a run takes, and the number that ends them, 0 if none does
pub record TakenTold : Type 0 where
  pub steps : ℕ
  pub number : ℕ

-- which words a run takes, by how many they are and the number that ends them
abbrev pub taken : ℕ → ℕ → TakenTold
taken steps number = record { steps = steps; number = number }

-- the words that a run takes with one more before them
unfoldable pub take_more : TakenTold → TakenTold
take_more t = record t { steps = suc t.steps }

-- which of its words a run takes where there are n nodes and d cycles were made: 22 and 12 are looked for before each
unfoldable pub taken_from : ℕ → ℕ → List ℕ → TakenTold
taken_from n d [] = taken 0 0
taken_from n d (word ∷ words) =
    taken 0 22 if eqb d 1000000 else
    taken 0 12 if sets_above n word else
    take_more (taken_from n (suc d) words)

-- the words that a run takes, as its loop has them at word i: the first i, and then those that the rest gives
unfoldable pub taken_after : ℕ → ℕ → List ℕ → ℕ → TakenTold
taken_after n d words i = let t = taken_from n (d + i) (drop i words) in record t { steps = i + t.steps }

-- what a run returns that takes these of its words: the state is the one after their cycles
abbrev pub ran_by : List ℕ → State → List ℕ → TakenTold → RunTold
ran_by img s words t = record { steps = t.steps; number = t.number; state = after img s (take t.steps words) }
