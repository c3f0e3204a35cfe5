-- The fresh state, and what a call for it answers.
use Rattle.std.specs.Prelude.{List, [], ◌∷◌, ◌≡◌, ℕ, eqb, replicate}
use Rattle.laws.specs.Choice.{◌if◌else◌}
use Rattle.image.specs.Image.{parameter, from, stations}
use Rattle.verdict.specs.Judge.{judge}
use Rattle.relay.specs.Station.{station_of}
use Rattle.shell.specs.Channel.{Channel}
use Rattle.shell.specs.Queue.{queue_of}
use Rattle.state.specs.Told.{Told, tells}
use Rattle.state.specs.declared.Node.{Node}
use Rattle.state.specs.declared.State.{State}
use Rattle.state.specs.State.{no_node, state_of}

-- "each node shows its parameter"
abbrev pub fresh_node : List ℕ → ℕ → Node
fresh_node img n = record { value = parameter img n; firings = 0 }

-- "pending on every channel it feeds; stations and queues are empty"
abbrev pub fresh_channel : List ℕ → ℕ → Channel
fresh_channel img c = record { source = parameter img (from img c) ∷ []; row = replicate (stations img c) []; queue = [] }

-- "A fresh state: cycle count and firings 0"
unfoldable pub fresh_state : List ℕ → State
fresh_state img = state_of img 0 (fresh_node img) (fresh_channel img)

-- "a state of zeros throughout"
unfoldable pub zeros : State
zeros =
    record {
      cycles = 0;
      nodes = replicate 64 no_node;
      pending = replicate 96 0;
      stations = replicate 768 (station_of []);
      queues = replicate 96 (queue_of []);
    }

-- what a call for a fresh state answers: 0 and the fresh state, or one of the numbers 1 to 11 and zeros
unfoldable pub fresh_answer : List ℕ → Told
fresh_answer img = tells (judge img) (fresh_state img if eqb (judge img) 0 else zeros)

-- what a call for a fresh state has done: its contract ensures this record
pub record FreshDone (img : List ℕ) (answer : Told) : Type 0 where
  pub answered : answer ≡ fresh_answer img
