-- Safety of a state: every value that a node shows and every token under way is the strict system's. The proof of the token rule carries it from cycle
-- to cycle.
use Rattle.std.specs.Prelude.{List, ◌≡◌, ℕ, ◌<◌}
use Rattle.laws.specs.Stretch.{Stretch}
use Rattle.image.specs.Image.{nodes, channels, to}
use Rattle.strict.specs.Strict.{strict, stream}
use Rattle.shell.specs.Channel.{tokens}
use Rattle.state.specs.declared.State.{State}
use Rattle.state.specs.State.{value_at, firings_at, channel_in}

-- a sound state: each node's value and each channel's tokens are the strict system's
pub record Sound (img : List ℕ) (s : State) : Type 0 where
  -- a node that has fired k times shows the strict value of cycle k
  pub valued : (n : ℕ) → n < nodes img → value_at s n ≡ strict img n (firings_at s n)
  -- the tokens of a channel go on in its strict stream where its to node has stopped taking them
  pub streamed : (c : ℕ) → c < channels img → Stretch (stream img c) (firings_at s (to img c)) (tokens (channel_in img s c))
