-- One latency-insensitive cycle of the whole netlist, "from the state at the start of the cycle".
use Rattle.std.specs.Prelude.{is_some, unwrap_or, pos, Bool, true, not, ◌&&◌, List, [], ◌∷◌, ℕ, suc, eqb, ℤ}
use Rattle.laws.specs.Below.{all_below, any_below}
use Rattle.laws.specs.Choice.{◌if◌else◌}
use Rattle.laws.specs.Lists.{holds}
use Rattle.laws.specs.Table.{table}
use Rattle.image.specs.Image.{channels, from, to, depth}
use Rattle.node.specs.Node.{next_of}
use Rattle.relay.specs.Link.{Link}
use Rattle.relay.specs.declared.Reading.{Reading}
use Rattle.shell.specs.Channel.{Channel, blocked, input, stop_above, channel_reading, channel_after}
use Rattle.state.specs.declared.Node.{Node}
use Rattle.state.specs.declared.State.{State}
use Rattle.state.specs.State.{node_at, value_at, firings_at, channel_in, state_of}
use Rattle.cycle.specs.Word.{stalled}

module _ (img : List ℕ) (s : State) where
  -- what channel c brings to its to node: the oldest token there, valid if the input is ready
  unfoldable pub input_at : ℕ → Link
  input_at c = input (channel_in img s c)

  -- whether channel c has "a pending token on a stopped link 0"
  unfoldable pub blocked_at : ℕ → Bool
  blocked_at c = blocked (holds (channel_in img s c).source) (stop_above (depth img c) (channel_in img s c))

  -- channel c's reading in the cycle, its letter and its value
  unfoldable pub reading_at : ℕ → Reading
  reading_at c = channel_reading (depth img c) (channel_in img s c)

  -- data validation: whether "all [of node n's] inputs are ready"
  unfoldable pub all_ready : ℕ → Bool
  all_ready n = all_below (λ c. is_some (input_at c) if eqb (to img c) n else true) (channels img)

  -- back pressure: whether some channel that node n feeds is blocked
  unfoldable pub any_blocked : ℕ → Bool
  any_blocked n = any_below (λ c. eqb (from img c) n && blocked_at c) (channels img)

module _ (img : List ℕ) (word : ℕ) (s : State) where
  -- "A node fires exactly when its stall bit is clear, all its inputs are ready, and no channel it feeds has a pending token on a stopped link 0."
  unfoldable pub fires : ℕ → Bool
  fires n = not (stalled word n) && all_ready img s n && not (any_blocked img s n)

  -- node n after the cycle: "Firing takes the oldest token from each input, sets the next value ..; its firings rise by 1."
  unfoldable pub node_after : ℕ → Node
  node_after n =
      record { value = next_of img (λ c. unwrap_or (input_at img s c) (pos 0)) n (value_at s n); firings = suc (firings_at s n) } if fires n else
      node_at s n

  -- channel c after the cycle: "Then a passed token leaves its place and enters the next. Firing .. makes [the next value] pending on all its
  -- channels"
  unfoldable pub channel_after_at : ℕ → Channel
  channel_after_at c = channel_after (depth img c) (channel_in img s c) (fires (to img c)) (fires (from img c)) (node_after (from img c)).value

  -- the state after the cycle: "The cycle count rises by 1."
  unfoldable pub state_after : State
  state_after = state_of img (suc s.cycles) node_after channel_after_at

-- the state after one cycle for each of a list of stall words, in order
unfoldable pub after : List ℕ → State → List ℕ → State
after img s [] = s
after img s (word ∷ words) = after img (state_after img word s) words

-- the letter of each of the C channels in the cycle that starts from a state
unfoldable pub letters_of : List ℕ → State → List ℕ
letters_of img s = table (λ c. (reading_at img s c).letter) (channels img)

-- the value of each of the C channels in the cycle that starts from a state
unfoldable pub values_of : List ℕ → State → List ℤ
values_of img s = table (λ c. (reading_at img s c).value) (channels img)
