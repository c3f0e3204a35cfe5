-- The fresh state: what its nodes and channels are; and how it is filled, node by node and channel by channel. Assumes nothing.
use Rattle.std.specs.Prelude.{List, [], ◌∷◌, ◌++◌, ◌≡◌, ℕ, zero, suc, ◌*◌, ◌/◌, ◌%◌, ◌<◌, ℤ, get_or, set, replicate}
use Rattle.std.proofs.Math.Path.{refl, ap, ap₂}
use Rattle.std.proofs.Common.{◌∙◌, arith, ne_eqb}
use Rattle.std.proofs.lemmas.List.{length-replicate}
use Rattle.laws.specs.Lists.{padded}
use Rattle.laws.specs.Laws.Lists.{replicate_rest}
use Rattle.laws.specs.Table.{table}
use Rattle.laws.specs.Laws.Table.{padded-table, padded_same}
use Rattle.image.specs.Image.{nodes, channels, parameter, from, stations}
use Rattle.verdict.specs.Accepted.{Accepted}
use Rattle.verdict.specs.Judge.{judge}
use Rattle.relay.specs.declared.Station.{Station}
use Rattle.relay.specs.Station.{station_of}
use Rattle.relay.specs.Row.{contents}
use Rattle.shell.specs.declared.Queue.{Queue}
use Rattle.shell.specs.Queue.{queue_of}
use Rattle.shell.specs.Channel.{tokens}
use Rattle.state.specs.declared.Node.{Node}
use Rattle.state.specs.declared.State.{State}
use Rattle.state.specs.Told.{tells}
use Rattle.state.specs.State.{no_node, node_at, firings_at, channel_in, state_of}
use Rattle.state.specs.Laws.State.{node_of, channel_of}
use Rattle.state.specs.Fresh.{fresh_node, fresh_channel, fresh_state, zeros, fresh_answer}

-- ---- what the fresh state is written from
pub fresh-cycles : (img : List ℕ) → (fresh_state img).cycles ≡ 0
unfolding fresh_state state_of
fresh-cycles img = refl

pub fresh_node_lem : (img : List ℕ) (n : ℕ) → n < nodes img → node_at (fresh_state img) n ≡ record { value = parameter img n; firings = 0 }
unfolding fresh_state
fresh_node_lem img n h = node_of img 0 _ _ n h

pub fresh_firings : (img : List ℕ) (n : ℕ) → n < nodes img → firings_at (fresh_state img) n ≡ 0
fresh_firings img n h = ap (λ (x : Node). x.firings) (fresh_node_lem img n h)

-- a row of stations that hold nothing holds no token
nothing_there : (r : ℕ) → contents (replicate r []) ≡ []
unfolding contents
nothing_there zero = refl
nothing_there (suc r) = rw (nothing_there r)

module _ (img : List ℕ) (a : Accepted img) (c : ℕ) (h : c < channels img) where
  pub fresh-channel : channel_in img (fresh_state img) c ≡ fresh_channel img c
  unfolding fresh_state
  fresh-channel = channel_of img 0 _ _ c h (a.wires c h).0 (a.rows c h) (length-replicate (stations img c) _) refl

  -- each channel of the fresh state holds one token, its from node's parameter
  pub fresh-tokens : tokens (channel_in img (fresh_state img) c) ≡ parameter img (from img c) ∷ []
  unfolding tokens
  fresh-tokens = ap tokens fresh-channel ∙ ap (λ l. l ++ (parameter img (from img c) ∷ [])) (nothing_there (stations img c))

-- ---- how the fresh state is filled
-- the state in which the first n nodes are filled in and the first c channels are pending, and the rest is 0
unfoldable pub filled : List ℕ → ℕ → ℕ → State
filled img n c =
    record zeros { nodes = padded 64 no_node (table (fresh_node img) n); pending = padded 96 0 (table (λ k. 1) c) }

module _ (img : List ℕ) where
  pub filled_none : zeros ≡ filled img 0 0
  unfolding zeros filled padded table
  filled_none = refl

  -- one more node is filled in, and one more channel is pending
  pub filled_node :
      (n c : ℕ) → n < 64 → (s : State) → s ≡ filled img n c → (v : ℤ) → v ≡ parameter img n
      → record s { nodes = set s.nodes n (record { value = v; firings = 0 }) } ≡ filled img (suc n) c
  unfolding filled
  filled_node n c h s e v q = rw (e, q, padded-table (fresh_node img) n 64 no_node h)

  pub filled_pending :
      (n c : ℕ) → c < 96 → (s : State) → s ≡ filled img n c
      → record s { pending = set s.pending c 1 } ≡ filled img n (suc c)
  unfolding filled
  filled_pending n c h s e = rw (e, padded-table {A = ℕ} (λ k. 1) c 96 0 h)

  -- with all nodes filled in and all channels pending it is the fresh state
  pub filled_all : Accepted img → filled img (nodes img) (channels img) ≡ fresh_state img
  unfolding filled zeros fresh_state state_of
  filled_all a =
      rw (
        padded_same (λ i. station_of (get_or (replicate (stations img (i / 8)) []) (i % 8) [])) (8 * channels img) 768 (station_of [])
            (omega (arith, a.few_channels)) (λ i h. ap station_of (replicate_rest (stations img (i / 8)) (i % 8) [])),
        padded_same (λ c. queue_of []) (channels img) 96 (queue_of []) a.few_channels (λ c h. refl),
      )

-- ---- what the code builds
-- a state of zeros, from an empty station and an empty queue
pub zeros_of :
    (station : Station) (queue : Queue) → station ≡ station_of [] → queue ≡ queue_of []
    → record zeros { stations = replicate 768 station; queues = replicate 96 queue } ≡ zeros
unfolding zeros
zeros_of station queue e q = ap₂ {C = State} (λ a b. record zeros { stations = replicate 768 a; queues = replicate 96 b }) e q

-- what a call for a fresh state answers, by the judge's number: refused, or not
pub fresh_refused :
    (img : List ℕ) (number : ℕ) (s : State) → number ≡ judge img → s ≡ zeros → (judge img ≡ 0 → ⊥)
    → tells number s ≡ fresh_answer img
unfolding fresh_answer
fresh_refused img number s e z ne = rw (e, z, ne_eqb (judge img) 0 ne)

pub fresh-made : (img : List ℕ) (s : State) → judge img ≡ 0 → s ≡ fresh_state img → tells 0 s ≡ fresh_answer img
unfolding fresh_answer
fresh-made img s e z = rw (z, e)
