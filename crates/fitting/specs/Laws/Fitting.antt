-- A state that fits its image: what stands in it, and that the fresh state is one. Assumes nothing.
use Rattle.std.specs.Prelude.{List, [], ◌≡◌, ℕ, ◌*◌, ◌<◌, ℤ, get_or}
use Rattle.std.proofs.Math.Path.{ap}
use Rattle.std.proofs.Common.{◌∙◌, arith}
use Rattle.std.proofs.Math.ListN.{length}
use Rattle.laws.specs.Choice.{◌if◌else◌}
use Rattle.laws.specs.Lists.{holds}
use Rattle.laws.specs.Laws.Lists.{replicate_rest}
use Rattle.laws.specs.Laws.Table.{padded_long}
use Rattle.image.specs.Image.{nodes, channels, from, to, stations}
use Rattle.verdict.specs.Accepted.{Accepted}
use Rattle.relay.specs.Station.{station_of}
use Rattle.shell.specs.declared.Queue.{Queue}
use Rattle.shell.specs.Queue.{queue_of}
use Rattle.state.specs.declared.State.{State}
use Rattle.state.specs.State.{no_node, node_at, pending_at, station_at, queue_at, channel_in, state_of}
use Rattle.state.specs.Laws.State.{pending_of, queue_of_lem, station_of_lem, written_of}
use Rattle.state.specs.Fresh.{fresh_state}
use Rattle.state.specs.Laws.Fresh.{fresh_firings, fresh-channel, fresh-tokens}
use Rattle.fitting.specs.Fitting.{Fitting}

-- ---- what stands in a state that fits
-- the arrays of a state that fits have the declared lengths
module _ (img : List ℕ) (s : State) (fit : Fitting img s) (a : Accepted img) where
  pub nodes_long : length s.nodes ≡ 64
  unfolding state_of
  nodes_long = ap (λ (x : State). length x.nodes) fit.written ∙ padded_long (node_at s) (nodes img) 64 no_node a.few_nodes

  pub pending_long : length s.pending ≡ 96
  unfolding state_of
  pending_long = ap (λ (x : State). length x.pending) fit.written ∙ padded_long _ (channels img) 96 0 a.few_channels

  pub stations_long : length s.stations ≡ 768
  unfolding state_of
  stations_long =
      ap (λ (x : State). length x.stations) fit.written
      ∙ padded_long _ (8 * channels img) 768 (station_of []) (omega (arith, a.few_channels))

  pub queues_long : length s.queues ≡ 96
  unfolding state_of
  queues_long = ap (λ (x : State). length x.queues) fit.written ∙ padded_long _ (channels img) 96 (queue_of []) a.few_channels

-- the records of a channel are what its tokens write, in a state that fits
module _ (img : List ℕ) (s : State) (fit : Fitting img s) (c : ℕ) (h : c < channels img) where
  pub pending_shown : pending_at s c ≡ (1 if holds (channel_in img s c).source else 0)
  pending_shown = ap (λ (x : State). pending_at x c) fit.written ∙ pending_of img s.cycles (node_at s) (channel_in img s) c h

  pub station_written : (j : ℕ) → j < 8 → station_at s c j ≡ station_of (get_or (channel_in img s c).row j [])
  station_written j l = ap (λ (x : State). station_at x c j) fit.written ∙ station_of_lem img s.cycles (node_at s) (channel_in img s) c h j l

  pub queue_written : queue_at s c ≡ queue_of (channel_in img s c).queue
  queue_written = ap (λ (x : State). queue_at x c) fit.written ∙ queue_of_lem img s.cycles (node_at s) (channel_in img s) c h

  -- the count of a queue is that of its tokens, in a state that fits
  pub queue_count : (queue_at s c).count ≡ length (channel_in img s c).queue
  unfolding queue_of
  queue_count = ap (λ (q : Queue). q.count) queue_written

-- ---- the fresh state
pub fitting-fresh : (img : List ℕ) → Accepted img → Fitting img (fresh_state img)
unfolding fresh_state state_of
fitting-fresh img a =
    record {
      cycled = omega arith;
      fired = λ n h. omega (arith, fresh_firings img n h);
      written = written_of img 0 _ _ (fresh-channel img a);
      steady =
          record {
            few = λ c h j. rw (fresh-channel img a c h, replicate_rest {A = List ℤ} (stations img c) j []) (omega arith);
            within = λ c h. rw (fresh-channel img a c h) (omega arith);
            balance = λ c h.
                rw (fresh-tokens img a c h)
                (omega (arith, fresh_firings img (to img c) (a.wires c h).1, fresh_firings img (from img c) (a.wires c h).0));
          };
    }
