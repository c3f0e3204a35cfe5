-- A state that fits its image, and whose values are signed numbers of 32 bits, is one of the declared type: so its bytes are read back. Assumes
-- nothing.
use Rattle.std.specs.Prelude.{List, [], ◌∷◌, ◌++◌, ◌≡◌, refl, ℕ, zero, suc, ◌-◌, ◌*◌, ◌/◌, ◌%◌, ◌^◌, ◌<◌, ◌≤◌, ℤ, pos, length, get_or, replicate}
use Rattle.std.specs.List.{All}
use Rattle.std.specs.Int.{w32}
use Rattle.std.specs.Int.Signed.{mag}
use Rattle.std.proofs.Common.{SFits, ⊎_elim, ap, ◌∙◌, arith}
use Rattle.std.proofs.lemmas.List.Elements.{All-nil, All-get_or, All-append, All-take, All-drop, All-replicate}
use Rattle.std.proofs.Math.Seq.{take-append_seam, drop-append_seam}
use Rattle.laws.specs.Lists.{padded}
use Rattle.laws.specs.Laws.Cases.{lt-or-ge}
use Rattle.laws.specs.Laws.Lists.{length-padded}
use Rattle.laws.specs.Laws.Table.{padded-at, padded_past}
use Rattle.image.specs.Image.{nodes, channels}
use Rattle.verdict.specs.Accepted.{Accepted}
use Rattle.relay.specs.Row.{contents}
use Rattle.relay.specs.declared.Station.{Station}
use Rattle.relay.specs.Station.{station_of, no_station}
use Rattle.shell.specs.declared.Queue.{Queue}
use Rattle.shell.specs.Queue.{queue_of}
use Rattle.shell.specs.Channel.{tokens}
use Rattle.state.specs.declared.Node.{Node}
use Rattle.state.specs.declared.State.{State}
use Rattle.state.specs.State.{no_node, no_queue, node_at, value_at, firings_at, queue_at, channel_in, state_of}
use Rattle.fitting.specs.Fitting.{Fitting}
use Rattle.fitting.specs.Laws.Fitting.{nodes_long, pending_long, stations_long, queues_long}
use Rattle.cycle.specs.Laws.Ranged.{Ranged}
use Rattle.layout.specs.Typed.{Typed}

zero_fits : SFits w32 (pos 0)
zero_fits = record { sfits = omega arith }

-- the tokens of each place of a row are among those of the row
in_row : (row : List (List ℤ)) (j : ℕ) → All (SFits w32) (contents row) → All (SFits w32) (get_or row j [])
unfolding contents
in_row [] j g = All-nil (SFits w32)
in_row (place ∷ row) zero g = rw (drop-append_seam (contents row) place) at (All-drop (SFits w32) (length (contents row)) (contents row ++ place) g)
in_row (place ∷ row) (suc j) g =
    in_row row j (rw (take-append_seam (contents row) place) at (All-take (SFits w32) (length (contents row)) (contents row ++ place) g))

-- an array of n tokens that a list of them was written to
abbrev Written : ℕ → List ℤ → Type 0
Written n l = (xs : List ℤ) × (l ≡ padded n (pos 0) xs) × (length xs ≤ n) × All (SFits w32) xs

written_long : (n : ℕ) (l : List ℤ) → Written n l → length l ≡ n
written_long n l w = rw (w.1) (length-padded n (pos 0) w.0 w.2)

written_mag : (n : ℕ) (l : List ℤ) → Written n l → (k : ℕ) → k < n → mag (get_or l k (pos 0)) < 2 ^ 31
unfolding padded
written_mag n l w k h =
    let all : All (SFits w32) (padded n (pos 0) w.0) =
    All-append (SFits w32) w.0 (replicate (n - length w.0) (pos 0)) w.3 (All-replicate (SFits w32) (n - length w.0) (pos 0) zero_fits) in
    let here : k < length (padded n (pos 0) w.0) = rw (length-padded n (pos 0) w.0 w.2) h in
    rw (w.1) (All-get_or (SFits w32) (padded n (pos 0) w.0) k (pos 0) here all).sfits

none_written : (n : ℕ) → Written n (padded n (pos 0) [])
none_written n = ([], refl, omega arith, All-nil (SFits w32))

-- ---- a state that fits, place by place
module _ (img : List ℕ) (a : Accepted img) (s : State) (fit : Fitting img s) (r : Ranged img s) where
  module _ (c : ℕ) (h : c < channels img) where
    in_queue : All (SFits w32) (channel_in img s c).queue
    unfolding tokens
    in_queue =
        let ch = channel_in img s c in
        rw (take-append_seam ch.queue (contents ch.row ++ ch.source)) at
        (All-take (SFits w32) (length ch.queue) (tokens ch) (r.held c h))

    in_stations : All (SFits w32) (contents (channel_in img s c).row)
    unfolding tokens
    in_stations =
        let ch = channel_in img s c in
        let rest : All (SFits w32) (contents ch.row ++ ch.source) =
        rw (drop-append_seam ch.queue (contents ch.row ++ ch.source)) at (All-drop (SFits w32) (length ch.queue) (tokens ch) (r.held c h)) in
        rw (take-append_seam (contents ch.row) ch.source) at (All-take (SFits w32) (length (contents ch.row)) (contents ch.row ++ ch.source) rest)

  -- what stands in the written state stands in the state
  at_place : {A : Type 0} (read : State → A) → read s ≡ read (state_of img s.cycles (node_at s) (channel_in img s))
  at_place read = ap read fit.written

  station_tokens : (i : ℕ) → i < 768 → Written 2 (get_or s.stations i no_station).tokens
  unfolding state_of station_of
  station_tokens i h =
      let place : ℕ → Station = λ k. station_of (get_or (channel_in img s (k / 8)).row (k % 8) []) in
      ⊎_elim
      (λ (l : i < 8 * channels img).
      let xs = get_or (channel_in img s (i / 8)).row (i % 8) [] in
      let there : i / 8 < channels img = omega arith in (
        xs,
        at_place (λ x. (get_or x.stations i no_station).tokens)
            ∙ ap (λ (x : Station). x.tokens) (padded-at place (8 * channels img) 768 i (station_of []) no_station l),
        fit.steady.few (i / 8) there (i % 8),
        in_row (channel_in img s (i / 8)).row (i % 8) (in_stations (i / 8) there),
      ))
      (λ (l : 8 * channels img ≤ i).
      rw (at_place (λ x. (get_or x.stations i no_station).tokens), padded_past place (8 * channels img) 768 i (station_of []) no_station l h)
      (none_written 2))
      (lt-or-ge i (8 * channels img))

  queue_tokens : (c : ℕ) → c < 96 → Written 8 (queue_at s c).tokens
  unfolding state_of queue_of queue_at
  queue_tokens c h =
      let place : ℕ → Queue = λ k. queue_of (channel_in img s k).queue in
      ⊎_elim
      (λ (l : c < channels img). (
        (channel_in img s c).queue,
        at_place (λ x. (get_or x.queues c no_queue).tokens)
            ∙ ap (λ (x : Queue). x.tokens) (padded-at place (channels img) 96 c (queue_of []) no_queue l),
        omega (arith, fit.steady.within c l, a.queues c l),
        in_queue c l,
      ))
      (λ (l : channels img ≤ c).
      rw (at_place (λ x. (get_or x.queues c no_queue).tokens), padded_past place (channels img) 96 c (queue_of []) no_queue l h)
      (none_written 8))
      (lt-or-ge c (channels img))

  node_range : (n : ℕ) → n < 64 → (mag (value_at s n) < 2 ^ 31) × (firings_at s n < 2 ^ 32)
  unfolding state_of
  node_range n h =
      ⊎_elim
      (λ (l : n < nodes img). ((r.shown n l).sfits, omega (arith, fit.fired n l, fit.cycled)))
      (λ (l : nodes img ≤ n).
      let e : node_at s n ≡ no_node =
      unfold node_at in (at_place (λ x. get_or x.nodes n no_node) ∙ padded_past (node_at s) (nodes img) 64 n no_node no_node l h) in
      (rw (ap (λ (x : Node). x.value) e) zero_fits.sfits, omega (arith, ap (λ (x : Node). x.firings) e)))
      (lt-or-ge n (nodes img))

  pub typed-fitting : Typed s
  typed-fitting =
      record {
        shaped =
            record {
              nodes = nodes_long img s fit a;
              pending = pending_long img s fit a;
              stations = stations_long img s fit a;
              queues = queues_long img s fit a;
              station = λ i h. written_long 2 _ (station_tokens i h);
              queue = λ c h. written_long 8 _ (unfold queue_at in queue_tokens c h);
            };
        cycled = omega (arith, fit.cycled);
        valued = λ n h. (node_range n h).0;
        fired = λ n h. (node_range n h).1;
        held = λ i h k l. written_mag 2 _ (station_tokens i h) k l;
        queued = λ c h k l. written_mag 8 _ (queue_tokens c h) k l;
      }
