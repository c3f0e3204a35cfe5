-- What a channel of a state shows, and what stands in a state that `state_of` wrote. Assumes nothing.
use Rattle.std.specs.Prelude.{Bool, true, false, ◌≡◌, refl, ℕ, ◌+◌, ◌*◌, ◌/◌, ◌%◌, ◌<◌, ◌≤◌, eqb, length}
use mathlib.Core.List.{List, []}
use Rattle.std.proofs.Math.Path.{sym, ap, ap₂}
use Rattle.std.proofs.Common.{◌∙◌, add-zero, mod-eq_of_lt, arith}
use Rattle.std.proofs.Math.Nat.{mul-add-div, mul-add-mod_self_left, div-eq_of_lt}
use Rattle.std.proofs.Math.ListN.{get_or, get_or-eq_default}
use Rattle.laws.specs.Choice.{◌if◌else◌}
use Rattle.laws.specs.Lists.{holds, one_if}
use Rattle.laws.specs.Laws.Lists.{one_if_few}
use Rattle.laws.specs.Table.{table}
use Rattle.laws.specs.Laws.Table.{length-table, table_at, table_same, table_own, padded-at}
use Rattle.image.specs.Image.{nodes, channels, from, stations}
use Rattle.relay.specs.declared.Station.{Station}
use Rattle.relay.specs.Station.{held, station_of, no_station}
use Rattle.relay.specs.Laws.Station.{held_of}
use Rattle.relay.specs.Laws.Row.{leaving-at, link_few}
use Rattle.shell.specs.Queue.{queue_of}
use Rattle.shell.specs.Laws.Queue.{waiting_of}
use Rattle.shell.specs.Channel.{Channel, arriving}
use Rattle.state.specs.declared.Node.{Node}
use Rattle.state.specs.declared.State.{State}
use Rattle.state.specs.State.{no_node, no_queue, node_at, value_at, pending_at, station_at, queue_at, channel_in, state_of}

-- the channel and the station that stand at a place of the array of stations
pub place_channel : (c j : ℕ) → j < 8 → (8 * c + j) / 8 ≡ c
place_channel c j h = mul-add-div (omega arith) c j ∙ ap (λ (k : ℕ). c + k) (div-eq_of_lt h) ∙ add-zero c

pub place_station : (c j : ℕ) → j < 8 → (8 * c + j) % 8 ≡ j
place_station c j h = mul-add-mod_self_left 8 c j ∙ mod-eq_of_lt h

-- ---- a channel of a state
module _ (img : List ℕ) (s : State) (c : ℕ) where
  -- a channel of a state has the image's stations as its row: what station j holds, and past them nothing
  pub length-row : length (channel_in img s c).row ≡ stations img c
  unfolding channel_in
  length-row = length-table _ (stations img c)

  pub row_at : (j : ℕ) → j < stations img c → get_or (channel_in img s c).row j [] ≡ held (station_at s c j)
  unfolding channel_in
  row_at j h = table_at (λ k. held (station_at s c k)) (stations img c) j [] h

  pub row_past : (j : ℕ) → stations img c ≤ j → get_or (channel_in img s c).row j [] ≡ []
  row_past j h = get_or-eq_default (channel_in img s c).row [] (rw length-row h)

  -- the from node shows one token at most, and so does link r
  pub source_few : length (channel_in img s c).source ≤ 1
  unfolding channel_in
  source_few = one_if_few (eqb (pending_at s c) 1) (value_at s (from img c))

  pub arriving_few : length (arriving (channel_in img s c)) ≤ 1
  unfolding arriving
  arriving_few =
      let ch = channel_in img s c in
      rw (leaving-at ch.source ch.row) (link_few ch.source ch.row (length ch.row) source_few)

-- ---- what `state_of` wrote
pending_test : (b : Bool) → eqb (1 if b else 0) 1 ≡ b
pending_test true = refl
pending_test false = refl

module _ (img : List ℕ) (t : ℕ) (node : ℕ → Node) (channel : ℕ → Channel) where
  pub node_of : (n : ℕ) → n < nodes img → node_at (state_of img t node channel) n ≡ node n
  unfolding node_at state_of
  node_of n h = padded-at node (nodes img) 64 n no_node no_node h

  module _ (c : ℕ) (h : c < channels img) where
    pub pending_of : pending_at (state_of img t node channel) c ≡ (1 if holds (channel c).source else 0)
    unfolding pending_at state_of
    pending_of = padded-at (λ k. 1 if holds (channel k).source else 0) (channels img) 96 c 0 0 h

    pub queue_of_lem : queue_at (state_of img t node channel) c ≡ queue_of (channel c).queue
    unfolding queue_at state_of
    queue_of_lem = padded-at (λ k. queue_of (channel k).queue) (channels img) 96 c (queue_of []) no_queue h

    pub station_of_lem : (j : ℕ) → j < 8 → station_at (state_of img t node channel) c j ≡ station_of (get_or (channel c).row j [])
    unfolding station_at state_of
    station_of_lem j l =
        padded-at (λ i. station_of (get_or (channel (i / 8)).row (i % 8) [])) (8 * channels img) 768 (8 * c + j) (station_of []) no_station (omega arith)
        ∙ ap₂ {C = Station} (λ (a b : ℕ). station_of (get_or (channel a).row b [])) (place_channel c j l) (place_station c j l)

    -- a channel that was written is the one that is read, if its row has the image's stations and its source shows the node's value
    pub channel_of :
        from img c < nodes img → stations img c ≤ 8 → length (channel c).row ≡ stations img c
        → (channel c).source ≡ one_if (holds (channel c).source) (node (from img c)).value
        → channel_in img (state_of img t node channel) c ≡ channel c
    unfolding channel_in
    channel_of wired short long same =
        let row : table (λ j. held (station_at (state_of img t node channel) c j)) (stations img c) ≡ (channel c).row =
        table_same (λ j. held (station_at (state_of img t node channel) c j)) (λ j. get_or (channel c).row j []) (stations img c)
        (λ j l. ap held (station_of_lem j (omega arith)) ∙ held_of (get_or (channel c).row j []))
        ∙ ap (table (λ j. get_or (channel c).row j [])) (sym long) ∙ sym (table_own (channel c).row []) in
        rw (pending_of, pending_test, ap (λ (x : Node). x.value) (node_of (from img c) wired), ← same, row, queue_of_lem, waiting_of)

-- states written for images of as many nodes and channels, from nodes and channels that agree, are the same
pub states_same :
    (img other : List ℕ) → nodes img ≡ nodes other → channels img ≡ channels other → (t : ℕ) (f g : ℕ → Node) (a b : ℕ → Channel)
    → ((n : ℕ) → n < nodes img → f n ≡ g n) → ((c : ℕ) → c < channels img → a c ≡ b c) → state_of img t f a ≡ state_of other t g b
unfolding state_of
states_same img other ns cs t f g a b m h =
    rw (
      ← ns,
      ← cs,
      table_same f g (nodes img) m,
      table_same {A = ℕ} (λ c. 1 if holds (a c).source else 0) (λ c. 1 if holds (b c).source else 0) (channels img)
          (λ c l. ap {B = ℕ} (λ (x : Channel). 1 if holds x.source else 0) (h c l)),
      table_same (λ i. station_of (get_or (a (i / 8)).row (i % 8) [])) (λ i. station_of (get_or (b (i / 8)).row (i % 8) [])) (8 * channels img)
          (λ i l. ap (λ (x : Channel). station_of (get_or x.row (i % 8) [])) (h (i / 8) (omega arith))),
      table_same (λ c. queue_of (a c).queue) (λ c. queue_of (b c).queue) (channels img) (λ c l. ap (λ (x : Channel). queue_of x.queue) (h c l)),
    )

-- a state is what its own nodes and channels write, where its channels are those that it was written from
pub written_of :
    (img : List ℕ) (t : ℕ) (node : ℕ → Node) (channel : ℕ → Channel) → let s = state_of img t node channel in
    ((c : ℕ) → c < channels img → channel_in img s c ≡ channel c) → s ≡ state_of img t (node_at s) (channel_in img s)
written_of img t node channel same =
    let s = state_of img t node channel in
    states_same img img refl refl t node (node_at s) channel (channel_in img s) (λ n h. sym (node_of img t node channel n h)) (λ c h. sym (same c h))
