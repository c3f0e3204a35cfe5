-- Number 21 is the record `Fitting`, both ways. Assumes nothing.
use Rattle.std.specs.Prelude.{true, List, [], ◌++◌, ◌≡◌, refl, ℕ, zero, suc, ◌+◌, ◌*◌, ◌/◌, ◌%◌, ◌<◌, ◌≤◌, eqb, ℤ, pos}
use Rattle.std.proofs.Math.Logic.{⊎_elim}
use Rattle.std.proofs.Common.{sym, ◌∙◌}
use Rattle.std.proofs.Math.Path.{ap, ap₂}
use native.Mathlib.Omega.{arith}
use Rattle.std.proofs.Math.ListN.{length, get_or, length-append, get_or-eq_default}
use Rattle.laws.specs.Below.{sum_below}
use Rattle.laws.specs.Laws.Below.{sum_same}
use Rattle.laws.specs.Laws.Cases.{lt-or-ge}
use Rattle.laws.specs.Choice.{◌if◌else◌}
use Rattle.laws.specs.Laws.Choice.{one_few}
use Rattle.laws.specs.Lists.{holds, one_if, padded, Stored}
use Rattle.laws.specs.Table.{table}
use Rattle.laws.specs.Laws.Table.{padded_past, padded_own}
use Rattle.image.specs.Image.{nodes, channels, from, to, stations, depth}
use Rattle.verdict.specs.Accepted.{Accepted}
use Rattle.relay.specs.declared.Station.{Station}
use Rattle.relay.specs.Station.{held, station_of, no_station}
use Rattle.relay.specs.Laws.Station.{held_count, station_own, station-stored}
use Rattle.relay.specs.Row.{contents}
use Rattle.relay.specs.Laws.Row.{contents_count}
use Rattle.shell.specs.declared.Queue.{Queue}
use Rattle.shell.specs.Queue.{waiting, queue_of}
use Rattle.shell.specs.Laws.Queue.{waiting_count, queue_own, queue_stored}
use Rattle.shell.specs.Channel.{tokens}
use Rattle.state.specs.declared.Node.{Node}
use Rattle.state.specs.declared.State.{State}
use Rattle.state.specs.State.{no_node, no_queue, node_at, value_at, firings_at, pending_at, station_at, queue_at, channel_in, state_of}
use Rattle.state.specs.Laws.State.{row_at, row_past}
use Rattle.fitting.specs.Fits.{fits}
use Rattle.fitting.specs.Fitting.{Shaped, Fitting}
use Rattle.fitting.specs.Laws.Fitting.{pending_shown, station_written, queue_written, queue_count}
use Rattle.fitting.specs.Laws.Places.{Cleared, StationClear, QueueClear, Places, fits_iff}

-- ---- arrays whose unused places are 0
-- the array of a station or of a queue, whose count is within its places
stored : (n count : ℕ) (l : List ℤ) → length l ≡ n → count ≤ n → Cleared n count l → Stored n (pos 0) l count
stored n count l long few clear =
    record {
      few = few;
      long = long;
      rest = λ k h. ⊎_elim (λ (b : k < n). clear k b h) (λ (b : n ≤ k). get_or-eq_default l (pos 0) (omega arith)) (lt-or-ge k n);
    }

abbrev StationStored : Station → Type 0
StationStored st = Stored 2 (pos 0) st.tokens st.count

abbrev QueueStored : Queue → Type 0
QueueStored q = Stored 8 (pos 0) q.tokens q.count

-- a pending byte of 0 or 1 counts the token that it shows
pending_count : (m : ℕ) (v : ℤ) → m ≤ 1 → (length (one_if (eqb m 1) v) ≡ m) × (m ≡ (1 if holds (one_if (eqb m 1) v) else 0))
pending_count zero v h = (refl, refl)
pending_count (suc zero) v h = (refl, refl)
pending_count (suc (suc m)) v h = absurd (omega arith)

module _ (img : List ℕ) (s : State) (c : ℕ) where
  -- the tokens of a channel are those that are pending, in its stations and in its queue
  tokens_count :
      pending_at s c ≤ 1 → ((j : ℕ) → j < stations img c → StationStored (station_at s c j)) → QueueStored (queue_at s c)
      → length (tokens (channel_in img s c)) ≡ pending_at s c + sum_below (λ j. (station_at s c j).count) (stations img c) + (queue_at s c).count
  unfolding tokens channel_in
  tokens_count one each all =
      let row = table (λ j. held (station_at s c j)) (stations img c) in
      let source = one_if (eqb (pending_at s c) 1) (value_at s (from img c)) in
      let n = length-append (waiting (queue_at s c)) (contents row ++ source) in
      let m = length-append (contents row) source in
      let r =
      contents_count (λ j. held (station_at s c j)) (stations img c)
      ∙ sum_same (λ j. length (held (station_at s c j))) (λ j. (station_at s c j).count) (stations img c)
      (λ j l. held_count (station_at s c j) (each j l)) in
      omega (arith, n, m, r, waiting_count (queue_at s c) all, (pending_count (pending_at s c) (value_at s (from img c)) one).0)

-- ---- from the facts to the test: what stands at a place is what was written there
module _ (img : List ℕ) (a : Accepted img) (s : State) (f : Fitting img s) where
  pending_within : (c : ℕ) → c < channels img → pending_at s c ≤ 1
  pending_within c h = rw (pending_shown img s f c h) (one_few (holds (channel_in img s c).source))

  pending_none : (c : ℕ) → c < 96 → channels img ≤ c → pending_at s c ≡ 0
  unfolding pending_at state_of
  pending_none c l h =
      ap (λ t. pending_at t c) f.written
      ∙ padded_past (λ k. 1 if holds (channel_in img s k).source else 0) (channels img) 96 c 0 0 h l

  node_none : (n : ℕ) → n < 64 → nodes img ≤ n → node_at s n ≡ no_node
  unfolding node_at state_of
  node_none n l h = ap (λ t. node_at t n) f.written ∙ padded_past (node_at s) (nodes img) 64 n no_node no_node h l

  station_past : (c : ℕ) → c < 96 → channels img ≤ c → (j : ℕ) → j < 8 → station_at s c j ≡ station_of []
  unfolding station_at state_of
  station_past c b h j l =
      ap (λ t. station_at t c j) f.written
      ∙ padded_past (λ i. station_of (get_or (channel_in img s (i / 8)).row (i % 8) [])) (8 * channels img) 768 (8 * c + j) (station_of []) no_station
      (omega arith) (omega arith)

  station-none : (c : ℕ) → c < 96 → (j : ℕ) → j < 8 → (c < channels img → stations img c ≤ j) → station_at s c j ≡ station_of []
  station-none c b j l none =
      ⊎_elim
      (λ (h : c < channels img). station_written img s f c h j l ∙ ap station_of (row_past img s c j (none h)))
      (λ (h : channels img ≤ c). station_past c b h j l)
      (lt-or-ge c (channels img))

  station-fits : (c : ℕ) → c < 96 → (j : ℕ) → j < 8 → StationStored (station_at s c j)
  station-fits c b j l =
      ⊎_elim
      (λ (h : c < channels img). rw (station_written img s f c h j l) (station-stored (get_or (channel_in img s c).row j []) (f.steady.few c h j)))
      (λ (h : channels img ≤ c). rw (station_past c b h j l) (station-stored [] (omega arith)))
      (lt-or-ge c (channels img))

  station-clear : (c : ℕ) → c < 96 → (j : ℕ) → j < 8 → StationClear img s c j
  unfolding station_of
  station-clear c b j l =
      (λ i h. (station-fits c b j l).rest i, λ none. ap (λ (st : Station). st.count) (station-none c b j l none))

  queue_none : (c : ℕ) → c < 96 → channels img ≤ c → queue_at s c ≡ queue_of []
  unfolding queue_at state_of
  queue_none c b h =
      ap (λ t. queue_at t c) f.written
      ∙ padded_past (λ k. queue_of (channel_in img s k).queue) (channels img) 96 c (queue_of []) no_queue h b

  queue_fits : (c : ℕ) → c < 96 → QueueStored (queue_at s c)
  queue_fits c b =
      ⊎_elim
      (λ (h : c < channels img).
      rw (queue_written img s f c h)
      (queue_stored (channel_in img s c).queue (omega (arith, f.steady.within c h, a.queues c h))))
      (λ (h : channels img ≤ c). rw (queue_none c b h) (queue_stored [] (omega arith)))
      (lt-or-ge c (channels img))

  queue_clear_lem : (c : ℕ) → c < 96 → QueueClear img s c
  unfolding queue_of
  queue_clear_lem c b = (λ i h. (queue_fits c b).rest i, λ h. ap (λ (q : Queue). q.count) (queue_none c b h))

  queue_within : (c : ℕ) → c < channels img → (queue_at s c).count ≤ depth img c
  queue_within c h = omega (arith, queue_count img s f c h, f.steady.within c h)

  -- a state that fits passes the test of number 21
  pub fits-fitting : fits img s ≡ true
  fits-fitting =
      let below : (c : ℕ) → c < channels img → c < 96 = λ c h. omega (arith, a.few_channels) in
      let row : (c : ℕ) → c < channels img → (j : ℕ) → j < stations img c → StationStored (station_at s c j) =
      λ c h j l. station-fits c (below c h) j (omega (arith, a.rows c h)) in
      (fits_iff img s).1
      record {
        cycled = f.cycled;
        fired = f.fired;
        pending = pending_within;
        counts = λ c h. (λ j l. (row c h j l).few, queue_within c h);
        node = λ n l h. (ap (λ (x : Node). x.value) (node_none n l h), ap (λ (x : Node). x.firings) (node_none n l h));
        idle = pending_none;
        station = station-clear;
        queue = queue_clear_lem;
        balance = λ c h. omega (arith, tokens_count img s c (pending_within c h) (row c h) (queue_fits c (below c h)), f.steady.balance c h);
      }

-- ---- from the test to the facts: what stands at a place is what its own tokens write
module _ (img : List ℕ) (a : Accepted img) (s : State) (shape : Shaped s) (p : Places img s) where
  below : (c : ℕ) → c < channels img → c < 96
  below c h = omega (arith, a.few_channels)

  station_few : (c : ℕ) → c < 96 → (j : ℕ) → j < 8 → (station_at s c j).count ≤ 2
  station_few c b j l =
      ⊎_elim
      (λ (h : c < channels img).
      ⊎_elim
      (λ (g : j < stations img c). (p.counts c h).0 j g)
      (λ (g : stations img c ≤ j). let e = (p.station c b j l).1 (λ k. g) in omega arith)
      (lt-or-ge j (stations img c)))
      (λ (h : channels img ≤ c). let e = (p.station c b j l).1 (λ k. absurd (omega arith)) in omega arith)
      (lt-or-ge c (channels img))

  station-holds : (c : ℕ) → c < 96 → (j : ℕ) → j < 8 → StationStored (station_at s c j)
  unfolding station_at
  station-holds c b j l =
      let long = shape.station (8 * c + j) (omega arith) in
      stored 2 (station_at s c j).count (station_at s c j).tokens long (station_few c b j l) (p.station c b j l).0

  none-held : (c : ℕ) → c < 96 → (j : ℕ) → j < 8 → (c < channels img → stations img c ≤ j) → held (station_at s c j) ≡ []
  unfolding held
  none-held c b j l none = let e = (p.station c b j l).1 none in rw e

  row_is : (c : ℕ) → c < channels img → (j : ℕ) → j < 8 → get_or (channel_in img s c).row j [] ≡ held (station_at s c j)
  row_is c h j l =
      ⊎_elim
      (λ (b : j < stations img c). row_at img s c j b)
      (λ (b : stations img c ≤ j). row_past img s c j b ∙ sym (none-held c (below c h) j l (λ k. b)))
      (lt-or-ge j (stations img c))

  queue_holds : (c : ℕ) → c < 96 → QueueStored (queue_at s c)
  unfolding queue_at
  queue_holds c b =
      let few : (queue_at s c).count ≤ 8 =
      ⊎_elim
      (λ (h : c < channels img). omega (arith, (p.counts c h).1, a.queues c h))
      (λ (h : channels img ≤ c). omega (arith, (p.queue c b).1 h))
      (lt-or-ge c (channels img)) in
      stored 8 (queue_at s c).count (queue_at s c).tokens (shape.queue c b) few (p.queue c b).0

  none-waiting : (c : ℕ) → c < 96 → channels img ≤ c → waiting (queue_at s c) ≡ []
  unfolding waiting
  none-waiting c b h = let e = (p.queue c b).1 h in rw e

  -- each array of a state that passes is what the state's own nodes and channels write
  nodes_written : s.nodes ≡ padded 64 no_node (table (node_at s) (nodes img))
  unfolding node_at
  nodes_written =
      padded_own (node_at s) (nodes img) 64 no_node no_node s.nodes a.few_nodes shape.nodes (λ n h. refl)
      (λ n h l. let e = p.node n l h in ap₂ {C = Node} (λ (v : ℤ) (k : ℕ). record { value = v; firings = k }) e.0 e.1)

  pending_written : s.pending ≡ padded 96 0 (table (λ c. 1 if holds (channel_in img s c).source else 0) (channels img))
  unfolding pending_at channel_in
  pending_written =
      padded_own (λ c. 1 if holds (channel_in img s c).source else 0) (channels img) 96 0 0 s.pending a.few_channels shape.pending
      (λ c h. (pending_count (pending_at s c) (value_at s (from img c)) (p.pending c h)).1) (λ c h l. p.idle c l h)

  stations_written :
      s.stations ≡ padded 768 (station_of []) (table (λ i. station_of (get_or (channel_in img s (i / 8)).row (i % 8) [])) (8 * channels img))
  unfolding station_at
  stations_written =
      padded_own (λ i. station_of (get_or (channel_in img s (i / 8)).row (i % 8) [])) (8 * channels img) 768 (station_of []) no_station
      s.stations (omega (arith, a.few_channels)) shape.stations
      (λ i h.
      let b : i / 8 < channels img = omega arith in
      let l : i % 8 < 8 = omega arith in
      at i (below (i / 8) b) l ∙ ap station_of (sym (row_is (i / 8) b (i % 8) l)))
      (λ i h k.
      let b : i / 8 < 96 = omega arith in
      let l : i % 8 < 8 = omega arith in
      at i b l ∙ ap station_of (none-held (i / 8) b (i % 8) l (λ g. absurd (omega arith))))
    where
      at : (i : ℕ) → i / 8 < 96 → i % 8 < 8 → get_or s.stations i no_station ≡ station_of (held (station_at s (i / 8) (i % 8)))
      at i b l =
          let e : i ≡ 8 * (i / 8) + i % 8 = omega arith in
          ap (λ (k : ℕ). get_or s.stations k no_station) e ∙ station_own (station_at s (i / 8) (i % 8)) (station-holds (i / 8) b (i % 8) l)

  queues_written : s.queues ≡ padded 96 (queue_of []) (table (λ c. queue_of (channel_in img s c).queue) (channels img))
  unfolding queue_at channel_in
  queues_written =
      padded_own (λ c. queue_of (channel_in img s c).queue) (channels img) 96 (queue_of []) no_queue s.queues a.few_channels shape.queues
      (λ c h. queue_own (queue_at s c) (queue_holds c (below c h)))
      (λ c h l. queue_own (queue_at s c) (queue_holds c l) ∙ ap queue_of (none-waiting c l h))

  all_written : s ≡ state_of img s.cycles (node_at s) (channel_in img s)
  unfolding state_of
  all_written =
      λ i. record s { nodes = nodes_written i; pending = pending_written i; stations = stations_written i; queues = queues_written i }

  few_held : (c : ℕ) → c < channels img → (j : ℕ) → length (get_or (channel_in img s c).row j []) ≤ 2
  few_held c h j =
      ⊎_elim
      (λ (l : j < 8).
      let st = station-holds c (below c h) j l in
      rw (row_is c h j l) (omega (arith, held_count (station_at s c j) st, st.few)))
      (λ (l : 8 ≤ j). rw (row_past img s c j (omega (arith, a.rows c h))) (omega arith))
      (lt-or-ge j 8)

  within-depth : (c : ℕ) → c < channels img → length (channel_in img s c).queue ≤ depth img c
  unfolding channel_in
  within-depth c h = omega (arith, waiting_count (queue_at s c) (queue_holds c (below c h)), (p.counts c h).1)

  balance_held : (c : ℕ) → c < channels img → firings_at s (to img c) + length (tokens (channel_in img s c)) ≡ suc (firings_at s (from img c))
  balance_held c h =
      let row : (j : ℕ) → j < stations img c → StationStored (station_at s c j) = λ j l. station-holds c (below c h) j (omega (arith, a.rows c h)) in
      omega (arith, tokens_count img s c (p.pending c h) row (queue_holds c (below c h)), p.balance c h)

-- a state of the declared shape that passes the test of number 21 fits
pub fitting : (img : List ℕ) → Accepted img → (s : State) → Shaped s → fits img s ≡ true → Fitting img s
fitting img a s shape e =
    let p = (fits_iff img s).0 e in
    record {
      cycled = p.cycled;
      fired = p.fired;
      written = all_written img a s shape p;
      steady = record { few = few_held img a s shape p; within = within-depth img a s shape p; balance = balance_held img a s shape p };
    }
