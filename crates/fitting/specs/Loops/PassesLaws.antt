-- The passes of number 21 together are its definition. Assumes nothing.
use Rattle.std.proofs.Math.Bool.{Bool}
use Rattle.std.specs.Prelude.{true, ◌&&◌, ◌||◌, List, ◌↔◌, ◌≡◌, pos, get_or}
use Rattle.std.proofs.Math.Logic.{⊎_elim}
use Prim.Native.Nat.{ℕ, ◌+◌, ◌*◌, ◌/◌, ◌%◌, ◌<◌, ◌≤◌}
use Rattle.std.proofs.Common.{arith}
use Rattle.std.proofs.Math.Dec.{eqb, leb, ltb}
use Rattle.laws.specs.Below.{all_below}
use Rattle.laws.specs.Laws.Below.{all_iff}
use Rattle.laws.specs.Laws.Cases.{lt-or-ge}
use Rattle.laws.specs.Lists.{zero_from}
use Rattle.laws.specs.Laws.Tests.{ge-iff, le_iff, eq_iff, and-iff, or-iff, test_same}
use Rattle.image.specs.Image.{nodes, channels, stations, depth}
use Rattle.verdict.specs.Accepted.{Accepted}
use Rattle.relay.specs.declared.Station.{Station}
use Rattle.relay.specs.Station.{clear, no_station}
use Rattle.shell.specs.declared.Queue.{Queue}
use Rattle.state.specs.declared.State.{State}
use Rattle.state.specs.State.{value_at, firings_at, pending_at, station_at, queue_at}
use Rattle.fitting.specs.Fits.{cycles_fit, firings_fit, node_clear, stations_fit, pending_clear, balanced, fits}
use Rattle.fitting.specs.Loops.Passes.{empty_station, empty_queue, nodes_fit, channel_fits, channels_fit, contents_clear, place_clear, queue_empty, channels_clear}
use Rattle.fitting.specs.Laws.Places.{Places, Cleared, StationClear, Within, Balanced, zero_from_lem, cycles_say, firings_say, counts_say, node_says, pending_says, balance_says, fits_iff}

-- a station, and a queue, that holds no token and is 0 throughout
abbrev EmptyStation : Station → Type 0
EmptyStation st = Cleared 2 st.count st.tokens × (st.count ≡ 0)

abbrev EmptyQueue : Queue → Type 0
EmptyQueue q = Cleared 8 q.count q.tokens × (q.count ≡ 0)

empty_station_says : (st : Station) → (empty_station st ≡ true) ↔ EmptyStation st
unfolding empty_station
empty_station_says st = and-iff (clear st) (eqb st.count 0) (zero_from_lem 2 st.count st.tokens) (eq_iff st.count 0)

empty_queue_says : (q : Queue) → (empty_queue q ≡ true) ↔ EmptyQueue q
unfolding empty_queue
empty_queue_says q = and-iff (zero_from 8 q.count q.tokens) (eqb q.count 0) (zero_from_lem 8 q.count q.tokens) (eq_iff q.count 0)

module _ (img : List ℕ) (a : Accepted img) (s : State) where
  -- what the pass over the nodes says
  abbrev NodesFit : Type 0
  NodesFit =
      ((n : ℕ) → n < nodes img → firings_at s n ≤ s.cycles) × ((n : ℕ) → n < 64 → nodes img ≤ n → (value_at s n ≡ pos 0) × (firings_at s n ≡ 0))

  nodes_say : (nodes_fit img s ≡ true) ↔ NodesFit
  unfolding nodes_fit
  nodes_say =
      and-iff (firings_fit img s) (all_below (node_clear img s) 64) (firings_say img s) (all_iff (node_clear img s) 64 (node_says img s))

  -- what the first pass over the channels of the image says of channel c
  abbrev ChannelFits : ℕ → Type 0
  ChannelFits c = ((pending_at s c ≤ 1) × Within img s c) × Balanced img s c

  channels_say : (channels_fit img s ≡ true) ↔ ((c : ℕ) → c < channels img → ChannelFits c)
  unfolding channels_fit channel_fits
  channels_say =
      let within : ℕ → Bool = λ c. stations_fit img s c && leb (queue_at s c).count (depth img c) in
      all_iff (channel_fits img s) (channels img)
      (λ c.
      and-iff (leb (pending_at s c) 1 && within c) (balanced img s c)
      (and-iff (leb (pending_at s c) 1) (within c) (le_iff (pending_at s c) 1) (counts_say img s c)) (balance_says img s c))

  -- what the second pass over the channels of the image says of channel c
  abbrev ChannelClear : ℕ → Type 0
  ChannelClear c =
      (((j : ℕ) → j < stations img c → Cleared 2 (station_at s c j).count (station_at s c j).tokens)
      × ((j : ℕ) → j < 8 → stations img c ≤ j → EmptyStation (station_at s c j)))
      × Cleared 8 (queue_at s c).count (queue_at s c).tokens

  contents_clear_says : (c : ℕ) → (contents_clear img s c ≡ true) ↔ ChannelClear c
  unfolding contents_clear
  contents_clear_says c =
      let used : ℕ → Bool = λ j. clear (station_at s c j) in
      let rest : ℕ → Bool = λ j. ltb j (stations img c) || empty_station (station_at s c j) in
      let q = queue_at s c in
      and-iff (all_below used (stations img c) && all_below rest 8) (zero_from 8 q.count q.tokens)
      (and-iff (all_below used (stations img c)) (all_below rest 8)
      (all_iff used (stations img c) (λ j. zero_from_lem 2 (station_at s c j).count (station_at s c j).tokens))
      (all_iff rest 8 (λ j. or-iff (ltb j (stations img c)) (empty_station (station_at s c j)) (ge-iff j (stations img c)) (empty_station_says (station_at s c j)))))
      (zero_from_lem 8 q.count q.tokens)

  -- what the passes over the places of all channels say
  abbrev ChannelsClear : Type 0
  ChannelsClear =
      ((((c : ℕ) → c < channels img → ChannelClear c) × ((c : ℕ) → c < 96 → channels img ≤ c → pending_at s c ≡ 0))
      × ((i : ℕ) → i < 768 → 8 * channels img ≤ i → EmptyStation (get_or s.stations i no_station)))
      × ((c : ℕ) → c < 96 → channels img ≤ c → EmptyQueue (queue_at s c))

  clear_says : (channels_clear img s ≡ true) ↔ ChannelsClear
  unfolding channels_clear place_clear queue_empty
  clear_says =
      let used = all_below (contents_clear img s) (channels img) in
      let idle = all_below (pending_clear img s) 96 in
      let places = all_below (place_clear img s) 768 in
      let queues = all_below (queue_empty img s) 96 in
      and-iff (used && idle && places) queues
      (and-iff (used && idle) places
      (and-iff used idle (all_iff (contents_clear img s) (channels img) contents_clear_says) (all_iff (pending_clear img s) 96 (pending_says img s)))
      (all_iff (place_clear img s) 768
      (λ i.
      let st = get_or s.stations i no_station in
      or-iff (ltb i (8 * channels img)) (empty_station st) (ge-iff i (8 * channels img)) (empty_station_says st))))
      (all_iff (queue_empty img s) 96
      (λ c. or-iff (ltb c (channels img)) (empty_queue (queue_at s c)) (ge-iff c (channels img)) (empty_queue_says (queue_at s c))))

  -- the place of a station, used or not, from the places that the pass sees, and the other way round
  station_seen : ChannelsClear → (c : ℕ) → c < 96 → (j : ℕ) → j < 8 → StationClear img s c j
  unfolding station_at
  station_seen p c h j g =
      ⊎_elim
      (λ (l : c < channels img).
      ⊎_elim
      (λ (m : j < stations img c). ((p.0.0.0 c l).0.0 j m, λ (f : c < channels img → stations img c ≤ j). absurd (omega (arith, f l, m))))
      (λ (m : stations img c ≤ j). let e = (p.0.0.0 c l).0.1 j g m in (e.0, λ f. e.1))
      (lt-or-ge j (stations img c)))
      (λ (l : channels img ≤ c). let e = p.0.1 (8 * c + j) (omega arith) (omega arith) in (e.0, λ f. e.1))
      (lt-or-ge c (channels img))

  place_seen : Places img s → (i : ℕ) → i < 768 → 8 * channels img ≤ i → EmptyStation (get_or s.stations i no_station)
  unfolding station_at
  place_seen p i h g =
      let same : 8 * (i / 8) + i % 8 ≡ i = omega arith in
      let e = p.station (i / 8) (omega arith) (i % 8) (omega arith) in
      let here : EmptyStation (get_or s.stations (8 * (i / 8) + i % 8) no_station) = (e.0, e.1 (λ (l : i / 8 < channels img). absurd (omega arith))) in
      rw same at here

  passes_iff : ((cycles_fit img s && nodes_fit img s && channels_fit img s && channels_clear img s) ≡ true) ↔ Places img s
  passes_iff =
      let says =
      and-iff (cycles_fit img s && nodes_fit img s && channels_fit img s) (channels_clear img s)
      (and-iff (cycles_fit img s && nodes_fit img s) (channels_fit img s)
      (and-iff (cycles_fit img s) (nodes_fit img s) (cycles_say img s) nodes_say) channels_say) clear_says in (
        λ e.
            let p = says.0 e in
            let nodes = p.0.0.1 in
            let used = p.0.1 in
            let clear = p.1 in
            record {
              cycled = p.0.0.0;
              fired = nodes.0;
              pending = λ c h. (used c h).0.0;
              counts = λ c h. (used c h).0.1;
              node = nodes.1;
              idle = clear.0.0.1;
              station = station_seen clear;
              queue =
                  λ c h.
                  ⊎_elim
                  (λ (l : c < channels img). ((clear.0.0.0 c l).1, λ (g : channels img ≤ c). absurd (omega (arith, l, g))))
                  (λ (g : channels img ≤ c). let e = clear.1 c h g in (e.0, λ f. e.1))
                  (lt-or-ge c (channels img));
              balance = λ c h. (used c h).1;
            },
        λ p.
            says.1 (
              ((p.cycled, (p.fired, p.node)), λ c h. ((p.pending c h, p.counts c h), p.balance c h)),
              (
                (
                  (
                    λ c h.
                        let b : c < 96 = omega (arith, a.few_channels, h) in (
                          (
                            λ j m. (p.station c b j (omega (arith, a.rows c h, m))).0,
                            λ j g m. let e = p.station c b j g in (e.0, e.1 (λ l. m)),
                          ),
                          (p.queue c b).0,
                        ),
                    p.idle,
                  ),
                  place_seen p,
                ),
                λ c h g. let e = p.queue c h in (e.0, e.1 g),
              ),
            ),
      )

  pub passes_fit : (cycles_fit img s && nodes_fit img s && channels_fit img s && channels_clear img s) ≡ fits img s
  passes_fit = test_same (cycles_fit img s && nodes_fit img s && channels_fit img s && channels_clear img s) (fits img s) passes_iff (fits_iff img s)
