-- Number 21, place by place: what each of its conditions says, both ways. Assumes nothing.
use Rattle.std.proofs.Math.Bool.{Bool}
use Rattle.std.specs.Prelude.{true, ◌&&◌, ◌||◌, List, ◌↔◌, ◌≡◌, ℤ, pos, get_or}
use Prim.Native.Nat.{ℕ, ◌+◌, ◌<◌, ◌≤◌}
use Rattle.std.proofs.Math.Dec.{eqb, leb, ltb}
use Rattle.laws.specs.Below.{all_below, sum_below}
use Rattle.laws.specs.Laws.Below.{all_iff}
use Rattle.laws.specs.Lists.{zero_from}
use Rattle.laws.specs.Signed.{is_zero}
use Rattle.laws.specs.Laws.Signed.{zero_iff}
use Rattle.laws.specs.Laws.Tests.{lt_iff, ge-iff, le_iff, eq_iff, and-iff, or-iff, nand-iff}
use Rattle.image.specs.Image.{nodes, channels, from, to, stations, depth}
use Rattle.relay.specs.Station.{clear}
use Rattle.state.specs.declared.State.{State}
use Rattle.state.specs.State.{value_at, firings_at, pending_at, station_at, queue_at}
use Rattle.fitting.specs.Fits.{cycles_fit, firings_fit, pending_fit, stations_fit, counts_fit, unused_clear, balanced, fits}
use Rattle.fitting.specs.Fits.{node_clear, pending_clear, station_clear, queue_clear}

-- an array of n places is 0 from `count` on
abbrev pub Cleared : ℕ → ℕ → List ℤ → Type 0
Cleared n count l = (i : ℕ) → i < n → count ≤ i → get_or l i (pos 0) ≡ pos 0

module _ (img : List ℕ) (s : State) where
  -- station j of channel c is 0 where it holds no token, and holds none if it is not one of the image
  abbrev pub StationClear : ℕ → ℕ → Type 0
  StationClear c j =
      let st = station_at s c j in
      Cleared 2 st.count st.tokens × ((c < channels img → stations img c ≤ j) → st.count ≡ 0)

  -- the queue of channel c is 0 where it holds no token, and holds none if the channel is not one of the image
  abbrev pub QueueClear : ℕ → Type 0
  QueueClear c = let q = queue_at s c in Cleared 8 q.count q.tokens × (channels img ≤ c → q.count ≡ 0)

  -- the counts of channel c are within their depths
  abbrev pub Within : ℕ → Type 0
  Within c = ((j : ℕ) → j < stations img c → (station_at s c j).count ≤ 2) × ((queue_at s c).count ≤ depth img c)

  -- the counts of channel c agree with the firings of its nodes
  abbrev pub Balanced : ℕ → Type 0
  Balanced c =
      pending_at s c + sum_below (λ j. (station_at s c j).count) (stations img c) + (queue_at s c).count + firings_at s (to img c) ≡
      firings_at s (from img c) + 1

pub record Places (img : List ℕ) (s : State) : Type 0 where
  pub cycled : s.cycles ≤ 1000000
  pub fired : (n : ℕ) → n < nodes img → firings_at s n ≤ s.cycles
  pub pending : (c : ℕ) → c < channels img → pending_at s c ≤ 1
  pub counts : (c : ℕ) → c < channels img → Within img s c
  pub node : (n : ℕ) → n < 64 → nodes img ≤ n → (value_at s n ≡ pos 0) × (firings_at s n ≡ 0)
  pub idle : (c : ℕ) → c < 96 → channels img ≤ c → pending_at s c ≡ 0
  pub station : (c : ℕ) → c < 96 → (j : ℕ) → j < 8 → StationClear img s c j
  pub queue : (c : ℕ) → c < 96 → QueueClear img s c
  pub balance : (c : ℕ) → c < channels img → Balanced img s c

pub zero_from_lem : (n count : ℕ) (l : List ℤ) → (zero_from n count l ≡ true) ↔ Cleared n count l
unfolding zero_from
zero_from_lem n count l =
    all_iff (λ i. ltb i count || is_zero (get_or l i (pos 0))) n λ i.
    or-iff (ltb i count) (is_zero (get_or l i (pos 0))) (ge-iff i count) (zero_iff (get_or l i (pos 0)))

module _ (img : List ℕ) (s : State) where
  pub cycles_say : (cycles_fit img s ≡ true) ↔ (s.cycles ≤ 1000000)
  unfolding cycles_fit
  cycles_say = le_iff s.cycles 1000000

  pub firings_say : (firings_fit img s ≡ true) ↔ ((n : ℕ) → n < nodes img → firings_at s n ≤ s.cycles)
  unfolding firings_fit
  firings_say = all_iff (λ n. leb (firings_at s n) s.cycles) (nodes img) (λ n. le_iff (firings_at s n) s.cycles)

  pending_say : (pending_fit img s ≡ true) ↔ ((c : ℕ) → c < channels img → pending_at s c ≤ 1)
  unfolding pending_fit
  pending_say = all_iff (λ c. leb (pending_at s c) 1) (channels img) (λ c. le_iff (pending_at s c) 1)

  pub counts_say : (c : ℕ) → ((stations_fit img s c && leb (queue_at s c).count (depth img c)) ≡ true) ↔ Within img s c
  unfolding stations_fit
  counts_say c =
      and-iff (stations_fit img s c) (leb (queue_at s c).count (depth img c))
      (all_iff (λ j. leb (station_at s c j).count 2) (stations img c) (λ j. le_iff (station_at s c j).count 2))
      (le_iff (queue_at s c).count (depth img c))

  pub node_says : (n : ℕ) → (node_clear img s n ≡ true) ↔ (nodes img ≤ n → (value_at s n ≡ pos 0) × (firings_at s n ≡ 0))
  unfolding node_clear
  node_says n =
      or-iff (ltb n (nodes img)) (is_zero (value_at s n) && eqb (firings_at s n) 0) (ge-iff n (nodes img))
      (and-iff (is_zero (value_at s n)) (eqb (firings_at s n) 0) (zero_iff (value_at s n)) (eq_iff (firings_at s n) 0))

  pub pending_says : (c : ℕ) → (pending_clear img s c ≡ true) ↔ (channels img ≤ c → pending_at s c ≡ 0)
  unfolding pending_clear
  pending_says c = or-iff (ltb c (channels img)) (eqb (pending_at s c) 0) (ge-iff c (channels img)) (eq_iff (pending_at s c) 0)

  station_says : (c j : ℕ) → (station_clear img s c j ≡ true) ↔ StationClear img s c j
  unfolding station_clear
  station_says c j =
      let st = station_at s c j in
      let there = ltb c (channels img) && ltb j (stations img c) in
      and-iff (clear st) (there || eqb st.count 0) (zero_from_lem 2 st.count st.tokens)
      (or-iff there (eqb st.count 0)
      (nand-iff (ltb c (channels img)) (ltb j (stations img c)) (lt_iff c (channels img)) (ge-iff j (stations img c))) (eq_iff st.count 0))

  queue_says : (c : ℕ) → (queue_clear img s c ≡ true) ↔ QueueClear img s c
  unfolding queue_clear
  queue_says c =
      let q = queue_at s c in
      and-iff (zero_from 8 q.count q.tokens) (ltb c (channels img) || eqb q.count 0) (zero_from_lem 8 q.count q.tokens)
      (or-iff (ltb c (channels img)) (eqb q.count 0) (ge-iff c (channels img)) (eq_iff q.count 0))

  -- the places of channel c: its pending byte, its stations and its queue
  unfoldable pub channel_clear : ℕ → Bool
  channel_clear c = pending_clear img s c && all_below (station_clear img s c) 8 && queue_clear img s c

  pub channel_says :
      (c : ℕ)
      → (channel_clear c ≡ true) ↔
      (((channels img ≤ c → pending_at s c ≡ 0) × ((j : ℕ) → j < 8 → StationClear img s c j)) × QueueClear img s c)
  unfolding channel_clear
  channel_says c =
      let row = all_below (station_clear img s c) 8 in
      and-iff (pending_clear img s c && row) (queue_clear img s c)
      (and-iff (pending_clear img s c) row (pending_says c) (all_iff (station_clear img s c) 8 (station_says c))) (queue_says c)

  pub balance_says : (c : ℕ) → (balanced img s c ≡ true) ↔ Balanced img s c
  unfolding balanced
  balance_says c =
      eq_iff (pending_at s c + sum_below (λ j. (station_at s c j).count) (stations img c) + (queue_at s c).count + firings_at s (to img c))
      (firings_at s (from img c) + 1)

  -- a state passes the test of number 21 exactly if its places have what the conditions say
  pub fits_iff : (fits img s ≡ true) ↔ Places img s
  unfolding fits counts_fit unused_clear channel_clear
  fits_iff =
      let a = cycles_fit img s in
      let b = firings_fit img s in
      let c = pending_fit img s in
      let d = counts_fit img s in
      let e = all_below (node_clear img s) 64 in
      let f = all_below channel_clear 96 in
      let within : ℕ → Bool = λ k. stations_fit img s k && leb (queue_at s k).count (depth img k) in
      let says =
      and-iff (a && b && c && d && (e && f)) (all_below (balanced img s) (channels img))
      (and-iff (a && b && c && d) (e && f)
      (and-iff (a && b && c) d (and-iff (a && b) c (and-iff a b cycles_say firings_say) pending_say) (all_iff within (channels img) counts_say))
      (and-iff e f (all_iff (node_clear img s) 64 node_says) (all_iff channel_clear 96 channel_says)))
      (all_iff (balanced img s) (channels img) balance_says) in (
        λ q.
            let p = says.0 q in
            let clear = p.0.1 in
            record {
              cycled = p.0.0.0.0.0;
              fired = p.0.0.0.0.1;
              pending = p.0.0.0.1;
              counts = p.0.0.1;
              node = clear.0;
              idle = λ k h. (clear.1 k h).0.0;
              station = λ k h. (clear.1 k h).0.1;
              queue = λ k h. (clear.1 k h).1;
              balance = p.1;
            },
        λ p. says.1 (((((p.cycled, p.fired), p.pending), p.counts), (p.node, λ k h. ((p.idle k h, p.station k h), p.queue k h))), p.balance),
      )
