-- Lemmas for reading back: a reader finds what was written behind other bytes, and at the front of them. Assumes nothing.
use mathlib.Core.List.{List, [], ◌∷◌, ◌++◌, append_assoc}
use Rattle.std.proofs.Common.{⊎_elim, ap, ap₂, ◌∙◌, not-suc-le-zero, zero-add, add-zero, length-append, get_or-append-add}
use Rattle.std.specs.Prelude.{◌≡◌, ℕ, zero, suc, ◌+◌, ◌*◌, ◌^◌, ◌<◌, ℤ, pos, length}
use Rattle.std.proofs.Math.Path.{sym}
use Rattle.std.proofs.Math.Nat.{add_assoc}
use Rattle.std.proofs.Math.ListN.{get_or, get_or-append}
use Rattle.std.proofs.Math.Seq.{get_or-append_seam}
use Rattle.std.specs.Int.Signed.{mag}
use Rattle.laws.specs.Laws.Cases.{below_suc}
use Rattle.laws.specs.Table.{table}
use Rattle.laws.specs.Laws.Table.{length-table, table_at, table_same, table_own}
use Rattle.numbers.specs.Numbers.{number_bytes, signed_bytes, four_bytes, signed_in}
use Rattle.numbers.specs.Laws.Numbers.{number_long, signed_long, byte_behind, number-behind, signed-behind}
use Rattle.numbers.proofs.Back.{number_front, signed_front}
use Rattle.relay.specs.declared.Station.{Station}
use Rattle.relay.specs.Station.{no_station}
use Rattle.shell.specs.declared.Queue.{Queue}
use Rattle.state.specs.declared.Node.{Node}
use Rattle.state.specs.declared.State.{State}
use Rattle.state.specs.State.{no_node, no_queue, node_at, pending_at, queue_at}
use Rattle.writer.specs.Laws.Items.{flat_next}
use Rattle.layout.specs.Places.{node_length, record_length, queue_length, nodes_place, pending_place, stations_place, queues_place}
use Rattle.layout.specs.Bytes.{each, node_bytes, station_bytes, queue_bytes, state_bytes, node_in, station_in, queue_in, places_in}
use Rattle.layout.specs.Laws.Bytes.{node_long, station_long, queue_long, each_long}
use Rattle.layout.specs.Typed.{Typed}

-- ---- behind other bytes
module _ (xs ys : List ℕ) where
  pub node_behind : (k : ℕ) → node_in (xs ++ ys) (length xs + k) ≡ node_in ys k
  unfolding node_in
  node_behind k = rw (signed-behind xs ys k, add_assoc (length xs) k 4, number-behind xs ys (k + 4))

  pub station-behind : (k : ℕ) → station_in (xs ++ ys) (length xs + k) ≡ station_in ys k
  unfolding station_in
  station-behind k = rw (signed-behind xs ys k, byte_behind xs ys k 8, add_assoc (length xs) k 4, signed-behind xs ys (k + 4))

  pub queue_behind : (k : ℕ) → queue_in (xs ++ ys) (length xs + k) ≡ queue_in ys k
  unfolding queue_in
  queue_behind k =
      let e =
      table_same (λ i. signed_in (xs ++ ys) (length xs + k + 4 * i)) (λ i. signed_in ys (k + 4 * i)) 8
      (λ i h. rw (add_assoc (length xs) k (4 * i)) (signed-behind xs ys (k + 4 * i))) in
      rw (e, byte_behind xs ys k 32)

-- ---- one after another: a reader that does not mind what stands before, and that finds what stands at the front
module _
    {A : Type 0} (f : A → List ℕ) (read : List ℕ → ℕ → A) (w : ℕ) (long : (x : A) → length (f x) ≡ w)
    (behind : (xs ys : List ℕ) (k : ℕ) → read (xs ++ ys) (length xs + k) ≡ read ys k) (Good : A → Type 0)
    (front : (x : A) (ys : List ℕ) → Good x → read (f x ++ ys) 0 ≡ x) where
  each_front : (g : ℕ → A) (n i : ℕ) (ys : List ℕ) → i < n → Good (g i) → read (each f g n ++ ys) (w * i) ≡ g i
  each_front g zero i ys h good = absurd (not-suc-le-zero h)
  each_front g (suc n) i ys h good =
      let e : each f g (suc n) ++ ys ≡ each f g n ++ (f (g n) ++ ys) = rw (flat_next f g n) (append_assoc (each f g n) (f (g n)) ys) in
      ⊎_elim
      (λ (q : i ≡ n).
      let p : w * i ≡ length (each f g n) + 0 = rw (each_long f w long g n, q) (sym (add-zero (w * n))) in
      rw (e, p, behind (each f g n) (f (g n) ++ ys) 0, ← q) (front (g i) ys good))
      (λ (l : i < n). rw e (each_front g n i (f (g n) ++ ys) l good))
      (below_suc h)

  pub each_back :
      (g : ℕ → A) (n i : ℕ) (xs ys : List ℕ) (at : ℕ) → i < n → Good (g i) → length xs ≡ at → read (xs ++ (each f g n ++ ys)) (at + w * i) ≡ g i
  each_back g n i xs ys at h good e = rw (← e) (behind xs (each f g n ++ ys) (w * i) ∙ each_front g n i ys h good)

-- ---- at the front
-- a list, read one by one
own : {A : Type 0} (l : List A) (d : A) (n : ℕ) → length l ≡ n → table (λ i. get_or l i d) n ≡ l
own l d n long = ap (table (λ i. get_or l i d)) (sym long) ∙ sym (table_own l d)

-- tokens one after another, in front of a count
tokens_front :
    (l : List ℤ) (n : ℕ) (ys : List ℕ) → length l ≡ n → ((k : ℕ) → k < n → mag (get_or l k (pos 0)) < 2 ^ 31)
    → table (λ i. signed_in (each signed_bytes (λ k. get_or l k (pos 0)) n ++ ys) (0 + 4 * i)) n ≡ l
tokens_front l n ys long good =
    let g : ℕ → ℤ = λ k. get_or l k (pos 0) in
    table_same (λ i. signed_in (each signed_bytes g n ++ ys) (0 + 4 * i)) g n
    (λ i h. rw (zero-add (4 * i)) (each_front signed_bytes signed_in 4 signed_long signed-behind (λ z. mag z < 2 ^ 31) signed_front g n i ys h (good i h)))
    ∙ own l (pos 0) n long

count_front : (l : List ℤ) (n count : ℕ) (ys : List ℕ) → get_or ((each signed_bytes (λ k. get_or l k (pos 0)) n ++ (count ∷ [])) ++ ys) (4 * n) 0 ≡ count
count_front l n count ys =
    let first = each signed_bytes (λ k. get_or l k (pos 0)) n in
    rw (append_assoc first (count ∷ []) ys, ← each_long signed_bytes 4 signed_long (λ k. get_or l k (pos 0)) n) (get_or-append_seam first count ys 0)

-- the ranges of a record's numbers
abbrev pub GoodNode : Node → Type 0
GoodNode n = (mag n.value < 2 ^ 31) × (n.firings < 2 ^ 32)

abbrev pub GoodTokens : ℕ → List ℤ → Type 0
GoodTokens n l = (length l ≡ n) × ((k : ℕ) → k < n → mag (get_or l k (pos 0)) < 2 ^ 31)

pub node_front : (n : Node) (ys : List ℕ) → GoodNode n → node_in (node_bytes n ++ ys) 0 ≡ n
unfolding node_in node_bytes
node_front n ys good =
    let first = signed_bytes n.value in
    let rest = number_bytes n.firings ++ ys in
    let p : 4 ≡ length first + 0 = rw signed_long in
    let f : four_bytes (first ++ rest) 4 ≡ n.firings =
    ap (λ k. four_bytes (first ++ rest) k) p ∙ number-behind first rest 0 ∙ number_front n.firings ys good.1 in
    rw (append_assoc first (number_bytes n.firings) ys)
    (ap₂ (λ value firings. record { value = value; firings = firings }) (signed_front n.value rest good.0) f)

pub station_front : (s : Station) (ys : List ℕ) → GoodTokens 2 s.tokens → station_in (station_bytes s ++ ys) 0 ≡ s
unfolding station_in station_bytes table
station_front s ys good =
    let first = each signed_bytes (λ k. get_or s.tokens k (pos 0)) 2 in
    let e = tokens_front s.tokens 2 (s.count ∷ ys) good.0 good.1 in
    rw (count_front s.tokens 2 s.count ys, append_assoc first (s.count ∷ []) ys)
    (ap (λ (l : List ℤ). record { tokens = l; count = s.count }) e)

pub queue_front : (q : Queue) (ys : List ℕ) → GoodTokens 8 q.tokens → queue_in (queue_bytes q ++ ys) 0 ≡ q
unfolding queue_in queue_bytes
queue_front q ys good =
    let first = each signed_bytes (λ k. get_or q.tokens k (pos 0)) 8 in
    let e = tokens_front q.tokens 8 (q.count ∷ ys) good.0 good.1 in
    rw (count_front q.tokens 8 q.count ys, append_assoc first (q.count ∷ []) ys)
    (ap (λ (l : List ℤ). record { tokens = l; count = q.count }) e)

-- ---- a state, part by part, and what stands behind it
whole_state :
    (s : State) {cycles : ℕ} {nodes : List Node} {pending : List ℕ} {stations : List Station} {queues : List Queue}
    → cycles ≡ s.cycles → nodes ≡ s.nodes → pending ≡ s.pending → stations ≡ s.stations → queues ≡ s.queues
    → record { cycles = cycles; nodes = nodes; pending = pending; stations = stations; queues = queues } ≡ s
whole_state s a b c d e = rw (a, b, c, d, e)

module _ (s : State) (typed : Typed s) (rest : List ℕ) where
  abbrev cycles : List ℕ
  cycles = number_bytes s.cycles

  abbrev cores : List ℕ
  cores = each node_bytes (node_at s) 64

  abbrev pending : List ℕ
  pending = table (pending_at s) 96

  abbrev stations : List ℕ
  stations = each station_bytes (λ i. get_or s.stations i no_station) 768

  abbrev queues : List ℕ
  queues = each queue_bytes (queue_at s) 96

  -- the bytes, with the brackets where each part is read
  abbrev bytes : List ℕ
  bytes = cycles ++ (cores ++ (pending ++ (stations ++ (queues ++ rest))))

  whole : state_bytes s ++ rest ≡ bytes
  unfolding state_bytes
  whole =
      append_assoc cycles (cores ++ (pending ++ (stations ++ queues))) rest
      ∙ ap (λ (l : List ℕ). cycles ++ l)
      (append_assoc cores (pending ++ (stations ++ queues)) rest
      ∙ ap (λ (l : List ℕ). cores ++ l)
      (append_assoc pending (stations ++ queues) rest ∙ ap (λ (l : List ℕ). pending ++ l) (append_assoc stations queues rest)))

  cycles_back : four_bytes bytes 0 ≡ s.cycles
  cycles_back = number_front s.cycles (cores ++ (pending ++ (stations ++ (queues ++ rest)))) typed.cycled

  nodes_back : table (λ n. node_in bytes (nodes_place + node_length * n)) 64 ≡ s.nodes
  unfolding node_at
  nodes_back =
      table_same (λ n. node_in bytes (nodes_place + node_length * n)) (node_at s) 64
      (λ n h.
      each_back node_bytes node_in node_length node_long node_behind GoodNode node_front (node_at s) 64 n cycles (pending ++ (stations ++ (queues ++ rest))) nodes_place h
      (typed.valued n h, typed.fired n h) (number_long s.cycles))
      ∙ own s.nodes no_node 64 typed.shaped.nodes

  -- what stands before the pending bytes, the stations and the queues
  before_pending : length (cycles ++ cores) ≡ pending_place
  before_pending = length-append cycles cores ∙ rw (number_long, each_long node_bytes node_length node_long (node_at s) 64)

  before_stations : length ((cycles ++ cores) ++ pending) ≡ stations_place
  before_stations = length-append (cycles ++ cores) pending ∙ rw (before_pending, length-table)

  before_queues : length (((cycles ++ cores) ++ pending) ++ stations) ≡ queues_place
  before_queues =
      length-append ((cycles ++ cores) ++ pending) stations
      ∙ rw (before_stations, each_long station_bytes record_length station_long (λ i. get_or s.stations i no_station) 768)

  at-pending : bytes ≡ (cycles ++ cores) ++ (pending ++ (stations ++ (queues ++ rest)))
  at-pending = sym (append_assoc cycles cores (pending ++ (stations ++ (queues ++ rest))))

  at-stations : bytes ≡ ((cycles ++ cores) ++ pending) ++ (stations ++ (queues ++ rest))
  at-stations = at-pending ∙ sym (append_assoc (cycles ++ cores) pending (stations ++ (queues ++ rest)))

  at-queues : bytes ≡ (((cycles ++ cores) ++ pending) ++ stations) ++ (queues ++ rest)
  at-queues = at-stations ∙ sym (append_assoc ((cycles ++ cores) ++ pending) stations (queues ++ rest))

  pending_back : table (λ c. get_or bytes (pending_place + c) 0) 96 ≡ s.pending
  unfolding pending_at
  pending_back =
      table_same (λ c. get_or bytes (pending_place + c) 0) (pending_at s) 96
      (λ c h.
      rw (at-pending, ← before_pending)
      (get_or-append-add (cycles ++ cores) (pending ++ (stations ++ (queues ++ rest))) c 0
      ∙ get_or-append pending (stations ++ (queues ++ rest)) 0 c (rw length-table h) ∙ table_at (pending_at s) 96 c 0 h))
      ∙ own s.pending 0 96 typed.shaped.pending

  stations_back : table (λ i. station_in bytes (stations_place + record_length * i)) 768 ≡ s.stations
  stations_back =
      table_same (λ i. station_in bytes (stations_place + record_length * i)) (λ i. get_or s.stations i no_station) 768
      (λ i h.
      rw at-stations
      (each_back station_bytes station_in record_length station_long station-behind (λ x. GoodTokens 2 x.tokens) station_front
      (λ i. get_or s.stations i no_station) 768 i ((cycles ++ cores) ++ pending) (queues ++ rest) stations_place h (typed.shaped.station i h, typed.held i h)
      before_stations))
      ∙ own s.stations no_station 768 typed.shaped.stations

  queues_back : table (λ c. queue_in bytes (queues_place + queue_length * c)) 96 ≡ s.queues
  unfolding queue_at
  queues_back =
      table_same (λ c. queue_in bytes (queues_place + queue_length * c)) (queue_at s) 96
      (λ c h.
      rw at-queues
      (each_back queue_bytes queue_in queue_length queue_long queue_behind (λ x. GoodTokens 8 x.tokens) queue_front (queue_at s) 96 c
      (((cycles ++ cores) ++ pending) ++ stations) rest queues_place h (typed.shaped.queue c h, typed.queued c h) before_queues))
      ∙ own s.queues no_queue 96 typed.shaped.queues

  pub places_back : places_in (state_bytes s ++ rest) ≡ s
  unfolding places_in
  places_back =
      let parts : places_in bytes ≡ s = whole_state s cycles_back nodes_back pending_back stations_back queues_back in
      ap places_in whole ∙ parts
