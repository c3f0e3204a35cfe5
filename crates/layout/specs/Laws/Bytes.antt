-- Laws of bytes: what the writers and the readers do part by part. Assumes nothing.
use Rattle.std.specs.Prelude.{◌≡◌, refl, ℕ, ◌+◌, ◌*◌, ◌≤◌, ℤ, pos, length, get_or, drop}
use Rattle.std.proofs.Common.{sym, ◌∙◌, drop_of_length-le}
use mathlib.Core.List.{List, [], ◌∷◌, ◌++◌, append-nil, flat_map}
use native.Mathlib.Omega.{arith}
use Rattle.std.proofs.Math.ListN.{length-append}
use Rattle.laws.specs.Table.{table}
use Rattle.laws.specs.Laws.Table.{length-table, table_own}
use Rattle.writer.specs.Put.{Put}
use Rattle.writer.specs.Laws.Items.{flat_own}
use Rattle.writer.specs.Laws.Put.{put-after, put_long}
use Rattle.relay.specs.declared.Station.{Station}
use Rattle.relay.specs.Station.{no_station}
use Rattle.shell.specs.declared.Queue.{Queue}
use Rattle.state.specs.declared.Node.{Node}
use Rattle.state.specs.declared.State.{State}
use Rattle.state.specs.State.{no_node, no_queue, node_at, pending_at, queue_at}
use Rattle.numbers.specs.Numbers.{number_bytes, signed_bytes}
use Rattle.numbers.specs.Laws.Numbers.{number_long, signed_long}
use Rattle.layout.specs.Places.{node_length, record_length, queue_length, nodes_place, stations_place, state_length}
use Rattle.layout.specs.Bytes.{each, node_bytes, station_bytes, queue_bytes, state_bytes}

-- ---- how many bytes each takes
module _ {A : Type 0} (f : A → List ℕ) (w : ℕ) (long : (x : A) → length (f x) ≡ w) where
  pub flat_long : (l : List A) → length (flat_map f l) ≡ w * length l
  unfolding flat_map
  flat_long [] = omega arith
  flat_long (x ∷ l) = length-append (f x) (flat_map f l) ∙ rw (long x, flat_long l) (omega arith)

  pub each_long : (g : ℕ → A) (n : ℕ) → length (each f g n) ≡ w * n
  each_long g n = flat_long (table g n) ∙ rw (length-table g n)

  -- where a loop that stores n items stands after the last
  pub each_end : (g : ℕ → A) (n : ℕ) {at end : ℕ} {old new : List ℕ} → Put (each f g n) at old new end → end ≡ at + w * n
  each_end g n p = p.next ∙ rw (each_long g n)

  -- where a stored list of n items ends
  pub end_all :
      (l : List A) {n : ℕ} → length l ≡ n → {at end : ℕ} {old new : List ℕ} → Put (flat_map f l) at old new end
      → (end ≡ at + w * n) × (length new ≡ length old)
  end_all l e p = (p.next ∙ rw (flat_long l, e), put_long p)

-- a stored list of n items is its items stored one by one
pub each_own :
    {A : Type 0} (f : A → List ℕ) (l : List A) (d : A) {n : ℕ} → length l ≡ n → {at end : ℕ} {old new : List ℕ}
    → Put (flat_map f l) at old new end → Put (each f (λ i. get_or l i d) n) at old new end
each_own f l d e p = rw (← e, flat_own f l d) p

-- the tokens of a station or a queue are stored one by one
pub tokens_own : (tokens : List ℤ) {n : ℕ} → length tokens ≡ n → flat_map signed_bytes tokens ≡ each signed_bytes (λ i. get_or tokens i (pos 0)) n
tokens_own tokens e = rw (← e) (sym (flat_own signed_bytes tokens (pos 0)))

pub end_number : (n : ℕ) {i : ℕ} {old new : List ℕ} → Put (number_bytes n) 0 old new i → (i ≡ nodes_place) × (length new ≡ length old)
end_number n p = (omega (arith, p.next, number_long n), put_long p)

pub node_long : (n : Node) → length (node_bytes n) ≡ node_length
unfolding node_bytes
node_long n = length-append (signed_bytes n.value) (number_bytes n.firings) ∙ rw (signed_long n.value, number_long n.firings)

pub station_long : (s : Station) → length (station_bytes s) ≡ record_length
unfolding station_bytes
station_long s =
    length-append (each signed_bytes (λ i. get_or s.tokens i (pos 0)) 2) (s.count ∷ [])
    ∙ rw (each_long signed_bytes 4 signed_long (λ i. get_or s.tokens i (pos 0)) 2)

pub queue_long : (q : Queue) → length (queue_bytes q) ≡ queue_length
unfolding queue_bytes
queue_long q =
    length-append (each signed_bytes (λ i. get_or q.tokens i (pos 0)) 8) (q.count ∷ [])
    ∙ rw (each_long signed_bytes 4 signed_long (λ i. get_or q.tokens i (pos 0)) 8)

-- a text that is stored over as many bytes, or fewer, is all of them
pub all_stored : (bytes text : List ℕ) {left : List ℕ} (n : ℕ) → length bytes ≤ n → left ≡ text ++ drop n bytes → left ≡ text
all_stored bytes text n h q = q ∙ rw (drop_of_length-le bytes h, append-nil)

-- ---- a state, part by part
pub state_long : (s : State) → length (state_bytes s) ≡ state_length
unfolding state_bytes
state_long s =
    simp (
      length-append,
      number_long,
      each_long node_bytes node_length node_long,
      length-table,
      each_long station_bytes record_length station_long,
      each_long queue_bytes queue_length queue_long,
    ) refl

-- where a state's pending bytes end
pub end_pending :
    (s : State) {i j k : ℕ} {a b c d : List ℕ} → length s.nodes ≡ 64 → length s.pending ≡ 96
    → Put (number_bytes s.cycles) 0 a b i → Put (flat_map node_bytes s.nodes) i b c j → Put s.pending j c d k
    → (k ≡ stations_place) × (length d ≡ length a)
end_pending s nodes pending p q r =
    let first = end_number s.cycles p in
    let second = end_all node_bytes node_length node_long s.nodes nodes q in
    (omega (arith, first, second, r.next, pending), omega (arith, first, second, put_long r))

pub state-put :
    (s : State) {i j k m end : ℕ} {a b c d e f : List ℕ} → length s.pending ≡ 96
    → Put (number_bytes s.cycles) 0 a b i → Put (each node_bytes (λ n. get_or s.nodes n no_node) 64) i b c j → Put s.pending j c d k
    → Put (each station_bytes (λ n. get_or s.stations n no_station) 768) k d e m → Put (each queue_bytes (λ n. get_or s.queues n no_queue) 96) m e f end
    → Put (state_bytes s) 0 a f end
unfolding state_bytes node_at pending_at queue_at
state-put s long p q r t u =
    put-after p (put-after q (put-after (rw (table_own s.pending 0, long) at r) (put-after t u)))
