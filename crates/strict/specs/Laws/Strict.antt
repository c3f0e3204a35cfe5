-- Laws of the strict system. Assumes nothing.
use Rattle.std.specs.Prelude.{List, ◌≡◌, ℕ, zero, suc, ◌<◌, pos, length, get_or}
use Rattle.std.proofs.Common.{ap}
use Rattle.laws.specs.Laws.Table.{length-table, table_at, table_same}
use Rattle.image.specs.Image.{nodes, parameter, from}
use Rattle.image.specs.Alike.{SameButDepths, Alike}
use Rattle.image.specs.Laws.Alike.{bytes_alike}
use Rattle.node.specs.Node.{next_of}
use Rattle.node.specs.Laws.Node.{next_same}
use Rattle.strict.specs.Strict.{strict_next, strict_cycle, strict}

pub length_cycle : (img : List ℕ) (t : ℕ) → length (strict_cycle img t) ≡ nodes img
unfolding strict_cycle
length_cycle img zero = length-table (parameter img) (nodes img)
length_cycle img (suc t) = length-table (strict_next img (strict_cycle img t)) (nodes img)

-- node n's value of cycle 0 is its parameter
pub strict-first : (img : List ℕ) (n : ℕ) → n < nodes img → strict img n 0 ≡ parameter img n
unfolding strict_cycle strict
strict-first img n h = table_at (parameter img) (nodes img) n (pos 0) h

-- node n's value of cycle t + 1 is its next value from what the channels' from nodes have in cycle t
pub strict_next_lem : (img : List ℕ) (n t : ℕ) → n < nodes img → strict img n (suc t) ≡ next_of img (λ c. strict img (from img c) t) n (strict img n t)
unfolding strict_next strict_cycle strict
strict_next_lem img n t h = table_at (strict_next img (strict_cycle img t)) (nodes img) n (pos 0) h

-- depths do not count: images that differ in station and queue bytes only have the same strict system
cycle_alike : (img other : List ℕ) → Alike img other → (t : ℕ) → strict_cycle img t ≡ strict_cycle other t
unfolding strict_cycle strict_next
cycle_alike img other a zero = rw (← a.sizes.0) (table_same (parameter img) (parameter other) (nodes img) (λ n h. (a.cores n h).1))
cycle_alike img other a (suc t) =
    let vs = strict_cycle img t in
    rw (← a.sizes.0, ← (cycle_alike img other a t))
    (table_same (strict_next img vs) (strict_next other vs) (nodes img)
    (λ n h. next_same img other a (λ c. get_or vs (from img c) (pos 0)) (λ c. get_or vs (from other c) (pos 0)) n (get_or vs n (pos 0)) h
    (λ c l e. ap (λ k. get_or vs k (pos 0)) (a.wires c l).0)))

pub depths_free : (img other : List ℕ) → SameButDepths img other → (t : ℕ) → strict_cycle img t ≡ strict_cycle other t
depths_free img other same = cycle_alike img other (bytes_alike img other same)
