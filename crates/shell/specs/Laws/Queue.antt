-- Laws of queues, at every depth at once: what push, pop and a cycle do to the tokens held, and that unused places stay 0. Assumes nothing.
use Rattle.std.specs.Prelude.{None, Some, is_some, unwrap_or, Bool, true, false, not, ◌&&◌, List, [], ◌∷◌, ◌++◌, ◌≡◌, refl, ℕ, suc, ◌+◌, ◌-◌, ◌<◌, ◌≤◌, ltb, ℤ, pos, length, get_or, take, drop, set}
use Rattle.std.specs.List.{copy_within}
use Rattle.std.proofs.Common.{⊎_elim, append-nil, subst, sym, ap, ap₂, ◌∙◌, not-suc-le-zero, arith, lt-ltb, ne_eqb, length-append, length-take, drop_of_length-le}
use Rattle.std.proofs.lemmas.Bool.{lt-leb, le-leb}
use Rattle.laws.specs.Laws.Cases.{lt-or-ge}
use Rattle.laws.specs.Table.{table}
use Rattle.laws.specs.Laws.Table.{table_own}
use Rattle.laws.specs.Choice.{◌if◌else◌}
use Rattle.laws.specs.Lists.{drop_if, Stored}
use Rattle.laws.specs.Laws.Lists.{take-padded, padded-set, padded-drop, stored-padded, stored_own, stored_count}
use Rattle.relay.specs.Link.{Link, token, link_of, passing}
use Rattle.relay.specs.Laws.Link.{link_take, link_first}
use Rattle.shell.specs.declared.Queue.{Queue}
use Rattle.shell.specs.Queue.{waiting, queue_of, full, pushed, popped, queue_after}

-- the tokens that a queue was written from are those that it holds
pub waiting_of : (xs : List ℤ) → waiting (queue_of xs) ≡ xs
unfolding waiting queue_of
waiting_of xs = take-padded 8 (pos 0) xs

-- a queue whose unused places are 0 holds as many tokens as it counts, and is what its tokens write
pub waiting_count : (q : Queue) → Stored 8 (pos 0) q.tokens q.count → length (waiting q) ≡ q.count
unfolding waiting
waiting_count q h = stored_count 8 (pos 0) q.tokens q.count h

pub queue_own : (q : Queue) → Stored 8 (pos 0) q.tokens q.count → q ≡ queue_of (waiting q)
unfolding waiting queue_of
queue_own q h =
    ap₂ {C = Queue} (λ (t : List ℤ) (n : ℕ). record { tokens = t; count = n })
    (stored_own 8 (pos 0) q.tokens q.count h) (sym (waiting_count q h))

-- a count that is over the eight places stops the link as eight do
pub full_waiting : (depth : ℕ) (q : Queue) → length q.tokens ≡ 8 → depth ≤ 8 → full depth q.count ≡ full depth (length (waiting q))
unfolding full waiting
full_waiting depth q e h =
    let long = length-take q.count q.tokens in
    ⊎_elim
    (λ (k : q.count < depth). rw (lt-leb depth q.count k, lt-leb depth (length (take q.count q.tokens)) (omega (arith, long))))
    (λ (k : depth ≤ q.count). rw (le-leb depth q.count k, le-leb depth (length (take q.count q.tokens)) (omega (arith, long, e))))
    (lt-or-ge q.count depth)

-- a queue that was written from eight tokens at most has 0 in its unused places; by `after_of` it is so after a cycle too
pub queue_stored : (xs : List ℤ) → length xs ≤ 8 → Stored 8 (pos 0) (queue_of xs).tokens (queue_of xs).count
unfolding queue_of
queue_stored xs h = stored-padded 8 (pos 0) xs h

-- push: a token that arrives is the last
pub push_of : (xs arriving : List ℤ) → length arriving ≤ 1 → length xs + length arriving ≤ 8 → pushed (queue_of xs) arriving ≡ queue_of (xs ++ arriving)
unfolding pushed queue_of
push_of xs [] l h = rw append-nil
push_of xs (x ∷ []) l h =
    let k : length xs < 8 = omega arith in
    let n : length (xs ++ (x ∷ [])) ≡ length xs + 1 = length-append xs (x ∷ []) in
    rw (lt-ltb (length xs) 8 k, padded-set 8 (pos 0) xs x k, n)
push_of xs (x ∷ y ∷ arriving) l h = absurd (not-suc-le-zero {n = 0} (omega arith))

-- pop: the first token is gone
pub pop_of : (x : ℤ) (xs : List ℤ) → length xs < 8 → popped (queue_of (x ∷ xs)) ≡ queue_of xs
unfolding popped queue_of
pop_of x xs h =
    let n : suc (length xs) - 1 ≡ length xs = omega arith in
    rw (padded-drop 8 (pos 0) x xs h, n)

-- a cycle of a queue: what arrives is the last, and what is taken is the first of all
bypass : (arriving : List ℤ) → length arriving ≤ 1 → queue_after (queue_of []) arriving true ≡ queue_of (drop 1 arriving)
unfolding queue_after queue_of
bypass arriving l = rw (drop_of_length-le arriving l)

taken : (x : ℤ) (xs arriving : List ℤ) → queue_after (queue_of (x ∷ xs)) arriving true ≡ pushed (popped (queue_of (x ∷ xs))) arriving
unfolding queue_after queue_of
taken x xs arriving = rw (ne_eqb (suc (length xs)) 0 (λ e. omega arith))

pub after_of :
    (xs arriving : List ℤ) (fires : Bool) → length arriving ≤ 1 → length xs + length arriving ≤ 8
    → queue_after (queue_of xs) arriving fires ≡ queue_of (drop_if fires (xs ++ arriving))
unfolding queue_after
after_of xs arriving false l h = push_of xs arriving l h
after_of [] arriving true l h = bypass arriving l
after_of (x ∷ xs) arriving true l h =
    taken x xs arriving ∙ ap (λ (q : Queue). pushed q arriving) (pop_of x xs (omega arith)) ∙ push_of xs arriving l (omega arith)

-- ---- the code's steps
-- pop, as the code works it: all tokens a place nearer to the front, and 0 behind them
pub popped_is :
    (q : Queue) → length q.tokens ≡ 8
    → record { tokens = set (copy_within q.tokens 1 (length q.tokens) 0) 7 (pos 0); count = q.count - 1 } ≡ popped q
unfolding popped table
popped_is q long =
    subst (λ (t : List ℤ). ◌≡◌ {A = Queue} (record { tokens = set (copy_within t 1 (length t) 0) 7 (pos 0); count = q.count - 1 })
    (record { tokens = drop 1 t ++ (pos 0 ∷ []); count = q.count - 1 }))
    (sym (table_own q.tokens (pos 0) ∙ ap (table (λ (i : ℕ). get_or q.tokens i (pos 0))) long)) refl

-- a queue that holds a token shows its first
pub link_waiting :
    (q : Queue) (ys : List ℤ) → length q.tokens ≡ 8 → 0 < q.count
    → link_of (waiting q ++ ys) ≡ Some (get_or q.tokens 0 (pos 0))
unfolding waiting
link_waiting q ys long h =
    let e = link_take q.count q.tokens h (omega arith) in
    link_first (waiting q) ys (ap (λ (l : Link). is_some l) e) ∙ e

-- push, by the flags that the code tests
pub push_flag :
    (q : Queue) (link : Link) (stop : Bool)
    → pushed q (passing (token link) stop) ≡
    (record { tokens = set q.tokens q.count (unwrap_or link (pos 0)); count = q.count + 1 } if (is_some link && not stop) && ltb q.count 8 else q)
unfolding pushed
push_flag q None true = refl
push_flag q None false = refl
push_flag q (Some x) true = refl
push_flag q (Some x) false = refl

-- a queue whose node does not fire, and to which nothing passes, stays
pub after_idle :
    (q : Queue) (link : Link) (stop fires : Bool) → fires ≡ false → is_some link && not stop ≡ false
    → queue_after q (passing (token link) stop) fires ≡ q
unfolding queue_after pushed
after_idle q link stop fires e z = rw (e, push_flag q link stop, z)
