-- The bypassable queue at the end of a channel: up to eight tokens and a count, stored "oldest first, from [the] first place", every unused place 0.
use Rattle.std.specs.Prelude.{Bool, not, List, [], ◌∷◌, ◌++◌, ℕ, ◌+◌, ◌-◌, eqb, leb, ltb, ℤ, pos, length, take, drop, set}
use Rattle.laws.specs.Choice.{◌if◌else◌}
use Rattle.laws.specs.Lists.{padded}
use Rattle.shell.specs.declared.Queue.{Queue}

-- the tokens that a queue holds, oldest first
unfoldable pub waiting : Queue → List ℤ
waiting q = take q.count q.tokens

-- the queue that holds a list of tokens, eight at most
unfoldable pub queue_of : List ℤ → Queue
queue_of tokens = record { tokens = padded 8 (pos 0) tokens; count = length tokens }

-- "Link r is stopped while the queue holds its full depth, even if its node fires in this cycle"
unfoldable pub full : ℕ → ℕ → Bool
full depth count = leb depth count

-- the queue with the token that arrives behind the others, if there is a place for it
unfoldable pub pushed : Queue → List ℤ → Queue
pushed q [] = q
pushed q (x ∷ xs) = record { tokens = set q.tokens q.count x; count = q.count + 1 } if ltb q.count 8 else q

-- the queue without its oldest token: the others move up one place
unfoldable pub popped : Queue → Queue
popped q = record { tokens = drop 1 q.tokens ++ (pos 0 ∷ []); count = q.count - 1 }

-- a queue after a cycle. Where the node fires and the queue is empty, the token that arrives "is used at once: the bypass"
unfoldable pub queue_after : Queue → List ℤ → Bool → Queue
queue_after q arriving fires =
    pushed q arriving if not fires else
    q if eqb q.count 0 else
    pushed (popped q) arriving
