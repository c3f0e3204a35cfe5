-- Laws of a row in one cycle: first in, first out; and the same cycle by index, which is how a loop works it. Assumes nothing.
use Rattle.std.specs.Prelude.{Bool, true, false, not, List, [], ◌∷◌, ◌++◌, ◌≡◌, refl, ℕ, zero, suc, ◌+◌, ◌<◌, ◌≤◌, ℤ, pos, length, get_or, take, drop}
use Rattle.std.proofs.Common.{append_assoc, append-nil, sym, ap, ◌∙◌, not-suc-le-zero, le_of_suc-le-suc, arith, length-append, take-append-drop, drop_of_length-le, drop-cons}
use Rattle.laws.specs.Below.{sum_below}
use Rattle.laws.specs.Lists.{holds_two, drop_if, Stored}
use Rattle.laws.specs.Table.{table}
use Rattle.relay.specs.Link.{passing}
use Rattle.relay.specs.Laws.Link.{take_few}
use Rattle.relay.specs.Station.{station_of, place_after}
use Rattle.relay.specs.Laws.Station.{place_few, station-stored}
use Rattle.relay.specs.Row.{stopped, leaving, row_after, contents, link_at}

-- a place hands on its oldest token or keeps it
hand_on : (place : List ℤ) (stop : Bool) → passing (take 1 place) stop ++ drop_if (not stop) place ≡ place
hand_on place true = refl
hand_on [] false = refl
hand_on (x ∷ place) false = refl

-- FIFO law of a row: what leaves, and then what is there after the cycle, is what was there, and then what enters
pub row_fifo :
    (link : List ℤ) (row : List (List ℤ)) (stop : Bool)
    → passing (leaving link row) stop ++ contents (row_after link row stop) ≡ contents row ++ passing link (stopped row stop)
unfolding stopped leaving row_after contents place_after
row_fifo link [] stop = append-nil (passing link stop)
row_fifo link (place ∷ row) stop =
    let s = stopped row stop in
    let enters = passing link (holds_two place) in
    sym (append_assoc (passing (leaving (take 1 place) row) stop) (contents (row_after (take 1 place) row stop)) (place_after link place s))
    ∙ ap (λ (t : List ℤ). t ++ place_after link place s) (row_fifo (take 1 place) row stop)
    ∙ append_assoc (contents row) (passing (take 1 place) s) (place_after link place s)
    ∙ ap (λ (t : List ℤ). contents row ++ t)
    (sym (append_assoc (passing (take 1 place) s) (drop_if (not s) place) enters) ∙ ap (λ (t : List ℤ). t ++ enters) (hand_on place s))
    ∙ sym (append_assoc (contents row) place enters)

-- FIFO law of a row from link j on: what leaves, and then what is there after the cycle, is what was there, and then what passes on link j
pub part_fifo :
    (link : List ℤ) (row : List (List ℤ)) (stop : Bool) (j : ℕ) → j ≤ length row
    → passing (leaving link row) stop ++ contents (drop j (row_after link row stop)) ≡
    contents (drop j row) ++ passing (link_at link row j) (stopped (drop j row) stop)
unfolding leaving row_after link_at
part_fifo link row stop zero h = row_fifo link row stop
part_fifo link [] stop (suc j) h = absurd (not-suc-le-zero h)
part_fifo link (place ∷ row) stop (suc zero) h = row_fifo (take 1 place) row stop
part_fifo link (place ∷ row) stop (suc (suc j)) h = part_fifo (take 1 place) row stop (suc j) (le_of_suc-le-suc h)

-- the tokens of a row and of its entering link behind the one that the leaving link shows
unfoldable pub behind : List ℤ → List (List ℤ) → List ℤ
behind link [] = []
behind link (place ∷ row) = behind (take 1 place) row ++ (drop 1 place ++ link)

-- what the leaving link shows is the oldest token of the row and of its entering link
pub leaving-first : (link : List ℤ) (row : List (List ℤ)) → contents row ++ link ≡ leaving link row ++ behind link row
unfolding leaving contents behind
leaving-first link [] = sym (append-nil link)
leaving-first link (place ∷ row) =
    let first = take 1 place in
    append_assoc (contents row) place link
    ∙ ap (λ (t : List ℤ). contents row ++ (t ++ link)) (sym (take-append-drop 1 place))
    ∙ ap (λ (t : List ℤ). contents row ++ t) (append_assoc first (drop 1 place) link)
    ∙ sym (append_assoc (contents row) first (drop 1 place ++ link))
    ∙ ap (λ (t : List ℤ). t ++ (drop 1 place ++ link)) (leaving-first first row)
    ∙ append_assoc (leaving first row) (behind first row) (drop 1 place ++ link)

-- how many tokens a row holds, counted by its places
contents_last : (row : List (List ℤ)) (place : List ℤ) → length (contents (row ++ (place ∷ []))) ≡ length (contents row) + length place
unfolding contents
contents_last [] place = omega arith
contents_last (first ∷ row) place =
    let a = length-append (contents (row ++ (place ∷ []))) first in
    let b = length-append (contents row) first in
    omega (arith, a, b, contents_last row place)

pub contents_count : (f : ℕ → List ℤ) (n : ℕ) → length (contents (table f n)) ≡ sum_below (λ j. length (f j)) n
unfolding contents table sum_below
contents_count f zero = refl
contents_count f (suc n) = rw (contents_last, contents_count f n)

-- no place of a row holds more than two tokens after a cycle, if none did before
pub row_few :
    (link : List ℤ) (row : List (List ℤ)) (stop : Bool) → length link ≤ 1 → ((j : ℕ) → length (get_or row j []) ≤ 2)
    → (j : ℕ) → length (get_or (row_after link row stop) j []) ≤ 2
unfolding row_after
row_few link [] stop l h j = omega arith
row_few link (place ∷ row) stop l h zero = place_few link place (stopped row stop) l (h 0)
row_few link (place ∷ row) stop l h (suc j) = row_few (take 1 place) row stop (take_few place) (λ k. h (suc k)) j

-- every unused place of a row's records is 0 after a cycle, if no place held more than two tokens before
pub row-stored :
    (link : List ℤ) (row : List (List ℤ)) (stop : Bool) → length link ≤ 1 → ((j : ℕ) → length (get_or row j []) ≤ 2)
    → (j : ℕ) → let s = station_of (get_or (row_after link row stop) j []) in Stored 2 (pos 0) s.tokens s.count
row-stored link row stop l h j = station-stored (get_or (row_after link row stop) j []) (row_few link row stop l h j)

-- ---- by index
pub link_few : (link : List ℤ) (row : List (List ℤ)) (j : ℕ) → length link ≤ 1 → length (link_at link row j) ≤ 1
unfolding link_at
link_few link row zero h = h
link_few link row (suc j) h = take_few (get_or row j [])

pub length-after : (link : List ℤ) (row : List (List ℤ)) (stop : Bool) → length (row_after link row stop) ≡ length row
unfolding row_after
length-after link [] stop = refl
length-after link (place ∷ row) stop = ap suc (length-after (take 1 place) row stop)

pub leaving-at : (link : List ℤ) (row : List (List ℤ)) → leaving link row ≡ link_at link row (length row)
unfolding leaving link_at
leaving-at link [] = refl
leaving-at link (place ∷ []) = refl
leaving-at link (place ∷ next ∷ row) = leaving-at (take 1 place) (next ∷ row)

-- whether link j is stopped: "Link j below r is stopped while station j + 1 holds 2 tokens"
pub stopped_inside : (row : List (List ℤ)) (stop : Bool) (j : ℕ) → j < length row → stopped (drop j row) stop ≡ holds_two (get_or row j [])
unfolding stopped
stopped_inside row stop j h = rw (drop-cons row j [] h)

pub stopped_end : (row : List (List ℤ)) (stop : Bool) (j : ℕ) → length row ≤ j → stopped (drop j row) stop ≡ stop
unfolding stopped
stopped_end row stop j h = rw (drop_of_length-le row h)

-- place j of a row after a cycle, from the link above it and the stop below it
pub after-at :
    (link : List ℤ) (row : List (List ℤ)) (stop : Bool) (j : ℕ) → j < length row
    → get_or (row_after link row stop) j [] ≡ place_after (link_at link row j) (get_or row j []) (stopped (drop (suc j) row) stop)
unfolding row_after link_at
after-at link [] stop j h = absurd (not-suc-le-zero h)
after-at link (place ∷ row) stop zero h = refl
after-at link (place ∷ row) stop (suc zero) h = after-at (take 1 place) row stop zero (le_of_suc-le-suc h)
after-at link (place ∷ row) stop (suc (suc j)) h = after-at (take 1 place) row stop (suc j) (le_of_suc-le-suc h)
