-- Laws of links. Assumes nothing.
use Prim.Native.Char.{code}
use Rattle.std.specs.Prelude.{None, Some, is_some, Bool, true, false, not, ◌&&◌, List, [], ◌∷◌, ◌++◌, ◌≡◌, refl, ℕ, zero, suc, ◌<◌, ◌≤◌, eqb, ltb, ℤ, pos, length, get_or, take}
use Rattle.std.specs.Bool.{then_some}
use Rattle.std.proofs.lemmas.Bool.{false≢true}
use Rattle.std.proofs.Common.{append-nil, sym, ap, not-suc-le-zero, arith, lt-ltb}
use Rattle.laws.specs.Lists.{holds, one_if}
use Rattle.relay.specs.Link.{Link, token, link_of, passing, staying, letter, reading}

-- a link shows one token at most
pub token_few : (link : Link) → length (token link) ≤ 1
token_few None = omega arith
token_few (Some x) = omega arith

-- a link is what its token says: there is no more to tell of it
pub link_own : (link : Link) → link ≡ link_of (token link)
link_own None = refl
link_own (Some x) = refl

-- a flag with a value beside it is a link
pub token_if : (valid : Bool) (x : ℤ) → token (then_some valid x) ≡ one_if valid x
token_if true x = refl
token_if false x = refl

-- the link that leaves a place shows its oldest token
pub token_of : (place : List ℤ) → token (link_of place) ≡ take 1 place
token_of [] = refl
token_of (x ∷ xs) = refl

-- the link that leaves n tokens at the front of an array shows the first element
pub link_take : (n : ℕ) (l : List ℤ) → 0 < n → 0 < length l → link_of (take n l) ≡ Some (get_or l 0 (pos 0))
link_take zero l h k = absurd (not-suc-le-zero h)
link_take (suc n) [] h k = absurd (not-suc-le-zero k)
link_take (suc n) (x ∷ l) h k = refl

-- what stands behind the oldest token of a place is not shown
pub link_first : (xs ys : List ℤ) → is_some (link_of xs) ≡ true → link_of (xs ++ ys) ≡ link_of xs
link_first [] ys e = absurd (false≢true e)
link_first (x ∷ xs) ys e = refl

pub valid_holds : (xs : List ℤ) → is_some (link_of xs) ≡ true → holds xs ≡ true
valid_holds [] e = e
valid_holds (x ∷ xs) e = refl

pub valid_count : (xs : List ℤ) → is_some (link_of xs) ≡ ltb 0 (length xs)
valid_count [] = refl
valid_count (x ∷ xs) = sym (lt-ltb 0 (suc (length xs)) (omega arith))

pub link_of-take : (place : List ℤ) → link_of (take 1 place) ≡ link_of place
link_of-take [] = refl
link_of-take (x ∷ place) = refl

pub take_few : (place : List ℤ) → length (take 1 place) ≤ 1
take_few [] = omega arith
take_few (x ∷ place) = omega arith

-- what passes on a link, and what stays, is what was there
pub passing-staying : (link : List ℤ) (stop : Bool) → passing link stop ++ staying link stop ≡ link
passing-staying link true = refl
passing-staying link false = append-nil link

pub passing_few : (link : List ℤ) (stop : Bool) → length link ≤ 1 → length (passing link stop) ≤ 1
passing_few link true h = omega arith
passing_few link false h = h

-- a token passes exactly when the link is valid and not stopped
pub passing_flag : (valid stop : Bool) (x : ℤ) → holds (passing (one_if valid x) stop) ≡ valid && not stop
passing_flag true true x = refl
passing_flag true false x = refl
passing_flag false true x = refl
passing_flag false false x = refl

pub passing-holds : (link : Link) (stop : Bool) → holds (passing (token link) stop) ≡ is_some link && not stop
passing-holds None stop = passing_flag false stop (pos 0)
passing-holds (Some x) stop = passing_flag true stop x

-- the reading of a link tells no more than its token
pub reading-token : (link : Link) (stop : Bool) → reading link stop ≡ reading (link_of (token link)) stop
reading-token link stop = ap (λ (l : Link). reading l stop) (link_own link)

-- the value beside a letter T is the token that passes
pub letter-passing :
    (link : List ℤ) (stop : Bool) → length link ≤ 1
    → let r = reading (link_of link) stop in one_if (eqb r.letter (code "T")) r.value ≡ passing link stop
unfolding letter reading
letter-passing [] true h = refl
letter-passing [] false h = refl
letter-passing (x ∷ []) true h = refl
letter-passing (x ∷ []) false h = refl
letter-passing (x ∷ y ∷ link) stop h = absurd (not-suc-le-zero {n = 0} (omega arith))
