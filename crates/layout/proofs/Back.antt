-- What is written is read back: bytes that begin with those of a state are read as that state. What `Typed` asks holds of every state that a list of
-- calls comes to (`typed-fitting` of `token_rule_c`).
use Rattle.std.specs.Prelude.{List, ◌++◌, ◌≡◌, ℕ, ◌+◌, length}
use Rattle.std.proofs.Common.{◌∙◌, arith, length-append}
use Rattle.std.proofs.lemmas.Bool.{le-leb}
use Rattle.state.specs.declared.State.{State}
use Rattle.layout.specs.Places.{state_length}
use Rattle.layout.specs.Bytes.{state_bytes, state_in}
use Rattle.layout.specs.Laws.Bytes.{state_long}
use Rattle.layout.specs.Typed.{Typed}
use Rattle.layout.proofs.BackLaws.{places_back}

-- the bytes of a state, whatever follows them, are that state
pub state_back : (s : State) → Typed s → (rest : List ℕ) → state_in (state_bytes s ++ rest) ≡ s
unfolding state_in
state_back s typed rest =
    let long : length (state_bytes s ++ rest) ≡ state_length + length rest = length-append (state_bytes s) rest ∙ rw (state_long s) in
    rw (le-leb state_length (length (state_bytes s ++ rest)) (omega (arith, long))) (places_back s typed rest)
