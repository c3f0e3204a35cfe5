-- A link between two places of a channel shows a token, or none while it is void. As a list it is that token alone, or empty.
use Rattle.std.specs.Prelude.{Bool, Option, None, Some, is_some, unwrap_or, List, [], ◌∷◌, ℕ, ℤ, pos}
use Rattle.std.specs.Option.{option_to_list}
use Prim.Native.Char.{code}
use Rattle.laws.specs.Choice.{◌if◌else◌}
use Rattle.relay.specs.declared.Reading.{Reading}

abbrev pub Link : Type 0
Link = Option ℤ

-- the token that a link shows, if it is valid
abbrev pub token : Link → List ℤ
token link = option_to_list link

-- the link that leaves a place: "valid while [it] holds a token, and shows the oldest"
abbrev pub link_of : List ℤ → Link
link_of [] = None
link_of (x ∷ xs) = Some x

-- "A token passes on a link exactly when the link is valid and not stopped. A stop on a void link has no effect."
abbrev pub passing : List ℤ → Bool → List ℤ
passing link stop = [] if stop else link

-- the token that does not pass on a link stays where it is
abbrev pub staying : List ℤ → Bool → List ℤ
staying link stop = link if stop else []

-- "T passed, R valid and stopped, I void, S void and stopped"
unfoldable pub letter : Bool → Bool → ℕ
letter valid stop = (code "R" if stop else code "T") if valid else (code "S" if stop else code "I")

-- "T and R carry the shown value; I and S carry 0"
unfoldable pub reading : Link → Bool → Reading
reading link stop = record { letter = letter (is_some link) stop; value = unwrap_or link (pos 0) }
