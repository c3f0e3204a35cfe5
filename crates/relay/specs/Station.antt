-- A relay station: "two tokens and a count from 0 to 2", stored "oldest first, from [the] first place", every unused place 0.
use Rattle.std.specs.Prelude.{Bool, not, List, [], ◌++◌, ℤ, pos, length, take}
use Rattle.laws.specs.Lists.{holds_two, drop_if, padded, zero_from}
use Rattle.relay.specs.declared.Station.{Station}
use Rattle.relay.specs.Link.{passing}

-- the tokens that a station holds, oldest first
unfoldable pub held : Station → List ℤ
held s = take s.count s.tokens

-- the station that holds a list of tokens, two at most
unfoldable pub station_of : List ℤ → Station
station_of tokens = record { tokens = padded 2 (pos 0) tokens; count = length tokens }

-- whether every place of a station that holds no token is 0
abbrev pub clear : Station → Bool
clear s = zero_from 2 s.count s.tokens

-- what is read past the end of an array of stations
abbrev pub no_station : Station
no_station = record { tokens = []; count = 0 }

-- a place after a cycle: its oldest token leaves unless the link below is stopped, and what passes on the link above comes in behind the others.
-- The link above is stopped while the place holds two tokens
unfoldable pub place_after : List ℤ → List ℤ → Bool → List ℤ
place_after link place stop = drop_if (not stop) place ++ passing link (holds_two place)
