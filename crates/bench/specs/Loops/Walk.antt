-- What the walk over a lent row leaves of it on its way.
use Rattle.std.specs.Prelude.{List, ◌++◌, ℕ, get_or, take, drop}
use Rattle.relay.specs.declared.Station.{Station}
use Rattle.relay.specs.Station.{no_station}

-- the record at place i of a list of records
abbrev pub record_at : List Station → ℕ → Station
record_at records i = get_or records i no_station

-- a list whose places from j on hold what those of another hold
unfoldable pub from_on : {A : Type 0} → List A → List A → ℕ → List A
from_on old new j = take j old ++ drop j new
