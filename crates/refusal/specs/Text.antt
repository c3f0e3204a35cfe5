-- How a refusal is printed.
use Rattle.std.specs.Prelude.{List, ℕ, ◌++◌, codes}
use Rattle.std.specs.Fmt.{decimal}

-- `refused` and the number
abbrev pub refusal_text : ℕ → List ℕ
refusal_text number = codes "refused " ++ decimal number
