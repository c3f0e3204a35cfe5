-- The line that the program prints for an image.
use Rattle.std.specs.Prelude.{List, ℕ, ◌++◌, ◌==◌, if◌then◌else◌, codes}
use Rattle.refusal.specs.Text.{refusal_text}

-- `accepted`, or `refused` and the number of the image
abbrev pub verdict_text : ℕ → List ℕ
verdict_text number = if number == 0 then codes "accepted\n" else refusal_text number ++ codes "\n"
