-- The kinds of cores, and their numbers.
use Rattle.std.specs.Prelude.{true, Result, MatchResult, ◌≡◌, ℕ}
use Rattle.refusal.specs.declared.Refusal.{Refusal}
use Rattle.refusal.specs.declared.Refusal.TheVariants.{Kind as NoKind}
use Rattle.kinds.specs.Kinds.{no_kind}
use Rattle.pearl.specs.declared.Kind.{Kind}
use Rattle.pearl.specs.declared.Kind.TheVariants.{Count, Hold, Total, Negate, Halve, Sum, Difference, Larger, Choose}

-- the byte that stands for a kind in an image
abbrev pub kind_byte : Kind → ℕ
kind_byte Count = 1
kind_byte Hold = 2
kind_byte Total = 3
kind_byte Negate = 4
kind_byte Halve = 5
kind_byte Sum = 6
kind_byte Difference = 7
kind_byte Larger = 8
kind_byte Choose = 9

-- what a number is read as: the kind that has it, or the refusal of a number that no kind has
abbrev pub Decodes : ℕ → Result Kind Refusal → Type 0
Decodes number r = MatchResult r (λ kind. kind_byte kind ≡ number) (λ refusal. (refusal ≡ NoKind) × (no_kind number ≡ true))
