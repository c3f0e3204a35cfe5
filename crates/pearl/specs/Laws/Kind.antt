-- Laws of kinds and of their numbers. Assumes nothing.
use Rattle.std.specs.Prelude.{true, false, Result, Ok, Err, IsOk, ◌≡◌, refl, ℕ}
use Rattle.std.proofs.Common.{true≢false, sym, ◌∙◌}
use Rattle.std.proofs.lemmas.Result.{MatchResult-at_ok}
use Rattle.refusal.specs.declared.Refusal.{Refusal}
use Rattle.refusal.specs.declared.Refusal.TheVariants.{Kind as NoKind}
use Rattle.kinds.specs.Kinds.{no_kind}
use Rattle.pearl.specs.declared.Kind.{Kind}
use Rattle.pearl.specs.declared.Kind.TheVariants.{Count, Hold, Total, Negate, Halve, Sum, Difference, Larger, Choose}
use Rattle.pearl.specs.Kind.{kind_byte, Decodes}

-- each kind has the number of a kind
pub is_kind : (kind : Kind) → no_kind (kind_byte kind) ≡ false
is_kind Count = refl
is_kind Hold = refl
is_kind Total = refl
is_kind Negate = refl
is_kind Halve = refl
is_kind Sum = refl
is_kind Difference = refl
is_kind Larger = refl
is_kind Choose = refl

-- the number of a kind gives a kind, and that kind has it
pub decodes_ok : (number : ℕ) (r : Result Kind Refusal) → no_kind number ≡ false → Decodes number r → IsOk r
decodes_ok number (Ok kind) e d = refl
decodes_ok number (Err refusal) e d = absurd (true≢false (sym d.1 ∙ e))

pub kind_byte-decoded : (number : ℕ) {r : Result Kind Refusal} {kind : Kind} → Decodes number r → r ≡ Ok kind → kind_byte kind ≡ number
kind_byte-decoded number {kind = kind} d e =
    MatchResult-at_ok (λ k. kind_byte k ≡ number) (λ refusal. (refusal ≡ NoKind) × (no_kind number ≡ true)) kind e d
