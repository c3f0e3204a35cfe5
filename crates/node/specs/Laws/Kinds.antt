-- Laws of the kinds that are read. Assumes nothing.
use Rattle.std.specs.Prelude.{List, ◌≡◌, ℕ, suc, ◌<◌, set, replicate, refl}
use Rattle.std.proofs.Common.{⊎_elim, arith, get_or-set_same, get_or-set_other}
use Rattle.std.proofs.Math.ListN.{length-set}
use Rattle.laws.specs.Laws.Cases.{below_suc}
use Rattle.laws.specs.Laws.Lists.{replicate_rest}
use Rattle.image.specs.Image.{kind}
use Rattle.pearl.specs.declared.Kind.{Kind}
use Rattle.pearl.specs.declared.Kind.TheVariants.{Count}
use Rattle.pearl.specs.Kind.{kind_byte}
use Rattle.node.specs.Kinds.{KindsBelow}

-- an array of the first kind throughout holds the kinds of the nodes below 0
pub kinds_none : (img : List ℕ) → KindsBelow img 0 (replicate 64 Count)
kinds_none img = record { long = refl; each = λ k l. absurd (omega arith); others = λ k l. replicate_rest 64 k Count }

-- writing the kind of node n carries an array of the kinds below n on to n + 1
pub kinds_more :
    (img : List ℕ) (n : ℕ) (kinds : List Kind) (x : Kind) → n < 64 → KindsBelow img n kinds → kind_byte x ≡ kind img n
    → KindsBelow img (suc n) (set kinds n x)
kinds_more img n kinds x h below e =
    record {
      long = rw length-set below.long;
      each =
          λ k l.
          ⊎_elim
          (λ (q : k ≡ n). rw (q, get_or-set_same kinds n x Count (omega (arith, below.long))) e)
          (λ (b : k < n). rw (get_or-set_other kinds n k x Count (λ q. omega arith)) (below.each k b))
          (below_suc l);
      others = λ k l. rw (get_or-set_other kinds n k x Count (λ q. omega arith)) (below.others k (omega arith));
    }
