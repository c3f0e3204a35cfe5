-- `input::read_to_end` meets its contract. Assumes nothing.
use Rattle.std.proofs.Common.{◌≡◌, ℕ, ◌+◌, ◌≤◌, List, ◌++◌, rules, length, take, drop, sym, ap, ◌∙◌, subst, le_refl, drop_at, length-take-le}
use Rattle.std.specs.Io.KnownBytes.{Consumes}
use Rattle.std.proofs.lemmas.Slice.{take-put_mid_below}
use Rattle.std.proofs.KnownBytes.{Consumes-trans}
use borrow.Rule.Slice.PartMut.{put_mid, post_of}
use lib.Seq.{take-add, take-append-le}
use Rattle.input.proofs.read_to_end.Goals as goal

-- n bytes put behind the first `kept`
kept_more : (kept room n : ℕ) (old new : List ℕ) → kept ≤ length old → n ≤ length new → take (kept + n) (put_mid kept room old new) ≡ take kept old ++ take n new
kept_more kept room n old new within fits =
    let all = put_mid kept room old new in
    let rest = post_of kept room old in
    take-add kept n all
    ∙ ap (λ l. l ++ take n (drop kept all)) (take-put_mid_below _ _ _ _ _ (le_refl _) within)
    ∙ ap (λ l. take kept old ++ take n l) (drop_at (take kept old) (new ++ rest) kept (length-take-le kept old within))
    ∙ ap (λ l. take kept old ++ l) (take-append-le n new rest fits)

pub loop-read-preserved : goal.loop-read-preserved
loop-read-preserved g c =
    let before = c.loop-read.invariant in
    let read = c.in-Ok.ensures in (
      search rules,
      search rules,
      subst (Consumes _ _) (sym (kept_more _ _ _ c.loop-read.buffer c.read.new.buf before.0 read.bound.0))
          (Consumes-trans _ _ _ _ _ before.2 read.bytes.0),
    )
