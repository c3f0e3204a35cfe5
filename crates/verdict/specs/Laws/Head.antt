-- An input of any length is judged by its first 803 bytes: no image is longer than 802, so what follows changes nothing.
use Rattle.std.specs.Prelude.{◌||◌, List, ◌≡◌, ℕ, ◌<◌, ◌≤◌, ltb, length, take}
use Rattle.std.proofs.Common.{⊎_elim, ap, ◌∙◌, arith, le-ltb, ne_eqb, get_or-take, take_all, length-take-le}
use Rattle.laws.specs.Choice.{◌then◌}
use Rattle.laws.specs.Laws.Cases.{lt-or-ge}
use Rattle.laws.specs.Laws.Choice.{alike, alike_number}
use Rattle.laws.specs.Range.{outside}
use Rattle.image.specs.Image.{nodes, channels, length_due}
use Rattle.verdict.specs.Judge.{sizes_number, contents_number, judge}
use Rattle.verdict.specs.Laws.Judge.{sizes_ok}
use Rattle.verdict.specs.Laws.Sized.{sized}

module _ (img : List ℕ) (k : ℕ) (h : 802 < k) where
  -- the first k bytes of an input, over 802, have the number of its sizes: 2 or 3 where it is longer
  pub head_sizes : sizes_number (take k img) ≡ sizes_number img
  unfolding sizes_number nodes channels
  head_sizes =
      ⊎_elim
      (λ (l : k < length img).
      rw (
        length-take-le k img (omega arith),
        get_or-take k img 0 0 (omega arith),
        get_or-take k img 1 0 (omega arith),
        le-ltb k 2 (omega arith),
        le-ltb (length img) 2 (omega arith),
      )
      (alike 2 _ _ (outside 1 64 (nodes img) || ltb 96 (channels img)) λ e.
      let z = (sizes_ok img).0 e in
      rw (ne_eqb k (length_due img) (λ q. omega arith), ne_eqb (length img) (length_due img) (λ q. omega arith))))
      (λ (l : length img ≤ k). ap sizes_number (take_all k img l))
      (lt-or-ge k (length img))

  -- where its sizes are sound they are all of it
  pub head_all : sizes_number img ≡ 0 → take k img ≡ img
  head_all e = let z = sized img e in take_all k img (omega (arith, z.few_nodes, z.few_channels, z.whole))

  -- they have its number
  pub head_judges : judge (take k img) ≡ judge img
  unfolding judge
  head_judges =
      ap (λ n. n then contents_number (take k img)) head_sizes
      ∙ alike_number (sizes_number img) _ _ (λ e. ap contents_number (head_all e))
