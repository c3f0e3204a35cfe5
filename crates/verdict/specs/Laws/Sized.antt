-- The sizes of an image are sound where none of the numbers 1 to 3 has a cause, in facts. Assumes nothing.
use Rattle.std.specs.Prelude.{List, ◌≡◌, ℕ, ◌≤◌, length}
use Rattle.std.proofs.Common.{arith, le-ltb}
use Rattle.laws.specs.Laws.Choice.{past}
use Rattle.image.specs.Image.{nodes, channels, length_due}
use Rattle.verdict.specs.Judge.{sizes_number, contents_number, judge}
use Rattle.verdict.specs.Laws.Judge.{sizes_ok, length_ok}

-- what the rules ask of an image's sizes
pub record Sized (img : List ℕ) : Type 0 where
  pub some_nodes : 1 ≤ nodes img
  pub few_nodes : nodes img ≤ 64
  pub few_channels : channels img ≤ 96
  pub whole : length img ≡ length_due img

pub sized : (img : List ℕ) → sizes_number img ≡ 0 → Sized img
unfolding sizes_number
sized img e =
    let h1 = past 0 _ _ e in
    let h2 = past 1 _ _ h1.1 in
    let h3 = past 2 _ _ h2.1 in
    let z = (sizes_ok img).0 h2.0 in
    record { some_nodes = z.0; few_nodes = z.1; few_channels = z.2; whole = (length_ok img).0 h3.0 }

pub unsized : (img : List ℕ) → Sized img → sizes_number img ≡ 0
unfolding sizes_number
unsized img s =
    rw (
      le-ltb (length img) 2 (omega (arith, s.whole)),
      (sizes_ok img).1 (s.some_nodes, s.few_nodes, s.few_channels),
      (length_ok img).1 s.whole,
    )

-- where the sizes are sound the contents decide
pub judge_sized : (img : List ℕ) → sizes_number img ≡ 0 → judge img ≡ contents_number img
unfolding judge
judge_sized img e = rw e
