-- The contents of an image are sound where the judge's tests for 4 to 11 have all failed. Assumes nothing.
use Rattle.std.specs.Prelude.{false, List, ◌≡◌, ℕ, ltb}
use Rattle.laws.specs.Below.{any_below, sum_below}
use Rattle.laws.specs.Laws.Choice.{past}
use Rattle.image.specs.Image.{nodes, channels, stations}
use Rattle.verdict.specs.Judge.{depth_number, contents_number, bad_kind, bad_wire, bad_port, fed_twice, not_fed, bad_stations, bad_depth}

-- none of the numbers 4 to 11 has a cause in the image
pub record Clear (img : List ℕ) : Type 0 where
  pub no_4 : any_below (bad_kind img) (nodes img) ≡ false
  pub no_5 : any_below (bad_wire img) (channels img) ≡ false
  pub no_6 : any_below (bad_port img) (channels img) ≡ false
  pub no_7 : any_below (fed_twice img) (channels img) ≡ false
  pub no_8 : any_below (not_fed img) (nodes img) ≡ false
  pub no_9 : any_below (bad_stations img) (channels img) ≡ false
  pub no_10 : any_below (bad_depth img) (channels img) ≡ false
  pub no_11 : ltb 256 (sum_below (stations img) (channels img)) ≡ false

pub clear : (img : List ℕ) → contents_number img ≡ 0 → Clear img
unfolding contents_number depth_number
clear img e =
    let h4 = past 3 _ _ e in
    let h5 = past 4 _ _ h4.1 in
    let h6 = past 5 _ _ h5.1 in
    let h7 = past 6 _ _ h6.1 in
    let h8 = past 7 _ _ h7.1 in
    let h9 = past 8 _ _ h8.1 in
    let h10 = past 9 _ _ h9.1 in
    let h11 = past 10 _ _ h10.1 in
    record {
      no_4 = h4.0;
      no_5 = h5.0;
      no_6 = h6.0;
      no_7 = h7.0;
      no_8 = h8.0;
      no_9 = h9.0;
      no_10 = h10.0;
      no_11 = h11.0;
    }

pub unclear : (img : List ℕ) → Clear img → contents_number img ≡ 0
unfolding contents_number depth_number
unclear img s = rw (s.no_4, s.no_5, s.no_6, s.no_7, s.no_8, s.no_9, s.no_10, s.no_11)
