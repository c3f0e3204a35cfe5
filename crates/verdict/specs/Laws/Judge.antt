-- What it says that one of the judge's tests fails at a node or a channel, both ways. Assumes nothing.
use Rattle.std.specs.Prelude.{false, not, ◌||◌, List, ◌↔◌, ◌≡◌, ℕ, ◌<◌, ◌≤◌, eqb, leb, ltb, length}
use Rattle.std.proofs.Common.{ap, eqb-true, eq-eqb}
use Rattle.std.proofs.lemmas.Bool.{not-false}
use Rattle.laws.specs.Range.{outside}
use Rattle.laws.specs.Laws.Range.{inside}
use Rattle.laws.specs.Laws.Tests.{ge-iff, gt-iff, nor-iff}
use Rattle.kinds.specs.Kinds.{last_kind, inputs}
use Rattle.image.specs.Image.{nodes, channels, kind, from, to, port, stations, depth, length_due}
use Rattle.verdict.specs.Judge.{bad_kind, bad_wire, bad_port, bad_stations, bad_depth}

module _ (img : List ℕ) where
  pub sizes_ok : ((outside 1 64 (nodes img) || ltb 96 (channels img)) ≡ false) ↔ ((1 ≤ nodes img) × (nodes img ≤ 64) × (channels img ≤ 96))
  sizes_ok =
      let both = nor-iff (outside 1 64 (nodes img)) (ltb 96 (channels img)) (inside 1 64 (nodes img)) (ge-iff 96 (channels img)) in
      (λ e. let h = both.0 e in (h.0.0, h.0.1, h.1), λ h. both.1 ((h.0, h.1), h.2))

  pub length_ok : (not (eqb (length img) (length_due img)) ≡ false) ↔ (length img ≡ length_due img)
  length_ok =
      let due = length_due img in
      (λ e. eqb-true (length img) due (not-false (eqb (length img) due) e), λ q. ap not (eq-eqb (length img) due q))

  pub kind_ok : (n : ℕ) → (bad_kind img n ≡ false) ↔ ((1 ≤ kind img n) × (kind img n ≤ last_kind))
  unfolding bad_kind
  kind_ok n = inside 1 last_kind (kind img n)

  pub wire_ok : (c : ℕ) → (bad_wire img c ≡ false) ↔ ((from img c < nodes img) × (to img c < nodes img))
  unfolding bad_wire
  wire_ok c =
      nor-iff (leb (nodes img) (from img c)) (leb (nodes img) (to img c)) (gt-iff (nodes img) (from img c)) (gt-iff (nodes img) (to img c))

  pub port_ok : (c : ℕ) → (bad_port img c ≡ false) ↔ (port img c < inputs (kind img (to img c)))
  unfolding bad_port
  port_ok c = gt-iff (inputs (kind img (to img c))) (port img c)

  pub stations_ok : (c : ℕ) → (bad_stations img c ≡ false) ↔ (stations img c ≤ 8)
  unfolding bad_stations
  stations_ok c = ge-iff 8 (stations img c)

  pub depth_ok : (c : ℕ) → (bad_depth img c ≡ false) ↔ ((1 ≤ depth img c) × (depth img c ≤ 8))
  unfolding bad_depth
  depth_ok c = inside 1 8 (depth img c)
