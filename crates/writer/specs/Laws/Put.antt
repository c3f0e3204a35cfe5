-- Texts stored one after another. Assumes nothing.
use Rattle.std.specs.Prelude.{List, [], ◌∷◌, ◌++◌, ◌≡◌, refl, ℕ, suc, ◌+◌, ◌-◌, ◌≤◌, length, set, take, drop}
use Rattle.std.proofs.Common.{sym, ap, ◌∙◌, zero-add, add-zero, add-suc, suc-add, add_assoc, add-one, length-append}
use Rattle.std.proofs.lemmas.List.Edits.{sets, sets-eq}
use Rattle.std.proofs.Math.Seq.{length-sets, take-length, paste}
use borrow.Rule.Slice.PartMut.{put_mid}
use Rattle.std.proofs.lemmas.Slice.{put_mid-paste}
use Rattle.std.proofs.lemmas.Bool.{le-leb}
use native.Mathlib.Omega.{arith}
use Rattle.writer.specs.Put.{Put, PutDone}

-- two texts stored one after another are one text stored
sets_sets : {A : Type 0} (xs ys l : List A) (i : ℕ) → sets (sets l i xs) (i + length xs) ys ≡ sets l i (xs ++ ys)
sets_sets [] ys l i = rw add-zero
sets_sets (x ∷ xs) ys l i = rw add-suc (rw (← suc-add i (length xs)) (sets_sets xs ys (set l i x) (suc i)))

pub put-after : {xs ys a b c : List ℕ} {i j k : ℕ} → Put xs i a b j → Put ys j b c k → Put (xs ++ ys) i a c k
put-after {xs} {ys} {a} {b} {c} {i} {j} {k} p q =
    record {
      bytes = q.bytes ∙ rw (p.bytes, p.next) (sets_sets xs ys a i);
      next = rw (q.next, p.next, length-append) (add_assoc i (length xs) (length ys));
    }

pub put-none : (i : ℕ) (l : List ℕ) → Put [] i l l i
put-none i l = record { bytes = refl; next = rw add-zero }

pub put_one : (x i : ℕ) (l : List ℕ) → Put (x ∷ []) i l (set l i x) (i + 1)
put_one x i l = record { bytes = refl; next = refl }

pub put_two : (x y i : ℕ) (l : List ℕ) → Put (x ∷ y ∷ []) i l (set (set l i x) (i + 1) y) (i + 2)
put_two x y i l = record { bytes = rw add-one; next = refl }

pub put_long : {text old new : List ℕ} {at end : ℕ} → Put text at old new end → length new ≡ length old
put_long {text} {old} {new} {at} p = ap length p.bytes ∙ length-sets old at text

-- a text stored from place 0 on stands at the front of the slice
pub put_front : {text old new : List ℕ} {end : ℕ} → length text ≤ length old → Put text 0 old new end → new ≡ text ++ drop (length text) old
put_front {text} {old} h p = p.bytes ∙ sets-eq text old 0 (rw zero-add h) ∙ rw zero-add

-- a text that is copied to a part of the slice is stored there
pub put_part :
    (text : List ℕ) {old now : List ℕ} (at : ℕ) → at + length text ≤ length old → now ≡ text
    → Put text at old (put_mid at (at + length text - at) old now) (at + length text)
put_part text {old} {now} at h e =
    let k : at + length text - at ≡ length text = omega arith in
    let part : paste old at text (length text) ≡ take at old ++ text ++ drop (at + length text) old =
    ap (λ bytes. take at old ++ bytes ++ drop (at + length text) old) (take-length text) in
    record {
      bytes = put_mid-paste at (at + length text - at) old now text (length text) e (sym k) refl ∙ part ∙ rw (sets-eq text old at h);
      next = refl;
    }

-- a text that has room is stored
pub put_done : {text old new : List ℕ} {at end : ℕ} → PutDone text at old new end → at + length text ≤ length old → Put text at old new end
put_done {text} {old} {new} {at} d h =
    let e = le-leb (at + length text) (length old) h in
    record { bytes = d.bytes ∙ rw e; next = d.next ∙ rw e }

-- the laws that store a text part by part
pub ruleset put_steps = (put_one, put_two, put-after, put_long)
