-- Ends of lines are counted by their places.
use Rattle.std.proofs.Common.{◌≡◌, ◌∙◌, refl, ap, sym, ℕ, suc, ◌+◌, ℤ, Bool, true, false, cond, List, [], ◌∷◌, ◌++◌, Option, Some, arith}
use Rattle.std.specs.BTreeMap as tree
use Rattle.std.specs.BTreeMap.{BTreeMap}
use Rattle.courtyard.specs.Ends.{is_same}
use Rattle.courtyard.specs.EndGroups.{place_cmp}
use Rattle.courtyard.proofs.Places.{same_true, at_place}
use Rattle.footprint_read.specs.declared.sides.RawSegment.{RawSegment}
use Rattle.footprint_read.specs.declared.closing.Count.{Count}
use Rattle.footprint_read.specs.Courtyards.{at, is_long, ends_at, many_at}
use Rattle.footprint_read.specs.Closing.{tally, AreCounts}

pub entered : (m n : BTreeMap (ℤ × ℤ) Count) (p : ℤ × ℤ) (found : Option Count) (g : Count) → found ≡ tree.get place_cmp m p → ((c : ℕ) → found ≡ tally c → Some g ≡ tally (suc c))
    → ((k : ℤ × ℤ) → tree.get place_cmp n k ≡ cond (tree.is_at (place_cmp p) k) (Some g) (tree.get place_cmp m k))
    → (k : ℤ × ℤ) (c : ℕ) → tree.get place_cmp m k ≡ tally c → tree.get place_cmp n k ≡ tally (c + cond (is_same p k) 1 0)
entered m n p found g here more new k c old = let step = new k in by (is_same p k) refl (rw (at_place p k) at step)
  where
    by : (b : Bool) → is_same p k ≡ b → tree.get place_cmp n k ≡ cond (is_same p k) (Some g) (tree.get place_cmp m k) → tree.get place_cmp n k ≡ tally (c + cond (is_same p k) 1 0)
    by true h step =
        let one : p ≡ k = same_true p k h in
        let first : found ≡ tally c = here ∙ ap (λ q. tree.get place_cmp m q) one ∙ old in
        let last : Some g ≡ tally (suc c) = more c first in
        let e : c + 1 ≡ suc c = omega arith in
        rw (h, e) (rw h at step ∙ last)
    by false h step =
        let e : c + 0 ≡ c = omega arith in
        rw (h, e) (rw h at step ∙ old)

pub line_entered : (m n o : BTreeMap (ℤ × ℤ) Count) (line : RawSegment) → is_long line ≡ true
    → ((k : ℤ × ℤ) (c : ℕ) → tree.get place_cmp m k ≡ tally c → tree.get place_cmp n k ≡ tally (c + cond (is_same (at line.a) k) 1 0))
    → ((k : ℤ × ℤ) (c : ℕ) → tree.get place_cmp n k ≡ tally c → tree.get place_cmp o k ≡ tally (c + cond (is_same (at line.b) k) 1 0))
    → (k : ℤ × ℤ) (c : ℕ) → tree.get place_cmp m k ≡ tally c → tree.get place_cmp o k ≡ tally (c + ends_at k line)
line_entered m n o line long first second k c old =
    let a = cond (is_same (at line.a) k) 1 0 in
    let b = cond (is_same (at line.b) k) 1 0 in
    let e : (c + a) + b ≡ c + (a + b) = omega arith in
    rw long (second k (c + a) (first k c old) ∙ ap (λ (x : ℕ). tally x) e)

pub line_passed : (m : BTreeMap (ℤ × ℤ) Count) (line : RawSegment) → is_long line ≡ false → (k : ℤ × ℤ) (c : ℕ) → tree.get place_cmp m k ≡ tally c → tree.get place_cmp m k ≡ tally (c + ends_at k line)
line_passed m line short k c old =
    let e : c ≡ c + 0 = omega arith in
    rw short (old ∙ ap (λ (x : ℕ). tally x) e)

many_more : (k : ℤ × ℤ) (lines : List RawSegment) (line : RawSegment) → many_at k (lines ++ line ∷ []) ≡ many_at k lines + ends_at k line
many_more k [] line = let n = ends_at k line in omega arith
many_more k (l ∷ lines) line =
    let h = many_more k lines line in
    omega (arith, h)

pub counts_more : (lines : List RawSegment) (line : RawSegment) (m n : BTreeMap (ℤ × ℤ) Count) → AreCounts lines m
    → ((k : ℤ × ℤ) (c : ℕ) → tree.get place_cmp m k ≡ tally c → tree.get place_cmp n k ≡ tally (c + ends_at k line)) → AreCounts (lines ++ line ∷ []) n
counts_more lines line m n h step = record { found = λ k. step k (many_at k lines) (h.found k) ∙ ap (λ (x : ℕ). tally x) (sym (many_more k lines line)) }
