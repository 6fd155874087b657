-- The gap of lists, part by part: the least of the gaps of the parts.
use Rattle.std.proofs.Common.{◌≡◌, ◌⊎◌, ℕ, ◌+◌, ◌<◌, ◌≤◌, ℤ, pos, ◌*ℤ◌, ◌≤ℤ◌, Bool, true, false, cond, List, [], ◌∷◌, ◌++◌, length, get_or, take, All, inl, inr, refl, sym, ap, subst, ◌∙◌, arith}
use Rattle.std.proofs.lemmas.Int.{ints}
use Rattle.std.specs.List.{filter}
use Rattle.std.proofs.lemmas.List.Elements.{All-nil, All-cons, All-head, All-tail, All-push, All-weaker, filter_more}
use Rattle.std.proofs.lemmas.List.{take_all, append-nil}
use Rattle.geo_seg.specs.declared.shapes.Shape.{Shape}
use Rattle.geo_seg.specs.Distances.{Apart, IsGap}
use Rattle.geo_seg.proofs.GapLemmas.{int_cases, gap_same, gap_passed}
use Rattle.geo_shape.proofs.Numbers.{apart_at_less, double_le, double_from}
use Rattle.plain_types.specs.Lengths.{IsLength}
use Rattle.int_algebra.proofs.Scalars.{passed, passed_length}
use Rattle.one_item.specs.declared.parts.Part.{Part}
use Rattle.one_item.specs.CopperPairs.{Keeps}

-- a gap stays where what is kept says the same
pub gap_as : (K L : ℤ → Type 0) (v gap : ℤ) → ((g : ℤ) → K g → L g) → ((g : ℤ) → pos 1 ≤ℤ g → L g → K g) → IsGap K v gap → IsGap L v gap
gap_as K L v gap to from is = record { from = is.from; to = is.to; kept = kept is.kept; greatest = λ g least most h. is.greatest g least most (from g least h) }
  where
    kept : (gap ≡ pos 0) ⊎ K gap → (gap ≡ pos 0) ⊎ L gap
    kept (inl e) = inl e
    kept (inr h) = inr (to gap h)

-- a length and a gap that were passed from call to call
pub passed_gap : (K : ℤ → Type 0) (most gap : ℤ) → IsLength most → IsGap K (passed most) gap → IsGap K most (passed gap)
passed_gap K most gap range is = gap_passed most gap (record { from = range.from; to = omega (arith, ints, range.to) }) is

pub length_below : {K : ℤ → Type 0} (most gap : ℤ) → IsLength most → IsGap K (passed most) gap → IsLength gap
length_below most gap range is = record { from = is.from; to = omega (arith, ints, is.to, range.to, range.from) }

All-front : {X : Type 0} (P : X → Type 0) (xs : List X) (x : X) → All P (xs ++ x ∷ []) → All P xs
All-front P [] x a = All-nil P
All-front P (y ∷ ys) x a = All-cons P y ys (All-head P y (ys ++ x ∷ []) a) (All-front P ys x (All-tail P y (ys ++ x ∷ []) a))

All-last : {X : Type 0} (P : X → Type 0) (xs : List X) (x : X) → All P (xs ++ x ∷ []) → P x
All-last P [] x a = All-head P x [] a
All-last P (y ∷ ys) x a = All-last P ys x (All-tail P y (ys ++ x ∷ []) a)

-- what keeps a distance keeps each lesser one
pub record IsFalling {X : Type 0} (K : X → ℤ → Type 0) : Type 0 where
  pub lesser : (x : X) (g h : ℤ) → pos 1 ≤ℤ g → g ≤ℤ h → K x h → K x g

pub gap_both : {X : Type 0} {K : X → ℤ → Type 0} → IsFalling K → (xs : List X) (x : X) (most low gap : ℤ) → IsGap (λ g. All (λ y. K y g) xs) most low → IsGap (K x) low gap → IsGap (λ g. All (λ y. K y g) (xs ++ x ∷ [])) most gap
gap_both {X} {K} falls xs x most low gap is own = record { from = own.from; to = less own.to is.to; kept = by_own own.kept; greatest = greatest }
  where
    less : {a b c : ℤ} → a ≤ℤ b → b ≤ℤ c → a ≤ℤ c
    less h k = omega (arith, ints)

    nothing : pos 1 ≤ℤ gap → gap ≤ℤ low → low ≡ pos 0 → ⊥
    nothing h k e = omega (arith, ints)

    zero_gap : pos 0 ≤ℤ gap → gap ≤ℤ pos 0 → gap ≡ pos 0
    zero_gap h k = omega (arith, ints)

    both : K x gap → All (λ y. K y gap) xs → All (λ y. K y gap) (xs ++ x ∷ [])
    both h a = All-push (λ y. K y gap) xs x a h

    others : pos 1 ≤ℤ gap → (low ≡ pos 0) ⊎ All (λ y. K y low) xs → All (λ y. K y gap) xs
    others h (inl e) = absurd (nothing h own.to e)
    others h (inr a) = All-weaker (λ y. K y low) (λ y. K y gap) (λ y k. falls.lesser y gap low h own.to k) xs a

    by_size : K x gap → (pos 1 ≤ℤ gap) ⊎ (gap ≤ℤ pos 0) → (gap ≡ pos 0) ⊎ All (λ y. K y gap) (xs ++ x ∷ [])
    by_size h (inl some) = inr (both h (others some is.kept))
    by_size h (inr none) = inl (zero_gap own.from none)

    by_own : (gap ≡ pos 0) ⊎ K x gap → (gap ≡ pos 0) ⊎ All (λ y. K y gap) (xs ++ x ∷ [])
    by_own (inl e) = inl e
    by_own (inr h) = by_size h (int_cases gap)

    greatest : (g : ℤ) → pos 1 ≤ℤ g → g ≤ℤ most → All (λ y. K y g) (xs ++ x ∷ []) → g ≤ℤ gap
    greatest g some to a = own.greatest g some (is.greatest g some to (All-front (λ y. K y g) xs x a)) (All-last (λ y. K y g) xs x a)

module _ {X : Type 0} (K : X → ℤ → Type 0) (test : X → Bool) (xs : List X) where
  -- the chosen ones among the first n all keep the distance g
  abbrev pub KeepBelow : ℕ → ℤ → Type 0
  KeepBelow n g = All (λ x. K x g) (filter test (take n xs))

  pub gap_start : (most : ℤ) → IsLength most → IsGap (KeepBelow 0) (passed most) (passed most)
  gap_start most range = record { from = omega (arith, ints, range.from, range.to); to = omega (arith, ints); kept = inr (All-nil (λ x. K x (passed most))); greatest = λ g least to k. to }

  pub gap_end : (n : ℕ) (most gap : ℤ) → IsLength most → length xs ≤ n → IsGap (KeepBelow n) (passed most) gap → IsGap (λ g. All (λ x. K x g) (filter test xs)) most gap
  gap_end n most gap range last is =
      subst (λ (ys : List X). IsGap (λ g. All (λ x. K x g) (filter test ys)) most gap) (take_all n xs last) (gap_same (passed_length most range.from range.to) refl is)

  grown : (i : ℕ) (x : X) (b : Bool) → i < length xs → x ≡ get_or xs i x → test x ≡ b → filter test (take (i + 1) xs) ≡ filter test (take i xs) ++ cond b (x ∷ []) []
  grown i x b lt e t = filter_more test xs i x lt ∙ ap (λ y. filter test (take i xs) ++ cond (test y) (y ∷ []) []) (sym e) ∙ ap (λ r. filter test (take i xs) ++ cond r (x ∷ []) []) t

  -- one more that is not chosen
  pub gap_skip : (i : ℕ) (x : X) (most low now : ℤ) → i < length xs → x ≡ get_or xs i x → test x ≡ false → IsGap (KeepBelow i) most low → now ≡ low → IsGap (KeepBelow (i + 1)) most now
  gap_skip i x most low now lt e no_test is told =
      gap_same refl (sym told)
      (subst (λ (ys : List X). IsGap (λ g. All (λ y. K y g) ys) most low) (sym (grown i x false lt e no_test ∙ append-nil (filter test (take i xs)))) is)

  -- one more that is chosen
  pub gap_more : IsFalling K → (i : ℕ) (x : X) (most low gap now : ℤ) → i < length xs → x ≡ get_or xs i x → test x ≡ true → IsLength most → IsGap (KeepBelow i) (passed most) low → IsGap (K x) low gap → now ≡ passed gap
      → IsGap (KeepBelow (i + 1)) (passed most) now
  gap_more falls i x most low gap now lt e chosen range is own told =
      gap_same refl (sym (told ∙ passed_length gap own.from (omega (arith, ints, own.to, is.to, range.to, range.from))))
      (subst (λ (ys : List X). IsGap (λ g. All (λ y. K y g) ys) (passed most) gap) (sym (grown i x true lt e chosen)) (gap_both falls (filter test (take i xs)) x (passed most) low gap is own))

-- ---- parts
-- what is apart at a distance is apart at a lesser one
shapes_fall : (a b : Shape) (g h : ℤ) → pos 1 ≤ℤ g → g ≤ℤ h → Apart a b (pos 2 *ℤ h) → Apart a b (pos 2 *ℤ g)
shapes_fall a b g h some to far = apart_at_less a b (pos 2 *ℤ g) (pos 2 *ℤ h) (double_from g (omega (arith, ints))) (double_le g h to) far

pub other_falls : (shape : Shape) → IsFalling (λ (other : Part) g. Apart shape other.shape (pos 2 *ℤ g))
other_falls shape = record { lesser = λ other g h some to far. shapes_fall shape other.shape g h some to far }

pub part_falls : (others : List Part) → IsFalling (λ (part : Part) g. All (λ other. Apart part.shape other.shape (pos 2 *ℤ g)) others)
part_falls others = record { lesser = λ part g h some to far k d lt. shapes_fall part.shape (get_or others k d).shape g h some to (far k d lt) }

-- the gap of two lists
pub gap_of_lists : (parts others : List Part) (most gap : ℤ) → IsGap (λ g. All (λ part. All (λ other. Apart part.shape other.shape (pos 2 *ℤ g)) others) parts) most gap → IsGap (Keeps parts others) most gap
gap_of_lists parts others most gap is = gap_as (λ g. All (λ part. All (λ other. Apart part.shape other.shape (pos 2 *ℤ g)) others) parts) (Keeps parts others) most gap (λ g a. inr (record { each = a })) from is
  where
    from : (g : ℤ) → pos 1 ≤ℤ g → Keeps parts others g → All (λ part. All (λ other. Apart part.shape other.shape (pos 2 *ℤ g)) others) parts
    from g some (inl e) = absurd (omega (arith, ints))
    from g some (inr h) = h.each
