-- Sums of radii, and doubled distances.
use Rattle.std.proofs.Common.{◌≡◌, ℤ, pos, ◌+ℤ◌, ◌*ℤ◌, ◌≤ℤ◌, ◌⊎◌, inl, inr, arith}
use Rattle.std.proofs.lemmas.Int.{ints}
use Rattle.geo_seg.specs.declared.shapes.Shape.{Shape}
use Rattle.geo_seg.specs.Cores.{IsPointOf}
use Rattle.geo_seg.proofs.Passed.{passed}
use Rattle.geo_seg.proofs.Distances.{apart_less}
use Rattle.geo_seg.specs.Nearer.{AreApart}
use Rattle.geo_seg.specs.Distances.{Apart, IsGap}

pub add_zero : (z : ℤ) → z +ℤ pos 0 ≡ z
add_zero z = omega (arith, ints)

pub small_kept : (z : ℤ) → pos 0 ≤ℤ z → z ≤ℤ pos 1000000000 → passed z ≡ z
small_kept z h k = omega (arith, ints)

pub doubled : (v : ℤ) → pos 0 ≤ℤ v → v ≤ℤ pos 500000000 → passed (pos 2 *ℤ passed v) ≡ pos 2 *ℤ v
doubled v h k = omega (arith, ints)

-- what is apart at a distance is apart at a lesser one
pub apart_at_less : (s t : Shape) (c e : ℤ) → pos 0 ≤ℤ c → c ≤ℤ e → Apart s t e → Apart s t c
apart_at_less s t c e h k =
    apart_less (IsPointOf s.core) (IsPointOf t.core) (s.radius +ℤ t.radius +ℤ c) (s.radius +ℤ t.radius +ℤ e)
    (sum s.radius t.radius c s.radius_from t.radius_from h) (more (s.radius +ℤ t.radius) c e k)
  where
    sum : (a b c : ℤ) → pos 0 ≤ℤ a → pos 0 ≤ℤ b → pos 0 ≤ℤ c → pos 0 ≤ℤ (a +ℤ b +ℤ c)
    sum a b c h k l = omega (arith, ints)

    more : (a c e : ℤ) → c ≤ℤ e → (a +ℤ c) ≤ℤ (a +ℤ e)
    more a c e h = omega (arith, ints)

pub double_le : (v w : ℤ) → v ≤ℤ w → (pos 2 *ℤ v) ≤ℤ (pos 2 *ℤ w)
double_le v w h = omega (arith, ints)

pub double_from : (v : ℤ) → pos 0 ≤ℤ v → pos 0 ≤ℤ (pos 2 *ℤ v)
double_from v h = omega (arith, ints)

-- the gap of shapes from that of their cores, which has the radii in it
pub gap_of_cores : (s t : Shape) (below most kept gap : ℤ)
    → pos 0 ≤ℤ below
    → most ≡ s.radius +ℤ t.radius +ℤ pos 2 *ℤ below
    → IsGap (λ d. AreApart (IsPointOf s.core) (IsPointOf t.core) d) most kept
    → pos 0 ≤ℤ gap
    → ((gap ≡ pos 0) ⊎ (s.radius +ℤ t.radius +ℤ pos 2 *ℤ gap) ≤ℤ kept)
    → ((g : ℤ) → pos 1 ≤ℤ g → (s.radius +ℤ t.radius +ℤ pos 2 *ℤ g) ≤ℤ kept → g ≤ℤ gap)
    → IsGap (λ g. Apart s t (pos 2 *ℤ g)) below gap
gap_of_cores s t below most kept gap h e is from half greatest =
    let r = s.radius +ℤ t.radius in
    let some_radii = sum s.radius t.radius s.radius_from t.radius_from in
    record {
      from = from;
      to = limit r below most kept gap h e is.to half;
      kept = by half is.kept;
      greatest = λ g some to far. greatest g some (is.greatest (r +ℤ pos 2 *ℤ g) (positive r g some_radii some) (within r g below most e to) far);
    }
  where
    sum : (a b : ℤ) → pos 0 ≤ℤ a → pos 0 ≤ℤ b → pos 0 ≤ℤ (a +ℤ b)
    sum a b h k = omega (arith, ints)

    positive : (r g : ℤ) → pos 0 ≤ℤ r → pos 1 ≤ℤ g → pos 1 ≤ℤ (r +ℤ pos 2 *ℤ g)
    positive r g h k = omega (arith, ints)

    within : (r g below most : ℤ) → most ≡ r +ℤ pos 2 *ℤ below → g ≤ℤ below → (r +ℤ pos 2 *ℤ g) ≤ℤ most
    within r g below most e h = omega (arith, ints)

    limit : (r below most kept gap : ℤ) → pos 0 ≤ℤ below → most ≡ r +ℤ pos 2 *ℤ below → kept ≤ℤ most → ((gap ≡ pos 0) ⊎ (r +ℤ pos 2 *ℤ gap) ≤ℤ kept) → gap ≤ℤ below
    limit r below most kept gap h e to (inl z) = omega (arith, ints)
    limit r below most kept gap h e to (inr l) = omega (arith, ints)

    none : (r kept gap : ℤ) → pos 0 ≤ℤ r → pos 0 ≤ℤ gap → kept ≡ pos 0 → (r +ℤ pos 2 *ℤ gap) ≤ℤ kept → gap ≡ pos 0
    none r kept gap h k e l = omega (arith, ints)

    some : (r gap : ℤ) → pos 0 ≤ℤ r → pos 0 ≤ℤ gap → pos 0 ≤ℤ (r +ℤ pos 2 *ℤ gap)
    some r gap h k = omega (arith, ints)

    by : ((gap ≡ pos 0) ⊎ (s.radius +ℤ t.radius +ℤ pos 2 *ℤ gap) ≤ℤ kept) → ((kept ≡ pos 0) ⊎ AreApart (IsPointOf s.core) (IsPointOf t.core) kept) → ((gap ≡ pos 0) ⊎ Apart s t (pos 2 *ℤ gap))
    by (inl e) k = inl e
    by (inr l) (inl e) = inl (none (s.radius +ℤ t.radius) kept gap (sum s.radius t.radius s.radius_from t.radius_from) from e l)
    by (inr l) (inr k) = inr (apart_less (IsPointOf s.core) (IsPointOf t.core) (s.radius +ℤ t.radius +ℤ pos 2 *ℤ gap) kept (some (s.radius +ℤ t.radius) gap (sum s.radius t.radius s.radius_from t.radius_from) from) l k)

pub sum_kept : (a b : ℤ) → pos 0 ≤ℤ a → a ≤ℤ pos 500000000 → pos 0 ≤ℤ b → b ≤ℤ pos 500000000 → passed (passed a +ℤ passed b) ≡ a +ℤ b
sum_kept a b h k l m = omega (arith, ints)

-- a number up to one that was passed
pub below_kept : (most z : ℤ) → pos 0 ≤ℤ most → most ≤ℤ pos 2000000000 → pos 0 ≤ℤ z → z ≤ℤ passed most → passed z ≡ z
below_kept most z h k l m = omega (arith, ints)
