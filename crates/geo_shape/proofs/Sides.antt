-- The relations of two sets of points, seen from the other one.
use Rattle.std.proofs.Common.{ℤ, ◌↔◌, Bool, false, IsTrue}
use Rattle.geo_seg.specs.Points.{RationalPoint}
use Rattle.geo_seg.specs.Nearer.{AreApart, AreWithin}
use Rattle.geo_seg.proofs.BoxLemmas.{nearer_sym}
use Rattle.geo_seg.specs.Distances.{IsGap}
use Rattle.geo_seg.proofs.GapLemmas.{gap_along}
use Rattle.geo_poly.proofs.Reach.{Near-sym}

apart_back : (P Q : RationalPoint → Type 0) (d : ℤ) → AreApart P Q d → AreApart Q P d
apart_back P Q d h = record { apart = λ q p o u n. h.apart p q u o (nearer_sym d q p n) }

within_back : (P Q : RationalPoint → Type 0) (d : ℤ) → AreWithin P Q d → AreWithin Q P d
within_back P Q d h = record { from = h.to; to = h.from; of_first = h.of_second; of_second = h.of_first; within = Near-sym false d h.from h.to h.within }

pub apart_turned : (P Q : RationalPoint → Type 0) (d : ℤ) (b : Bool) → (IsTrue b ↔ AreApart P Q d) → (IsTrue b ↔ AreApart Q P d)
apart_turned P Q d b e = (λ t. apart_back P Q d (e.0 t), λ h. e.1 (apart_back Q P d h))

pub within_turned : (P Q : RationalPoint → Type 0) (d : ℤ) (b : Bool) → (IsTrue b ↔ AreWithin P Q d) → (IsTrue b ↔ AreWithin Q P d)
within_turned P Q d b e = (λ t. within_back P Q d (e.0 t), λ h. e.1 (within_back Q P d h))

pub gap_turned : (P Q : RationalPoint → Type 0) (most gap : ℤ) → IsGap (λ d. AreApart P Q d) most gap → IsGap (λ d. AreApart Q P d) most gap
gap_turned P Q most gap is = gap_along (λ d. AreApart P Q d) (λ d. AreApart Q P d) most gap (λ g some. (apart_back Q P g, apart_back P Q g)) is
