-- The points of a polygon by their computed parity, and what is said of them.
use Rattle.std.proofs.Common.{ℤ, ◌⊎◌, ◌↔◌, IsTrue, List, [], ◌∷◌, inl, inr}
use Rattle.geo_seg.specs.declared.points.Point.{Point}
use Rattle.geo_seg.specs.declared.points.Seg.{Seg}
use Rattle.geo_seg.specs.Points.{RationalPoint, IsOn, rational_point_of}
use Rattle.geo_seg.specs.Nearer.{AreApart, AreWithin}
use Rattle.geo_seg.specs.Inside.{SomeEdge, outline, last_of, IsInside}
use Rattle.geo_seg.proofs.Parity.{is_odd, is_odd_of, odd_of_is_odd}
use Rattle.geo_poly.specs.OutlineEdges.{IsEnclosed, EndsInside}

abbrev pub Odd : List Point → RationalPoint → Type 0
Odd cs p = IsTrue (is_odd p (outline cs))

abbrev pub IsIn : List Point → RationalPoint → Type 0
IsIn cs p = SomeEdge (λ e. IsOn e p) (outline cs) ⊎ Odd cs p

abbrev pub IsPolySegApart : List Point → Seg → ℤ → Type 0
IsPolySegApart cs s d = AreApart (IsIn cs) (IsOn s) d

abbrev pub IsPolySegReached : List Point → Seg → ℤ → Type 0
IsPolySegReached cs s d = AreWithin (IsIn cs) (IsOn s) d

abbrev pub IsPolyApart : List Point → List Point → ℤ → Type 0
IsPolyApart cs ks d = AreApart (IsIn cs) (IsIn ks) d

abbrev pub IsPolyReached : List Point → List Point → ℤ → Type 0
IsPolyReached cs ks d = AreWithin (IsIn cs) (IsIn ks) d

abbrev pub Enters : List Point → List Point → Type 0
Enters [] ks = ⊥
Enters (c ∷ cs) ks = Odd ks (rational_point_of (last_of c cs))

-- ---- the same by counts
pub enclosed_where : (cs : List Point) (p : RationalPoint) → IsEnclosed cs p ↔ Odd cs p
enclosed_where cs p = (is_odd_of p (outline cs), odd_of_is_odd p (outline cs))

pub enters_where : (cs ks : List Point) → EndsInside cs ks ↔ Enters cs ks
enters_where [] ks = (λ h. h, λ h. h)
enters_where (c ∷ cs) ks = enclosed_where ks (rational_point_of (last_of c cs))

in_of_inside : (cs : List Point) (p : RationalPoint) → IsInside cs p → IsIn cs p
in_of_inside cs p (inl h) = inl h
in_of_inside cs p (inr h) = inr ((enclosed_where cs p).0 h)

inside_of_in : (cs : List Point) (p : RationalPoint) → IsIn cs p → IsInside cs p
inside_of_in cs p (inl h) = inl h
inside_of_in cs p (inr h) = inr ((enclosed_where cs p).1 h)

-- ---- the relations of sets with the same points
apart_by : (P P' Q Q' : RationalPoint → Type 0) (d : ℤ) → ((p : RationalPoint) → P' p → P p) → ((q : RationalPoint) → Q' q → Q q) → AreApart P Q d → AreApart P' Q' d
apart_by P P' Q Q' d f g h = record { apart = λ p q o u. h.apart p q (f p o) (g q u) }

within_by : (P P' Q Q' : RationalPoint → Type 0) (d : ℤ) → ((p : RationalPoint) → P p → P' p) → ((q : RationalPoint) → Q q → Q' q) → AreWithin P Q d → AreWithin P' Q' d
within_by P P' Q Q' d f g h = record { from = h.from; to = h.to; of_first = f h.from h.of_first; of_second = g h.to h.of_second; within = h.within }

pub poly_seg_apart_same : (cs : List Point) (s : Seg) (d : ℤ) → AreApart (IsInside cs) (IsOn s) d ↔ IsPolySegApart cs s d
poly_seg_apart_same cs s d = (apart_by (IsInside cs) (IsIn cs) (IsOn s) (IsOn s) d (inside_of_in cs) (λ q h. h), apart_by (IsIn cs) (IsInside cs) (IsOn s) (IsOn s) d (in_of_inside cs) (λ q h. h))

pub poly_seg_within_same : (cs : List Point) (s : Seg) (d : ℤ) → AreWithin (IsInside cs) (IsOn s) d ↔ IsPolySegReached cs s d
poly_seg_within_same cs s d = (within_by (IsInside cs) (IsIn cs) (IsOn s) (IsOn s) d (in_of_inside cs) (λ q h. h), within_by (IsIn cs) (IsInside cs) (IsOn s) (IsOn s) d (inside_of_in cs) (λ q h. h))

pub poly_apart_same : (cs ks : List Point) (d : ℤ) → AreApart (IsInside cs) (IsInside ks) d ↔ IsPolyApart cs ks d
poly_apart_same cs ks d = (apart_by (IsInside cs) (IsIn cs) (IsInside ks) (IsIn ks) d (inside_of_in cs) (inside_of_in ks), apart_by (IsIn cs) (IsInside cs) (IsIn ks) (IsInside ks) d (in_of_inside cs) (in_of_inside ks))

pub poly_within_same : (cs ks : List Point) (d : ℤ) → AreWithin (IsInside cs) (IsInside ks) d ↔ IsPolyReached cs ks d
poly_within_same cs ks d = (within_by (IsInside cs) (IsIn cs) (IsInside ks) (IsIn ks) d (in_of_inside cs) (in_of_inside ks), within_by (IsIn cs) (IsInside cs) (IsIn ks) (IsInside ks) d (inside_of_in cs) (inside_of_in ks))
