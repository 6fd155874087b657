-- The closed outlines of lines.
use Rattle.std.specs.Prelude.{◌≡◌, ℕ, ◌+◌, ◌<◌, ◌≤◌, ℤ, Bool, false, ◌==◌, List, [], ◌∷◌, ◌++◌, map, Option, Some, None, ⊤}
use Rattle.std.specs.List.{slice_get, count_by}
use Rattle.geo_seg.specs.declared.points.Point.{Point}
use Rattle.geo_seg.specs.declared.points.Seg.{Seg}
use Rattle.courtyard.specs.declared.ends.LineEnd.{LineEnd}
use Rattle.courtyard.specs.Ends.{IsEndAt, opposite, point_of, is_short}

-- the line that is left from its end e leads to the point where the end f stands
pub record LineLeadsTo (lines : List Seg) (e f : LineEnd) : Type 0 where
  pub raw_point : ℤ × ℤ
  pub arrives : IsEndAt lines (opposite e) raw_point
  pub leaves : IsEndAt lines f raw_point

-- the first of the ends, or t where there is none
abbrev pub first_or : LineEnd → List LineEnd → LineEnd
first_or t [] = t
first_or t (e ∷ es) = e

-- each of the ends leads to the next, and the last one to t
abbrev pub LeadTo : List Seg → List LineEnd → LineEnd → Type 0
LeadTo lines [] t = ⊤
LeadTo lines (e ∷ es) t = LineLeadsTo lines e (first_or t es) × LeadTo lines es t

-- no line of the ends is less than i
abbrev pub AreFrom : ℕ → List LineEnd → Type 0
AreFrom i [] = ⊤
AreFrom i (e ∷ es) = (i ≤ e.line) × AreFrom i es

-- one outline, as the ends that it leaves from: a cycle that begins with its least line, left from its start
abbrev pub IsOutline : List Seg → List LineEnd → Type 0
IsOutline lines [] = ⊥
IsOutline lines (e ∷ es) = (e.far ≡ false) × AreFrom e.line es × LeadTo lines (e ∷ es) e

-- each of the lists is an outline
abbrev pub EachOutline : List Seg → List (List LineEnd) → Type 0
EachOutline lines [] = ⊤
EachOutline lines (o ∷ os) = IsOutline lines o × EachOutline lines os

-- how many times the line i stands in an outline, and in all outlines together
abbrev pub times : ℕ → List LineEnd → ℕ
times i es = count_by (λ e. e.line == i) es

abbrev pub times_in_all : ℕ → List (List LineEnd) → ℕ
times_in_all i [] = 0
times_in_all i (o ∷ os) = times i o + times_in_all i os

-- the first line of an outline is less than that of another
abbrev pub BeginsBefore : List LineEnd → List LineEnd → Type 0
BeginsBefore [] p = ⊥
BeginsBefore (e ∷ es) [] = ⊥
BeginsBefore (e ∷ es) (f ∷ fs) = e.line < f.line

abbrev pub BeginsBeforeEach : List LineEnd → List (List LineEnd) → Type 0
BeginsBeforeEach o [] = ⊤
BeginsBeforeEach o (p ∷ ps) = BeginsBefore o p × BeginsBeforeEach o ps

-- the outlines stand by first line
abbrev pub StandByFirstLine : List (List LineEnd) → Type 0
StandByFirstLine [] = ⊤
StandByFirstLine (o ∷ os) = BeginsBeforeEach o os × StandByFirstLine os

-- the outlines of the lines: each line that has a length stands in exactly one, and there once
pub record AreOutlines (lines : List Seg) (os : List (List LineEnd)) : Type 0 where
  pub each : EachOutline lines os
  pub once : (i : ℕ) (l : Seg) → slice_get lines i ≡ Some l → is_short l ≡ false → times_in_all i os ≡ 1
  pub in_order : StandByFirstLine os

-- the point left from at an end, and at each of many
abbrev pub point_left : Option Seg → Bool → List Point
point_left None far = []
point_left (Some l) far = point_of l far ∷ []

abbrev pub points_left : List Seg → List LineEnd → List Point
points_left lines [] = []
points_left lines (e ∷ es) = point_left (slice_get lines e.line) e.far ++ points_left lines es

-- two corners make no polygon, so the first one is said again behind them
abbrev pub closed : List Point → List Point
closed (p ∷ q ∷ []) = p ∷ q ∷ p ∷ []
closed ps = ps

-- the corners of the polygon of an outline
abbrev pub corners : List Seg → List LineEnd → List Point
corners lines es = closed (points_left lines es)

-- the polygons are those of the outlines of the lines
pub record AreChained (lines : List Seg) (polys : List (List Point)) : Type 0 where
  pub all : List (List LineEnd)
  pub outlines : AreOutlines lines all
  pub polygons : polys ≡ map (corners lines) all
