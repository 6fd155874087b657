-- Whole outlines: what is asked of their edges, and of one corner of each.
use Rattle.std.specs.Prelude.{ℤ, List, [], ◌∷◌, count_by}
use Rattle.geo_seg.specs.declared.points.Point.{Point}
use Rattle.geo_seg.specs.declared.points.Seg.{Seg}
use Rattle.geo_seg.specs.Points.{RationalPoint, IsOn, rational_point_of}
use Rattle.geo_seg.specs.Nearer.{AreApart, AreWithin}
use Rattle.geo_seg.specs.Inside.{SomeEdge, EachEdge, outline, last_of, passes, IsOdd}

-- no point of e and point of s are nearer to each other than d
abbrev pub IsApart : Seg → Seg → ℤ → Type 0
IsApart e s d = AreApart (IsOn e) (IsOn s) d

-- some point of e and some point of s are at most d apart
abbrev pub IsReached : Seg → Seg → ℤ → Type 0
IsReached e s d = AreWithin (IsOn e) (IsOn s) d

-- each of the edges `es` is apart from each of `fs`
abbrev pub EachApart : ℤ → List Seg → List Seg → Type 0
EachApart d es fs = EachEdge (λ e. EachEdge (λ f. IsApart f e d) fs) es

-- some of the edges `es` is within d of some of `fs`
abbrev pub SomeReached : ℤ → List Seg → List Seg → Type 0
SomeReached d es fs = SomeEdge (λ e. SomeEdge (λ f. IsReached f e d) fs) es

-- an odd number of the polygon's edges passes to the right of p
abbrev pub IsEnclosed : List Point → RationalPoint → Type 0
IsEnclosed corners p = IsOdd (count_by (passes p) (outline corners))

-- so it is of the last corner of the one polygon and the edges of the other
abbrev pub EndsInside : List Point → List Point → Type 0
EndsInside [] others = ⊥
EndsInside (c ∷ cs) others = IsEnclosed others (rational_point_of (last_of c cs))
