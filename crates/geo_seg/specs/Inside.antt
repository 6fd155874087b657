-- Polygons: their edges, and which points lie inside, by the even-odd rule of the textbooks: how often a ray from the point
-- crosses the outline.
use Rattle.std.specs.Prelude.{◌≡◌, ℕ, ◌+◌, ◌*◌, ℤ, pos, ◌-ℤ◌, ◌*ℤ◌, Bool, true, false, List, [], ◌∷◌, ◌⊎◌, count_by}
use Rattle.std.specs.Int.Signed.{le_z, lt_z}
use Rattle.geo_seg.specs.declared.points.Point.{Point}
use Rattle.geo_seg.specs.declared.points.Seg.{Seg}
use Rattle.geo_seg.specs.Points.{RationalPoint, IsOn}

-- the edge from a to b
abbrev pub edge : Point → Point → Seg
edge a b = record { a = a; b = b }

-- the edges from a to each of the corners in turn
abbrev pub path : Point → List Point → List Seg
path a [] = []
path a (b ∷ cs) = edge a b ∷ path b cs

abbrev pub last_of : Point → List Point → Point
last_of a [] = a
last_of a (b ∷ cs) = last_of b cs

-- the edges of a polygon: the one that closes it, and then the others in order
abbrev pub outline : List Point → List Seg
outline [] = []
outline (c ∷ cs) = path (last_of c cs) (c ∷ cs)

-- P holds of some edge
abbrev pub SomeEdge : (Seg → Type 0) → List Seg → Type 0
SomeEdge P [] = ⊥
SomeEdge P (e ∷ es) = P e ⊎ SomeEdge P es

-- P holds of each edge
abbrev pub EachEdge : (Seg → Type 0) → List Seg → Type 0
EachEdge P [] = Unit {0}
EachEdge P (e ∷ es) = P e × EachEdge P es

-- the y of the corner c is at most that of p
abbrev pub is_low : RationalPoint → Point → Bool
is_low p c = le_z (p.w *ℤ c.y) p.y

-- with y upward: above 0 where p lies to the left of the line through the edge, seen from its start to its end, and below 0
-- where it lies to the right
abbrev pub side : Seg → RationalPoint → ℤ
side e p = (e.b.x -ℤ e.a.x) *ℤ (p.y -ℤ p.w *ℤ e.a.y) -ℤ (e.b.y -ℤ e.a.y) *ℤ (p.x -ℤ p.w *ℤ e.a.x)

-- by whether the ends of an edge are low: one that rises past p passes where p is to its left, one that falls past p where p
-- is to its right, and one with both ends low, or none, does not
abbrev pub passing : Bool → Bool → ℤ → Bool
passing true true u = false
passing true false u = lt_z (pos 0) u
passing false true u = lt_z u (pos 0)
passing false false u = false

-- the edge crosses the ray from p to the right, and not at p itself
abbrev pub passes : RationalPoint → Seg → Bool
passes p e = passing (is_low p e.a) (is_low p e.b) (side e p)

abbrev pub IsOdd : ℕ → Type 0
IsOdd n = (k : ℕ) × (n ≡ 2 * k + 1)

-- p lies on an edge of the polygon, or an odd number of its edges passes to the right of p
abbrev pub IsInside : List Point → RationalPoint → Type 0
IsInside corners p = SomeEdge (λ e. IsOn e p) (outline corners) ⊎ IsOdd (count_by (passes p) (outline corners))
