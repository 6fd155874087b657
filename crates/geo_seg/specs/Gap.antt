-- The least squared distance of a point and a segment, as a fraction.
use Rattle.std.specs.Prelude.{◌≡◌, ℤ, pos, ◌+ℤ◌, ◌-ℤ◌, ◌*ℤ◌, ◌≤ℤ◌, ◌<ℤ◌, neg_ℤ, ◌⊎◌}
use Rattle.geo_seg.specs.declared.points.Point.{Point}
use Rattle.geo_seg.specs.declared.points.Seg.{Seg}
use Rattle.geo_seg.specs.Points.{IsAt, IsOn}
use Rattle.geo_seg.specs.Nearer.{square, AreWithin, AreApart}

-- whole times the x (or y) of the point that lies part / whole of the way from a to b
abbrev pub between : ℤ → ℤ → ℤ → ℤ → ℤ
between a b whole part = (whole -ℤ part) *ℤ a +ℤ part *ℤ b

-- the squared distance of p and the point of s at part / whole, times the square of whole
abbrev pub squared_offset : Point → Seg → ℤ → ℤ → ℤ
squared_offset p s whole part = square (whole *ℤ p.x -ℤ between s.a.x s.b.x whole part) +ℤ square (whole *ℤ p.y -ℤ between s.a.y s.b.y whole part)

-- num / den is the least squared distance of p and a point of s
pub record IsLeastGap (p : Point) (s : Seg) (num den : ℤ) : Type 0 where
  pub positive : pos 0 <ℤ den
  pub least : (whole part : ℤ) → pos 0 ≤ℤ part → part ≤ℤ whole → (num *ℤ square whole) ≤ℤ (den *ℤ squared_offset p s whole part)
  pub part : ℤ
  pub whole : ℤ
  pub starts : pos 0 ≤ℤ part
  pub ends : part ≤ℤ whole
  pub whole_positive : pos 0 <ℤ whole
  pub reached : num *ℤ square whole ≡ den *ℤ squared_offset p s whole part

-- with u from s.a to s.b and w from s.a to p
abbrev pub dot_of : Point → Seg → ℤ
dot_of p s = (s.b.x -ℤ s.a.x) *ℤ (p.x -ℤ s.a.x) +ℤ (s.b.y -ℤ s.a.y) *ℤ (p.y -ℤ s.a.y)

abbrev pub cross_of : Point → Seg → ℤ
cross_of p s = (s.b.x -ℤ s.a.x) *ℤ (p.y -ℤ s.a.y) -ℤ (s.b.y -ℤ s.a.y) *ℤ (p.x -ℤ s.a.x)

abbrev pub squared_length : Point → Point → ℤ
squared_length a b = square (b.x -ℤ a.x) +ℤ square (b.y -ℤ a.y)

-- the cross products that place the point where the lines of a and b meet: it lies `turn_a / turn` of the way along a and
-- `turn_b / turn` of the way along b, where `turn` is not 0
abbrev pub turn : Seg → Seg → ℤ
turn a b = (a.b.x -ℤ a.a.x) *ℤ (b.b.y -ℤ b.a.y) -ℤ (a.b.y -ℤ a.a.y) *ℤ (b.b.x -ℤ b.a.x)

abbrev pub turn_a : Seg → Seg → ℤ
turn_a a b = (b.b.x -ℤ b.a.x) *ℤ (a.a.y -ℤ b.a.y) -ℤ (b.b.y -ℤ b.a.y) *ℤ (a.a.x -ℤ b.a.x)

abbrev pub turn_b : Seg → Seg → ℤ
turn_b a b = (a.b.x -ℤ a.a.x) *ℤ (a.a.y -ℤ b.a.y) -ℤ (a.b.y -ℤ a.a.y) *ℤ (a.a.x -ℤ b.a.x)

-- the lines cross at one point, and it lies on both segments: part_a / whole of the way along the one, and part_b / whole
-- along the other
pub record IsFramed (whole part_a part_b : ℤ) : Type 0 where
  pub positive : pos 0 <ℤ whole
  pub starts_a : pos 0 ≤ℤ part_a
  pub ends_a : part_a ≤ℤ whole
  pub starts_b : pos 0 ≤ℤ part_b
  pub ends_b : part_b ≤ℤ whole

-- the segments are not parallel, and share a point; turned so that `turn` is above 0
abbrev pub IsCrossing : Seg → Seg → Type 0
IsCrossing a b = IsFramed (turn a b) (turn_a a b) (turn_b a b) ⊎ IsFramed (neg_ℤ (turn a b)) (neg_ℤ (turn_a a b)) (neg_ℤ (turn_b a b))

-- an endpoint of `ends` is within d of a point of s
abbrev pub IsEndReached : Seg → Seg → ℤ → Type 0
IsEndReached ends s d = AreWithin (IsAt ends.a) (IsOn s) d ⊎ AreWithin (IsAt ends.b) (IsOn s) d

-- no point of s is nearer than d to an endpoint of `ends`
abbrev pub AreEndsApart : Seg → Seg → ℤ → Type 0
AreEndsApart ends s d = AreApart (IsAt ends.a) (IsOn s) d × AreApart (IsAt ends.b) (IsOn s) d
