-- Points of the plane, also between whole coordinates, and which of them lie on a segment. All lengths are whole numbers
-- of half nanometres.
use Rattle.std.specs.Prelude.{◌≡◌, ℤ, pos, ◌+ℤ◌, ◌-ℤ◌, ◌*ℤ◌, ◌≤ℤ◌, ◌<ℤ◌}
use Rattle.geo_seg.specs.declared.points.Point.{Point}
use Rattle.geo_seg.specs.declared.points.Seg.{Seg}

-- the point (x / w, y / w), in homogeneous coordinates
pub record RationalPoint : Type 0 where
  pub x : ℤ
  pub y : ℤ
  pub w : ℤ
  pub positive : pos 0 <ℤ w

-- the rational point q is the point p
pub record IsAt (p : Point) (q : RationalPoint) : Type 0 where
  pub at_x : q.x ≡ q.w *ℤ p.x
  pub at_y : q.y ≡ q.w *ℤ p.y

-- the point p as a rational point
unfoldable pub rational_point_of : Point → RationalPoint
rational_point_of p = record { x = p.x; y = p.y; w = pos 1; positive = record { lt = tt } }

-- the rational point p lies on the segment s, at part / whole of the way from its one end to the other
pub record IsOn (s : Seg) (p : RationalPoint) : Type 0 where
  pub part : ℤ
  pub whole : ℤ
  pub starts : pos 0 ≤ℤ part
  pub ends : part ≤ℤ whole
  pub positive : pos 0 <ℤ whole
  pub along_x : whole *ℤ p.x ≡ p.w *ℤ ((whole -ℤ part) *ℤ s.a.x +ℤ part *ℤ s.b.x)
  pub along_y : whole *ℤ p.y ≡ p.w *ℤ ((whole -ℤ part) *ℤ s.a.y +ℤ part *ℤ s.b.y)
