-- How near two points are to each other, and two sets of points. A distance is compared by its square, times the square of
-- both denominators, so that everything is a whole number.
use Rattle.std.specs.Prelude.{ℤ, pos, ◌+ℤ◌, ◌-ℤ◌, ◌*ℤ◌, ◌≤ℤ◌, ◌<ℤ◌}
use Rattle.geo_seg.specs.Points.{RationalPoint}

-- z is from 0 to most
pub record IsUpTo (most z : ℤ) : Type 0 where
  pub from : pos 0 ≤ℤ z
  pub to : z ≤ℤ most

-- a distance that can be asked for: as long as the side of a board in half nanometres
abbrev pub IsDistance : ℤ → Type 0
IsDistance d = IsUpTo (pos 2000000000) d

-- z times itself
abbrev pub square : ℤ → ℤ
square z = z *ℤ z

-- the squared distance of p and q, times the square of p.w * q.w
abbrev pub squared_gap : RationalPoint → RationalPoint → ℤ
squared_gap p q = square (p.x *ℤ q.w -ℤ q.x *ℤ p.w) +ℤ square (p.y *ℤ q.w -ℤ q.y *ℤ p.w)

-- the square of the distance d, times the square of p.w * q.w
abbrev pub squared_limit : ℤ → RationalPoint → RationalPoint → ℤ
squared_limit d p q = square (d *ℤ p.w *ℤ q.w)

-- p and q are nearer to each other than d
abbrev pub IsNearer : ℤ → RationalPoint → RationalPoint → Type 0
IsNearer d p q = squared_gap p q <ℤ squared_limit d p q

-- p and q are at most d apart
abbrev pub IsAtMost : ℤ → RationalPoint → RationalPoint → Type 0
IsAtMost d p q = squared_gap p q ≤ℤ squared_limit d p q

-- no point of P and point of Q are nearer to each other than d
pub record AreApart (P Q : RationalPoint → Type 0) (d : ℤ) : Type 0 where
  pub apart : (p q : RationalPoint) → P p → Q q → ¬ (IsNearer d p q)

-- some point of P and some point of Q are at most d apart
pub record AreWithin (P Q : RationalPoint → Type 0) (d : ℤ) : Type 0 where
  pub from : RationalPoint
  pub to : RationalPoint
  pub of_first : P from
  pub of_second : Q to
  pub within : IsAtMost d from to

-- P and Q share a point
pub record DoMeet (P Q : RationalPoint → Type 0) : Type 0 where
  pub rational_point : RationalPoint
  pub of_first : P rational_point
  pub of_second : Q rational_point
