-- A step along an outline, that counts the edges that pass to the right of a point.
use Rattle.std.specs.Prelude.{ℕ, ◌<◌, ◌≤◌, IsTrue, ◌↔◌, List, length}
use Rattle.geo_seg.specs.declared.points.Point.{Point}
use Rattle.geo_seg.specs.declared.points.Seg.{Seg}
use Rattle.geo_seg.specs.Points.{RationalPoint}
use Rattle.geo_seg.specs.Inside.{outline}
use Rattle.geo_poly.specs.declared.parity.Step.{Step}
use Rattle.geo_poly.specs.EdgeRuns.{between, PassOdd}

-- it leads past some edges from `low` on, and tells whether an odd number of them passes
pub record IsParityStep (corners : List Point) (p : RationalPoint) (low : ℕ) (step : Step) : Type 0 where
  pub after : low < step.high
  pub within : step.high ≤ length corners
  pub odd : IsTrue step.odd ↔ PassOdd p (between low step.high (outline corners))

-- so it leads past edges of which Q holds
pub record IsPast (Q : List Seg → Type 0) (corners : List Point) (p : RationalPoint) (low : ℕ) (step : Step) : Type 0 where
  pub counted : IsParityStep corners p low step
  pub past : Q (between low step.high (outline corners))
