-- Runs of edges: what lies far from them, and how often they pass to the right of a point.
use Rattle.std.specs.Prelude.{ℕ, ◌-◌, ℤ, ◌+ℤ◌, ◌≤ℤ◌, ◌<ℤ◌, List, ◌⊎◌, take, drop, count_by}
use Rattle.geo_seg.specs.declared.points.Point.{Point}
use Rattle.geo_seg.specs.declared.points.Seg.{Seg}
use Rattle.geo_seg.specs.declared.boxes.Bounds.{Bounds}
use Rattle.geo_seg.specs.Points.{RationalPoint}
use Rattle.geo_seg.specs.Boxes.{AreClear}
use Rattle.geo_seg.specs.Inside.{passes, IsOdd}
use Rattle.geo_seg.specs.RunBoxes.{AreEndsHeld}

-- the edges from `low` up to `high`
abbrev pub between : ℕ → ℕ → List Seg → List Seg
between low high es = take (high - low) (drop low es)

-- the edge lies in some box that is d apart from `near` in x or in y
pub record LiesClear (near : Bounds) (d : ℤ) (e : Seg) : Type 0 where
  pub hull : Bounds
  pub held : AreEndsHeld hull e
  pub clear : AreClear hull near d

-- an odd number of the edges passes to the right of p
abbrev pub PassOdd : RationalPoint → List Seg → Type 0
PassOdd p es = IsOdd (count_by (passes p) es)

-- the box lies above the ray from p to the right, below it, or to the left of p
abbrev pub IsMissed : Bounds → Point → Type 0
IsMissed b p = p.y <ℤ b.top ⊎ b.bottom <ℤ p.y ⊎ b.right <ℤ p.x

-- the box is at least d to the left of the other, above it or below it
abbrev pub IsBeside : Bounds → Bounds → ℤ → Type 0
IsBeside b near d = (b.right +ℤ d) ≤ℤ near.left ⊎ (b.bottom +ℤ d) ≤ℤ near.top ⊎ (near.bottom +ℤ d) ≤ℤ b.top
