-- How far shapes are from each other. A shape is all points within its radius of its core, so that a distance of shapes is
-- one of their cores with the two radii added.
use Rattle.std.specs.Prelude.{◌≡◌, ℤ, pos, ◌+ℤ◌, ◌≤ℤ◌, ◌⊎◌}
use Rattle.geo_seg.specs.declared.shapes.Shape.{Shape}
use Rattle.geo_seg.specs.Cores.{IsPointOf}
use Rattle.geo_seg.specs.Nearer.{AreApart, AreWithin}

-- no points of the two cores are nearer to each other than both radii and c together
abbrev pub Apart : Shape → Shape → ℤ → Type 0
Apart s t c = AreApart (IsPointOf s.core) (IsPointOf t.core) (s.radius +ℤ t.radius +ℤ c)

-- the shapes touch or overlap: some points of the two cores are at most both radii apart
abbrev pub Meet : Shape → Shape → Type 0
Meet s t = AreWithin (IsPointOf s.core) (IsPointOf t.core) (s.radius +ℤ t.radius)

-- the greatest whole number from 1 to v that is kept, or 0
pub record IsGap (Keeps : ℤ → Type 0) (v gap : ℤ) : Type 0 where
  pub from : pos 0 ≤ℤ gap
  pub to : gap ≤ℤ v
  pub kept : (gap ≡ pos 0) ⊎ Keeps gap
  pub greatest : (g : ℤ) → pos 1 ≤ℤ g → g ≤ℤ v → Keeps g → g ≤ℤ gap
