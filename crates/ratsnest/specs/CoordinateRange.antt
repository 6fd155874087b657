-- The range of a coordinate of an anchor, in nanometres.
use Rattle.std.specs.Prelude.{ℤ, pos, neg_ℤ, ◌≤ℤ◌}

-- at most 500 mm from 0
pub record IsInReach (z : ℤ) : Type 0 where
  pub from : neg_ℤ (pos 500000000) ≤ℤ z
  pub to : z ≤ℤ pos 500000000
