use Rattle.std.proofs.Common.{◌≡◌, ℕ, ◌-◌}
use Rattle.box_index.specs.AreaWalks.{IsWalked}
use Rattle.box_index.proofs.walks.is_even.Given as goal

abbrev pub invariant-tiles : goal.invariant-tiles
invariant-tiles l = IsWalked (λ (was is : ℕ). is ≡ l.number) l.area l.tiles l.tiles l.tile

abbrev pub decreases-tiles : goal.decreases-tiles
decreases-tiles l = l.end - l.tile
