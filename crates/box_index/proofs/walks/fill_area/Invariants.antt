use Rattle.std.proofs.Common.{◌≡◌, ◌-◌}
use Rattle.box_index.specs.AreaWalks.{IsWalked}
use Rattle.box_index.proofs.walks.fill_area.Given as goal

abbrev pub invariant-tiles : goal.invariant-tiles
invariant-tiles g l = IsWalked (λ was is. is ≡ l.value) l.area l.initial.values l.values l.tile

abbrev pub decreases-tiles : goal.decreases-tiles
decreases-tiles g l = l.end - l.tile
