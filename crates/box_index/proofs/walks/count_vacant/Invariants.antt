use Rattle.std.proofs.Common.{◌-◌}
use Rattle.box_index.proofs.Vacancies.{AreCounted}
use Rattle.box_index.proofs.walks.count_vacant.Given as goal

abbrev pub invariant-tiles : goal.invariant-tiles
invariant-tiles l = AreCounted l.tiles l.lists l.area l.count l.tile

abbrev pub decreases-tiles : goal.decreases-tiles
decreases-tiles l = l.end - l.tile
