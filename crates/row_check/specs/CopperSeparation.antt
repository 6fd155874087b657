-- How far apart two pieces of copper break nothing, whatever is asked of edges.
use Rattle.std.specs.Prelude.{◌≡◌, ℤ, ◌+ℤ◌, ◌≤ℤ◌, pos, true}
use Rattle.geo_seg.specs.Boxes.{AreClear}
use Rattle.box_index.specs.declared.entry.Entry.{Entry}
use Rattle.rule_pick.specs.CopperDemands.{ItAsksAtMost}
use Rattle.pair_check.specs.declared.found.Single.{Single}
use Rattle.pair_check.specs.Coppers.{are_copper}

-- two pieces of copper whose boxes are farther apart than what is asked of any two, and than the two ask for themselves: boxes are in
-- half nanometres, so it counts twice
pub record AreBoxesApart (least : ℤ) (a b : Entry) (one other : Single) : Type 0 where
  pub copper : are_copper one.item.now other.item.now ≡ true
  pub most : ℤ
  pub some : pos 0 ≤ℤ most
  pub least_within : least ≤ℤ most
  pub first : ItAsksAtMost one.facts.now most
  pub second : ItAsksAtMost other.facts.now most
  pub clear : AreClear a.bounds b.bounds (most +ℤ most +ℤ pos 1)
