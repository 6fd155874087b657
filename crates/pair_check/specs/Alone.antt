-- Single items of which no rule asks anything: lengths that are enough for them, whatever their facts.
use Rattle.std.specs.Prelude.{ℤ, ◌≤ℤ◌}
use Rattle.one_item.specs.declared.item.Item.{Item}
use Rattle.cond_lang.specs.declared.kind.Kind.{Kind}
use Rattle.cond_lang.specs.declared.kind.Kind.TheVariants.{TrackWidth, ViaDiameter, HoleSize, AnnularWidth, Disallow, Assertion}
use Rattle.rule_pick.specs.declared.facts.Facts.{Facts}
use Rattle.kind_subjects.specs.declared.layer.RowLayer.{RowLayer}
use Rattle.pair_check.specs.declared.alone.Enough.{Enough}
use Rattle.pair_check.specs.PlainRow.{PlainRow}
use Rattle.pair_check.specs.Pairs.{Deciders}
use Rattle.pair_check.specs.Singles.{IsOffAt, IsForbiddenAt, BreaksAlone}

-- a length of so much breaks no limit of the kind
pub record IsEnough (d : Deciders) (kind : Kind) (least : ℤ) : Type 0 where
  pub none : (item : Item) (facts : Facts) (n : ℤ) (layer : RowLayer) → least ≤ℤ n → ¬ (IsOffAt d kind item facts n layer)

-- the kind forbids no item
pub record ForbidsNone (d : Deciders) (kind : Kind) : Type 0 where
  pub none : (item : Item) (facts : Facts) (layer : RowLayer) → ¬ (IsForbiddenAt d kind item facts layer)

-- each length is enough for its kind, and nothing is forbidden
pub record AreEnoughAlone (d : Deciders) (enough : Enough) : Type 0 where
  pub width : IsEnough d TrackWidth enough.width
  pub diameter : IsEnough d ViaDiameter enough.diameter
  pub hole : IsEnough d HoleSize enough.hole
  pub ring : IsEnough d AnnularWidth enough.ring
  pub bans : ForbidsNone d Disallow
  pub claims : ForbidsNone d Assertion

-- the item breaks no kind alone
pub record BreaksNothing (d : Deciders) (item : Item) : Type 0 where
  pub none : (facts : Facts) (kind : Kind) (row : PlainRow) → ¬ (BreaksAlone d kind item facts row)
