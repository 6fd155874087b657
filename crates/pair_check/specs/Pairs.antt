-- What two items of a board break.
use Rattle.std.specs.Prelude.{◌≡◌, pos, Bool, true, false, IsTrue, List, Some}
use Rattle.geo_seg.specs.Distances.{IsGap}
use Rattle.copper_layers.specs.declared.set.LayerSet.{LayerSet}
use Rattle.one_item.specs.declared.item.Item.{Item}
use Rattle.net_class.specs.NetClasses.{PlainMins}
use Rattle.cond_lang.specs.declared.kind.Kind.{Kind}
use Rattle.cond_lang.specs.declared.kind.Kind.TheVariants.{Short}
use Rattle.cond_lang.specs.declared.kind.Family.{Family}
use Rattle.cond_lang.specs.declared.kind.Family.TheVariants.{Meets, Keeps, Limits, Forbids}
use Rattle.cond_lang.specs.declared.rule.Severity.TheVariants.{Error}
use Rattle.cond_lang.specs.CheckKinds.{family, gives_place}
use Rattle.cond_lang.specs.Rules.{PlainRule}
use Rattle.rule_pick.specs.declared.facts.Facts.{Facts}
use Rattle.rule_pick.specs.declared.kinds.Source.TheVariants.{Default}
use Rattle.rule_pick.specs.Deciding.{IsPick}
use Rattle.rule_pick.specs.Picks.{Pick}
use Rattle.kind_subjects.specs.declared.layer.RowLayer.{RowLayer}
use Rattle.pair_check.specs.PlainRow.{PlainRow, MakesRows}
use Rattle.kind_subjects.specs.TriedLayers.{IsFirst, HoldsSomewhere, asked_layer}
use Rattle.kind_subjects.specs.Compared.{is_compared}
use Rattle.kind_subjects.specs.MeasuredPair.{MeetAt, KeepAt, TooNear}

-- what decides: the copper layers of the board, its least values, and the rules
pub record Deciders : Type 0 where
  pub copper : LayerSet
  pub mins : PlainMins
  pub rules : List PlainRule

-- two items with their facts
pub record Pair : Type 0 where
  pub a : Item
  pub b : Item
  pub facts_a : Facts
  pub facts_b : Facts

-- what a kind asks of the pair on the layer
abbrev pub IsPickOf : Deciders → Kind → Pair → RowLayer → Pick → Type 0
IsPickOf d kind pair layer pick = IsPick d.rules d.mins kind pair.facts_a (Some pair.facts_b) (asked_layer layer) pick

-- on the layer the pair is nearer than what is picked there, and the pick counts
pub record IsNearAt (d : Deciders) (kind : Kind) (pair : Pair) (layer : RowLayer) : Type 0 where
  pub pick : Pick
  pub picked : IsPickOf d kind pair layer pick
  pub counts : MakesRows pick.severity
  pub near : TooNear kind layer pair.a pair.b pick.least

-- the pair is compared for the kind, and it meets on some layer
pub record PairMeets (d : Deciders) (kind : Kind) (pair : Pair) : Type 0 where
  pub compared : IsTrue (is_compared kind pair.a pair.b)
  pub somewhere : HoldsSomewhere d.copper (λ layer. MeetAt kind layer pair.a pair.b)

abbrev pub IsGivenPlaceIf : Bool → Deciders → Pair → Type 0
IsGivenPlaceIf true d pair = ¬ (PairMeets d Short pair)
IsGivenPlaceIf false d pair = Unit {0}

-- no short takes the place of the kind
abbrev pub IsGivenPlace : Deciders → Kind → Pair → Type 0
IsGivenPlace d kind pair = IsGivenPlaceIf (gives_place kind) d pair

-- the row says that the two meet, on the first layer on which they do. No rule is asked: it is always an error
pub record SaysMeeting (d : Deciders) (kind : Kind) (pair : Pair) (row : PlainRow) : Type 0 where
  pub compared : IsTrue (is_compared kind pair.a pair.b)
  pub where_first : IsFirst d.copper (λ layer. MeetAt kind layer pair.a pair.b) row.layer
  pub value : row.value ≡ pos 0
  pub gap : row.gap ≡ pos 0
  pub over : row.over ≡ false
  pub source : row.source ≡ Default
  pub severity : row.severity ≡ Error

-- the row says the first layer on which the two are too near, what is asked for there, the gap there, and what asks for it. Where what
-- faces each other both ways is measured, the gap is the lesser one
pub record SaysNear (d : Deciders) (kind : Kind) (pair : Pair) (row : PlainRow) : Type 0 where
  pub compared : IsTrue (is_compared kind pair.a pair.b)
  pub place : IsGivenPlace d kind pair
  pub where_first : IsFirst d.copper (IsNearAt d kind pair) row.layer
  pub pick : Pick
  pub picked : IsPickOf d kind pair row.layer pick
  pub value : row.value ≡ pick.least
  pub gap : IsGap (KeepAt kind row.layer pair.a pair.b) pick.least row.gap
  pub over : row.over ≡ false
  pub source : row.source ≡ pick.source
  pub severity : row.severity ≡ pick.severity

abbrev pub BreaksBy : Family → Deciders → Kind → Pair → PlainRow → Type 0
BreaksBy Meets d kind pair row = SaysMeeting d kind pair row
BreaksBy Keeps d kind pair row = SaysNear d kind pair row
BreaksBy Limits d kind pair row = ⊥
BreaksBy Forbids d kind pair row = ⊥

-- the row says how the pair breaks the kind
abbrev pub Breaks : Deciders → Kind → Pair → PlainRow → Type 0
Breaks d kind pair row = BreaksBy (family kind) d kind pair row
