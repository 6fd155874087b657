-- What the walks over layers find, and the lists of rows that grow kind by kind.
use Rattle.std.specs.Prelude.{◌≡◌, ◌<◌, ◌⊎◌, ℕ, ℤ, List}
use Rattle.one_item.specs.declared.item.Item.{Item}
use Rattle.geo_seg.specs.Distances.{IsGap}
use Rattle.cond_lang.specs.declared.kind.Kind.{Kind}
use Rattle.cond_lang.specs.declared.kind.Kind.TheVariants.{Short, Clearance}
use Rattle.cond_lang.specs.CheckKinds.{kind_number}
use Rattle.rule_pick.specs.declared.facts.Facts.{Facts}
use Rattle.rule_pick.specs.Picks.{pick_of}
use Rattle.pair_check.specs.declared.found.Pair as code
use Rattle.pair_check.specs.declared.found.Near.{Near}
use Rattle.pair_check.specs.declared.found.Off.{Off}
use Rattle.pair_check.specs.declared.found.Forbidden.{Forbidden}
use Rattle.pair_check.specs.PlainRow.{PlainRow, MakesRows}
use Rattle.kind_subjects.specs.declared.layer.RowLayer.{RowLayer}
use Rattle.kind_subjects.specs.MeasuredPair.{MeetAt, KeepAt, TooNear}
use Rattle.pair_check.specs.Pairs.{Deciders, Pair, IsPickOf, IsNearAt, Breaks}
use Rattle.pair_check.specs.Singles.{IsPickAlone, BreaksLimit, Forbids, BreaksAlone}
use Rattle.pair_check.specs.Rows.{AreRowsWhere}

abbrev pub pair_of : code.Pair → Pair
pair_of p = record { a = p.a.now; b = p.b.now; facts_a = p.facts_a.now; facts_b = p.facts_b.now }

-- ---- layers

-- the pair is too near on this layer, with this pick and this gap
pub record IsTooNear (d : Deciders) (kind : Kind) (pair : Pair) (near : Near) : Type 0 where
  pub picked : IsPickOf d kind pair near.layer (pick_of near.picked)
  pub counts : MakesRows near.picked.severity
  pub too_near : TooNear kind near.layer pair.a pair.b near.picked.least
  pub gap : IsGap (KeepAt kind near.layer pair.a pair.b) near.picked.least near.gap

-- on this layer the copper of the two is nearer than what is picked for a clearance, or meets
abbrev pub IsNearOrMeets : Deciders → Pair → RowLayer → Type 0
IsNearOrMeets d pair layer = IsNearAt d Clearance pair layer ⊎ MeetAt Short layer pair.a pair.b

-- nothing of the two faces each other on this layer, so that they keep any distance there and do not meet
pub record AreUnfaced (kind : Kind) (pair : Pair) (layer : RowLayer) : Type 0 where
  pub keep : (v : ℤ) → KeepAt kind layer pair.a pair.b v
  pub unmet : ¬ (MeetAt kind layer pair.a pair.b)

-- on this layer the length breaks this limit of this pick
pub record IsOff (d : Deciders) (kind : Kind) (facts : Facts) (n : ℤ) (off : Off) : Type 0 where
  pub picked : IsPickAlone d kind facts off.layer (pick_of off.picked)
  pub counts : MakesRows off.picked.severity
  pub broken : BreaksLimit kind n (pick_of off.picked) off.limit.over off.limit.nm

-- on this layer the item is forbidden by this pick
pub record IsForbidden (d : Deciders) (kind : Kind) (item : Item) (facts : Facts) (found : Forbidden) : Type 0 where
  pub picked : IsPickAlone d kind facts found.layer (pick_of found.picked)
  pub counts : MakesRows found.picked.severity
  pub forbids : Forbids kind (pick_of found.picked) item

-- ---- lists of rows

-- the row has these ids and says how the pair breaks its kind
pub record IsOfPair (d : Deciders) (pair : Pair) (first second : ℕ) (row : PlainRow) : Type 0 where
  pub first_is : row.first ≡ first
  pub second_is : row.second ≡ second
  pub broken : Breaks d row.kind pair row

-- the row has this id twice and says how the item breaks its kind
pub record IsOfSingle (d : Deciders) (item : Item) (facts : Facts) (id : ℕ) (row : PlainRow) : Type 0 where
  pub first_is : row.first ≡ id
  pub second_is : row.second ≡ id
  pub broken : BreaksAlone d row.kind item facts row

-- the row is one, and is of the kind
pub record IsOfKind (Is : PlainRow → Type 0) (kind : Kind) (row : PlainRow) : Type 0 where
  pub is : Is row
  pub kind_is : row.kind ≡ kind

-- the row is one, and its kind has a lesser number
pub record IsBelow (Is : PlainRow → Type 0) (n : ℕ) (row : PlainRow) : Type 0 where
  pub is : Is row
  pub below : kind_number row.kind < n

-- the rows of all kinds with lesser numbers
abbrev pub AreRowsBelow : (PlainRow → Type 0) → ℕ → List PlainRow → Type 0
AreRowsBelow Is n rows = AreRowsWhere (IsBelow Is n) rows
