-- What a single item of a board breaks: limits of widths and sizes, bans, and claims.
use Rattle.std.specs.Prelude.{◌≡◌, ℤ, pos, ◌*ℤ◌, ◌≤ℤ◌, ◌<ℤ◌, Bool, true, false, ◌&&◌, ◌||◌, None, Some, is_some}
use Rattle.one_item.specs.declared.item.What.{What}
use Rattle.one_item.specs.declared.item.What.TheVariants.{Track, Via, Pad, Graphic, Fill, Body}
use Rattle.one_item.specs.declared.item.Item.{Item}
use Rattle.cond_lang.specs.declared.kind.Kind.{Kind}
use Rattle.cond_lang.specs.declared.kind.Family.{Family}
use Rattle.cond_lang.specs.declared.kind.Family.TheVariants.{Meets, Keeps, Limits, Forbids as Forbidding}
use Rattle.cond_lang.specs.declared.rule.Disallow.{Disallow}
use Rattle.cond_lang.specs.CheckKinds.{family, is_assertion}
use Rattle.rule_pick.specs.declared.facts.Facts.{Facts}
use Rattle.rule_pick.specs.Deciding.{IsPick}
use Rattle.rule_pick.specs.Picks.{Pick}
use Rattle.kind_subjects.specs.declared.layer.RowLayer.{RowLayer}
use Rattle.pair_check.specs.PlainRow.{PlainRow, MakesRows}
use Rattle.kind_subjects.specs.SingleLayers.{IsAskedAt, IsMeasuredAt}
use Rattle.kind_subjects.specs.LimitedLengths.{length_of, times, IsQuotient}
use Rattle.kind_subjects.specs.TriedLayers.{IsFirst, asked_layer}
use Rattle.pair_check.specs.Pairs.{Deciders}

-- ---- limits

-- the limit that is broken: below the least value, or else above the greatest
abbrev pub BreaksLimit : Kind → ℤ → Pick → Bool → ℤ → Type 0
BreaksLimit kind n pick false limit = (limit ≡ pick.least) × (n <ℤ (times kind *ℤ limit))
BreaksLimit kind n pick true limit = ((times kind *ℤ pick.least) ≤ℤ n) × (pick.most ≡ Some limit) × ((times kind *ℤ limit) <ℤ n)

-- ---- bans

-- the bans are against the item, by its kind; every item with a hole is banned where holes are
abbrev pub bans_what : Disallow → What → Bool
bans_what bans (Track width) = bans.tracks
bans_what bans (Via size drill micro blind) = bans.vias || (micro && bans.micro_vias) || (blind && bans.buried_vias)
bans_what bans (Pad number reference) = bans.pads
bans_what bans Graphic = bans.graphics
bans_what bans Fill = bans.zones
bans_what bans (Body reference front back on_back) = bans.footprints
bans_what bans _ = false

abbrev pub bans_item : Disallow → Item → Bool
bans_item bans item = bans_what bans item.what || (is_some item.hole && bans.holes)

-- ---- rows

abbrev pub IsPickAlone : Deciders → Kind → Facts → RowLayer → Pick → Type 0
IsPickAlone d kind facts layer pick = IsPick d.rules d.mins kind facts None (asked_layer layer) pick

-- on the layer the length breaks a limit of what is picked there, and the pick counts
pub record IsOffAt (d : Deciders) (kind : Kind) (item : Item) (facts : Facts) (n : ℤ) (layer : RowLayer) : Type 0 where
  pub asked : IsMeasuredAt kind item layer
  pub pick : Pick
  pub picked : IsPickAlone d kind facts layer pick
  pub counts : MakesRows pick.severity
  pub over : Bool
  pub limit : ℤ
  pub broken : BreaksLimit kind n pick over limit

-- the row says the first layer on which it does, the limit, the length, and what asks for it
pub record SaysLimit (d : Deciders) (kind : Kind) (item : Item) (facts : Facts) (row : PlainRow) : Type 0 where
  pub length : ℤ
  pub measured : length_of kind item ≡ Some length
  pub where_first : IsFirst d.copper (IsOffAt d kind item facts length) row.layer
  pub pick : Pick
  pub picked : IsPickAlone d kind facts row.layer pick
  pub broken : BreaksLimit kind length pick row.over row.value
  pub gap : IsQuotient length (times kind) row.gap
  pub source : row.source ≡ pick.source
  pub severity : row.severity ≡ pick.severity

-- what is picked forbids the item: its claim does not hold, or it bans it
abbrev pub ForbidsBy : Bool → Pick → Item → Type 0
ForbidsBy true pick item = pick.holds ≡ false
ForbidsBy false pick item = bans_item pick.bans item ≡ true

-- an assertion claims, another kind that forbids bans
abbrev pub Forbids : Kind → Pick → Item → Type 0
Forbids kind pick item = ForbidsBy (is_assertion kind) pick item

pub record IsForbiddenAt (d : Deciders) (kind : Kind) (item : Item) (facts : Facts) (layer : RowLayer) : Type 0 where
  pub asked : IsAskedAt item item.what layer
  pub pick : Pick
  pub picked : IsPickAlone d kind facts layer pick
  pub counts : MakesRows pick.severity
  pub forbids : Forbids kind pick item

-- the row says the first layer on which the item is forbidden, and what forbids it
pub record SaysForbidden (d : Deciders) (kind : Kind) (item : Item) (facts : Facts) (row : PlainRow) : Type 0 where
  pub where_first : IsFirst d.copper (IsForbiddenAt d kind item facts) row.layer
  pub pick : Pick
  pub picked : IsPickAlone d kind facts row.layer pick
  pub value : row.value ≡ pos 0
  pub gap : row.gap ≡ pos 0
  pub over : row.over ≡ false
  pub source : row.source ≡ pick.source
  pub severity : row.severity ≡ pick.severity

abbrev pub BreaksAloneBy : Family → Deciders → Kind → Item → Facts → PlainRow → Type 0
BreaksAloneBy Meets d kind item facts row = ⊥
BreaksAloneBy Keeps d kind item facts row = ⊥
BreaksAloneBy Limits d kind item facts row = SaysLimit d kind item facts row
BreaksAloneBy Forbidding d kind item facts row = SaysForbidden d kind item facts row

-- the row says how the item breaks the kind
abbrev pub BreaksAlone : Deciders → Kind → Item → Facts → PlainRow → Type 0
BreaksAlone d kind item facts row = BreaksAloneBy (family kind) d kind item facts row
