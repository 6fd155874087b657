-- Which tiles are rechecked after a change. All is said of what is checked before and after it.
use Rattle.std.specs.Prelude.{◌≡◌, ◌≢◌, ◌⊎◌, ℕ, ◌<◌, ℤ, Bool, true, false, List, length, All, Contains}
use Rattle.std.specs.List.Sorted.{IsStrictlyIncreasing}
use Rattle.rule_pick.specs.declared.facts.Facts.{Facts}
use Rattle.rule_pick.specs.FactsOf.{AreFacts}
use Rattle.rule_pick.specs.Reach.{IsReach}
use Rattle.box_index.specs.declared.entry.Entry.{Entry}
use Rattle.box_index.specs.Tiles.{tile_count}
use Rattle.board_index.specs.TilesHeld.{IsMetBy, HoldsItem, AreTilesHeld}
use Rattle.pair_check.specs.Rows.{Checked}
use Rattle.board_edits.specs.TouchedItems.{ItemDiffers}

-- as far as anything is asked for
abbrev pub IsFarthest : Checked → ℤ → Type 0
IsFarthest c reach = IsReach c.board c.classes c.rules reach

-- all tiles that hold an item within the reach, rising
pub record AreHeld (c : Checked) (tiles : List ℕ) : Type 0 where
  pub reach : ℤ
  pub farthest : IsFarthest c reach
  pub are_held : AreTilesHeld c.board reach tiles

-- ---- what differs

-- the item of the id was added or removed, or its parts or its facts are others
pub data Differs (old new : Checked) (id : ℕ) : Type 0 where
  itself : ItemDiffers old.board new.board id → Differs old new id
  told : (was is : Facts) → AreFacts old.board old.classes id was → AreFacts new.board new.classes id is → was ≢ is → Differs old new id

-- an item that differs meets the tile within the reach, as it was or as it is
pub record IsDirty (old new : Checked) (reach : ℤ) (tile : ℕ) : Type 0 where
  pub entry : Entry
  pub differs : Differs old new entry.id
  pub met : IsMetBy old.board reach entry tile ⊎ IsMetBy new.board reach entry tile

-- the tiles that hold an item and that something affected, and no others, rising
pub record AreDirty (old new : Checked) (reach : ℤ) (tiles : List ℕ) : Type 0 where
  pub rising : IsStrictlyIncreasing tiles
  pub within : All (λ tile. tile < tile_count) tiles
  pub only : All (λ tile. HoldsItem new.board reach tile × IsDirty old new reach tile) tiles
  pub all : (tile : ℕ) → tile < tile_count → HoldsItem new.board reach tile → IsDirty old new reach tile → Contains tiles tile

-- ---- what is rechecked

pub record ReachStays (old new : Checked) (reach : ℤ) : Type 0 where
  pub was : IsFarthest old reach
  pub is : IsFarthest new reach

pub record ReachDiffers (old new : Checked) : Type 0 where
  pub before : ℤ
  pub now : ℤ
  pub was : IsFarthest old before
  pub is : IsFarthest new now
  pub differ : before ≢ now

-- all tiles that hold an item, where the rules were replaced or the reach differs, and else those of them that something affected
pub data AreRechecked (old new : Checked) (replaced : Bool) (tiles : List ℕ) : Type 0 where
  whole : (replaced ≡ true) ⊎ ReachDiffers old new → AreHeld new tiles → AreRechecked old new replaced tiles
  near : replaced ≡ false → (reach : ℤ) → ReachStays old new reach → AreDirty old new reach tiles → AreRechecked old new replaced tiles

-- how many tiles hold an item
pub record IsHeldCount (c : Checked) (count : ℕ) : Type 0 where
  pub tiles : List ℕ
  pub are_held : AreHeld c tiles
  pub count_is : count ≡ length tiles
