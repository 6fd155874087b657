-- The tiles that an index finds by the boxes of all that differs are those that are rechecked.
use Rattle.std.proofs.Common.{◌≡◌, ◌⊎◌, inl, inr, refl, sym, subst, ℕ, ◌<◌, Bool, true, false, ◌&&◌, ◌||◌, List, Contains}
use Rattle.std.proofs.lemmas.List.Folds.{Any-from_list_any, list_any_at}
use Rattle.std.proofs.lemmas.List.Elements.{All-weaker, All-filter, filter_passes}
use Rattle.std.proofs.lemmas.List.Kept.{IsStrictlyIncreasing-filter}
use Rattle.geo_seg.specs.declared.boxes.Bounds.{Bounds}
use Rattle.geo_seg.specs.Boxes.{widened}
use Rattle.board_items.specs.Boards.{PlainBoard}
use Rattle.box_index.specs.declared.entry.Entry.{Entry}
use Rattle.box_index.specs.Tiles.{PlainIndex, margin, meets_tile, is_held, is_met_by, dirty_of, numbers_below, tile_count}
use Rattle.box_index.proofs.Buckets.{contains_filter}
use Rattle.board_index.specs.IndexedItems.{IsEntryOf, IsIndexOfItems}
use Rattle.board_index.specs.TilesHeld.{IsMetBy, HoldsItem, AreTilesHeld}
use Rattle.board_index.proofs.Numbers.{low_numbers, all_rise, has_number}
use Rattle.board_index.proofs.Held.{holds, held}
use Rattle.pair_check.specs.Rows.{Checked}
use Rattle.row_check.specs.RowsOfTile.{IsIndexOf}
use Rattle.drc_state.specs.Recheck.{IsFarthest, IsDirty, AreDirty, ReachDiffers, AreRechecked, whole, near}
use Rattle.drc_state.specs.DirtyBoxes.{AreBoxesOf}

and_first : (a b : Bool) → (a && b) ≡ true → a ≡ true
and_first true b h = refl
and_first false b h = h

and_second : (a b : Bool) → (a && b) ≡ true → b ≡ true
and_second true b h = h
and_second false b h = cc

both_true : (a b : Bool) → a ≡ true → b ≡ true → (a && b) ≡ true
both_true true b h k = k
both_true false b h k = cc

pub all_tiles : ((board : PlainBoard) (index : PlainIndex) (boxes : List Bounds) → IsIndexOfItems board index → AreTilesHeld board index.reach (dirty_of index boxes true))
    → (old new : Checked) (index : PlainIndex) → IsIndexOf new index → (boxes : List Bounds) (replaced : Bool) → (replaced ≡ true) ⊎ ReachDiffers old new
    → AreRechecked old new replaced (dirty_of index boxes true)
all_tiles tiles_held old new index is boxes replaced h =
    whole h (record { reach = index.reach; farthest = is.reach; are_held = tiles_held new.board index boxes is.items })

module _ (old new : Checked) (index : PlainIndex) (is : IsIndexOf new index) (far : IsFarthest old index.reach) (boxes : List Bounds) (are : AreBoxesOf old new boxes) where
  -- what meets the tile by a box of all that differs
  effects : (tile : ℕ) → is_met_by (margin index) boxes tile ≡ true → IsDirty old new index.reach tile
  effects tile t =
      let a = Any-from_list_any (λ b. meets_tile (widened b (margin index)) tile) boxes t in
      let found = are.only a.1 (a.0, a.2, a.3) in
      let meets = subst (λ (b : Bounds). meets_tile (widened b (margin index)) tile ≡ true) (sym found.1) a.4 in
      record { entry = found.0; differs = found.2; met = by_side found.0 meets found.3 }
    where
      by_side : (entry : Entry) → meets_tile (widened entry.bounds (margin index)) tile ≡ true → IsEntryOf old.board entry ⊎ IsEntryOf new.board entry → IsMetBy old.board index.reach entry tile ⊎ IsMetBy new.board index.reach entry tile
      by_side entry m (inl own) = inl (record { own = own; meets = m })
      by_side entry m (inr own) = inr (record { own = own; meets = m })

  -- what something affects, a box of all that differs meets
  met : (tile : ℕ) → IsDirty old new index.reach tile → is_met_by (margin index) boxes tile ≡ true
  met tile s = by_side s.met
    where
      at : Contains boxes s.entry.bounds → meets_tile (widened s.entry.bounds (margin index)) tile ≡ true → is_met_by (margin index) boxes tile ≡ true
      at c m = list_any_at (λ b. meets_tile (widened b (margin index)) tile) boxes c.0 s.entry.bounds c.1 (subst (λ (b : Bounds). meets_tile (widened b (margin index)) tile ≡ true) (sym c.2) m)

      by_side : IsMetBy old.board index.reach s.entry tile ⊎ IsMetBy new.board index.reach s.entry tile → is_met_by (margin index) boxes tile ≡ true
      by_side (inl h) = at (are.all s.entry s.differs (inl h.own)) h.meets
      by_side (inr h) = at (are.all s.entry s.differs (inr h.own)) h.meets

  abbrev test : ℕ → Bool
  test tile = is_held index tile && (false || is_met_by (margin index) boxes tile)

  abbrev P : ℕ → Type 0
  P tile = HoldsItem new.board index.reach tile × IsDirty old new index.reach tile

  passes : (tile : ℕ) → test tile ≡ true → P tile
  passes tile t = (
    holds new.board index is.items tile (and_first (is_held index tile) (false || is_met_by (margin index) boxes tile) t),
    effects tile (and_second (is_held index tile) (false || is_met_by (margin index) boxes tile) t),
  )

  found : AreDirty old new index.reach (dirty_of index boxes false)
  found = record {
    rising = IsStrictlyIncreasing-filter test (numbers_below tile_count) (all_rise tile_count);
    within = All-filter test (λ tile. tile < tile_count) (numbers_below tile_count) (low_numbers tile_count);
    only = All-weaker (λ tile. test tile ≡ true) P passes (dirty_of index boxes false) (filter_passes test (numbers_below tile_count));
    all = λ tile lt h s. contains_filter test (numbers_below tile_count) tile (has_number tile_count tile lt) (both_true (is_held index tile) (false || is_met_by (margin index) boxes tile) (held new.board index is.items tile h) (met tile s));
  }

  pub near_tiles : AreRechecked old new false (dirty_of index boxes false)
  near_tiles = near refl index.reach (record { was = far; is = is.reach }) found
