-- The tiles that an index of a board's items holds are those that hold an item of the board.
use Rattle.std.proofs.Common.{◌≡◌, refl, sym, subst, ℕ, ◌<◌, Bool, true, false, ◌&&◌, List, Contains}
use Rattle.std.proofs.lemmas.List.Folds.{Any-from_list_any, list_any_at}
use Rattle.std.proofs.lemmas.List.Elements.{All-weaker, All-filter, filter_passes, filter_agree}
use Rattle.std.proofs.lemmas.List.Kept.{IsStrictlyIncreasing-filter}
use Rattle.geo_seg.specs.declared.boxes.Bounds.{Bounds}
use Rattle.board_items.specs.Boards.{PlainBoard}
use Rattle.one_item.specs.ItemParts.{parts_of}
use Rattle.box_index.specs.declared.entry.Entry.{Entry}
use Rattle.box_index.specs.Tiles.{PlainIndex, is_in, is_held, held_of, dirty_of, numbers_below, tile_count}
use Rattle.box_index.proofs.Buckets.{contains_filter}
use Rattle.board_index.specs.IndexedItems.{IsEntryOf, IsIndexOfItems}
use Rattle.board_index.specs.TilesHeld.{HoldsItem, AreTilesHeld}
use Rattle.board_index.proofs.Numbers.{low_numbers, all_rise, has_number}
use Rattle.board_index.proofs.Bounds.{one_box, has_parts}

module _ (board : PlainBoard) (index : PlainIndex) (is : IsIndexOfItems board index) where
  -- an entry of an item of the board is in the index
  pub has_entry : (entry : Entry) → IsEntryOf board entry → Contains index.entries entry
  has_entry entry own =
      let has = is.holds.each entry.id own.item own.stands (has_parts (parts_of own.item) entry.bounds own.own) in
      let box : has.bounds ≡ entry.bounds = one_box (parts_of own.item) has.bounds entry.bounds has.own own.own in
      subst (λ (b : Bounds). Contains index.entries (record { id = entry.id; bounds = b })) box has.entry

  -- a tile with an entry holds its item
  pub holds : (tile : ℕ) → is_held index tile ≡ true → HoldsItem board index.reach tile
  holds tile held =
      let a = Any-from_list_any (is_in index tile) index.entries held in
      record { entry = a.1; met = record { own = is.only a.1 (a.0, a.2, a.3); meets = a.4 } }

  pub held : (tile : ℕ) → HoldsItem board index.reach tile → is_held index tile ≡ true
  held tile h =
      let there = has_entry h.entry h.met.own in
      list_any_at (is_in index tile) index.entries there.0 h.entry there.1 (subst (λ (e : Entry). is_in index tile e ≡ true) (sym there.2) h.met.meets)

  pub all_held : AreTilesHeld board index.reach (held_of index)
  all_held = record {
    rising = IsStrictlyIncreasing-filter (is_held index) (numbers_below tile_count) (all_rise tile_count);
    within = All-filter (is_held index) (λ tile. tile < tile_count) (numbers_below tile_count) (low_numbers tile_count);
    only = All-weaker (λ tile. is_held index tile ≡ true) (HoldsItem board index.reach) holds (held_of index) (filter_passes (is_held index) (numbers_below tile_count));
    all = λ tile lt h. contains_filter (is_held index) (numbers_below tile_count) tile (has_number tile_count tile lt) (held tile h);
  }

and_true : (b : Bool) → (b && true) ≡ b
and_true true = refl
and_true false = refl

pub dirty_is_held : (index : PlainIndex) (boxes : List Bounds) → dirty_of index boxes true ≡ held_of index
dirty_is_held index boxes = filter_agree (λ tile. is_held index tile && true) (is_held index) (λ tile. and_true (is_held index tile)) (numbers_below tile_count)

pub all_dirty : (board : PlainBoard) (index : PlainIndex) (boxes : List Bounds) → IsIndexOfItems board index → AreTilesHeld board index.reach (dirty_of index boxes true)
all_dirty board index boxes is = subst (AreTilesHeld board index.reach) (sym (dirty_is_held index boxes)) (all_held board index is)
