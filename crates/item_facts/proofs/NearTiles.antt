-- What an index tells of the areas and bodies near an item.
use Rattle.std.proofs.Common.{◌≡◌, ℕ, List, [], filter, Contains, None, Some}
use Rattle.std.specs.List.Sorted.{IsStrictlyIncreasing}
use Rattle.geo_seg.specs.declared.boxes.Bounds.{Bounds}
use Rattle.one_item.specs.declared.item.Item.{Item}
use Rattle.one_item.specs.ItemKinds.{is_mark}
use Rattle.board_items.specs.Boards.{PlainBoard, IsSound, item_at, marks_of}
use Rattle.one_item.specs.ItemParts.{parts_of}
use Rattle.one_item.specs.Extents.{AreBoundsOf}
use Rattle.box_index.specs.Tiles.{PlainIndex}
use Rattle.box_index.specs.Reached.{HasReached}
use Rattle.box_index.proofs.Buckets.{contains_filter}
use Rattle.item_facts.specs.NearItems.{DoRise, MayMeetItem, is_mark_of, HoldsMarks, AreEnough}
use Rattle.item_facts.proofs.MarkBoxes.{near_area, near_courtyard}
use Rattle.item_facts.proofs.Marked.{no_parts}
use Rattle.item_facts.proofs.NearIds.{do_rise, ids_rise, ids_has}

module _ (items : List (ℕ × Item)) (item : Item) (ids : List ℕ) (rises : DoRise 0 ids) (among : (id : ℕ) (other : Item) → item_at items id ≡ Some other → MayMeetItem item other → Contains ids id) where
  near_enough : AreEnough item items ids
  near_enough = record {
    rises = rises;
    areas = λ id other found name m. among id other found (near_area item other name m);
    courtyards = λ id other found name m. among id other found (near_courtyard item other name m);
  }

-- the marks among what was reached are enough
module _ (items : List (ℕ × Item)) (index : PlainIndex) (holds : HoldsMarks items index) (item : Item) (box : Bounds) (own : AreBoundsOf (parts_of item) (Some box)) (old pushed kept : List ℕ) (reached : HasReached box index.entries old pushed)
    (rise : IsStrictlyIncreasing kept) (has : (id : ℕ) → Contains (filter (λ id. is_mark_of items id) pushed) id → Contains kept id) where
  among : (id : ℕ) (other : Item) → item_at items id ≡ Some other → MayMeetItem item other → Contains kept id
  among id other found near =
      let mark = holds.each id other found near.mark near.parts in
      let there = reached.met (record { id = id; bounds = mark.box }) mark.entry (near.boxes box mark.box own mark.own) in
      has id (contains_filter (λ id. is_mark_of items id) pushed id there (rw found near.mark))

  pub enough : AreEnough item items kept
  enough = near_enough items item kept (do_rise kept rise) among

-- all areas and bodies of the board are enough for each item
pub all_enough : (board : PlainBoard) → IsSound board → (item : Item) → AreEnough item board.items (marks_of board.items)
all_enough board sound item =
    near_enough board.items item (marks_of board.items) (ids_rise (λ (i : Item). is_mark i.what) 0 board.next_id board.items sound.ids)
    (λ id other found near. ids_has (λ (i : Item). is_mark i.what) board.items id other found near.mark)

-- an item without bounds meets nothing
pub meets_nothing : (items : List (ℕ × Item)) (item : Item) → AreBoundsOf (parts_of item) None → AreEnough item items []
meets_nothing items item none = record {
  rises = tt;
  areas = λ id other found name m. absurd ((near_area item other name m).own (no_parts (parts_of item) none));
  courtyards = λ id other found name m. absurd ((near_courtyard item other name m).own (no_parts (parts_of item) none));
}
