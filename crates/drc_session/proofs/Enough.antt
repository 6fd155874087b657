-- The tiles that the boxes of what changed find are enough.
use Rattle.std.proofs.Common.{◌≡◌, ap, sym, subst, ◌∙◌, ℕ, ◌<◌, Bool, true, false, ◌&&◌, ◌||◌, List, ◌++◌, Contains}
use Rattle.std.specs.List.Sorted.{IsStrictlyIncreasing}
use Rattle.std.proofs.lemmas.List.Elements.{Contains-append_right}
use Rattle.std.proofs.lemmas.List.Folds.{list_any_at}
use Rattle.std.proofs.lemmas.List.Kept.{IsStrictlyIncreasing-filter}
use Rattle.geo_seg.specs.declared.boxes.Bounds.{Bounds}
use Rattle.geo_seg.specs.Boxes.{widened}
use Rattle.box_index.specs.declared.entry.Entry.{Entry}
use Rattle.box_index.specs.Tiles.{PlainIndex, margin, meets_tile, is_in, is_held, is_met_by, dirty_of, numbers_below, tile_count}
use Rattle.board_index.proofs.Numbers.{all_rise, has_number}
use Rattle.board_laws.proofs.Rest.{contains_filter}
use Rattle.pair_check.specs.Rows.{Checked}
use Rattle.row_check.specs.RowsOfTile.{IsIndexOf}
use Rattle.row_check.specs.Whole.{AreEnough}
use Rattle.drc_session.specs.Looks.{AreBoxesIn}

module _ (index : PlainIndex) (boxes : List Bounds) where
  abbrev is_dirty : ℕ → Bool
  is_dirty tile = is_held index tile && (false || is_met_by (margin index) boxes tile)

  dirty_rise : IsStrictlyIncreasing (dirty_of index boxes false)
  dirty_rise = IsStrictlyIncreasing-filter is_dirty (numbers_below tile_count) (all_rise tile_count)

  held : (tile : ℕ) (entry : Entry) → Contains index.entries entry → is_in index tile entry ≡ true → is_held index tile ≡ true
  held tile entry c met = list_any_at (is_in index tile) index.entries c.0 entry c.1 (subst (λ (e : Entry). is_in index tile e ≡ true) (sym c.2) met)

  found : (tile : ℕ) (entry : Entry) → Contains boxes entry.bounds → is_in index tile entry ≡ true → is_met_by (margin index) boxes tile ≡ true
  found tile entry c met =
      list_any_at (λ (b : Bounds). meets_tile (widened b (margin index)) tile) boxes c.0 entry.bounds c.1
      (subst (λ (b : Bounds). meets_tile (widened b (margin index)) tile ≡ true) (sym c.2) met)

  is_among : (tile : ℕ) (entry : Entry) → tile < tile_count → Contains index.entries entry → Contains boxes entry.bounds → is_in index tile entry ≡ true → Contains (dirty_of index boxes false) tile
  is_among tile entry lt c box met =
      let test : is_dirty tile ≡ true = ap (λ (t : Bool). t && is_met_by (margin index) boxes tile) (held tile entry c met) ∙ found tile entry box met in
      contains_filter is_dirty (numbers_below tile_count) tile (has_number tile_count tile lt) test

pub enough_tiles : (c : Checked) (index : PlainIndex) → IsIndexOf c index → (changed : List ℕ) (was_boxes is_boxes : List Bounds) → AreBoxesIn c.board changed is_boxes → AreEnough index changed (dirty_of index (was_boxes ++ is_boxes) false)
enough_tiles c index of changed was_boxes is_boxes are = record {
  rise = dirty_rise index (was_boxes ++ is_boxes);
  all = λ tile entry lt has among met.
      is_among index (was_boxes ++ is_boxes) tile entry lt has (Contains-append_right was_boxes is_boxes entry.bounds (are.all entry among (of.items.only entry has))) met;
}
