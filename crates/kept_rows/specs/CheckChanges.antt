-- A change of what is checked, and which rows it touches.
use Rattle.std.specs.Prelude.{◌≡◌, ℕ, Bool, ◌||◌, not, List, ◌++◌, filter, Contains}
use Rattle.std.specs.List.Sorted.{IsPermutation}
use Rattle.one_item.specs.declared.item.Item.{Item}
use Rattle.rule_pick.specs.declared.facts.Facts.{Facts}
use Rattle.box_index.specs.Tiles.{PlainIndex}
use Rattle.pair_check.specs.PlainRow.{PlainRow}
use Rattle.pair_check.specs.Rows.{Checked, deciders, Stands}
use Rattle.row_check.specs.RowsOfTile.{is_changed}
use Rattle.row_check.specs.Whole.{AreOnceWhere, AreInOrder, AreSingles, IsOfTiles}

-- what decides is the same, and so is each item that did not change, with its facts
pub record IsCheckChange (old new : Checked) (changed : List ℕ) : Type 0 where
  pub same : deciders new ≡ deciders old
  pub stays : (id : ℕ) → ¬ (Contains changed id) → (item : Item) (facts : Facts) → Stands old id item facts → Stands new id item facts
  pub stayed : (id : ℕ) → ¬ (Contains changed id) → (item : Item) (facts : Facts) → Stands new id item facts → Stands old id item facts

-- one of the items of the row changed
abbrev pub is_touched : List ℕ → PlainRow → Bool
is_touched changed row = is_changed changed row.first || is_changed changed row.second

abbrev pub untouched : List ℕ → List PlainRow → List PlainRow
untouched changed rows = filter (λ row. not (is_touched changed row)) rows

-- of these rows those that the change left, those of each item that changed alone, and those of the tiles, put in order
pub record AreUpdated (new : Checked) (index : PlainIndex) (tiles changed : List ℕ) (rows after : List PlainRow) : Type 0 where
  pub singles : List PlainRow
  pub pairs : List PlainRow
  pub are_singles : AreSingles new changed singles
  pub are_pairs : AreOnceWhere (IsOfTiles new index tiles changed) pairs
  pub put_together : IsPermutation ((untouched changed rows ++ singles) ++ pairs) after
  pub in_order : AreInOrder after
