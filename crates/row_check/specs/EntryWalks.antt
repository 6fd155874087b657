-- The rows of a tile, as the walk over its entries finds them.
use Rattle.std.specs.Prelude.{◌≡◌, ℕ, Bool, ◌&&◌, ◌==◌, cond, List, [], ◌++◌, map, filter, Contains}
use Rattle.geo_seg.specs.Boxes.{are_near}
use Rattle.box_index.specs.declared.entry.Entry.{Entry}
use Rattle.box_index.specs.Tiles.{PlainIndex, margin, owner_of}
use Rattle.pair_check.specs.PlainRow.{PlainRow}
use Rattle.pair_check.specs.Rows.{Checked, IsRowOfTwo, AreRowsWhere}

-- the two are near, and the tile answers for them
abbrev pub is_owned : PlainIndex → ℕ → Entry → Entry → Bool
is_owned index tile a b = are_near (margin index) a.bounds b.bounds && (owner_of (margin index) a.bounds b.bounds == tile)

-- with which of the later entries one is tested: with all where it changed, else with those that did
abbrev pub partners_of : (Entry → Bool) → Entry → List Entry → List Entry
partners_of changed a later = cond (changed a) later (filter changed later)

-- the pairs of an entry with others that the tile answers for
abbrev pub pairs_with : PlainIndex → ℕ → Entry → List Entry → List (Entry × Entry)
pairs_with index tile a others = map (λ b. (a, b)) (filter (is_owned index tile a) others)

-- the end of the others, before which there is none that the tile answers for
pub record IsEndOf (index : PlainIndex) (tile : ℕ) (a : Entry) (others end : List Entry) : Type 0 where
  pub prefix : List Entry
  pub split : others ≡ prefix ++ end
  pub none : filter (is_owned index tile a) prefix ≡ []

-- the row is of one of the pairs
pub record IsOfOne (pairs : List (Entry × Entry)) (row : PlainRow) : Type 0 where
  pub pair : Entry × Entry
  pub among : Contains pairs pair
  pub first : row.first ≡ pair.0.id
  pub second : row.second ≡ pair.1.id

-- the rows of these pairs, in order, and no others
abbrev pub AreRowsOfPairs : Checked → List (Entry × Entry) → List PlainRow → Type 0
AreRowsOfPairs c pairs rows = AreRowsWhere (λ row. IsRowOfTwo c row × IsOfOne pairs row) rows

-- P holds of the rows that were added
pub record HasAddedRows (P : List PlainRow → Type 0) (old new : List PlainRow) : Type 0 where
  pub more : List PlainRow
  pub is : new ≡ old ++ more
  pub pass : P more
