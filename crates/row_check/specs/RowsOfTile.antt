-- The rows of a tile: those of the pairs that it answers for. The index holds the items of the board under their bounds, and its
-- reach is that of the board, its classes and its rules.
use Rattle.std.specs.Prelude.{◌≡◌, ◌⊎◌, ℕ, ℤ, Bool, ◌&&◌, ◌||◌, ◌==◌, List, [], ◌∷◌, ◌++◌, map, length, filter, Contains}
use Rattle.std.specs.List.{AllZip, flat_map, list_any}
use Rattle.geo_seg.specs.declared.boxes.Bounds.{Bounds}
use Rattle.geo_seg.specs.Boxes.{widened, are_near}
use Rattle.rule_pick.specs.Reach.{IsReach}
use Rattle.box_index.specs.declared.entry.Entry.{Entry}
use Rattle.box_index.specs.Tiles.{PlainIndex, margin, owner_of}
use Rattle.board_index.specs.IndexedItems.{IsIndexOfItems}
use Rattle.pair_check.specs.PlainRow.{PlainRow}
use Rattle.pair_check.specs.Rows.{Checked, IsRowOfTwo, AreRowsWhere}

-- the index holds exactly the items that have bounds, and reaches as far as anything is asked for
pub record IsIndexOf (c : Checked) (index : PlainIndex) : Type 0 where
  pub reach : IsReach c.board c.classes c.rules index.reach
  pub items : IsIndexOfItems c.board index

-- the tile answers for the pair of these ids, one of which changed
pub record IsAskedIn (index : PlainIndex) (tile : ℕ) (changed : List ℕ) (i j : ℕ) : Type 0 where
  pub first : Entry
  pub second : Entry
  pub has_first : Contains index.entries first
  pub has_second : Contains index.entries second
  pub is_first : first.id ≡ i
  pub is_second : second.id ≡ j
  pub owner : owner_of (margin index) first.bounds second.bounds ≡ tile
  pub touched : Contains changed i ⊎ Contains changed j

-- the rows of all pairs with an id that changed for which the tile answers, in order, and no others
abbrev pub AreRowsOfTile : Checked → PlainIndex → ℕ → List ℕ → List PlainRow → Type 0
AreRowsOfTile c index tile changed rows = AreRowsWhere (λ row. IsRowOfTwo c row × IsAskedIn index tile changed row.first row.second) rows

-- for each of these tiles its rows
abbrev pub AreBatches : Checked → PlainIndex → (tiles changed : List ℕ) → List (List PlainRow) → Type 0
AreBatches c index tiles changed batches = AllZip (λ tile batch. AreRowsOfTile c index tile changed batch) tiles batches

abbrev pub end_to_end : List (List PlainRow) → List PlainRow
end_to_end batches = flat_map (λ (batch : List PlainRow). batch) batches

-- ---- how many pairs are tested

-- all pairs of a list, in order
abbrev pub pairs_of : List Entry → List (Entry × Entry)
pairs_of [] = []
pairs_of (x ∷ xs) = map (λ y. (x, y)) xs ++ pairs_of xs

-- the id is one of those that changed
abbrev pub is_changed : List ℕ → ℕ → Bool
is_changed changed id = list_any (λ c. c == id) changed

-- the pair has an id that changed, and the tile answers for it
abbrev pub is_asked : PlainIndex → ℕ → List ℕ → Entry × Entry → Bool
is_asked index tile changed p = (is_changed changed p.0.id || is_changed changed p.1.id) && (owner_of (margin index) p.0.bounds p.1.bounds == tile)

-- the boxes meet, also by touching, where both are widened
abbrev pub do_meet : ℤ → Bounds → Bounds → Bool
do_meet margin first second = are_near margin first (widened second margin)

-- how many such pairs have widened bounds that meet
abbrev pub most_steps : PlainIndex → ℕ → List ℕ → ℕ
most_steps index tile changed = length (filter (λ (p : Entry × Entry). is_asked index tile changed p && do_meet (margin index) p.0.bounds p.1.bounds) (pairs_of index.entries))
