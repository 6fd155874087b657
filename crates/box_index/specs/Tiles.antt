-- The tiles of a board and an index over them. A board has 125 by 125 tiles of 8 mm, numbered row by row from the top left.
-- Coordinates are half nanometres, and the reach is nanometres.
use Rattle.std.specs.Prelude.{◌≢◌, ℕ, ◌+◌, ◌*◌, ◌/◌, ◌%◌, ◌<◌, zero, suc, min, ℤ, pos, negsuc, ◌+ℤ◌, ◌-ℤ◌, ◌≤ℤ◌, Bool, ◌&&◌, ◌||◌, not, IsTrue, nat_le, nat_lt, ◌==◌, List, [], ◌∷◌, ◌++◌, filter, All, AllPairs, Contains}
use Rattle.std.specs.List.{list_any}
use Rattle.std.specs.Int.{int_max}
use Rattle.geo_seg.specs.declared.boxes.Bounds.{Bounds}
use Rattle.geo_seg.specs.Boxes.{widened, are_near, FitsIndex}
use Rattle.box_index.specs.declared.entry.Entry.{Entry}

-- the number, or 0 where it is negative
abbrev pub or_zero : ℤ → ℕ
or_zero (pos n) = n
or_zero (negsuc n) = 0

-- the column of an x, or the row of a y: how many whole tiles lie between the first edge, at -1,000,000,000, and it. What lies
-- beyond the tiles counts with the first or the last of them
abbrev pub lane : ℤ → ℕ
lane z = min 124 (or_zero (z +ℤ pos 1000000000) / 16000000)

-- the tile of a point
abbrev pub tile_of : ℤ → ℤ → ℕ
tile_of x y = lane y * 125 + lane x

abbrev pub tile_count : ℕ
tile_count = 15625

-- the box meets the tile: it is between the columns of its left and right, and between the rows of its top and bottom
abbrev pub meets_tile : Bounds → ℕ → Bool
meets_tile b tile = nat_le (lane b.left) (tile % 125) && nat_le (tile % 125) (lane b.right) && nat_le (lane b.top) (tile / 125) && nat_le (tile / 125) (lane b.bottom)

-- an index as contracts see it
pub record PlainIndex : Type 0 where
  pub reach : ℤ
  pub entries : List Entry

-- the reach in half nanometres
abbrev pub margin : PlainIndex → ℤ
margin index = index.reach +ℤ index.reach

-- the ids rise along the list
abbrev pub IsRising : List Entry → Type 0
IsRising xs = AllPairs (λ a b. a.id < b.id) xs

-- what holds of each index
pub record IsSoundIndex (index : PlainIndex) : Type 0 where
  pub reach_from : pos 0 ≤ℤ index.reach
  pub reach_to : index.reach ≤ℤ pos 500000000
  pub rising : IsRising index.entries
  pub fit : All (λ e. FitsIndex e.bounds) index.entries

-- the entry's bounds, widened by the reach, meet the tile
abbrev pub is_in : PlainIndex → ℕ → Entry → Bool
is_in index tile e = meets_tile (widened e.bounds (margin index)) tile

-- the entries of a tile, by rising id
abbrev pub near_of : PlainIndex → ℕ → List Entry
near_of index tile = filter (is_in index tile) index.entries

-- the tile that answers for a pair of boxes, the first of which is widened
abbrev pub owner_of : ℤ → Bounds → Bounds → ℕ
owner_of margin first second = tile_of (int_max (first.left -ℤ margin) second.left) (int_max (first.top -ℤ margin) second.top)

-- where the boxes meet, the first widened, both widened meet the tile
abbrev pub OwnsBoth : ℤ → Bounds → Bounds → ℕ → Type 0
OwnsBoth margin first second tile =
    IsTrue (are_near margin first second) → IsTrue (meets_tile (widened first margin) tile) × IsTrue (meets_tile (widened second margin) tile)

-- the index misses no pair: of two entries that are near, where the first is widened by the reach, the tile that answers for
-- them has both
abbrev pub IsComplete : PlainIndex → Type 0
IsComplete index =
    (first second : Entry)
    → Contains index.entries first
    → Contains index.entries second
    → IsTrue (are_near (margin index) first.bounds second.bounds)
    → let tile = owner_of (margin index) first.bounds second.bounds in (Contains (near_of index tile) first × Contains (near_of index tile) second)

-- the tile answers for no two entries that are near
abbrev pub AnswersForNone : PlainIndex → ℕ → Type 0
AnswersForNone index tile =
    (first second : Entry)
    → Contains index.entries first
    → Contains index.entries second
    → IsTrue (are_near (margin index) first.bounds second.bounds)
    → owner_of (margin index) first.bounds second.bounds ≢ tile

-- the list with the entry in its place: after those with lesser ids, and before those with greater ones
abbrev pub placed : Entry → List Entry → List Entry
placed e xs = filter (λ x. nat_lt x.id e.id) xs ++ e ∷ filter (λ x. nat_lt e.id x.id) xs

-- no entry has the id
abbrev pub IsAbsent : ℕ → List Entry → Type 0
IsAbsent id xs = All (λ x. x.id ≢ id) xs

-- the list without the entry of this id
abbrev pub without : ℕ → List Entry → List Entry
without id xs = filter (λ x. not (x.id == id)) xs

-- the numbers below n, rising
unfoldable pub numbers_below : ℕ → List ℕ
numbers_below zero = []
numbers_below (suc n) = numbers_below n ++ n ∷ []

-- the tile holds an entry
abbrev pub is_held : PlainIndex → ℕ → Bool
is_held index tile = list_any (is_in index tile) index.entries

-- the tiles that hold an entry, rising
abbrev pub held_of : PlainIndex → List ℕ
held_of index = filter (is_held index) (numbers_below tile_count)

-- the tile is met by one of the boxes, where these are widened
abbrev pub is_met_by : ℤ → List Bounds → ℕ → Bool
is_met_by margin boxes tile = list_any (λ b. meets_tile (widened b margin) tile) boxes

-- of the tiles that hold an entry all, or those that are met by one of the boxes; rising
abbrev pub dirty_of : PlainIndex → List Bounds → Bool → List ℕ
dirty_of index boxes all = filter (λ tile. is_held index tile && (all || is_met_by (margin index) boxes tile)) (numbers_below tile_count)
