-- Private words of the search: which pairs are asked for in a tile.
use Rattle.std.specs.Prelude.{◌≡◌, ℕ, ◌==◌, ◌<◌, ℤ, Bool, true, ◌&&◌, if◌then◌else◌, nat_lt, List, [], ◌∷◌, ◌⊎◌, length, slice_index, Option, Contains}
use Rattle.geo_seg.specs.Boxes.{do_boxes_meet}
use Rattle.box_index.specs.declared.area.Area.{Area}
use Rattle.box_index.specs.Areas.{has_tile, end_of}
use Rattle.box_index.specs.declared.entry.Entry.{Entry}
use Rattle.box_index.specs.Tiles.{PlainIndex, margin, near_of, owner_of}
use Rattle.net_groups.specs.Labels.{IsVisited}

-- the tile that answers for two entries, the one with the lesser id first
abbrev pub tile_for : ℤ → Entry → Entry → ℕ
tile_for reach own other = if nat_lt own.id other.id then owner_of reach own.bounds other.bounds else owner_of reach other.bounds own.bounds

-- the pair is asked for in this tile: the bounds meet, and the tile answers for it
abbrev pub is_asked : ℤ → ℕ → Entry → Entry → Bool
is_asked reach tile own other = do_boxes_meet own.bounds other.bounds && (tile_for reach own other == tile)

-- the ids of the places of those of the entries that are asked for
abbrev pub ids_asked : List ℕ → ℤ → ℕ → Entry → List Entry → List ℕ
ids_asked ids reach tile own [] = []
ids_asked ids reach tile own (entry ∷ entries) =
    if is_asked reach tile own entry then slice_index ids entry.id ∷ ids_asked ids reach tile own entries else ids_asked ids reach tile own entries

-- the ids that are asked for in a tile
abbrev pub asked_in : List ℕ → PlainIndex → ℕ → Entry → List ℕ
asked_in ids index tile own = ids_asked ids (margin index) tile own (near_of index tile)

-- what a visit with some others leaves, where these are all that the place touches
pub record IsVisitedWhole (Step : ℕ → ℕ → Type 0) (ids : List ℕ) (place label : ℕ) (labels new_labels : List (Option ℕ)) (stack new_stack : List ℕ) : Type 0 where
  pub others : List ℕ
  pub visited : IsVisited Step ids others place label labels new_labels stack new_stack
  pub covers : (j : ℕ) → j < length ids → Step (slice_index ids place) (slice_index ids j) → (j ≡ place) ⊎ Contains others (slice_index ids j)

-- what holds when the tiles of an area before this one were visited
pub record IsWalked (Step : ℕ → ℕ → Type 0) (ids : List ℕ) (index : PlainIndex) (area : Area) (own : Entry) (place label : ℕ) (labels new_labels : List (Option ℕ)) (stack new_stack : List ℕ) (here : ℕ) : Type 0 where
  pub next : here < end_of area → has_tile area here ≡ true
  pub others : List ℕ
  pub visited : IsVisited Step ids others place label labels new_labels stack new_stack
  pub each : (tile : ℕ) → tile < here → has_tile area tile ≡ true → (a : ℕ) → Contains (asked_in ids index tile own) a → Contains others a
