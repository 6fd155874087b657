-- Lists of entries that tiles share, and the tiles that have them. A tile has the number of a list.
use Rattle.std.specs.Prelude.{◌≡◌, ◌≢◌, ◌⊎◌, ℕ, ◌<◌, ◌≤◌, Bool, true, false, ◌&&◌, ◌==◌, List, filter, All, Option, IfSome, length, slice_index_or, vec_len, vec_capacity}
use Rattle.box_index.specs.declared.area.Area.{Area}
use Rattle.box_index.specs.declared.entry.Entry.{Entry}
use Rattle.box_index.specs.declared.shared.Shared.{Shared}
use Rattle.box_index.specs.declared.parting.Parted.{Parted}
use Rattle.box_index.specs.Tiles.{IsRising, IsAbsent, placed, without, numbers_below, tile_count}
use Rattle.box_index.specs.Areas.{has_tile, IsSubarea}
use Rattle.box_index.specs.EntryOrigins.{BeginsBy}

-- ---- one list
abbrev pub HasCapacity : Shared → Type 0
HasCapacity list = vec_len list.entries < vec_capacity list.entries

-- both say the same of entries, wherever they are at home
pub record HasSameEntries (old new : Shared) : Type 0 where
  pub items : new.entries.items ≡ old.entries.items
  pub last : new.last ≡ old.last

-- both say the same
pub record IsEqual (old new : Shared) : Type 0 where
  pub items : new.entries.items ≡ old.entries.items
  pub last : new.last ≡ old.last
  pub home : new.home ≡ old.home

-- the entry was put in
pub record IsPut (e : Entry) (old new : Shared) : Type 0 where
  pub items : new.entries.items ≡ placed e old.entries.items
  pub home : new.home ≡ old.home
  pub begun : All (BeginsBy old.last) old.entries.items → All (BeginsBy new.last) new.entries.items

-- the entry of this id was taken out, if there was one
pub record IsEntryRemoved (id : ℕ) (old new : Shared) : Type 0 where
  pub items : new.entries.items ≡ without id old.entries.items
  pub home : new.home ≡ old.home
  pub last : new.last ≡ old.last

-- it is of tiles of the area alone, and one more entry can be put into it
pub record IsReady (area : Area) (list : Shared) : Type 0 where
  pub lies : IsSubarea list.home area
  pub capacity : HasCapacity list

-- ---- the lists of tiles
-- the list that a tile has
abbrev pub list_at : List ℕ → List Shared → ℕ → ℕ → Shared → Shared
list_at tiles lists tile d s = slice_index_or lists (slice_index_or tiles tile d) s

-- each tile has a list, which is at home there
pub record AreHomed (tiles : List ℕ) (lists : List Shared) : Type 0 where
  pub long : length tiles ≡ tile_count
  pub within : (tile d : ℕ) → tile < tile_count → slice_index_or tiles tile d < length lists
  pub home : (tile d : ℕ) (s : Shared) → tile < tile_count → has_tile (list_at tiles lists tile d s).home tile ≡ true

-- a list has these entries, and none begins behind its corner
pub record IsOf (entries : List Entry) (list : Shared) : Type 0 where
  pub items : list.entries.items ≡ entries
  pub begun : All (BeginsBy list.last) entries

-- each tile's list is of the entries near it
pub record AreShared (near : ℕ → List Entry) (tiles : List ℕ) (lists : List Shared) : Type 0 where
  pub homed : AreHomed tiles lists
  pub each : (tile d : ℕ) (s : Shared) → tile < tile_count → IsOf (near tile) (list_at tiles lists tile d s)

-- the tile is one of the area's and has no entries
abbrev pub is_vacant : (ℕ → List Entry) → Area → ℕ → Bool
is_vacant near area tile = has_tile area tile && (length (near tile) == 0)

abbrev pub vacant_of : (ℕ → List Entry) → Area → List ℕ
vacant_of near area = filter (is_vacant near area) (numbers_below tile_count)

-- all tiles of the area have the same list
abbrev pub IsEven : Area → List ℕ → Type 0
IsEven area tiles = (tile other d : ℕ) → has_tile area tile ≡ true → has_tile area other ≡ true → slice_index_or tiles tile d ≡ slice_index_or tiles other d

abbrev pub IsEvenAt : Option Area → List ℕ → Type 0
IsEvenAt even tiles = IfSome even (λ area. IsEven area tiles)

-- of each tile of the area, the list is of such tiles alone and has room
abbrev pub AreReady : Area → List ℕ → List Shared → Type 0
AreReady area tiles lists = (tile d : ℕ) (s : Shared) → has_tile area tile ≡ true → IsReady area (list_at tiles lists tile d s)

-- the tiles of the area below the end have all lists of the area's tiles
abbrev pub DoMeetAll : Area → List ℕ → ℕ → Type 0
DoMeetAll area tiles end = (tile d : ℕ) → has_tile area tile ≡ true → (met : ℕ) × (met < end) × (has_tile area met ≡ true) × (slice_index_or tiles tile d ≡ slice_index_or tiles met d)

-- ---- lists that are parted
-- what was a list of many tiles is two, which are alike, and the second is ready for tiles of the area
pub record IsParted (area : Area) (parted : Parted) (lists : List Shared) : Type 0 where
  pub from : parted.from < length lists
  pub to : parted.to < length lists
  pub alike : (s : Shared) → HasSameEntries (slice_index_or lists parted.from s) (slice_index_or lists parted.to s)
  pub ready : (s : Shared) → IsReady area (slice_index_or lists parted.to s)

-- the lists stay, with at least as much room, and others may follow
pub record DoStay (old new : List Shared) : Type 0 where
  pub longer : length old ≤ length new
  pub same : (n : ℕ) (s : Shared) → n < length old → IsEqual (slice_index_or old n s) (slice_index_or new n s)
  pub capacity : (n : ℕ) (s : Shared) → n < length old → HasCapacity (slice_index_or old n s) → HasCapacity (slice_index_or new n s)

-- one tile may have another list, which is alike and at home there; all else stays
pub record HasMoved (tile : ℕ) (tiles : List ℕ) (lists : List Shared) (tiles' : List ℕ) (lists' : List Shared) : Type 0 where
  pub stay : DoStay lists lists'
  pub long : length tiles' ≡ length tiles
  pub others : (other d : ℕ) → other ≢ tile → slice_index_or tiles' other d ≡ slice_index_or tiles other d
  pub within : (d : ℕ) → slice_index_or tiles' tile d < length lists'
  pub home : (d : ℕ) (s : Shared) → has_tile (list_at tiles' lists' tile d s).home tile ≡ true
  pub alike : (d : ℕ) (s : Shared) → HasSameEntries (list_at tiles lists tile d s) (list_at tiles' lists' tile d s)

-- ---- an entry that is put in or taken out
-- R holds of what each list of a tile of the area was and is; of any other too, where `May` holds of it, or it is as it was
pub record AreListsChanged (R : Shared → Shared → Type 0) (May : Shared → Type 0) (area : Area) (tiles : List ℕ) (old new : List Shared) : Type 0 where
  pub long : length new ≡ length old
  pub inside : (tile d : ℕ) (s : Shared) → has_tile area tile ≡ true → R (list_at tiles old tile d s) (list_at tiles new tile d s)
  pub each : (n : ℕ) (s : Shared) → (slice_index_or new n s ≡ slice_index_or old n s) ⊎ (May (slice_index_or old n s) × R (slice_index_or old n s) (slice_index_or new n s))

-- the entry can be put into each list of the area's tiles
pub record IsOpen (e : Entry) (list : Shared) : Type 0 where
  pub rising : IsRising list.entries.items
  pub absent : IsAbsent e.id list.entries.items

abbrev pub CanTake : Entry → Area → List ℕ → List Shared → Type 0
CanTake e area tiles lists = (tile d : ℕ) (s : Shared) → has_tile area tile ≡ true → IsOpen e (list_at tiles lists tile d s)

abbrev pub AreRising : Area → List ℕ → List Shared → Type 0
AreRising area tiles lists = (tile d : ℕ) (s : Shared) → has_tile area tile ≡ true → IsRising (list_at tiles lists tile d s).entries.items

-- what is near each tile, with one entry more in the area
pub record IsPutNear (e : Entry) (area : Area) (near now : ℕ → List Entry) : Type 0 where
  pub inside : (tile : ℕ) → tile < tile_count → has_tile area tile ≡ true → now tile ≡ placed e (near tile)
  pub outside : (tile : ℕ) → tile < tile_count → has_tile area tile ≡ false → now tile ≡ near tile

-- and without the entry of this id, which only tiles of the area may have
pub record IsTakenNear (id : ℕ) (area : Area) (near now : ℕ → List Entry) : Type 0 where
  pub all : (tile : ℕ) → tile < tile_count → now tile ≡ without id (near tile)
  pub outside : (tile : ℕ) → tile < tile_count → has_tile area tile ≡ false → now tile ≡ near tile
