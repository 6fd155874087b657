-- Items that an edit may concern, as an index finds them, and facts that are found again one after the other.
use Rattle.std.specs.Prelude.{◌≡◌, ◌≢◌, ◌⊎◌, ℕ, ◌<◌, Bool, true, false, List, length, get_or, Option, None, Some, Contains}
use Rattle.std.specs.List.Sorted.{IsStrictlyIncreasing}
use Rattle.one_item.specs.declared.item.Item.{Item}
use Rattle.board_items.specs.Boards.{PlainBoard, item_at}
use Rattle.box_index.specs.Tiles.{PlainIndex}
use Rattle.board_index.specs.IndexedItems.{HasEntry}
use Rattle.net_class.specs.NetClasses.{PlainClasses}
use Rattle.rule_pick.specs.declared.facts.Facts.{Facts}
use Rattle.rule_pick.specs.ById.{facts_at}
use Rattle.rule_pick.specs.FactsOf.{AreFactsOf}
use Rattle.item_facts.specs.NearItems.{MayMeetItem}
use Rattle.kept_facts.specs.FactUpdates.{mark_at, mark_of, GiveSame}

-- ---- items

-- the name that is given; none where none is
abbrev pub IsNameIf : (List ℕ → Type 0) → Option (List ℕ) → Type 0
IsNameIf IsGiven None = (name : List ℕ) → ¬ (IsGiven name)
IsNameIf IsGiven (Some name) = IsGiven name

-- none is gone, and among them is the id of each entry whose item is near this one
pub record HasNear (index : PlainIndex) (mark : Option Item) (old new : List ℕ) : Type 0 where
  pub kept : (id : ℕ) → Contains old id → Contains new id
  pub met : (id : ℕ) (item other : Item) → mark ≡ Some other → HasEntry index id item → MayMeetItem item other → Contains new id

-- none is gone, and among them are those of these ids whose items have another name from the area or body before than from the one now
pub record HasOthers (board : PlainBoard) (near : List ℕ) (before now : Option Item) (old new : List ℕ) : Type 0 where
  pub kept : (id : ℕ) → Contains old id → Contains new id
  pub others : (id : ℕ) (item : Item) → Contains near id → item_at board.items id ≡ Some item → Contains new id ⊎ GiveSame item before now

-- the same of all items
pub record HasConcerned (board : PlainBoard) (before now : Option Item) (old new : List ℕ) : Type 0 where
  pub kept : (id : ℕ) → Contains old id → Contains new id
  pub others : (id : ℕ) (item : Item) → item_at board.items id ≡ Some item → Contains new id ⊎ GiveSame item before now

-- all of the ids are there, and all items that the first areas and bodies concern
pub record AreAskedTo (place : ℕ) (board : PlainBoard) (ids : List ℕ) (before : List (Option Item)) (asked : List ℕ) : Type 0 where
  pub own : (id : ℕ) → Contains ids id → Contains asked id
  pub each : (k : ℕ) → k < place → (id : ℕ) (item : Item) → item_at board.items id ≡ Some item → Contains asked id ⊎ GiveSame item (mark_of before k) (mark_at board (get_or ids k 0))

-- the ids that are asked for their facts: those of the edit, and those of all items that its areas and bodies concern
pub record AreAsked (board : PlainBoard) (ids : List ℕ) (before : List (Option Item)) (asked : List ℕ) : Type 0 where
  pub rise : IsStrictlyIncreasing asked
  pub all : AreAskedTo (length ids) board ids before asked

-- ---- facts

-- an item that is there has its facts as they are now, and one that is not has none
pub record IsOwn (board : PlainBoard) (classes : PlainClasses) (facts : List (Option Facts)) (id : ℕ) : Type 0 where
  pub there : (item : Item) → item_at board.items id ≡ Some item → (f : Facts) × (facts_at facts id ≡ Some f) × AreFactsOf board classes item f
  pub gone : item_at board.items id ≡ None → facts_at facts id ≡ None

-- the facts of this id were found again, and whether they are others than before
pub record IsFoundAgain (board : PlainBoard) (classes : PlainClasses) (id : ℕ) (old new : List (Option Facts)) (differs : Bool) : Type 0 where
  pub own : IsOwn board classes new id
  pub rest : (other : ℕ) → other ≢ id → facts_at new other ≡ facts_at old other
  pub same : differs ≡ false → facts_at new id ≡ facts_at old id
  pub other : differs ≡ true → facts_at new id ≢ facts_at old id

-- the facts of all these ids were found again, and those are noted that are of the edit or have other facts
pub record AreFoundAgain (board : PlainBoard) (classes : PlainClasses) (ids asked : List ℕ) (old new : List (Option Facts)) (changed : List ℕ) : Type 0 where
  pub own : (id : ℕ) → Contains asked id → IsOwn board classes new id
  pub rest : (id : ℕ) → ¬ (Contains asked id) → facts_at new id ≡ facts_at old id
  pub rise : IsStrictlyIncreasing changed
  pub from : (id : ℕ) → Contains changed id → Contains asked id
  pub noted : (id : ℕ) → Contains asked id → Contains changed id ⊎ (¬ (Contains ids id) × (facts_at new id ≡ facts_at old id))
  pub only : (id : ℕ) → Contains changed id → Contains ids id ⊎ (facts_at new id ≢ facts_at old id)
