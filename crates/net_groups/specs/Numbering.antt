-- Private words of the search for anchors: the number of each member's group.
use Rattle.std.specs.Prelude.{◌≡◌, ℕ, ◌==◌, ◌*◌, ◌≤◌, ◌⊎◌, if◌then◌else◌, List, [], ◌∷◌, ◌++◌, length, Option, None, Some, Contains, slice_index_or}
use Rattle.one_item.specs.declared.item.Item.{Item}
use Rattle.board_items.specs.Boards.{item_at}
use Rattle.ratsnest.specs.declared.anchor.Anchor.{Anchor}
use Rattle.ratsnest.specs.NestOf.{AnchorsRise}
use Rattle.net_groups.specs.Anchors.{HasAnchor}

-- the number that stands beside the id
abbrev pub number_of : List ℕ → List (Option ℕ) → ℕ → Option ℕ
number_of [] numbers id = None
number_of (own ∷ ids) [] id = None
number_of (own ∷ ids) (number ∷ numbers) id = if own == id then number else number_of ids numbers id

-- the members of one group have its number now, and all others what they had
pub record IsEntered (group : List ℕ) (number : ℕ) (old new : ℕ → Option ℕ) : Type 0 where
  pub put : (id : ℕ) → Contains group id → new id ≡ Some number
  pub others : (id : ℕ) → (Contains group id × (new id ≡ Some number)) ⊎ (new id ≡ old id)

-- each member has the number of its group, and nothing else has one
pub record AreNumbered (groups : List (List ℕ)) (numbers : ℕ → Option ℕ) : Type 0 where
  pub only : (id number : ℕ) → numbers id ≡ Some number → Contains (slice_index_or groups number []) id
  pub every : (id number : ℕ) → Contains (slice_index_or groups number []) id → numbers id ≡ Some number

-- the anchors of one item
pub record AreOwn (item : Item) (id group : ℕ) (anchors : List Anchor) : Type 0 where
  pub rise : AnchorsRise anchors
  pub few : length anchors ≤ 2
  pub only : (a : Anchor) → Contains anchors a → (a.id ≡ id) × (a.group ≡ group) × HasAnchor item a.number a.x a.y
  pub every : (a : Anchor) → a.id ≡ id → a.group ≡ group → HasAnchor item a.number a.x a.y → Contains anchors a

-- they were appended
pub record AreOwnAdded (item : Item) (id group : ℕ) (old new : List Anchor) : Type 0 where
  pub more : List Anchor
  pub whole : new ≡ old ++ more
  pub own : AreOwn item id group more

-- an anchor of one of these ids
pub record IsAnchorAmong (items : List (ℕ × Item)) (numbers : ℕ → Option ℕ) (ids : List ℕ) (a : Anchor) : Type 0 where
  pub item : Item
  pub found : item_at items a.id ≡ Some item
  pub listed : Contains ids a.id
  pub numbered : numbers a.id ≡ Some a.group
  pub place : HasAnchor item a.number a.x a.y

-- all of those, in order
pub record AreAnchorsAmong (items : List (ℕ × Item)) (numbers : ℕ → Option ℕ) (ids : List ℕ) (anchors : List Anchor) : Type 0 where
  pub rise : AnchorsRise anchors
  pub few : length anchors ≤ 2 * length ids
  pub only : (a : Anchor) → Contains anchors a → IsAnchorAmong items numbers ids a
  pub every : (a : Anchor) → IsAnchorAmong items numbers ids a → Contains anchors a

-- those of one id were appended
pub record AreAdded (items : List (ℕ × Item)) (numbers : ℕ → Option ℕ) (id : ℕ) (old new : List Anchor) : Type 0 where
  pub more : List Anchor
  pub whole : new ≡ old ++ more
  pub own : AreAnchorsAmong items numbers (id ∷ []) more
