-- Private words of the search: the places of a list of ids get labels, the numbers of their groups.
use Rattle.std.specs.Prelude.{◌≡◌, ℕ, suc, ◌+◌, ◌<◌, ◌≤◌, ◌==◌, Bool, false, not, ◌&&◌, if◌then◌else◌, List, [], ◌∷◌, length, slice_index, slice_index_or, ◌⊎◌, Option, None, Some, Contains}
use Rattle.one_item.specs.declared.item.Item.{Item}
use Rattle.board_items.specs.Boards.{PlainBoard}
use Rattle.net_groups.specs.StepChains.{Chain}
use Rattle.net_groups.specs.ConnectedClasses.{Rises}
use Rattle.net_groups.specs.Touching.{IsConductor}

-- the item of an id has copper
abbrev pub is_copper : Option Item → Bool
is_copper None = false
is_copper (Some item) = not (length item.copper == 0)

-- the item is one of the net and has copper
abbrev pub is_conductor : ℕ → Item → Bool
is_conductor net item = item.net == net && (not (net == 0) && not (length item.copper == 0))

-- the ids of those, in order
abbrev pub conductors_in : ℕ → List (ℕ × Item) → List ℕ
conductors_in net [] = []
conductors_in net (entry ∷ entries) = if is_conductor net entry.1 then entry.0 ∷ conductors_in net entries else conductors_in net entries

-- the ids of all items of the net with copper, rising
pub record AreConductors (board : PlainBoard) (net : ℕ) (ids : List ℕ) : Type 0 where
  pub rises : Rises ids
  pub only : (id : ℕ) → Contains ids id → IsConductor board net id
  pub every : (id : ℕ) → IsConductor board net id → Contains ids id

abbrev pub label_at : List (Option ℕ) → ℕ → Option ℕ
label_at labels place = slice_index_or labels place None

-- the place has a label
abbrev pub IsLabelled : List (Option ℕ) → ℕ → Type 0
IsLabelled labels place = (x : ℕ) × (label_at labels place ≡ Some x)

-- how many places have none
abbrev pub unlabelled : List (Option ℕ) → ℕ
unlabelled [] = 0
unlabelled (None ∷ labels) = suc (unlabelled labels)
unlabelled (Some x ∷ labels) = unlabelled labels

-- all that the place touches has a label
abbrev pub IsDone : (ℕ → ℕ → Type 0) → List ℕ → List (Option ℕ) → ℕ → Type 0
IsDone Step ids labels place = (j : ℕ) → j < length ids → Step (slice_index ids place) (slice_index ids j) → IsLabelled labels j

-- what a visit of a place leaves, after it has asked the others: those that it touches have a label, and the new ones are on
-- the stack
pub record IsVisited (Step : ℕ → ℕ → Type 0) (ids others : List ℕ) (place label : ℕ) (labels new_labels : List (Option ℕ)) (stack new_stack : List ℕ) : Type 0 where
  pub places : length new_labels ≡ length labels
  pub balance : unlabelled new_labels + length new_stack ≡ unlabelled labels + length stack
  pub kept : (i x : ℕ) → label_at labels i ≡ Some x → label_at new_labels i ≡ Some x
  pub fresh : (i x : ℕ) → label_at new_labels i ≡ Some x →
      (label_at labels i ≡ Some x) ⊎ ((x ≡ label) × Contains new_stack i × Step (slice_index ids place) (slice_index ids i))
  pub stacked : (i : ℕ) → Contains stack i → Contains new_stack i
  pub pushed : (i : ℕ) → Contains new_stack i → Contains stack i ⊎ (label_at new_labels i ≡ Some label)
  pub reached : (j : ℕ) → j < length ids → Contains others (slice_index ids j) → Step (slice_index ids place) (slice_index ids j) → IsLabelled new_labels j

-- what holds while a label spreads from a place: whatever has it is done or still on the stack
pub record IsSpread (Step : ℕ → ℕ → Type 0) (ids : List ℕ) (before : List (Option ℕ)) (start label : ℕ) (stack : List ℕ) (labels : List (Option ℕ)) : Type 0 where
  pub places : length labels ≡ length before
  pub kept : (i x : ℕ) → label_at before i ≡ Some x → label_at labels i ≡ Some x
  pub fresh : (i x : ℕ) → label_at labels i ≡ Some x → (label_at before i ≡ Some x) ⊎ (x ≡ label)
  pub chained : (i : ℕ) → label_at labels i ≡ Some label → Chain Step (slice_index ids start) (slice_index ids i)
  pub begun : label_at labels start ≡ Some label
  pub stacked : (i : ℕ) → Contains stack i → label_at labels i ≡ Some label
  pub done : (i : ℕ) → label_at labels i ≡ Some label → Contains stack i ⊎ IsDone Step ids labels i

-- what holds when the first places were gone through: the labels below `count` are whole groups, in the order of their first
-- places
pub record AreLabels (Step : ℕ → ℕ → Type 0) (ids : List ℕ) (gone count : ℕ) (labels : List (Option ℕ)) : Type 0 where
  pub places : length labels ≡ length ids
  pub filled : (i : ℕ) → i < gone → IsLabelled labels i
  pub few : count ≤ gone
  pub below : (i x : ℕ) → label_at labels i ≡ Some x → x < count
  pub closed : (i j x : ℕ) → j < length ids → label_at labels i ≡ Some x → Step (slice_index ids i) (slice_index ids j) → label_at labels j ≡ Some x
  pub chained : (i j x : ℕ) → label_at labels i ≡ Some x → label_at labels j ≡ Some x → Chain Step (slice_index ids i) (slice_index ids j)
  pub occurs : (x : ℕ) → x < count → (i : ℕ) × (i < gone) × (label_at labels i ≡ Some x)
  pub in_order : (x y i : ℕ) → x < y → label_at labels i ≡ Some y → (s : ℕ) × (s < i) × (label_at labels s ≡ Some x)

-- the ids of the places that have the label
abbrev pub has_label : ℕ → Option ℕ → Bool
has_label x None = false
has_label x (Some y) = y == x

abbrev pub ids_of : ℕ → List (Option ℕ) → List ℕ → List ℕ
ids_of x [] ids = []
ids_of x (label ∷ labels) [] = []
ids_of x (label ∷ labels) (id ∷ ids) = if has_label x label then id ∷ ids_of x labels ids else ids_of x labels ids

-- each label has its list
pub record AreGathered (count : ℕ) (labels : List (Option ℕ)) (ids : List ℕ) (groups : List (List ℕ)) : Type 0 where
  pub count_is : length groups ≡ count
  pub each : (x : ℕ) → x < count → slice_index_or groups x [] ≡ ids_of x labels ids
