-- What is known of an operation while it is done.
use Rattle.std.specs.Prelude.{◌≡◌, ℕ, ℤ, neg_ℤ, List, [], ◌∷◌, map}
use Rattle.one_item.specs.declared.item.Item.{Item}
use Rattle.board_items.specs.Boards.{PlainBoard}
use Rattle.board_edits.specs.declared.making.Made.{Made}
use Rattle.board_edits.specs.Operations.{PlainOperation, nothing, take_out, shift, After}
use Rattle.board_edits.specs.Fitting.{plain_operation, IsInverseOperation, GivesNothing, AddsNone}
use Rattle.board_edits.specs.TouchedItems.{ids_touched, AreEdited, AreKnown}

-- the ids of the entries
abbrev pub ids_of : List (ℕ × Item) → List ℕ
ids_of entries = map (λ entry. entry.0) entries

-- what takes out items that were added in this unit
abbrev pub without_added : ℕ → List Item → PlainOperation
without_added unit [] = nothing
without_added unit (item ∷ items) = take_out unit

-- what takes out items that were put back, which are of one unit
abbrev pub without_put : List (ℕ × Item) → PlainOperation
without_put [] = nothing
without_put (entry ∷ entries) = take_out entry.1.unit

-- what moves the unit back, where the items of these ids were moved
abbrev pub shifted_back : ℕ → ℤ → ℤ → List ℕ → PlainOperation
shifted_back unit dx dy [] = nothing
shifted_back unit dx dy (id ∷ ids) = shift unit (neg_ℤ dx) (neg_ℤ dy)

-- what is known of an operation that was done
pub record IsMade (operation : PlainOperation) (old new : PlainBoard) (made : Made) : Type 0 where
  pub after : After old operation new
  pub leads : IsInverseOperation (plain_operation made.back) new old
  pub adds_none : AddsNone (plain_operation made.back)
  pub none : GivesNothing operation → plain_operation made.back ≡ nothing
  pub edited : AreEdited old new made.ids.items
  pub known : AreKnown old (ids_touched old operation) made.ids.items
