-- What the text of one list says that is added to a board: its items, or why there are none. The text stands at a place of a longer
-- one, in which places are counted.
use Rattle.std.specs.Prelude.{◌≡◌, ℕ, ◌+◌, List, [], ◌∷◌, Option, None, Some, Result, Ok, Err, if◌then◌else◌}
use Rattle.sexpr_read.specs.declared.place.TextError.{TextError}
use Rattle.sexpr_read.specs.declared.place.TextError.TheVariants.{NotUtf8, CloseWithoutOpen, EndInside, TooDeep, ExtraText, EmptyText, OutOfMemory as NoMemory}
use Rattle.sexpr_read.specs.Tree.{Tree, parts, is_list}
use Rattle.board_errors.specs.declared.errors.BoardError.{BoardError}
use Rattle.board_errors.specs.declared.errors.BoardError.TheVariants.{Text, NotABoard, Version, Missing, BadNumber, OutOfBoard, Arc, Turned, PadShape, Ring, UnknownNet, UnknownLayer, ThickFill, TooMany, OutOfMemory}
use Rattle.one_item.specs.declared.item.Item.{Item}
use Rattle.board_items.specs.Boards.{PlainBoard}
use Rattle.list_read.specs.ListHeads.{place}
use Rattle.list_read.specs.TextResults.{OfForms}
use Rattle.pcb_read.specs.declared.sorts.Sort.{Sort}
use Rattle.pcb_read.specs.Sorts.{sort_of}
use Rattle.pcb_read.specs.ItemsOf.{SaysItems}

-- ---- places in the longer text

abbrev pub text_further : ℕ → TextError → TextError
text_further by (NotUtf8 at) = NotUtf8 (at + by)
text_further by (CloseWithoutOpen at) = CloseWithoutOpen (at + by)
text_further by (EndInside at) = EndInside (at + by)
text_further by (TooDeep at) = TooDeep (at + by)
text_further by (ExtraText at) = ExtraText (at + by)
text_further by EmptyText = EmptyText
text_further by NoMemory = NoMemory

-- the same refusal, so much further on
abbrev pub further : ℕ → BoardError → BoardError
further by (Text e) = Text (text_further by e)
further by (NotABoard at) = NotABoard (at + by)
further by (Version at) = Version (at + by)
further by (Missing at) = Missing (at + by)
further by (BadNumber at) = BadNumber (at + by)
further by (OutOfBoard at) = OutOfBoard (at + by)
further by (Arc at) = Arc (at + by)
further by (Turned at) = Turned (at + by)
further by (PadShape at) = PadShape (at + by)
further by (Ring at) = Ring (at + by)
further by (UnknownNet at) = UnknownNet (at + by)
further by (UnknownLayer at) = UnknownLayer (at + by)
further by (ThickFill at) = ThickFill (at + by)
further by (TooMany at) = TooMany (at + by)
further by OutOfMemory = OutOfMemory

abbrev pub answer_further : ℕ → Result (List Item) BoardError → Result (List Item) BoardError
answer_further by (Ok items) = Ok items
answer_further by (Err e) = Err (further by e)

-- ---- one list

-- a list whose head is that of no item is refused
abbrev pub SaysBy : PlainBoard → ℕ → Tree → Option Sort → Result (List Item) BoardError → Type 0
SaysBy board unit tree None answer = answer ≡ Err (NotABoard (place tree))
SaysBy board unit tree (Some sort) answer = SaysItems board unit tree sort answer

abbrev pub SaysList : PlainBoard → ℕ → Tree → Result (List Item) BoardError → Type 0
SaysList board unit tree answer = SaysBy board unit tree (sort_of tree) answer

-- the one form, which must be a list; what is too much begins at an atom, or at a second form
abbrev pub alone : List Tree → Result Tree BoardError
alone [] = Err (Text EmptyText)
alone (t ∷ []) = if is_list t then Ok t else Err (Text (ExtraText (place t)))
alone (t ∷ u ∷ us) = if is_list t then Err (Text (ExtraText (place u))) else Err (Text (ExtraText (place t)))

abbrev pub SaysAlone : PlainBoard → ℕ → Result Tree BoardError → Result (List Item) BoardError → Type 0
SaysAlone board unit (Err e) answer = answer ≡ Err e
SaysAlone board unit (Ok tree) answer = SaysList board unit tree answer

-- what the forms say
abbrev pub SaysForms : PlainBoard → ℕ → Tree → Result (List Item) BoardError → Type 0
SaysForms board unit forms answer = SaysAlone board unit (alone (parts forms)) answer

-- what a text says that stands alone
abbrev pub SaysText : PlainBoard → ℕ → List ℕ → Result (List Item) BoardError → Type 0
SaysText board unit text answer = OfForms Text (SaysForms board unit) text answer

-- what it says at a place of a longer text: its items in this unit, or a refusal
abbrev pub SaysItem : PlainBoard → ℕ → List ℕ → ℕ → Result (List Item) BoardError → Type 0
SaysItem board unit text at answer = (found : Result (List Item) BoardError) × SaysText board unit text found × (answer ≡ answer_further at found)
