-- Where the lists of the units of a board's text stand: entry k is the span of the list whose items have the unit number k.
use Rattle.std.specs.Prelude.{◌≡◌, ◌⊎◌, ℕ, ◌==◌, List, [], ◌∷◌, Result, Ok, Err, if◌then◌else◌}
use Rattle.sexpr_read.specs.declared.place.Span.{Span}
use Rattle.sexpr_read.specs.Tree.{Tree, span, parts}
use Rattle.sexpr_read.specs.Spelling.{Spells}
use Rattle.board_errors.specs.declared.errors.BoardError.{BoardError}
use Rattle.board_errors.specs.declared.errors.BoardError.TheVariants.{OutOfMemory}
use Rattle.board_items.specs.Boards.{PlainBoard}
use Rattle.pcb_read.specs.BoardOf.{Reading, unread, SaysPart}

-- a part that gave items took a unit number
abbrev pub with_span : Reading → Reading → Tree → List Span → List Span
with_span before after tree others = if before.board.next_unit == after.board.next_unit then others else span tree ∷ others

-- the spans of the parts that gave items
abbrev pub SaysSpans : Reading → List Tree → List Span → Type 0
SaysSpans reading [] spans = spans ≡ []
SaysSpans reading (t ∷ ts) spans = (next : Reading) × (others : List Span) × SaysPart reading t (Ok next) × SaysSpans next ts others × (spans ≡ with_span reading next t others)

abbrev pub AreSpans : Tree → List Span → Type 0
AreSpans root spans = SaysSpans unread (parts root) spans

-- the spans in a text of a board
abbrev pub HasSpans : List ℕ → List Span → Type 0
HasSpans text spans = (tree : Tree) × Spells text tree × AreSpans tree spans

-- the call gives such a board and something beside it, or such a refusal, unless memory ran out
abbrev pub GivesBoardWith : {A : Type 0} → Result (PlainBoard × A) BoardError → (Result PlainBoard BoardError → Type 0) → Type 0
GivesBoardWith (Ok read) Says = Says (Ok read.0)
GivesBoardWith (Err e) Says = (e ≡ OutOfMemory) ⊎ Says (Err e)
