-- The text of a board after commands: byte for byte what it was, but for the lists of units that were taken out, moved or added.
use Rattle.std.specs.Prelude.{◌≡◌, ℕ, suc, ◌≤◌, ◌==◌, nat_eq, ◌+ℤ◌, Bool, List, [], ◌∷◌, ◌++◌, codes, Option, None, Some, Result, Ok, if◌then◌else◌}
use Rattle.std.specs.List.{list_any}
use Rattle.sexpr_read.specs.declared.place.Span.{Span}
use Rattle.sexpr_read.specs.Tree.{Forest, none, atom, list, Tree, leaf, branch, trees, parts, levels}
use Rattle.sexpr_read.specs.Spelling.{Spells}
use Rattle.sexpr_read.specs.TreeRefusals.{refusal_of_one}
use Rattle.one_item.specs.declared.item.Item.{Item}
use Rattle.board_items.specs.Boards.{PlainBoard}
use Rattle.list_read.specs.ListHeads.{first_is}
use Rattle.roundtrip_text.specs.RewrittenText.{Disposition, stays, leaves, becomes, edited_whole}
use Rattle.roundtrip_lists.specs.Translated.{Shift, place_moved}
use Rattle.roundtrip_lists.specs.Moving.{put_if, moved}
use Rattle.pcb_read.specs.BoardOf.{Reading, unread, SaysPart, SaysBoard}
use Rattle.edit_script.specs.Commands.{PlainCommand}
use Rattle.board_edits.specs.declared.refusal.Refusal.{Refusal}
use Rattle.board_edits.specs.Operations.{PlainOperation, DoAll}
use Rattle.roundtrip_boards.specs.TextChanges.{Change, unchanged, takes_out, shifts, appends, AreChanges}

-- ---- what became of units

-- a list that was added, with its unit if it gave items
pub record Added : Type 0 where
  pub unit : Option ℕ
  pub tree : Tree

-- the units that were taken out, the shifts of units, and the lists that were added, in order
pub record Draft : Type 0 where
  pub next_unit : ℕ
  pub gone : List ℕ
  pub moves : List (ℕ × Shift)
  pub added : List Added

-- nothing has become of any
abbrev pub untouched : ℕ → Draft
untouched next_unit = record { next_unit = next_unit; gone = []; moves = []; added = [] }

abbrev pub with_list : Draft → Tree → List Item → Draft
with_list draft tree [] = record draft { added = draft.added ++ record { unit = None; tree = tree } ∷ [] }
with_list draft tree (item ∷ items) = record draft { added = draft.added ++ record { unit = Some draft.next_unit; tree = tree } ∷ []; next_unit = suc draft.next_unit }

abbrev pub with_change : Draft → Change → Draft
with_change draft unchanged = draft
with_change draft (takes_out unit) = record draft { gone = unit ∷ draft.gone }
with_change draft (shifts unit by) = record draft { moves = draft.moves ++ (unit, by) ∷ [] }
with_change draft (appends tree items) = with_list draft tree items

abbrev pub with_changes : Draft → List Change → Draft
with_changes draft [] = draft
with_changes draft (change ∷ changes) = with_changes (with_change draft change) changes

abbrev pub is_gone : Draft → ℕ → Bool
is_gone draft unit = list_any (nat_eq unit) draft.gone

-- the shifts of a unit, summed, if it was moved at all
abbrev pub plus : Shift → Option Shift → Option Shift
plus by None = Some by
plus by (Some more) = Some (record { dx = by.dx +ℤ more.dx; dy = by.dy +ℤ more.dy })

abbrev pub summed : ℕ → List (ℕ × Shift) → Option Shift
summed unit [] = None
summed unit (m ∷ ms) = if m.0 == unit then plus m.1 (summed unit ms) else summed unit ms

abbrev pub shift_of_unit : Draft → ℕ → Option Shift
shift_of_unit draft unit = summed unit draft.moves

-- ---- lists that are moved

-- in a footprint its own first `at`
abbrev pub first_at : Shift → Forest → Forest
first_at by none = none
first_at by (atom s q content others) = atom s q content (first_at by others)
first_at by (list s inside others) =
    if first_is (trees inside) (codes "at") then list s (put_if (place_moved by inside) inside) others else list s inside (first_at by others)

-- in another unit, those of every list at any depth with the head of a place
abbrev pub moved_unit : Shift → Forest → Forest
moved_unit by inside = if first_is (trees inside) (codes "footprint") then first_at by inside else moved by inside

abbrev pub moved_if : Option Shift → Forest → Forest
moved_if None inside = inside
moved_if (Some by) inside = moved_unit by inside

-- ---- the text

abbrev pub disposition_by : Option Shift → Forest → Disposition
disposition_by None inside = stays
disposition_by (Some by) inside = becomes (moved_unit by inside)

abbrev pub unit_disposition : Draft → Forest → Option ℕ → Disposition
unit_disposition draft inside None = stays
unit_disposition draft inside (Some unit) = if is_gone draft unit then leaves else disposition_by (shift_of_unit draft unit) inside

-- the dispositions of the lists of the root, in order: of one that took a unit number, what became of that unit
abbrev pub list_disposition : Draft → Reading → Reading → Forest → Disposition
list_disposition draft before after inside =
    if before.board.next_unit == after.board.next_unit then stays else unit_disposition draft inside (Some before.board.next_unit)

abbrev pub with_disposition : Draft → Reading → Reading → Tree → List Disposition → List Disposition
with_disposition draft before after (leaf s q content) others = others
with_disposition draft before after (branch s inside) others = list_disposition draft before after inside ∷ others

abbrev pub DispositionsAre : Draft → Reading → List Tree → List Disposition → Type 0
DispositionsAre draft reading [] dispositions = dispositions ≡ []
DispositionsAre draft reading (t ∷ ts) dispositions =
    (next : Reading) × (others : List Disposition) × SaysPart reading t (Ok next) × DispositionsAre draft next ts others × (dispositions ≡ with_disposition draft reading next t others)

-- the lists that were added and not taken out, as they now are
abbrev pub inside_of : Tree → Forest
inside_of (leaf s q content) = none
inside_of (branch s inside) = inside

abbrev pub span_of : Tree → Span
span_of (leaf s q content) = s
span_of (branch s inside) = s

abbrev pub added_one : Draft → Tree → Option ℕ → Forest → Forest
added_one draft tree None others = list (span_of tree) (inside_of tree) others
added_one draft tree (Some unit) others =
    if is_gone draft unit then others else list (span_of tree) (moved_if (shift_of_unit draft unit) (inside_of tree)) others

abbrev pub added_trees : Draft → List Added → Forest
added_trees draft [] = none
added_trees draft (a ∷ more) = added_one draft a.tree a.unit (added_trees draft more)

abbrev pub written_by : List ℕ → Tree → List Disposition → Draft → List ℕ
written_by text root dispositions draft = edited_whole text (span_of root) dispositions (inside_of root) (added_trees draft draft.added)

-- `out` is the text after the commands, which do this and leave this board
pub record IsWritten (text : List ℕ) (commands : List PlainCommand) (out : List ℕ) (last : PlainBoard) : Type 0 where
  pub root : Tree
  pub board : PlainBoard
  pub answers : List (Result PlainOperation Refusal)
  pub changes : List Change
  pub dispositions : List Disposition
  pub accepted : refusal_of_one text ≡ None
  pub spelled : Spells text root
  pub shallow : levels root ≤ 64
  pub says : SaysBoard root (Ok board)
  pub done : DoAll board commands answers last
  pub are_changes : AreChanges commands answers changes
  pub are_dispositions : DispositionsAre (with_changes (untouched board.next_unit) changes) unread (parts root) dispositions
  pub written : out ≡ written_by text root dispositions (with_changes (untouched board.next_unit) changes)
