-- What becomes of the lists of a board's text, by the marks of its units and where these stand.
use Rattle.std.specs.Prelude.{◌≡◌, ℕ, ◌==◌, Bool, false, ◌&&◌, List, [], ◌∷◌, drop, if◌then◌else◌}
use Rattle.sexpr_read.specs.declared.place.Span.{Span}
use Rattle.sexpr_read.specs.Tree.{Forest, none, list, Tree, leaf, branch, span, parts}
use Rattle.sexpr_read.specs.TreeViews.{root_of}
use Rattle.roundtrip_text.specs.RewrittenText.{Disposition, stays, leaves, becomes, spaced}
use Rattle.roundtrip_boards.specs.WrittenBoard.{Added}
use Rattle.board_write.specs.declared.marks.Mark.{Mark}
use Rattle.board_write.specs.declared.marks.Mark.TheVariants.{Stays, Gone, Moved}
use Rattle.board_write.specs.declared.edit_state.AddedList.{AddedList}
use Rattle.board_write.specs.Marks.{mark_at, mark_of_unit}
use Rattle.board_write.specs.Settings.{inside, updated, unit_moving}

abbrev pub mark_disposition : Mark → Forest → Disposition
mark_disposition Stays f = stays
mark_disposition Gone f = leaves
mark_disposition (Moved by) f = becomes (updated (unit_moving by f) f)

abbrev pub same_span : Span → Span → Bool
same_span a b = (a.at == b.at) && (a.end == b.end)

-- the first of the spans is this one
abbrev pub is_first : List Span → Span → Bool
is_first [] s = false
is_first (next ∷ spans) s = same_span next s

-- the mark of a list at a span, and the units behind it
abbrev pub mark_here : List Mark → List Span → Span → Mark
mark_here marks spans s = if is_first spans s then mark_at marks 0 else Stays

abbrev pub spans_behind : List Span → Span → List Span
spans_behind spans s = if is_first spans s then drop 1 spans else spans

abbrev pub marks_behind : List Mark → List Span → Span → List Mark
marks_behind marks spans s = if is_first spans s then drop 1 marks else marks

-- the dispositions of lists, by the marks and the spans of the units that are still to come: a list at the first of these spans is that
-- unit's, and any other stays
abbrev pub dispositions_by : List Mark → List Span → List Tree → List Disposition
dispositions_by marks spans [] = []
dispositions_by marks spans (leaf s q content ∷ others) = dispositions_by marks spans others
dispositions_by marks spans (branch s f ∷ others) = mark_disposition (mark_here marks spans s) f ∷ dispositions_by (marks_behind marks spans s) (spans_behind spans s) others

-- ---- lists that were added

-- a document of one list
abbrev pub first_of : List Tree → Tree
first_of [] = leaf (record { at = 0; end = 0 }) false []
first_of (t ∷ ts) = t

abbrev pub one_list : AddedList → Tree
one_list added = first_of (parts (root_of added.doc))

abbrev pub IsAlone : AddedList → Type 0
IsAlone added = (t : Tree) × (parts (root_of added.doc) ≡ t ∷ [])

abbrev pub plain_added : AddedList → Added
plain_added added = record { unit = added.unit; tree = one_list added }

-- the list as it now is, before others
abbrev pub one_by : Mark → Tree → Forest → Forest
one_by Gone t others = others
one_by Stays t others = list (span t) (inside t) others
one_by (Moved by) t others = list (span t) (updated (unit_moving by (inside t)) (inside t)) others

abbrev pub added_by : List Mark → List AddedList → Forest
added_by marks [] = none
added_by marks (added ∷ others) = one_by (mark_of_unit marks added.unit) (one_list added) (added_by marks others)

-- its text
abbrev pub one_down : List Mark → AddedList → List ℕ
one_down marks added = spaced false (one_by (mark_of_unit marks added.unit) (one_list added) none)
