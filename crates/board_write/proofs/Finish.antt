-- What was made is the text after the commands.
use Rattle.std.proofs.Common.{◌≡◌, ◌∙◌, refl, sym, ap, subst, ℕ, ◌+◌, ◌-◌, ◌≤◌, arith, Bool, true, false, List, length, Option, None, Some, Result, Ok, Err}
use Rattle.std.specs.Io.KnownBytes.{Keeps}
use Rattle.sexpr_read.specs.declared.place.Span.{Span}
use Rattle.sexpr_read.specs.Tree.{Forest, Tree, leaf, branch, parts, span, levels}
use Rattle.sexpr_read.specs.Spelling.{Spells}
use Rattle.sexpr_read.specs.TreePlaces.{StandBetween}
use Rattle.sexpr_read.specs.TreeRefusals.{refusal_of_one}
use Rattle.sexpr_read.specs.declared.view.Doc.{Doc}
use Rattle.sexpr_read.specs.TreeViews.{root_of}
use Rattle.sexpr_read.proofs.Ordered.{one_in_order}
use Rattle.board_errors.specs.declared.errors.BoardError.{BoardError}
use Rattle.board_items.specs.Boards.{PlainBoard}
use Rattle.edit_script.specs.Commands.{PlainCommand}
use Rattle.board_errors.specs.declared.errors.BoardError.TheVariants.{Missing}
use Rattle.list_read.specs.FirstRefusals.{◌>>=◌, check}
use Rattle.list_read.specs.ListHeads.{place}
use Rattle.pcb_read.specs.BoardOf.{Reading, unread, header_in, board_in, SaysParts, SaysAfter, SaysBoard}
use Rattle.pcb_read.specs.UnitSpans.{AreSpans}
use Rattle.roundtrip_text.specs.RewrittenText.{Disposition, edited_whole}
use Rattle.roundtrip_boards.specs.WrittenBoard.{Draft, untouched, with_changes, DispositionsAre, span_of, inside_of, added_trees, IsWritten}
use Rattle.board_write.specs.declared.marks.Mark.{Mark}
use Rattle.board_write.specs.declared.edit_state.AddedList.{AddedList}
use Rattle.board_write.specs.declared.edit_state.EditState.{EditState}
use Rattle.board_write.specs.declared.source.SourceText.{SourceText}
use Rattle.board_write.specs.Marks.{mark_in, AreMarks}
use Rattle.board_write.specs.Settings.{inside}
use Rattle.board_write.specs.Dispositions.{dispositions_by, added_by}
use Rattle.board_write.specs.EditState.{Reached}
use Rattle.board_write.specs.WriteResults.{Outcome}
use Rattle.board_write.specs.Sources.{IsSource}
use Rattle.board_write.proofs.Draws.{all_added}
use Rattle.board_write.proofs.Walking.{dispositions_are}

-- the reading of all parts of a board's root
says_reading : (root : Tree) (board : PlainBoard) → SaysBoard root (Ok board) → (z : Reading) × SaysParts unread (parts root) (Ok z) × (z.board ≡ board)
says_reading root board says = by_header (header_in root) says
  where
    by_layered : (z : Reading) (b : Bool) → (let r : Result PlainBoard BoardError = Ok board in r) ≡ (check (Missing (place root)) b >>= λ layered. Ok z.board) → z.board ≡ board
    by_layered z true e = cc
    by_layered z false e = absurd cc

    by_reading : (r : Result Reading BoardError) → SaysParts unread (parts root) r → Ok board ≡ board_in root r → (z : Reading) × SaysParts unread (parts root) (Ok z) × (z.board ≡ board)
    by_reading (Err e) says same = absurd cc
    by_reading (Ok z) says same = (z, says, by_layered z z.layered same)

    by_header : (h : Result (Unit {0}) BoardError) → SaysAfter root h (Ok board) → (z : Reading) × SaysParts unread (parts root) (Ok z) × (z.board ≡ board)
    by_header (Err e) says = absurd cc
    by_header (Ok u) (reading, parts_say, same) = by_reading reading parts_say same

root_dispositions : (text : List ℕ) (root : Tree) (board : PlainBoard) (spans : List Span) (marks : List Mark) (draft : Draft) → Spells text root → SaysBoard root (Ok board) → AreSpans root spans → length spans ≡ board.next_unit → AreMarks draft marks
    → DispositionsAre draft unread (parts root) (dispositions_by marks spans (parts root))
root_dispositions text (leaf s q c) board spans marks draft spelled says are each matched = refl
root_dispositions text (branch s f) board spans marks draft spelled says are each matched =
    let read = says_reading (branch s f) board says in
    let stand : StandBetween text (s.at + 1) (s.end - 1) f = (one_in_order text (branch s f) spelled).1 in
    let next : read.0.board.next_unit ≡ board.next_unit = ap (λ (b : PlainBoard). b.next_unit) read.2 in
    let count : 0 + length spans ≡ read.0.board.next_unit = omega (arith, each, next) in
    dispositions_are text draft read.0 f unread (s.at + 1) (s.end - 1) marks spans stand read.1 are count
    (λ u. let same : u ≡ 0 + u = omega arith in matched u ∙ ap (mark_in draft) same)

root_parts : (text : List ℕ) (root : Tree) (dispositions : List Disposition) (added : Forest) → edited_whole text (span root) dispositions (inside root) added ≡ edited_whole text (span_of root) dispositions (inside_of root) added
root_parts text (leaf s q c) dispositions added = refl
root_parts text (branch s f) dispositions added = refl

pub finish : (text : List ℕ) (commands : List PlainCommand) (source : SourceText) (edit_state : EditState) (whole : List ℕ) → IsSource text source → Reached source.board commands edit_state
    → whole ≡ edited_whole text (span (root_of source.doc)) (dispositions_by edit_state.marks.items source.spans (parts (root_of source.doc))) (inside (root_of source.doc)) (added_by edit_state.marks.items edit_state.added.items)
    → (outcome : Outcome text commands edit_state.refused) × (whole ≡ outcome.out)
finish text commands source edit_state whole is r e =
    let root : Tree = root_of source.doc in
    let draft : Draft = with_changes (untouched source.board.next_unit) r.changes in
    let dispositions : List Disposition = dispositions_by edit_state.marks.items source.spans (parts root) in
    let added : added_by edit_state.marks.items edit_state.added.items ≡ added_trees draft draft.added = all_added draft edit_state.marks.items edit_state.added.items r.drafted.marks ∙ ap (added_trees draft) (sym r.drafted.added) in
    let written : IsWritten text commands whole edit_state.board = record {
      root = root;
      board = source.board;
      answers = r.answers;
      changes = r.changes;
      dispositions = dispositions;
      accepted = is.accepted;
      spelled = is.spelled;
      shallow = is.shallow;
      says = is.says;
      done = r.done;
      are_changes = r.are_changes;
      are_dispositions = root_dispositions text root source.board source.spans edit_state.marks.items draft is.spelled is.says is.spans is.each r.drafted.marks;
      written = e ∙ root_parts text root dispositions (added_by edit_state.marks.items edit_state.added.items) ∙ ap (edited_whole text (span_of root) dispositions (inside_of root)) added;
    } in
    (record { out = whole; last = edit_state.board; written = written; counted = r.counted }, refl)

-- ---- what was read

pub read_is : (text : List ℕ) (source : SourceText) → refusal_of_one text ≡ None → Spells text (root_of source.doc) → levels (root_of source.doc) ≤ 64 → SaysBoard (root_of source.doc) (Ok source.board)
    → AreSpans (root_of source.doc) source.spans → length source.spans ≡ source.board.next_unit → IsSource text source
read_is text source accepted spelled shallow says spans each = record { accepted = accepted; spelled = spelled; shallow = shallow; says = says; spans = spans; each = each }

pub keeps_itself : (told : Option (List ℕ)) → Keeps told told
keeps_itself None = tt
keeps_itself (Some bytes) = refl

-- the same of what the call holds
pub finish_by : (text : List ℕ) (commands : List PlainCommand) (source : SourceText) (board : PlainBoard) (doc : Doc) (edit_state : EditState) (marks : List Mark) (spans : List Span) (added : List AddedList) (whole : List ℕ) → IsSource text source
    → board ≡ source.board → doc ≡ source.doc → spans ≡ source.spans → marks ≡ edit_state.marks.items → added ≡ edit_state.added.items → Reached board commands edit_state
    → whole ≡ edited_whole text (span (root_of doc)) (dispositions_by marks spans (parts (root_of doc))) (inside (root_of doc)) (added_by marks added) → (outcome : Outcome text commands edit_state.refused) × (whole ≡ outcome.out)
finish_by text commands source board doc edit_state marks spans added whole is b d s m a r e =
    finish text commands source edit_state whole is (subst (λ (x : PlainBoard). Reached x commands edit_state) b r)
    (e
    ∙ ap (λ (x : Doc). edited_whole text (span (root_of x)) (dispositions_by marks spans (parts (root_of x))) (inside (root_of x)) (added_by marks added)) d
    ∙ ap (λ (x : List Span). edited_whole text (span (root_of source.doc)) (dispositions_by marks x (parts (root_of source.doc))) (inside (root_of source.doc)) (added_by marks added)) s
    ∙ ap (λ (x : List Mark). edited_whole text (span (root_of source.doc)) (dispositions_by x source.spans (parts (root_of source.doc))) (inside (root_of source.doc)) (added_by x added)) m
    ∙ ap (λ (x : List AddedList). edited_whole text (span (root_of source.doc)) (dispositions_by edit_state.marks.items source.spans (parts (root_of source.doc))) (inside (root_of source.doc)) (added_by edit_state.marks.items x)) a)
