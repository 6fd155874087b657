-- What is noted of the commands so far, one command more.
use Rattle.std.proofs.Common.{◌≡◌, ◌∙◌, refl, sym, ap, subst, ℕ, suc, zero, ◌+◌, ◌-◌, ◌<◌, ◌≤◌, arith, ℤ, pos, negsuc, unsigned_abs, ◌+ℤ◌, replicate, take, Bool, true, false, cond, List, [], ◌∷◌, ◌++◌, length, map, length-append, All, Option, None, Some, Result, Ok, Err}
use Rattle.std.specs.Prelude.{slice_set, nat_eq}
use Rattle.std.proofs.lemmas.Int.{ints}
use Rattle.std.proofs.lemmas.List.{map-append, length-set, length-replicate, take_all, get_or-set_same, get_or-set_other}
use Rattle.std.proofs.lemmas.Bool.{eqb-true, eq-eqb}
use Rattle.std.proofs.lemmas.List.Elements.{All-append, All-cons, All-nil}
use Rattle.sexpr_read.specs.declared.place.TextError.{TextError}
use Rattle.sexpr_read.specs.declared.place.TextError.TheVariants.{ExtraText}
use Rattle.list_read.specs.ListHeads.{place}
use Rattle.list_read.specs.TextResults.{IsBehindText}
use Rattle.sexpr_read.specs.Tree.{Tree, parts, is_list}
use Rattle.sexpr_read.specs.TreeRefusals.{refusal_of_all}
use Rattle.sexpr_read.specs.Spelling.{SpellsAll}
use Rattle.sexpr_read.specs.TreeViews.{root_of}
use Rattle.sexpr_read.proofs.Unique.{unique_forms}
use Rattle.board_errors.specs.declared.errors.BoardError.{BoardError}
use Rattle.board_errors.specs.declared.errors.BoardError.TheVariants.{OutOfBoard, Text}
use Rattle.board_items.specs.declared.found.Found.{Found}
use Rattle.board_items.specs.declared.found.Found.TheVariants.{None as NoUnit, Shared, Inside, Unit as OneUnit}
use Rattle.one_item.specs.declared.item.Item.{Item}
use Rattle.board_items.specs.Boards.{PlainBoard, IsSound}
use Rattle.board_items.specs.UnitMoves.{unit_stays}
use Rattle.board_items.specs.Units.{found_of}
use Rattle.part_read.specs.Ready.{IsReady}
use Rattle.edit_script.specs.Commands.{PlainCommand, add, delete, move, rules, again}
use Rattle.roundtrip_lists.specs.Translated.{Shift}
use Rattle.pcb_read.specs.ItemText.{answer_further, alone, SaysAlone, SaysForms, SaysText}
use Rattle.board_edits.specs.declared.refusal.Refusal.{Refusal}
use Rattle.board_edits.specs.declared.refusal.Refusal.TheVariants.{Item as ItemRefused}
use Rattle.board_edits.specs.Operations.{PlainOperation, nothing, append, put_back, take_out, shift, After, appended, to_unit, shifted, Does, IsLeft, DoAll}
use Rattle.board_edits.specs.Fitting.{OperationFits}
use Rattle.roundtrip_boards.specs.TextChanges.{Change, unchanged, takes_out, shifts, appends, IsListIn, IsChangeBy, IsChange, AreChanges, IsNamed}
use Rattle.roundtrip_boards.specs.WrittenBoard.{Draft, Added, untouched, with_list, with_change, with_changes}
use Rattle.roundtrip_boards.proofs.Ledger.{UnitsOf, next_with}
use Rattle.roundtrip_boards.proofs.Turning.{one_change}
use Rattle.board_write.specs.declared.marks.Mark.{Mark}
use Rattle.board_write.specs.declared.marks.Mark.TheVariants.{Stays, Gone}
use Rattle.board_write.specs.declared.edit_state.EditState.{EditState}
use Rattle.board_write.specs.Marks.{PlainMark, stays, gone, moves, plain_mark, mark_at, moved_on, IsMarkedOn, IsHeld, IsShortShift}
use Rattle.board_write.specs.Dispositions.{first_of, one_list, IsAlone, plain_added}
use Rattle.board_write.specs.WriteResults.{refused_by, refused_in}
use Rattle.board_write.specs.EditState.{is_nil, SameNotes, IsListNoted, IsAppendNoted, IsNoted, CanNote, LeftBy, IsCommandStep, IsDraft, Reached, IsOnEditState}
use Rattle.board_write.proofs.Drafts.{unit_below, marks_gone, marks_moved, one_more, short_more}

-- ---- an added text has one list

said_list : (board : PlainBoard) (unit : ℕ) (ts : List Tree) (items : List Item) → SaysAlone board unit (alone ts) (Ok items) → (t : Tree) × (ts ≡ t ∷ [])
said_list board unit [] items says = absurd cc
said_list board unit (t ∷ []) items says = (t, refl)
said_list board unit (t ∷ u ∷ us) items says = by_test (is_list t) says
  where
    by_test : (b : Bool) → SaysAlone board unit (cond b (Err (Text (ExtraText (place u)))) (Err (Text (ExtraText (place t))))) (Ok items) → (x : Tree) × (t ∷ u ∷ us ≡ x ∷ [])
    by_test true says = absurd cc
    by_test false says = absurd cc

said_after : (board : PlainBoard) (unit : ℕ) (text : List ℕ) (items : List Item) (forms : Tree) (o : Option TextError) → SpellsAll text forms → IsBehindText Text (SpellsAll text) (SaysForms board unit) o (Ok items) → (t : Tree) × (parts forms ≡ t ∷ [])
said_after board unit text items forms (Some e) spelled says = absurd cc
said_after board unit text items forms None spelled (others, read, says) =
    let same : others ≡ forms = unique_forms text others forms read spelled in
    said_list board unit (parts forms) items (subst (λ (f : Tree). SaysAlone board unit (alone (parts f)) (Ok items)) same says)

said_text : (board : PlainBoard) (unit at : ℕ) (text : List ℕ) (items : List Item) (forms : Tree) (found answer : Result (List Item) BoardError) → SpellsAll text forms → SaysText board unit text found → answer ≡ answer_further at found
    → Ok (append items) ≡ appended answer → (t : Tree) × (parts forms ≡ t ∷ [])
said_text board unit at text items forms (Err e) answer spelled says same k = absurd (let c : Ok (append items) ≡ appended (Err _) = k ∙ ap appended same in cc)
said_text board unit at text items forms (Ok its) answer spelled says same k = said_after board unit text its forms (refusal_of_all text) spelled says

no_append : (found : Found) (items : List Item) → Ok (append items) ≡ to_unit found (λ u. Ok (take_out u)) → ⊥
no_append NoUnit items e = cc
no_append Shared items e = cc
no_append Inside items e = cc
no_append (OneUnit u) items e = cc

no_shifted : (board : PlainBoard) (dx dy : ℤ) (at : ℕ) (found : Found) (items : List Item) → Ok (append items) ≡ to_unit found (shifted board dx dy at) → ⊥
no_shifted board dx dy at NoUnit items e = cc
no_shifted board dx dy at Shared items e = cc
no_shifted board dx dy at Inside items e = cc
no_shifted board dx dy at (OneUnit u) items e = by_test (unit_stays u dx dy board.items) e
  where
    by_test : (b : Bool) → Ok (append items) ≡ cond b (Ok (shift u dx dy)) (Err (ItemRefused (OutOfBoard at))) → ⊥
    by_test true e = cc
    by_test false e = cc

no_put_back : (found : Found) (items : List (ℕ × Item)) → Ok (put_back items) ≡ to_unit found (λ u. Ok (take_out u)) → ⊥
no_put_back NoUnit items e = cc
no_put_back Shared items e = cc
no_put_back Inside items e = cc
no_put_back (OneUnit u) items e = cc

no_shifted_back : (board : PlainBoard) (dx dy : ℤ) (at : ℕ) (found : Found) (items : List (ℕ × Item)) → Ok (put_back items) ≡ to_unit found (shifted board dx dy at) → ⊥
no_shifted_back board dx dy at NoUnit items e = cc
no_shifted_back board dx dy at Shared items e = cc
no_shifted_back board dx dy at Inside items e = cc
no_shifted_back board dx dy at (OneUnit u) items e = by_test (unit_stays u dx dy board.items) e
  where
    by_test : (b : Bool) → Ok (put_back items) ≡ cond b (Ok (shift u dx dy)) (Err (ItemRefused (OutOfBoard at))) → ⊥
    by_test true e = cc
    by_test false e = cc

no_back : (answer : Result (List Item) BoardError) (items : List (ℕ × Item)) → Ok (put_back items) ≡ appended answer → ⊥
no_back (Ok its) items e = cc
no_back (Err e) items k = cc

none_back : (board : PlainBoard) (command : PlainCommand) (items : List (ℕ × Item)) → Does board command (Ok (put_back items)) → ⊥
none_back board (add text at) items (found, says, e) = no_back found items e
none_back board (delete name at) items e = no_put_back (found_of name board.items) items e
none_back board (move name dx dy at) items e = no_shifted_back board dx dy at (found_of name board.items) items e
none_back board (rules text at) items e = cc
none_back board (again at) items e = cc

-- ---- the units of an operation

pub can_take : (board new : PlainBoard) (command : PlainCommand) (u : ℕ) → IsSound board → Does board command (Ok (take_out u)) → u < board.next_unit
can_take board new command u sound does = unit_below board u sound (one_change board command (Ok (take_out u)) (takes_out u) _ does refl refl).0

named_shift : (board : PlainBoard) (command : PlainCommand) (u : ℕ) (dx dy : ℤ) → Does board command (Ok (shift u dx dy)) → IsNamed board u
named_shift board (add text at) u dx dy (found, says, e) = absurd (no found e)
  where
    no : (answer : Result (List Item) BoardError) → Ok (shift u dx dy) ≡ appended answer → ⊥
    no (Ok items) e = cc
    no (Err e) k = cc
named_shift board (delete name at) u dx dy e = absurd (no (found_of name board.items) e)
  where
    no : (found : Found) → Ok (shift u dx dy) ≡ to_unit found (λ v. Ok (take_out v)) → ⊥
    no NoUnit e = cc
    no Shared e = cc
    no Inside e = cc
    no (OneUnit v) e = cc
named_shift board (move name by_x by_y at) u dx dy e = (name, same (found_of name board.items) e)
  where
    same : (found : Found) → Ok (shift u dx dy) ≡ to_unit found (shifted board by_x by_y at) → found ≡ OneUnit u
    same NoUnit e = absurd cc
    same Shared e = absurd cc
    same Inside e = absurd cc
    same (OneUnit v) e = by_test (unit_stays v by_x by_y board.items) e
      where
        by_test : (b : Bool) → Ok (shift u dx dy) ≡ cond b (Ok (shift v by_x by_y)) (Err (ItemRefused (OutOfBoard at))) → OneUnit v ≡ OneUnit u
        by_test true e = let equal : v ≡ u = cc in ap (λ n. OneUnit n) equal
        by_test false e = absurd cc
named_shift board (rules text at) u dx dy e = absurd cc
named_shift board (again at) u dx dy e = absurd cc

pub can_shift : (board : PlainBoard) (command : PlainCommand) (u : ℕ) (dx dy : ℤ) → IsSound board → Does board command (Ok (shift u dx dy)) → u < board.next_unit
can_shift board command u dx dy sound does = unit_below board u sound (named_shift board command u dx dy does)

pub can_note : (edit_state : EditState) (command : PlainCommand) (operation : PlainOperation) → IsOnEditState edit_state → IsSound edit_state.board → Does edit_state.board command (Ok operation) → CanNote operation edit_state
can_note edit_state command nothing on sound does = tt
can_note edit_state command (append items) on sound does = tt
can_note edit_state command (put_back items) on sound does = tt
can_note edit_state command (take_out u) on sound does =
    let each = on.reached.drafted.each in
    let low = can_take edit_state.board edit_state.board command u sound does in
    omega (arith, each, low)
can_note edit_state command (shift u dx dy) on sound does =
    let each = on.reached.drafted.each in
    let low = can_shift edit_state.board command u dx dy sound does in
    (omega (arith, each, low), longer (length on.before) (plain_mark (mark_at edit_state.marks.items u)) on.few (on.reached.short u))
  where
    longer : (n : ℕ) (mark : PlainMark) → n < 4294967295 → IsShortShift n mark → IsShortShift 4294967294 mark
    longer n stays few h = tt
    longer n gone few h = tt
    longer n (moves by) few h = let a = h.0 in let b = h.1 in (omega (arith, a, few), omega (arith, b, few))

-- ---- the draft after an operation

units_ready : (board : PlainBoard) (unit : ℕ) (items : List Item) → All (IsReady board unit) items → UnitsOf unit items
units_ready board unit [] h = tt
units_ready board unit (item ∷ items) h = ((h 0 item (omega arith)).of_unit, units_ready board unit items (λ k d low. h (suc k) d (omega (arith, low))))

module _ (command : PlainCommand) (old new : EditState) (draft : Draft) (sound : IsSound old.board) (h : IsDraft draft old) where
  abbrev pub Drafted : PlainOperation → Type 0
  Drafted operation = (change : Change) × IsChangeBy command operation change × IsDraft (with_change draft change) new

  same_next : new.board.next_unit ≡ old.board.next_unit → SameNotes old new → IsDraft draft new
  same_next e n = record {
    marks = λ v. ap (λ (l : List Mark). plain_mark (mark_at l v)) n.marks ∙ h.marks v;
    added = h.added ∙ ap (map plain_added) (sym n.added);
    alone = subst (All IsAlone) (sym n.added) h.alone;
    next = h.next ∙ sym e;
    each = ap length n.marks ∙ h.each ∙ sym e;
  }

  with_taken : (u : ℕ) → Does old.board command (Ok (take_out u)) → After old.board (take_out u) new.board → (new.marks.items ≡ slice_set old.marks.items u Gone) × (new.added.items ≡ old.added.items) → Drafted (take_out u)
  with_taken u does after (marks, added) =
      let e : new.board.next_unit ≡ old.board.next_unit = ap (λ (b : PlainBoard). b.next_unit) after in
      let each = h.each in
      let below = can_take old.board new.board command u sound does in
      let low : u < length old.marks.items = omega (arith, each, below) in (
        takes_out u,
        refl,
        record {
          marks = λ v. ap (λ (l : List Mark). plain_mark (mark_at l v)) marks ∙ marks_gone draft old.marks.items u low h.marks v;
          added = h.added ∙ ap (map plain_added) (sym added);
          alone = subst (All IsAlone) (sym added) h.alone;
          next = h.next ∙ sym e;
          each = ap length marks ∙ length-set old.marks.items u Gone ∙ h.each ∙ sym e;
        },
      )

  with_shift : (u : ℕ) (dx dy : ℤ) → Does old.board command (Ok (shift u dx dy)) → After old.board (shift u dx dy) new.board → IsMarkedOn dx dy u old.marks.items new.marks.items × (new.added.items ≡ old.added.items) → Drafted (shift u dx dy)
  with_shift u dx dy does after (marked, added) =
      let e : new.board.next_unit ≡ old.board.next_unit = ap (λ (b : PlainBoard). b.next_unit) after.others in
      let each = h.each in
      let below = can_shift old.board command u dx dy sound does in
      let low : u < length old.marks.items = omega (arith, each, below) in
      let by : Shift = record { dx = dx; dy = dy } in (
        shifts u by,
        refl,
        record {
          marks = marks_moved draft old.marks.items new.marks.items u by low marked h.marks;
          added = h.added ∙ ap (map plain_added) (sym added);
          alone = subst (All IsAlone) (sym added) h.alone;
          next = h.next ∙ sym e;
          each = ap length marked.2 ∙ length-set old.marks.items u marked.0 ∙ h.each ∙ sym e;
        },
      )

  module _ (text : List ℕ) (is_empty : Bool) (n : IsListNoted text is_empty old new) (t : Tree) (single : parts (root_of n.list.doc) ≡ t ∷ []) where
    one : one_list n.list ≡ t
    one = ap first_of single

    in_text : IsListIn text (one_list n.list)
    in_text = (root_of n.list.doc, n.spelled, single ∙ ap (λ (x : Tree). x ∷ []) (sym one))

    added_now : (unit : Option ℕ) → n.list.unit ≡ unit → draft.added ++ record { unit = unit; tree = one_list n.list } ∷ [] ≡ map plain_added new.added.items
    added_now unit e =
        ap (λ (l : List Added). l ++ record { unit = unit; tree = one_list n.list } ∷ []) h.added
        ∙ ap (λ (o : Option ℕ). map plain_added old.added.items ++ record { unit = o; tree = one_list n.list } ∷ []) (sym e)
        ∙ sym (map-append plain_added old.added.items (n.list ∷ []))
        ∙ ap (map plain_added) (sym n.added)

    alone_now : All IsAlone new.added.items
    alone_now = subst (All IsAlone) (sym n.added) (All-append IsAlone old.added.items (n.list ∷ []) h.alone (All-cons IsAlone n.list [] (t, single) (All-nil IsAlone)))

  with_list_of : (text : List ℕ) (items : List Item) (n : IsListNoted text (is_nil items) old new) (t : Tree) (single : parts (root_of n.list.doc) ≡ t ∷ []) → OperationFits old.board (append items) → After old.board (append items) new.board
      → IsDraft (with_list draft (one_list n.list) items) new
  with_list_of text [] n t single fits after =
      let e : new.board.next_unit ≡ old.board.next_unit = ap (λ (b : PlainBoard). b.next_unit) after in
      record {
        marks = λ v. ap (λ (l : List Mark). plain_mark (mark_at l v)) n.marks ∙ h.marks v;
        added = added_now text true n t single None n.unit;
        alone = alone_now text true n t single;
        next = h.next ∙ sym e;
        each = ap length n.marks ∙ h.each ∙ sym e;
      }
  with_list_of text (item ∷ items) n t single fits after =
      let grown = next_with old.board item items (units_ready old.board old.board.next_unit (item ∷ items) fits.each) in
      let e : new.board.next_unit ≡ suc old.board.next_unit = ap (λ (b : PlainBoard). b.next_unit) after ∙ grown in
      let longer = length-append old.marks.items (Stays ∷ []) in
      let each = h.each in
      let one_length : length (old.marks.items ++ Stays ∷ []) ≡ suc old.board.next_unit = omega (arith, longer, each) in
      record {
        marks = λ v. ap (λ (l : List Mark). plain_mark (mark_at l v)) n.marks ∙ ap plain_mark (one_more old.marks.items v) ∙ h.marks v;
        added = added_now text false n t single (Some draft.next_unit) (n.unit ∙ ap (λ (u : ℕ). let o : Option ℕ = Some u in o) (sym h.next));
        alone = alone_now text false n t single;
        next = ap suc h.next ∙ sym e;
        each = ap length n.marks ∙ one_length ∙ sym e;
      }

with_append : (command : PlainCommand) (old new : EditState) (draft : Draft) (sound : IsSound old.board) (h : IsDraft draft old) (items : List Item) → Does old.board command (Ok (append items)) → OperationFits old.board (append items) → After old.board (append items) new.board
    → IsAppendNoted command (is_nil items) old new → Drafted command old new draft sound h (append items)
with_append (add text at) old new draft sound h items (answer, (found, says, further), e) fits after n =
    let single = said_text old.board old.board.next_unit at text items (root_of n.list.doc) found answer n.spelled says further e in
    (appends (one_list n.list) items, (one_list n.list, in_text (add text at) old new draft sound h text (is_nil items) n single.0 single.1, refl), with_list_of (add text at) old new draft sound h text items n single.0 single.1 fits after)
with_append (delete name at) old new draft sound h items e fits after n = absurd (no_append (found_of name old.board.items) items e)
with_append (move name dx dy at) old new draft sound h items e fits after n = absurd (no_shifted old.board dx dy at (found_of name old.board.items) items e)
with_append (rules text at) old new draft sound h items e fits after n = absurd cc
with_append (again at) old new draft sound h items e fits after n = absurd cc

by_operation : (command : PlainCommand) (old new : EditState) (draft : Draft) (sound : IsSound old.board) (h : IsDraft draft old) (operation : PlainOperation) → Does old.board command (Ok operation) → OperationFits old.board operation → After old.board operation new.board
    → IsNoted command operation old new → Drafted command old new draft sound h operation
by_operation command old new draft sound h nothing does fits after n = (unchanged, refl, same_next command old new draft sound h (ap (λ (b : PlainBoard). b.next_unit) after) n)
by_operation command old new draft sound h (append items) does fits after n = with_append command old new draft sound h items does fits after n
by_operation command old new draft sound h (put_back items) does fits after n = absurd (none_back old.board command items does)
by_operation command old new draft sound h (take_out u) does fits after n = with_taken command old new draft sound h u does after n
by_operation command old new draft sound h (shift u dx dy) does fits after n = with_shift command old new draft sound h u dx dy does after (n.0, n.1)

by_answer : (command : PlainCommand) (old new : EditState) (draft : Draft) → IsSound old.board → IsDraft draft old → (answer : Result PlainOperation Refusal) → Does old.board command answer → LeftBy command answer old new
    → (change : Change) × IsChange command answer change × IsDraft (with_change draft change) new × IsLeft old.board answer new.board
by_answer command old new draft sound h (Ok operation) does (fits, after, n) = let k = by_operation command old new draft sound h operation does fits after n in (k.0, k.1, k.2, after)
by_answer command old new draft sound h (Err why) does (same, n) = (unchanged, refl, same_next command old new draft sound h (ap (λ (b : PlainBoard). b.next_unit) same) n, same)

-- ---- one command more

do_more : (cs : List PlainCommand) (answers : List (Result PlainOperation Refusal)) (first board new : PlainBoard) (c : PlainCommand) (a : Result PlainOperation Refusal) → DoAll first cs answers board → Does board c a → IsLeft board a new
    → DoAll first (cs ++ c ∷ []) (answers ++ a ∷ []) new
do_more [] [] first board new c a same does left = (new, subst (λ (b : PlainBoard). Does b c a) same does, subst (λ (b : PlainBoard). IsLeft b a new) same left, refl)
do_more [] (x ∷ answers) first board new c a done does left = absurd done
do_more (d ∷ cs) [] first board new c a done does left = absurd done
do_more (d ∷ cs) (x ∷ answers) first board new c a (next, did, leaves, rest) does left = (next, did, leaves, do_more cs answers next board new c a rest does left)

change_more : (cs : List PlainCommand) (answers : List (Result PlainOperation Refusal)) (changes : List Change) (c : PlainCommand) (a : Result PlainOperation Refusal) (change : Change) → AreChanges cs answers changes → IsChange c a change
    → AreChanges (cs ++ c ∷ []) (answers ++ a ∷ []) (changes ++ change ∷ [])
change_more [] [] changes c a change are is = subst (λ (l : List Change). AreChanges (c ∷ []) (a ∷ []) (l ++ change ∷ [])) (sym are) (is, refl)
change_more [] (x ∷ answers) changes c a change are is = absurd are
change_more (d ∷ cs) [] changes c a change are is = absurd are
change_more (d ∷ cs) (x ∷ answers) [] c a change are is = absurd are
change_more (d ∷ cs) (x ∷ answers) (y ∷ changes) c a change are is = (are.0, change_more cs answers changes c a change are.1 is)

changes_more : (draft : Draft) (changes : List Change) (change : Change) → with_changes draft (changes ++ change ∷ []) ≡ with_change (with_changes draft changes) change
changes_more draft [] change = refl
changes_more draft (x ∷ changes) change = changes_more (with_change draft x) changes change

refused_swap : (a b : Result PlainOperation Refusal) (n : ℕ) → refused_by a (refused_by b n) ≡ refused_by b (refused_by a n)
refused_swap (Ok d) (Ok e) n = refl
refused_swap (Ok d) (Err e) n = refl
refused_swap (Err d) (Ok e) n = refl
refused_swap (Err d) (Err e) n = refl

refused_more : (answers : List (Result PlainOperation Refusal)) (a : Result PlainOperation Refusal) → refused_in (answers ++ a ∷ []) ≡ refused_by a (refused_in answers)
refused_more [] a = refl
refused_more (x ∷ answers) a = ap (refused_by x) (refused_more answers a) ∙ refused_swap x a (refused_in answers)

refused_few : (a : Result PlainOperation Refusal) (n many : ℕ) → n ≤ many → refused_by a n ≤ many + 1
refused_few (Ok d) n many h = omega (arith, h)
refused_few (Err e) n many h = omega (arith, h)

-- ---- how far units were moved, one command more

abs_sum : (a b : ℤ) → unsigned_abs (a +ℤ b) ≤ unsigned_abs a + unsigned_abs b
abs_sum (pos m) (pos n) = omega (arith, ints)
abs_sum (pos m) (negsuc n) = omega (arith, ints)
abs_sum (negsuc m) (pos n) = omega (arith, ints)
abs_sum (negsuc m) (negsuc n) = omega (arith, ints)

moved_short : (many : ℕ) (dx dy : ℤ) (mark : PlainMark) → IsHeld dx → IsHeld dy → IsShortShift many mark → IsShortShift (many + 1) (moved_on dx dy mark)
moved_short many dx dy stays nx ny h = (omega (arith, nx), omega (arith, ny))
moved_short many dx dy gone nx ny h = tt
moved_short many dx dy (moves by) nx ny h =
    let a = h.0 in
    let b = h.1 in
    let x = abs_sum by.dx dx in
    let y = abs_sum by.dy dy in
    (omega (arith, a, nx, x), omega (arith, b, ny, y))

same_short : (many : ℕ) (old new : List Mark) → new ≡ old → ((u : ℕ) → IsShortShift many (plain_mark (mark_at old u))) → (u : ℕ) → IsShortShift (many + 1) (plain_mark (mark_at new u))
same_short many old new e h u = subst (λ (l : List Mark). IsShortShift (many + 1) (plain_mark (mark_at l u))) (sym e) (short_more many (plain_mark (mark_at old u)) (h u))

set_short : (many : ℕ) (old new : List Mark) (u : ℕ) (mark : Mark) → u < length old → new ≡ slice_set old u mark → IsShortShift (many + 1) (plain_mark mark) → ((v : ℕ) → IsShortShift many (plain_mark (mark_at old v))) → (v : ℕ) → IsShortShift (many + 1) (plain_mark (mark_at new v))
set_short many old new u mark low e own h v = subst (λ (l : List Mark). IsShortShift (many + 1) (plain_mark (mark_at l v))) (sym e) (by_test (nat_eq v u) refl)
  where
    by_test : (t : Bool) → nat_eq v u ≡ t → IsShortShift (many + 1) (plain_mark (mark_at (slice_set old u mark) v))
    by_test true k =
        let same : u ≡ v = sym (eqb-true v u k) in
        subst (λ (n : ℕ). IsShortShift (many + 1) (plain_mark (mark_at (slice_set old u mark) n))) same (subst (λ (m : Mark). IsShortShift (many + 1) (plain_mark m)) (sym (get_or-set_same old u mark Stays low)) own)
    by_test false k =
        subst (λ (m : Mark). IsShortShift (many + 1) (plain_mark m)) (sym (get_or-set_other old u v mark Stays (λ e. let c : true ≡ false = sym (eq-eqb v u e) ∙ k in cc))) (short_more many (plain_mark (mark_at old v)) (h v))

append_short : (command : PlainCommand) (is_empty : Bool) (many : ℕ) (old new : EditState) (board : PlainBoard) (items : List Item) → Does board command (Ok (append items)) → IsAppendNoted command is_empty old new → ((u : ℕ) → IsShortShift many (plain_mark (mark_at old.marks.items u)))
    → (u : ℕ) → IsShortShift (many + 1) (plain_mark (mark_at new.marks.items u))
append_short (add text at) true many old new board items does n h u = same_short many old.marks.items new.marks.items n.marks h u
append_short (add text at) false many old new board items does n h u =
    subst (λ (l : List Mark). IsShortShift (many + 1) (plain_mark (mark_at l u))) (sym n.marks)
    (subst (λ (m : Mark). IsShortShift (many + 1) (plain_mark m)) (sym (one_more old.marks.items u)) (short_more many (plain_mark (mark_at old.marks.items u)) (h u)))
append_short (delete name at) b many old new board items e n h u = absurd (no_append (found_of name board.items) items e)
append_short (move name dx dy at) b many old new board items e n h u = absurd (no_shifted board dx dy at (found_of name board.items) items e)
append_short (rules text at) b many old new board items e n h u = absurd cc
append_short (again at) b many old new board items e n h u = absurd cc

operation_short : (command : PlainCommand) (old new : EditState) (draft : Draft) → IsSound old.board → IsDraft draft old → (many : ℕ) → ((u : ℕ) → IsShortShift many (plain_mark (mark_at old.marks.items u))) → (operation : PlainOperation) → Does old.board command (Ok operation) → OperationFits old.board operation
    → IsNoted command operation old new → (u : ℕ) → IsShortShift (many + 1) (plain_mark (mark_at new.marks.items u))
operation_short command old new draft sound d many h nothing does fits n u = same_short many old.marks.items new.marks.items n.marks h u
operation_short command old new draft sound d many h (append items) does fits n u = append_short command (is_nil items) many old new old.board items does n h u
operation_short command old new draft sound d many h (put_back items) does fits n u = absurd (none_back old.board command items does)
operation_short command old new draft sound d many h (take_out v) does fits n u =
    let each = d.each in
    let below = can_take old.board old.board command v sound does in
    set_short many old.marks.items new.marks.items v Gone (omega (arith, each, below)) n.0 tt h u
operation_short command old new draft sound d many h (shift v dx dy) does fits n u =
    let each = d.each in
    let below = can_shift old.board command v dx dy sound does in
    set_short many old.marks.items new.marks.items v n.0.0 (omega (arith, each, below)) n.0.2
    (subst (IsShortShift (many + 1)) (sym n.0.1) (moved_short many dx dy (plain_mark (mark_at old.marks.items v)) n.2 n.3 (h v))) h u

answer_short : (command : PlainCommand) (old new : EditState) (draft : Draft) → IsSound old.board → IsDraft draft old → (many : ℕ) → ((u : ℕ) → IsShortShift many (plain_mark (mark_at old.marks.items u))) → (answer : Result PlainOperation Refusal) → Does old.board command answer
    → LeftBy command answer old new → (u : ℕ) → IsShortShift (many + 1) (plain_mark (mark_at new.marks.items u))
answer_short command old new draft sound d many h (Ok operation) does (fits, after, n) u = operation_short command old new draft sound d many h operation does fits n u
answer_short command old new draft sound d many h (Err why) does (same, n) u = same_short many old.marks.items new.marks.items n.marks h u

pub reached_more : (start : PlainBoard) (before : List PlainCommand) (old new : EditState) (command : PlainCommand) → Reached start before old → IsSound old.board → IsCommandStep command old new → Reached start (before ++ command ∷ []) new
reached_more start before old new command r sound s =
    let draft : Draft = with_changes (untouched start.next_unit) r.changes in
    let k = by_answer command old new draft sound r.drafted s.answer s.does s.left in
    let longer = length-append before (command ∷ []) in
    let long : length (before ++ command ∷ []) ≡ length before + 1 = omega (arith, longer) in
    record {
      answers = r.answers ++ s.answer ∷ [];
      changes = r.changes ++ k.0 ∷ [];
      done = do_more before r.answers start old.board new.board command s.answer r.done s.does k.3;
      are_changes = change_more before r.answers r.changes command s.answer k.0 r.are_changes k.1;
      drafted = subst (λ (d : Draft). IsDraft d new) (sym (changes_more (untouched start.next_unit) r.changes k.0)) k.2;
      counted = s.counted ∙ ap (refused_by s.answer) r.counted ∙ sym (refused_more r.answers s.answer);
      short = λ u.
          subst (λ (n : ℕ). IsShortShift n (plain_mark (mark_at new.marks.items u))) (sym long)
          (answer_short command old new draft sound r.drafted (length before) r.short s.answer s.does s.left u);
      few =
          let most = refused_few s.answer old.refused (length before) r.few in
          let same = s.counted in
          omega (arith, most, same, long);
    }

-- ---- before the first

stays_all : (n v : ℕ) → mark_at (replicate n Stays) v ≡ Stays
stays_all zero v = refl
stays_all (suc n) zero = refl
stays_all (suc n) (suc v) = stays_all n v

pub begun_edit_state : (board : PlainBoard) (edit_state : EditState) (old : List Mark) (n m : ℕ) → edit_state.board ≡ board → old ≡ [] → m ≡ 0 → n ≡ board.next_unit → edit_state.marks.items ≡ take n old ++ replicate (n - m) Stays
    → edit_state.added.items ≡ [] → edit_state.refused ≡ 0 → Reached board [] edit_state
begun_edit_state board edit_state old n m e none zeroed is marks added refused =
    let left : n - m ≡ board.next_unit = omega (arith, zeroed, is) in
    let all : edit_state.marks.items ≡ replicate board.next_unit Stays =
    marks ∙ ap (λ (l : List Mark). take n l ++ replicate (n - m) Stays) none ∙ ap (λ (l : List Mark). l ++ replicate (n - m) Stays) (take_all n [] (omega arith)) ∙ ap (λ (k : ℕ). replicate k Stays) left in
    let each : (v : ℕ) → plain_mark (mark_at edit_state.marks.items v) ≡ stays = λ v. ap (λ (l : List Mark). plain_mark (mark_at l v)) all ∙ ap plain_mark (stays_all board.next_unit v) in
    record {
      answers = [];
      changes = [];
      done = e;
      are_changes = refl;
      drafted = record {
        marks = each;
        added = sym (ap (map plain_added) added);
        alone = subst (All IsAlone) (sym added) (All-nil IsAlone);
        next = sym (ap (λ (b : PlainBoard). b.next_unit) e);
        each = ap length all ∙ length-replicate board.next_unit Stays ∙ sym (ap (λ (b : PlainBoard). b.next_unit) e);
      };
      counted = refused;
      short = λ u. subst (IsShortShift 0) (sym (each u)) tt;
      few = omega (arith, refused);
    }

-- ---- what is noted does not look at the board that is left

pub noted_board : (command : PlainCommand) (operation : PlainOperation) (old new last : EditState) → last.marks.items ≡ new.marks.items → last.added.items ≡ new.added.items → IsNoted command operation old new → IsNoted command operation old last
noted_board command nothing old new last m a n = record { marks = m ∙ n.marks; added = a ∙ n.added }
noted_board (add text at) (append items) old new last m a n = record { list = n.list; spelled = n.spelled; unit = n.unit; added = a ∙ n.added; marks = m ∙ n.marks }
noted_board (delete name at) (append items) old new last m a n = tt
noted_board (move name dx dy at) (append items) old new last m a n = tt
noted_board (rules text at) (append items) old new last m a n = tt
noted_board (again at) (append items) old new last m a n = tt
noted_board command (put_back items) old new last m a n = record { marks = m ∙ n.marks; added = a ∙ n.added }
noted_board command (take_out u) old new last m a n = (m ∙ n.0, a ∙ n.1)
noted_board command (shift u dx dy) old new last m a n = ((n.0.0, n.0.1, m ∙ n.0.2), a ∙ n.1, n.2, n.3)
