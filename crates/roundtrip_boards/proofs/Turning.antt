-- What commands do to a board changes its text so, command by command.
use Rattle.std.proofs.Common.{◌≡◌, ◌∙◌, refl, sym, ap, subst, ℕ, ℤ, Bool, true, false, cond, List, [], ◌∷◌, Option, None, Some, Result, Ok, Err}
use Rattle.sexpr_read.specs.declared.place.TextError.{TextError}
use Rattle.sexpr_read.specs.Tree.{Tree, parts, is_list}
use Rattle.sexpr_read.specs.Spelling.{SpellsAll}
use Rattle.sexpr_read.specs.TreeRefusals.{refusal_of_all}
use Rattle.sexpr_read.proofs.Unique.{unique_forms}
use Rattle.board_errors.specs.declared.errors.BoardError.{BoardError}
use Rattle.board_errors.specs.declared.errors.BoardError.TheVariants.{OutOfBoard, Text as TextRefused}
use Rattle.board_items.specs.declared.found.Found.{Found}
use Rattle.board_items.specs.declared.found.Found.TheVariants.{None as NoUnit, Shared, Inside, Unit as OneUnit}
use Rattle.one_item.specs.declared.item.Item.{Item}
use Rattle.board_items.specs.Boards.{PlainBoard}
use Rattle.board_items.specs.UnitMoves.{unit_stays}
use Rattle.board_items.specs.Units.{found_of}
use Rattle.edit_script.specs.Commands.{PlainCommand, add, delete, move, rules, again}
use Rattle.list_read.specs.TextResults.{IsBehindText}
use Rattle.pcb_read.specs.ItemText.{answer_further, alone, SaysList, SaysAlone, SaysForms, SaysText}
use Rattle.board_edits.specs.declared.refusal.Refusal.{Refusal}
use Rattle.board_edits.specs.declared.refusal.Refusal.TheVariants.{Item as ItemRefused}
use Rattle.board_edits.specs.Operations.{PlainOperation, nothing, append, put_back, take_out, shift, After, appended, to_unit, shifted, Does, IsLeft, DoAll}
use Rattle.roundtrip_boards.specs.TextChanges.{Change, IsListIn, IsListOf, IsChangeBy, IsChange, AreChanges, IsNamed, IsAddedTo, Changes, ChangeAll}

-- ---- an added list gives its items

said_alone : (board : PlainBoard) (unit : ℕ) (list : Tree) (items : List Item) (e : BoardError) (b : Bool) → SaysAlone board unit (cond b (Ok list) (Err e)) (Ok items) → SaysList board unit list (Ok items)
said_alone board unit list items e true says = says
said_alone board unit list items e false says = absurd cc

said_after : (board : PlainBoard) (unit : ℕ) (text : List ℕ) (list : Tree) (items : List Item) (o : Option TextError) → IsListIn text list → IsBehindText TextRefused (SpellsAll text) (SaysForms board unit) o (Ok items) → SaysList board unit list (Ok items)
said_after board unit text list items (Some e) is says = absurd cc
said_after board unit text list items None (forms, spelled, single) (others, read, says) =
    let same : others ≡ forms = unique_forms text others forms read spelled in
    let parts_of : parts others ≡ list ∷ [] = ap parts same ∙ single in
    said_alone board unit list items _ (is_list list) (subst (λ (l : List Tree). SaysAlone board unit (alone l) (Ok items)) parts_of says)

said_by : (board : PlainBoard) (unit at : ℕ) (text : List ℕ) (list : Tree) (items : List Item) (found answer : Result (List Item) BoardError) → IsListIn text list → SaysText board unit text found
    → answer ≡ answer_further at found → Ok (append items) ≡ appended answer → SaysList board unit list (Ok items)
said_by board unit at text list items (Err e) answer is says same k = absurd (let c : Ok (append items) ≡ appended (Err _) = k ∙ ap appended same in cc)
said_by board unit at text list items (Ok its) answer is says same k =
    let both : Ok (append items) ≡ appended (Ok its) = k ∙ ap appended same in
    let equal : its ≡ items = cc in
    said_after board unit text list items (refusal_of_all text) is (subst (λ (l : List Item). SaysText board unit text (Ok l)) equal says)

-- ---- a name stands for the unit of an operation

taken_named : (found : Found) (unit : ℕ) → Ok (take_out unit) ≡ to_unit found (λ u. Ok (take_out u)) → found ≡ OneUnit unit
taken_named NoUnit unit e = absurd cc
taken_named Shared unit e = absurd cc
taken_named Inside unit e = absurd cc
taken_named (OneUnit u) unit e = let same : u ≡ unit = cc in ap (λ n. OneUnit n) same

-- a move takes no unit out, and a deletion moves none
moved_taken : (board : PlainBoard) (dx dy : ℤ) (at : ℕ) (found : Found) (unit : ℕ) → Ok (take_out unit) ≡ to_unit found (shifted board dx dy at) → ⊥
moved_taken board dx dy at NoUnit unit e = cc
moved_taken board dx dy at Shared unit e = cc
moved_taken board dx dy at Inside unit e = cc
moved_taken board dx dy at (OneUnit u) unit e = by_test (unit_stays u dx dy board.items) e
  where
    by_test : (b : Bool) → Ok (take_out unit) ≡ cond b (Ok (shift u dx dy)) (Err (ItemRefused (OutOfBoard at))) → ⊥
    by_test true e = cc
    by_test false e = cc

taken_moved : (found : Found) (unit : ℕ) (dx dy : ℤ) → Ok (shift unit dx dy) ≡ to_unit found (λ u. Ok (take_out u)) → ⊥
taken_moved NoUnit unit dx dy e = cc
taken_moved Shared unit dx dy e = cc
taken_moved Inside unit dx dy e = cc
taken_moved (OneUnit u) unit dx dy e = cc

moved_named : (board : PlainBoard) (dx dy by_x by_y : ℤ) (at : ℕ) (found : Found) (unit : ℕ) → Ok (shift unit dx dy) ≡ to_unit found (shifted board by_x by_y at)
    → (found ≡ OneUnit unit) × (unit_stays unit dx dy board.items ≡ true)
moved_named board dx dy by_x by_y at NoUnit unit e = absurd cc
moved_named board dx dy by_x by_y at Shared unit e = absurd cc
moved_named board dx dy by_x by_y at Inside unit e = absurd cc
moved_named board dx dy by_x by_y at (OneUnit u) unit e = by_test (unit_stays u by_x by_y board.items) refl e
  where
    by_test : (b : Bool) → unit_stays u by_x by_y board.items ≡ b → Ok (shift unit dx dy) ≡ cond b (Ok (shift u by_x by_y)) (Err (ItemRefused (OutOfBoard at))) → (OneUnit u ≡ OneUnit unit) × (unit_stays unit dx dy board.items ≡ true)
    by_test true k e =
        let same : u ≡ unit = cc in
        let x : by_x ≡ dx = cc in
        let y : by_y ≡ dy = cc in (
          ap (λ n. OneUnit n) same,
          sym (ap (λ n. unit_stays n by_x by_y board.items) same ∙ ap (λ (z : ℤ). unit_stays unit z by_y board.items) x ∙ ap (λ (z : ℤ). unit_stays unit dx z board.items) y) ∙ k,
        )
    by_test false k e = absurd cc

no_taking : (answer : Result (List Item) BoardError) (unit : ℕ) → Ok (take_out unit) ≡ appended answer → ⊥
no_taking (Ok items) unit e = cc
no_taking (Err e) unit k = cc

no_moving : (answer : Result (List Item) BoardError) (unit : ℕ) (dx dy : ℤ) → Ok (shift unit dx dy) ≡ appended answer → ⊥
no_moving (Ok items) unit dx dy e = cc
no_moving (Err e) unit dx dy k = cc

-- ---- command by command

module _ (board : PlainBoard) where
  takes : (command : PlainCommand) (unit : ℕ) → Does board command (Ok (take_out unit)) → IsNamed board unit
  takes (add text at) unit (found, says, e) = absurd (no_taking found unit e)
  takes (delete name at) unit e = (name, taken_named (found_of name board.items) unit e)
  takes (move name dx dy at) unit e = absurd (moved_taken board dx dy at (found_of name board.items) unit e)
  takes (rules text at) unit e = absurd cc
  takes (again at) unit e = absurd cc

  moves : (command : PlainCommand) (unit : ℕ) (dx dy : ℤ) → Does board command (Ok (shift unit dx dy)) → IsNamed board unit × (unit_stays unit dx dy board.items ≡ true)
  moves (add text at) unit dx dy (found, says, e) = absurd (no_moving found unit dx dy e)
  moves (delete name at) unit dx dy e = absurd (taken_moved (found_of name board.items) unit dx dy e)
  moves (move name by_x by_y at) unit dx dy e = let k = moved_named board dx dy by_x by_y at (found_of name board.items) unit e in ((name, k.0), k.1)
  moves (rules text at) unit dx dy e = absurd cc
  moves (again at) unit dx dy e = absurd cc

  adds : (command : PlainCommand) (list : Tree) (items : List Item) → Does board command (Ok (append items)) → IsListOf command list → IsAddedTo board list items
  adds (add text at) list items (answer, (found, says, further), e) is = (text, is, said_by board board.next_unit at text list items found answer is says further e)
  adds (delete name at) list items e is = absurd is
  adds (move name dx dy at) list items e is = absurd is
  adds (rules text at) list items e is = absurd is
  adds (again at) list items e is = absurd is

  by_operation : (command : PlainCommand) (operation : PlainOperation) (change : Change) (new : PlainBoard) → Does board command (Ok operation) → After board operation new → IsChangeBy command operation change → Changes board change new
  by_operation command nothing change new does after is = subst (λ (c : Change). Changes board c new) (sym is) after
  by_operation command (append items) change new does after (list, of, is) = subst (λ (c : Change). Changes board c new) (sym is) (adds command list items does of, after)
  by_operation command (put_back items) change new does after is = absurd is
  by_operation command (take_out unit) change new does after is = subst (λ (c : Change). Changes board c new) (sym is) (takes command unit does, after)
  by_operation command (shift unit dx dy) change new does after is =
      let k = moves command unit dx dy does in
      subst (λ (c : Change). Changes board c new) (sym is) (k.0, k.1, after)

  pub one_change : (command : PlainCommand) (answer : Result PlainOperation Refusal) (change : Change) (new : PlainBoard) → Does board command answer → IsLeft board answer new → IsChange command answer change → Changes board change new
  one_change command (Ok operation) change new does after is = by_operation command operation change new does after is
  one_change command (Err why) change new does after is = subst (λ (c : Change). Changes board c new) (sym is) after

pub all_change : (commands : List PlainCommand) (answers : List (Result PlainOperation Refusal)) (changes : List Change) (board last : PlainBoard) → DoAll board commands answers last → AreChanges commands answers changes → ChangeAll board changes last
all_change [] [] changes board last same is = subst (λ (l : List Change). ChangeAll board l last) (sym is) same
all_change [] (answer ∷ answers) changes board last done is = absurd done
all_change (command ∷ commands) [] changes board last done is = absurd done
all_change (command ∷ commands) (answer ∷ answers) [] board last done is = absurd is
all_change (command ∷ commands) (answer ∷ answers) (change ∷ changes) board last (new, does, left, more) is =
    (new, one_change board command answer change new does left is.0, all_change commands answers changes new last more is.1)
