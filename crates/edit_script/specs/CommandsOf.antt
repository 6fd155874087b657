-- The commands of a script: a row of forms, each of them one command.
--
--     (add LIST)             the item of LIST, which is as in a board
--     (delete NAME)
--     (move NAME DX DY)      millimetres
--     (rules FORM ..)        the forms are as in a rule file
--     (again)
--
-- A script with steps has two forms more, (undo) and (redo). Any other form is bad, and so is a part that is an atom where a list is
-- meant or the reverse, a number that is refused, and a part too many; a form that lacks a part is bad as a whole.
use Rattle.std.specs.Prelude.{ℕ, Bool, ◌||◌, List, [], ◌∷◌, codes, slice_range, Result, Ok, Err, if◌then◌else◌}
use Rattle.sexpr_read.specs.Tree.{Tree, span, parts}
use Rattle.edit_script.specs.declared.error.ScriptError.{ScriptError}
use Rattle.edit_script.specs.Commands.{PlainCommand, PlainStep, add, delete, move, rules, again, edit, undo, redo}
use Rattle.list_read.specs.FirstRefusals.{◌>>=◌, each_of}
use Rattle.list_read.specs.ListHeads.{place, text_of, has_word_head, behind_head}
use Rattle.edit_script.specs.ScriptForms.{bad, as_atom, as_list, no_more, shift_of}

-- the part of the script that the tree stands on
abbrev pub standing : List ℕ → Tree → List ℕ
standing text tree = slice_range text (span tree).at (span tree).end

abbrev pub added_among : List ℕ → Tree → List Tree → Result PlainCommand ScriptError
added_among text form [] = bad form
added_among text form (t ∷ ts) = do
  list ← as_list t
  whole ← no_more ts
  Ok (add (standing text list) (place list))

-- (add LIST)
unfoldable pub added : List ℕ → Tree → Result PlainCommand ScriptError
added text form = added_among text form (behind_head form)

abbrev pub deleted_among : Tree → List Tree → Result PlainCommand ScriptError
deleted_among form [] = bad form
deleted_among form (t ∷ ts) = do
  name ← as_atom t
  whole ← no_more ts
  Ok (delete (text_of name) (place form))

-- (delete NAME)
unfoldable pub deleted : Tree → Result PlainCommand ScriptError
deleted form = deleted_among form (behind_head form)

abbrev pub moved_among : Tree → List Tree → Result PlainCommand ScriptError
moved_among form [] = bad form
moved_among form (t ∷ []) = bad form
moved_among form (t ∷ x ∷ []) = bad form
moved_among form (t ∷ x ∷ y ∷ ts) = do
  name ← as_atom t
  dx ← shift_of x
  dy ← shift_of y
  whole ← no_more ts
  Ok (move (text_of name) dx dy (place form))

-- (move NAME DX DY)
unfoldable pub moved : Tree → Result PlainCommand ScriptError
moved form = moved_among form (behind_head form)

-- (rules FORM ..), which is not looked into
abbrev pub ruled : List ℕ → Tree → PlainCommand
ruled text form = rules (standing text form) (place form)

-- a form of its head alone
abbrev pub alone : {A : Type 0} → A → Tree → Result A ScriptError
alone what form = no_more (behind_head form) >>= λ whole. Ok what

-- the command of a form
unfoldable pub command_of : List ℕ → Tree → Result PlainCommand ScriptError
command_of text form =
    if has_word_head (codes "add") form then added text form
    else if has_word_head (codes "delete") form then deleted form
    else if has_word_head (codes "move") form then moved form
    else if has_word_head (codes "rules") form then Ok (ruled text form)
    else if has_word_head (codes "again") form then alone (again (place form)) form
    else bad form

-- the step of a form
unfoldable pub step_of : List ℕ → Tree → Result PlainStep ScriptError
step_of text form =
    if has_word_head (codes "undo") form then alone (undo (place form)) form
    else if has_word_head (codes "redo") form then alone (redo (place form)) form
    else (command_of text form >>= λ command. Ok (edit command))

-- a form that only a history has
abbrev pub is_turn : Tree → Bool
is_turn form = has_word_head (codes "undo") form || has_word_head (codes "redo") form

-- bad there, unless it is refused before
abbrev pub bad_behind : {A B : Type 0} → Tree → Result A ScriptError → Result B ScriptError
bad_behind tree (Ok x) = bad tree
bad_behind tree (Err e) = Err e

-- The commands of the script with this text.
unfoldable pub commands_of : List ℕ → Tree → Result (List PlainCommand) ScriptError
commands_of text root = each_of (command_of text) (parts root)

-- Its steps.
unfoldable pub steps_of : List ℕ → Tree → Result (List PlainStep) ScriptError
steps_of text root = each_of (step_of text) (parts root)
