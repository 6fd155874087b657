-- Which forms are commands and steps, and of what: the grammar alone. What is wrong with other forms, and where, is in CommandsOf; a law
-- ties the two.
use Rattle.std.specs.Prelude.{◌≡◌, ℕ, ℤ, true, false, List, [], ◌∷◌, codes, Some, Ok}
use Rattle.sexpr_read.specs.Tree.{Tree, parts, content, value, quoted, is_list}
use Rattle.exact_dec.specs.Computed.{mm_cut_answer}
use Rattle.list_read.specs.ListHeads.{place}
use Rattle.edit_script.specs.Commands.{PlainCommand, PlainStep, add, delete, move, rules, again, edit, undo, redo}
use Rattle.edit_script.specs.CommandsOf.{standing}

-- a list whose first part is this word, without quotes, and what stands behind it
pub record IsForm (word : List ℕ) (form : Tree) (behind : List Tree) : Type 0 where
  pub head : Tree
  pub parts_are : parts form ≡ head ∷ behind
  pub unquoted : quoted head ≡ false
  pub says : value head ≡ Some word

-- an atom that is so many millimetres, cut to nanometres
pub record IsShift (tree : Tree) (nanometres : ℤ) : Type 0 where
  pub text : List ℕ
  pub atom : content tree ≡ Some text
  pub number : mm_cut_answer text ≡ Ok nanometres

pub data IsCommand (script : List ℕ) (form : Tree) : PlainCommand → Type 0 where
  adds : (t : Tree) → IsForm (codes "add") form (t ∷ []) → is_list t ≡ true → IsCommand script form (add (standing script t) (place t))
  deletes : (t : Tree) (name : List ℕ) → IsForm (codes "delete") form (t ∷ []) → value t ≡ Some name → IsCommand script form (delete name (place form))
  moves : (t x y : Tree) (name : List ℕ) (dx dy : ℤ) → IsForm (codes "move") form (t ∷ x ∷ y ∷ []) → value t ≡ Some name → IsShift x dx → IsShift y dy → IsCommand script form (move name dx dy (place form))
  replaces : (behind : List Tree) → IsForm (codes "rules") form behind → IsCommand script form (rules (standing script form) (place form))
  repeats : IsForm (codes "again") form [] → IsCommand script form (again (place form))

pub data IsStep (script : List ℕ) (form : Tree) : PlainStep → Type 0 where
  edits : (command : PlainCommand) → IsCommand script form command → IsStep script form (edit command)
  undoes : IsForm (codes "undo") form [] → IsStep script form (undo (place form))
  redoes : IsForm (codes "redo") form [] → IsStep script form (redo (place form))
