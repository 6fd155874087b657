-- The parts of a form of a script behind its head, which is a word, never in quotes. What is wrong first in the text is the refusal.
use Rattle.std.specs.Prelude.{ℕ, ℤ, List, [], ◌∷◌, Option, None, Some, Result, Ok, Err, if◌then◌else◌}
use Rattle.sexpr_read.specs.Tree.{Tree, content, is_list}
use Rattle.exact_dec.specs.declared.DecError.{DecError}
use Rattle.exact_dec.specs.Computed.{mm_cut_answer}
use Rattle.list_read.specs.ListHeads.{place}
use Rattle.edit_script.specs.declared.error.ScriptError.{ScriptError}
use Rattle.edit_script.specs.declared.error.ScriptError.TheVariants.{Bad}

-- it stands where it may not, or a part of it is missing
abbrev pub bad : {A : Type 0} → Tree → Result A ScriptError
bad tree = Err (Bad (place tree))

-- an atom, and no list in its place
abbrev pub as_atom : Tree → Result Tree ScriptError
as_atom tree = if is_list tree then bad tree else Ok tree

-- a list, and no atom in its place
abbrev pub as_list : Tree → Result Tree ScriptError
as_list tree = if is_list tree then Ok tree else bad tree

-- no part stands behind the last one
abbrev pub no_more : List Tree → Result (Unit {0}) ScriptError
no_more [] = Ok tt
no_more (t ∷ ts) = bad t

abbrev pub shift_from : Tree → Result ℤ DecError → Result ℤ ScriptError
shift_from tree (Ok n) = Ok n
shift_from tree (Err e) = bad tree

abbrev pub shift_in : Tree → Option (List ℕ) → Result ℤ ScriptError
shift_in tree None = bad tree
shift_in tree (Some text) = shift_from tree (mm_cut_answer text)

-- an atom that is a number: millimetres, cut toward zero to nanometres
unfoldable pub shift_of : Tree → Result ℤ ScriptError
shift_of tree = shift_in tree (content tree)
