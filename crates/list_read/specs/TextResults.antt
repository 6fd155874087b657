-- What a text says by its tree: one that is refused says its refusal, and any other what its tree says. The refusals of readers carry
-- those of texts.
use Rattle.std.specs.Prelude.{◌≡◌, ℕ, List, Option, None, Some, Result, Err}
use Rattle.sexpr_read.specs.declared.place.TextError.{TextError}
use Rattle.sexpr_read.specs.Tree.{Tree}
use Rattle.sexpr_read.specs.Spelling.{Spells, SpellsAll}
use Rattle.sexpr_read.specs.TreeRefusals.{refusal_of_one, refusal_of_all}

-- behind what refuses the text, if something does
abbrev pub IsBehindText : {E A : Type 0} → (TextError → E) → (Tree → Type 0) → (Tree → Result A E → Type 0) → Option TextError → Result A E → Type 0
IsBehindText carried Spelled Says (Some e) answer = answer ≡ Err (carried e)
IsBehindText carried Spelled Says None answer = (tree : Tree) × Spelled tree × Says tree answer

-- a text of forms, any number of them
abbrev pub OfForms : {E A : Type 0} → (TextError → E) → (Tree → Result A E → Type 0) → List ℕ → Result A E → Type 0
OfForms carried Says text answer = IsBehindText carried (SpellsAll text) Says (refusal_of_all text) answer

-- a text of one list
abbrev pub OfList : {E A : Type 0} → (TextError → E) → (Tree → Result A E → Type 0) → List ℕ → Result A E → Type 0
OfList carried Says text answer = IsBehindText carried (Spells text) Says (refusal_of_one text) answer
