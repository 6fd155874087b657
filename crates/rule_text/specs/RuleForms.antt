-- The parts of a list of a rule file behind its head. What is wrong first in the text is the refusal.
use Rattle.std.specs.Prelude.{List, [], ◌∷◌, Result, Ok, Err, if◌then◌else◌}
use Rattle.sexpr_read.specs.Tree.{Tree, parts, is_list}
use Rattle.list_read.specs.FirstRefusals.{◌>>=◌}
use Rattle.list_read.specs.ListHeads.{place}
use Rattle.rule_text.specs.declared.error.RuleError.{RuleError}
use Rattle.rule_text.specs.declared.error.RuleError.TheVariants.{Bad}

-- it stands where it may not
abbrev pub bad : {A : Type 0} → Tree → Result A RuleError
bad tree = Err (Bad (place tree))

-- an atom, and no list in its place
abbrev pub as_atom : Tree → Result Tree RuleError
as_atom tree = if is_list tree then bad tree else Ok tree

abbrev pub second_among : Tree → List Tree → Result Tree RuleError
second_among tree [] = bad tree
second_among tree (h ∷ []) = bad tree
second_among tree (h ∷ t ∷ ts) = Ok t

-- the name behind the head: an atom. Where it is missing, the list is bad
unfoldable pub name_at : Tree → Result Tree RuleError
name_at tree = second_among tree (parts tree) >>= as_atom

abbrev pub single_among : Tree → List Tree → Result Tree RuleError
single_among tree [] = bad tree
single_among tree (h ∷ []) = bad tree
single_among tree (h ∷ t ∷ []) = Ok t
single_among tree (h ∷ t ∷ u ∷ ts) = bad tree

-- the one part behind the head: an atom. With another number of parts, the list is bad
unfoldable pub atom_at : Tree → Result Tree RuleError
atom_at tree = single_among tree (parts tree) >>= as_atom

abbrev pub behind_two : List Tree → List Tree
behind_two [] = []
behind_two (h ∷ []) = []
behind_two (h ∷ t ∷ ts) = ts

-- what stands behind the head and the name
unfoldable pub clauses : Tree → List Tree
clauses tree = behind_two (parts tree)
