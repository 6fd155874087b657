-- What the calls that carry commands out ask of them: texts and places of a script that is not too long to be read. What a script
-- gives beside: added lists of at most 63 levels, so that each can stand in the list of a board, and shifts of at most 10^12
-- nanometres.
use Rattle.std.specs.Prelude.{◌≡◌, ℕ, ℤ, ◌-◌, ◌≤◌, true, List, [], ◌∷◌, length, sum_by, All, unsigned_abs, ⊤}
use Rattle.plain_types.specs.Limits.{IsInText, IsReadable}
use Rattle.sexpr_read.specs.Tree.{Tree, span, parts, is_list, levels}
use Rattle.sexpr_read.specs.Spelling.{SpellsAll}
use Rattle.edit_script.specs.Commands.{PlainCommand, PlainStep, add, delete, move, rules, again, edit, undo, redo}
use Rattle.edit_script.specs.CommandsOf.{standing}

abbrev pub Fits : PlainCommand → Type 0
Fits (add text at) = IsReadable text × IsInText at
Fits (delete name at) = IsInText at
Fits (move name dx dy at) = IsInText at
Fits (rules text at) = IsReadable text × IsInText at
Fits (again at) = IsInText at

abbrev pub StepFits : PlainStep → Type 0
StepFits (edit command) = Fits command
StepFits (undo at) = IsInText at
StepFits (redo at) = IsInText at

-- ---- what a script gives beside

-- the text spells forms of at most 63 levels; the list of all forms is one more
abbrev pub IsShallow : List ℕ → Type 0
IsShallow text = (tree : Tree) → SpellsAll text tree → levels tree ≤ 64

-- no list that is added has more than 63 levels
abbrev pub IsShallowIfAdded : PlainCommand → Type 0
IsShallowIfAdded (add text at) = IsShallow text
IsShallowIfAdded (delete name at) = ⊤
IsShallowIfAdded (move name dx dy at) = ⊤
IsShallowIfAdded (rules text at) = ⊤
IsShallowIfAdded (again at) = ⊤

abbrev pub AreShallow : List PlainCommand → Type 0
AreShallow commands = All IsShallowIfAdded commands

-- at most 10^12 from 0
abbrev pub IsShiftInRange : ℤ → Type 0
IsShiftInRange n = unsigned_abs n ≤ 1000000000000

-- a move is near either way
abbrev pub IsNearIfMoved : PlainCommand → Type 0
IsNearIfMoved (add text at) = ⊤
IsNearIfMoved (delete name at) = ⊤
IsNearIfMoved (move name dx dy at) = IsShiftInRange dx × IsShiftInRange dy
IsNearIfMoved (rules text at) = ⊤
IsNearIfMoved (again at) = ⊤

-- no list that a step adds has more than 63 levels
abbrev pub IsShallowStep : PlainStep → Type 0
IsShallowStep (edit command) = IsShallowIfAdded command
IsShallowStep (undo at) = ⊤
IsShallowStep (redo at) = ⊤

-- a step that moves is near either way
abbrev pub IsNearStep : PlainStep → Type 0
IsNearStep (edit command) = IsNearIfMoved command
IsNearStep (undo at) = ⊤
IsNearStep (redo at) = ⊤

-- how many bytes of added lists a command holds
abbrev pub added_by : PlainCommand → ℕ
added_by (add text at) = length text
added_by (delete name at) = 0
added_by (move name dx dy at) = 0
added_by (rules text at) = 0
added_by (again at) = 0

abbrev pub added_by_step : PlainStep → ℕ
added_by_step (edit command) = added_by command
added_by_step (undo at) = 0
added_by_step (redo at) = 0

-- ---- what is known of each one that was read (private)

abbrev pub IsRead : PlainCommand → Type 0
IsRead command = Fits command × IsShallowIfAdded command × IsNearIfMoved command

abbrev pub IsReadStep : PlainStep → Type 0
IsReadStep step = StepFits step × IsShallowStep step × IsNearStep step

-- ---- trees (private)

-- how many bytes the tree stands on
abbrev pub size_of : Tree → ℕ
size_of tree = (span tree).end - (span tree).at

-- the tree stands between these places
abbrev pub StandsIn : ℕ → ℕ → Tree → Type 0
StandsIn from to tree = (from ≤ (span tree).at) × ((span tree).at ≤ (span tree).end) × ((span tree).end ≤ to)

abbrev pub AllStandIn : ℕ → ℕ → List Tree → Type 0
AllStandIn from to [] = Unit {0}
AllStandIn from to (t ∷ ts) = StandsIn from to t × AllStandIn from to ts

-- the form stands in a text of this size, and its parts in it
abbrev pub FormStandsIn : ℕ → Tree → Type 0
FormStandsIn size form = StandsIn 0 size form × AllStandIn (span form).at (span form).end (parts form)

abbrev pub FormsStandIn : ℕ → List Tree → Type 0
FormsStandIn size [] = Unit {0}
FormsStandIn size (t ∷ ts) = FormStandsIn size t × FormsStandIn size ts

-- the forms together stand on no more bytes than that
abbrev pub HaveCapacity : ℕ → List Tree → Type 0
HaveCapacity size forms = sum_by size_of forms ≤ size

-- a list is shallow where it stands alone
abbrev pub IsShallowIfList : List ℕ → Tree → Type 0
IsShallowIfList text tree = is_list tree ≡ true → IsShallow (standing text tree)

abbrev pub AllShallow : List ℕ → List Tree → Type 0
AllShallow text [] = Unit {0}
AllShallow text (t ∷ ts) = IsShallowIfList text t × AllShallow text ts

-- so are the parts of each form
abbrev pub FormsShallow : List ℕ → List Tree → Type 0
FormsShallow text [] = Unit {0}
FormsShallow text (t ∷ ts) = AllShallow text (parts t) × FormsShallow text ts
