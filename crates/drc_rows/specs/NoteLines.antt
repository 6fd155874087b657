-- The lines of notes: what a board and its rules have that is read but not checked. Texts and dimensions on copper are told by
-- their layer and their name, what a footprint has by the footprint's reference, and a constraint that no rule may have by its
-- own name and that of its rule.
use Rattle.std.specs.Prelude.{ℕ, List, [], ◌++◌, ◌+◌, length, codes, Option, None, Some, slice_get}
use Rattle.std.specs.List.{flat_map}
use Rattle.one_item.specs.declared.item.About.{About}
use Rattle.one_item.specs.declared.item.About.TheVariants.{Text, Dimension, Courtyard, FootZone}
use Rattle.one_item.specs.declared.item.What.{What}
use Rattle.one_item.specs.declared.item.What.TheVariants.{Body, Note}
use Rattle.one_item.specs.declared.item.Item.{Item}
use Rattle.board_items.specs.Boards.{PlainBoard, item_at}
use Rattle.board_items.specs.ItemNotes.{notes_of, body_of}
use Rattle.cond_lang.specs.Rules.{PlainRule}
use Rattle.rule_text.specs.RulesOf.{PlainNote, PlainRules}
use Rattle.drc_rows.specs.Buffer.{named}

-- what is not checked
abbrev pub about_text : About → List ℕ → List ℕ → List ℕ → List ℕ
about_text Text layer name reference = codes "text on " ++ named layer name
about_text Dimension layer name reference = codes "dimension on " ++ named layer name
about_text Courtyard layer name reference = codes "courtyard " ++ (layer ++ named (codes " of") reference)
about_text FootZone layer name reference = named (codes "zone of") reference

-- its line
abbrev pub told_text : About → List ℕ → List ℕ → List ℕ → List ℕ
told_text about layer name reference = codes "not checked: " ++ about_text about layer name reference ++ codes "\n"

-- the line of a note, where its footprint has this reference; other items have none
abbrev pub note_text : List ℕ → What → List ℕ → List ℕ
note_text name (Note about layer) reference = told_text about layer name reference
note_text name _ reference = []

abbrev pub reference_in : What → List ℕ
reference_in (Body reference prefix back on_back) = reference
reference_in _ = []

-- the reference of a footprint, if there is one
abbrev pub reference_of : Option Item → List ℕ
reference_of None = []
reference_of (Some body) = reference_in body.what

-- the line of the item of an id, where its footprint has this reference. Those of notes are always there
abbrev pub note_line_of : Option Item → List ℕ → List ℕ
note_line_of None reference = []
note_line_of (Some item) reference = note_text item.name item.what reference

-- the line of a note. Its footprint is the one whose body stands before it in its unit
abbrev pub note_line : PlainBoard → ℕ → List ℕ
note_line board id = note_line_of (item_at board.items id) (reference_of (body_of board id))

-- the lines of all notes of a board, by id
unfoldable pub item_lines : PlainBoard → List ℕ
item_lines board = flat_map (note_line board) (notes_of board.items)

-- how many notes a board has
unfoldable pub item_count : PlainBoard → ℕ
item_count board = length (notes_of board.items)

-- ---- constraints

-- the name of a rule, if there is one
abbrev pub name_in : Option PlainRule → List ℕ
name_in None = []
name_in (Some rule) = rule.name

-- the name of the rule of this number. A number beyond the rules, which no rule file gives a note, has an empty one
abbrev pub rule_name : PlainRules → ℕ → List ℕ
rule_name rules number = name_in (slice_get rules.rules number)

-- the line of a constraint: its name as it stands in its text, and that of its rule
abbrev pub constraint_line : PlainRules → PlainNote → List ℕ
constraint_line rules note = codes "not checked: constraint " ++ (note.constraint ++ named (codes " of rule") (rule_name rules note.rule)) ++ codes "\n"

-- the lines of all constraints that are not checked, in the order of their text, which is that of the rules
abbrev pub constraint_lines : PlainRules → List ℕ
constraint_lines rules = flat_map (constraint_line rules) rules.notes

-- ---- all

-- the lines of all notes: those of a board, and behind them those of its rules
abbrev pub note_lines : PlainBoard → PlainRules → List ℕ
note_lines board rules = item_lines board ++ constraint_lines rules

-- how many there are
abbrev pub note_count : PlainBoard → PlainRules → ℕ
note_count board rules = item_count board + length rules.notes
