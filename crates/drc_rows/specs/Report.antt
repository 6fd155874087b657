-- The texts of the report. Every line ends with a line feed.
use Rattle.std.specs.Prelude.{ℕ, Bool, true, false, List, [], ◌++◌, length, codes, decimal, Option, None, Some, unwrap_or, slice_get}
use Rattle.std.specs.List.{flat_map}
use Rattle.exact_dec.specs.MillimetreText.{mm_text}
use Rattle.one_item.specs.declared.item.What.{What}
use Rattle.one_item.specs.declared.item.What.TheVariants.{Track, Via, Pad, Graphic, Fill, Edge, Area, Body, Note}
use Rattle.one_item.specs.declared.item.Item.{Item}
use Rattle.copper_layers.specs.Layers.{layer_names}
use Rattle.board_items.specs.Boards.{PlainBoard, item_at}
use Rattle.cond_lang.specs.declared.kind.Kind.{Kind}
use Rattle.cond_lang.specs.declared.kind.Family.{Family}
use Rattle.cond_lang.specs.declared.kind.Family.TheVariants.{Meets, Keeps, Limits, Forbids}
use Rattle.cond_lang.specs.declared.rule.Severity.{Severity}
use Rattle.cond_lang.specs.declared.rule.Severity.TheVariants.{Error, Warning, Ignore, Exclusion}
use Rattle.cond_lang.specs.CheckKinds.{family, kind_name}
use Rattle.cond_lang.specs.Rules.{PlainRule}
use Rattle.rule_pick.specs.declared.kinds.Source.{Source}
use Rattle.rule_pick.specs.declared.kinds.Source.TheVariants.{Default, Local, Rule}
use Rattle.kind_subjects.specs.declared.layer.RowLayer.{RowLayer}
use Rattle.kind_subjects.specs.declared.layer.RowLayer.TheVariants.{Copper, FrontYard, BackYard, Nowhere}
use Rattle.pair_check.specs.PlainRow.{PlainRow}
use Rattle.rule_text.specs.RulesOf.{PlainRules}
use Rattle.drc_rows.specs.Buffer.{named}
use Rattle.drc_rows.specs.NoteLines.{name_in, note_lines, note_count}

-- what an item is called: by its own name, a rule area by its title, a footprint by its reference, and a pad by its number
-- and the reference of its footprint. No row names a note
abbrev pub title_of : List ℕ → What → List ℕ
title_of name (Track width) = named (codes "track") name
title_of name (Via size drill micro blind) = named (codes "via") name
title_of name (Pad number reference) = named (codes "pad") number ++ named (codes " of") reference
title_of name Graphic = named (codes "graphic") name
title_of name Fill = named (codes "zone") name
title_of name (Edge lines) = named (codes "edge") name
title_of name (Area title bans shape) = named (codes "area") title
title_of name (Body reference prefix back on_back) = named (codes "footprint") reference
title_of name (Note about layer) = named (codes "note") name

-- an item, and where it is in millimetres
abbrev pub item_text : Item → List ℕ
item_text item = title_of item.name item.what ++ (codes " at " ++ mm_text item.x ++ codes " " ++ mm_text item.y)

-- the item of an id. Those of a row are always there
abbrev pub text_of : Option Item → List ℕ
text_of None = []
text_of (Some item) = item_text item

-- ---- rows

-- the word of a severity. Only errors and warnings make rows
abbrev pub severity_word : Severity → List ℕ
severity_word Error = codes "error"
severity_word Warning = codes "warning"
severity_word Ignore = codes "ignore"
severity_word Exclusion = codes "exclusion"

-- the name of a copper layer. Those of rows have one
abbrev pub copper_name : ℕ → List ℕ
copper_name layer = unwrap_or (slice_get layer_names layer) []

-- where it is
abbrev pub layer_text : RowLayer → List ℕ
layer_text (Copper layer) = copper_name layer
layer_text FrontYard = codes "F.CrtYd"
layer_text BackYard = codes "B.CrtYd"
layer_text Nowhere = codes "-"

-- the severity of a row, the kind that is broken, and the layer
abbrev pub head_text : PlainRow → List ℕ
head_text row = severity_word row.severity ++ codes " " ++ kind_name row.kind ++ codes " " ++ layer_text row.layer ++ codes ": "

-- the one item
abbrev pub single_text : PlainBoard → PlainRow → List ℕ
single_text board row = text_of (item_at board.items row.first)

-- the two items
abbrev pub pair_text : PlainBoard → PlainRow → List ℕ
pair_text board row = single_text board row ++ codes " | " ++ text_of (item_at board.items row.second)

-- what breaks it: limits, bans and claims are broken by one item, the others by two
abbrev pub items_by : Family → PlainBoard → PlainRow → List ℕ
items_by Meets board row = pair_text board row
items_by Keeps board row = pair_text board row
items_by Limits board row = single_text board row
items_by Forbids board row = single_text board row

abbrev pub items_text : Kind → PlainBoard → PlainRow → List ℕ
items_text kind board row = items_by (family kind) board row

-- what asks for it: an item's own value, a rule by its name, or else a class or the board. A rule that asks is always there
abbrev pub source_text : List PlainRule → Source → List ℕ
source_text rules Default = codes "default"
source_text rules Local = codes "local"
source_text rules (Rule n) = named (codes "rule") (name_in (slice_get rules n))

-- that, behind what a row says before it
abbrev pub asked_text : List PlainRule → PlainRow → List ℕ
asked_text rules row = codes " | " ++ source_text rules row.source

-- the length that is asked for, under a word, and the one that there is
abbrev pub lengths_text : List ℕ → PlainRow → List ℕ
lengths_text word row = codes " | " ++ word ++ codes " " ++ mm_text row.value ++ codes " | has " ++ mm_text row.gap

-- both, and what asks for the one
abbrev pub measured_text : List ℕ → List PlainRule → PlainRow → List ℕ
measured_text word rules row = lengths_text word row ++ asked_text rules row

-- which limit is broken
abbrev pub limit_word : Bool → List ℕ
limit_word false = codes "least"
limit_word true = codes "most"

-- what is asked for and what there is: nothing where two items may not meet, and no lengths where there is a ban or a claim
abbrev pub measures_by : Family → List PlainRule → PlainRow → List ℕ
measures_by Meets rules row = []
measures_by Keeps rules row = measured_text (codes "needs") rules row
measures_by Limits rules row = measured_text (limit_word row.over) rules row
measures_by Forbids rules row = asked_text rules row

abbrev pub measures : Kind → List PlainRule → PlainRow → List ℕ
measures kind rules row = measures_by (family kind) rules row

-- the line of a row of the board, which was checked by these rules
unfoldable pub row_line : PlainBoard → List PlainRule → PlainRow → List ℕ
row_line board rules row = head_text row ++ items_text row.kind board row ++ measures row.kind rules row ++ codes "\n"

-- a number between two texts
unfoldable pub number_line : List ℕ → ℕ → List ℕ → List ℕ
number_line before number after = before ++ decimal number ++ after ++ codes "\n"

-- the rows, and how many they are
abbrev pub rows_text : PlainBoard → List PlainRule → List PlainRow → List ℕ
rows_text board rules rows = flat_map (row_line board rules) rows ++ number_line (codes "rows ") (length rows) []

-- the notes, and how many they are
abbrev pub notes_text : PlainBoard → PlainRules → List ℕ
notes_text board rules = note_lines board rules ++ number_line (codes "not checked ") (note_count board rules) []
