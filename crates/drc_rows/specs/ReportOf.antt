-- The report of a board: its rows, its notes, its open nets, and how many tiles were gone through. A short one has their counts alone.
use Rattle.std.specs.Prelude.{ℕ, List, [], ◌++◌, length, filter, codes, decimal, if◌then◌else◌}
use Rattle.std.specs.List.{flat_map}
use Rattle.board_items.specs.Boards.{PlainBoard}
use Rattle.rule_text.specs.RulesOf.{PlainRules}
use Rattle.pair_check.specs.PlainRow.{PlainRow}
use Rattle.net_groups.specs.NetParts.{PlainNetPart, is_open}
use Rattle.drc_rows.specs.NoteLines.{note_count}
use Rattle.drc_rows.specs.Report.{number_line, rows_text, notes_text}
use Rattle.drc_rows.specs.NetBlock.{net_block}

-- the lines of a net, which has none where it is not open
abbrev pub part_text : PlainBoard → PlainNetPart → List ℕ
part_text board part = if is_open part then net_block board part.net part.groups part.anchors part.links else []

-- the open nets, and how many they are
abbrev pub nets_text : PlainBoard → List PlainNetPart → List ℕ
nets_text board parts = flat_map (part_text board) parts ++ number_line (codes "open nets ") (length (filter is_open parts)) []

-- how many tiles were gone through, and how many hold an item
unfoldable pub tiles_line : ℕ → ℕ → List ℕ
tiles_line done held = codes "rechecked " ++ decimal done ++ codes " of " ++ decimal held ++ codes " tiles\n"

-- what a report tells of a board: its rows, what is found of each of its nets, and how many tiles hold an item
pub record Found : Type 0 where
  pub rows : List PlainRow
  pub parts : List PlainNetPart
  pub held : ℕ

-- the line that opens the report of this number, 0 for the board as its file has it
abbrev pub first_line : ℕ → List ℕ
first_line number = number_line (codes "report ") number []

-- the whole report of a board under rules, as their texts have both, once so many tiles were gone through
unfoldable pub whole_report : ℕ → PlainBoard → PlainRules → Found → ℕ → List ℕ
whole_report number board rules found done =
    first_line number ++ rows_text board rules.rules found.rows ++ notes_text board rules ++ nets_text board found.parts ++ tiles_line done found.held

-- the short report: only the line that opens it, how many rows, notes and open nets there are, and the tiles
unfoldable pub short_report : ℕ → PlainBoard → PlainRules → Found → ℕ → List ℕ
short_report number board rules found done =
    first_line number ++ number_line (codes "rows ") (length found.rows) [] ++ number_line (codes "not checked ") (note_count board rules) []
    ++ number_line (codes "open nets ") (length (filter is_open found.parts)) []
    ++ tiles_line done found.held
