-- What the words of the command line ask for. The words of a check are read by `clap`, by the program's command; where the first word is one
-- of those that ask for something else, the others are read by hand. A further thing that they may ask for is one entry more in each table here.
use Rattle.std.specs.Prelude.{ℕ, List, [], ◌∷◌, Option, None, Some, Result, Ok, Err, Bool, true, ◌&&◌, not, nat_eq, nat_le, bytes_eq, if◌then◌else◌, map, codes}
use Rattle.std.specs.Option.{option_map}
use Rattle.std.proofs.Common.{Bor}
use Rattle.plain_types.specs.Limits.{most_workers}
use Rattle.exact_dec.specs.declared.DecError.{DecError}
use Rattle.exact_dec.specs.Computed.{count_answer}
use Rattle.clap.specs.Words.{App, Rule, Row, Kinds, new_app, new_rule, with_rule, fault_of, matches_of, first_of}
use Rattle.clap.specs.Simple.{Shape, on_top}

-- ---- the command

-- the words do not begin with the program's name, and none of them asks for help or for the version
abbrev pub settings_of : Shape → Shape
settings_of shape = record shape { no_binary_name = true; disable_help_flag = true; disable_version_flag = true }

-- an option that has a value, as `--NAME VALUE`
abbrev pub option_rule : List ℕ → Rule
option_rule name = record (new_rule name) { long = Some name }

-- the program without its arguments
abbrev pub bare_app : App
bare_app = on_top settings_of (new_app (codes "drc"))

-- with the board's file
abbrev pub app_with_board : App
app_with_board = with_rule bare_app (new_rule (codes "BOARD"))

-- and after `--project`, `--rules` and `--script` the other files
abbrev pub app_with_files : App
app_with_files =
    with_rule (with_rule (with_rule app_with_board (option_rule (codes "project"))) (option_rule (codes "rules"))) (option_rule (codes "script"))

-- and after `--workers` and `--make` a number; none of the six must be there
abbrev pub drc_app : App
drc_app = with_rule (with_rule app_with_files (option_rule (codes "workers"))) (option_rule (codes "make"))

-- ---- the reading

-- where a board comes from: a file, or the generated board of so many
pub data PlainSource : Type 0 where
  file : List ℕ → PlainSource
  made : ℕ → PlainSource

-- what is checked, and by how many workers
pub record Reading : Type 0 where
  pub board : PlainSource
  pub project : Option (List ℕ)
  pub rules : Option (List ℕ)
  pub script : Option (List ℕ)
  pub workers : ℕ

-- a number from `low` to `high`
abbrev pub in_range : ℕ → ℕ → Result ℕ DecError → Option ℕ
in_range low high (Ok n) = if nat_le low n && nat_le n high then Some n else None
in_range low high (Err e) = None

abbrev pub number_in : ℕ → ℕ → List ℕ → Option ℕ
number_in low high text = in_range low high (count_answer text)

-- one worker, where no number is given
abbrev pub workers_of : Option (List ℕ) → Option ℕ
workers_of None = Some 1
workers_of (Some text) = number_in 1 most_workers text

-- exactly one of a file and a generated board
abbrev pub source_of : Option (List ℕ) → Option (List ℕ) → Option PlainSource
source_of (Some name) None = Some (file name)
source_of None (Some text) = option_map made (number_in 1 90000 text)
source_of (Some name) (Some text) = None
source_of None None = None

abbrev pub reading_with : Option PlainSource → Option ℕ → (project rules script : Option (List ℕ)) → Option Reading
reading_with (Some board) (Some workers) project rules script = Some (record { board = board; project = project; rules = rules; script = script; workers = workers })
reading_with (Some board) None project rules script = None
reading_with None workers project rules script = None

-- what the matches give, each the value of its argument
abbrev pub reading_by : (List ℕ → Option (List ℕ)) → Option Reading
reading_by value =
    reading_with (source_of (value (codes "BOARD")) (value (codes "make"))) (workers_of (value (codes "workers"))) (value (codes "project")) (value (codes "rules")) (value (codes "script"))

-- where the words have no fault
abbrev pub reading_if : Kinds → List Row → Option Reading
reading_if [] rows = reading_by (λ name. first_of name rows)
reading_if (fault ∷ faults) rows = None

-- the reading of the words, which have none where `clap` refuses them
unfoldable pub reading_of : List (List ℕ) → Option Reading
reading_of words = reading_if (fault_of drc_app words) (matches_of drc_app words)

-- ---- calls

-- what is asked for: nothing, and then this line says how the program is called; a check; that the steps of a script are gone through,
-- which undo and redo commands; that each command of a script is tried alone, by so many workers; the rows alone, of which the tiles are
-- dealt by stealing; or the text of a board after the commands of a script
pub data PlainCall : Type 0 where
  nothing : (usage : List ℕ) → PlainCall
  check : Reading → PlainCall
  undo : (board script : List ℕ) → PlainCall
  try : (board script : List ℕ) → (workers : ℕ) → PlainCall
  steal : (board : List ℕ) (workers : ℕ) → PlainCall
  write : (board script : List ℕ) → PlainCall

abbrev pub usage_line : List ℕ
usage_line = codes "usage: drc [BOARD] [--project FILE] [--rules FILE] [--script FILE] [--workers N] [--make N]\n"

abbrev pub check_if : Option Reading → PlainCall
check_if None = nothing usage_line
check_if (Some reading) = check reading

-- a check, whatever the first word is
abbrev pub check_call : List (List ℕ) → PlainCall
check_call words = check_if (reading_of words)

-- a word that names a file does not begin with a dash
abbrev pub names_file : List ℕ → Bool
names_file [] = true
names_file (byte ∷ bytes) = not (nat_eq byte 45)

-- the files of a board and of a script: two words
abbrev pub two_files : List (List ℕ) → Option (List ℕ × List ℕ)
two_files (board ∷ script ∷ []) = if names_file board && names_file script then Some (board, script) else None
two_files words = None

-- the words behind `undo`
abbrev pub undo_if : Option (List ℕ × List ℕ) → PlainCall
undo_if None = nothing (codes "usage: drc undo BOARD SCRIPT\n")
undo_if (Some files) = undo files.0 files.1

-- the words behind `try`: the two files, and a number of workers
abbrev pub try_if : Option (List ℕ × List ℕ) → Option ℕ → PlainCall
try_if (Some files) (Some workers) = try files.0 files.1 workers
try_if (Some files) None = nothing (codes "usage: drc try BOARD SCRIPT N\n")
try_if None workers = nothing (codes "usage: drc try BOARD SCRIPT N\n")

abbrev pub try_call : List (List ℕ) → PlainCall
try_call (board ∷ script ∷ number ∷ []) = try_if (two_files (board ∷ script ∷ [])) (number_in 1 8 number)
try_call words = nothing (codes "usage: drc try BOARD SCRIPT N\n")

-- the file of a board and a number up to `high`: two words
abbrev pub file_with : List ℕ → Option ℕ → Option (List ℕ × ℕ)
file_with board None = None
file_with board (Some number) = if names_file board then Some (board, number) else None

abbrev pub file_and_number : ℕ → List (List ℕ) → Option (List ℕ × ℕ)
file_and_number high (board ∷ number ∷ []) = file_with board (number_in 1 high number)
file_and_number high words = None

-- the words behind `steal`
abbrev pub steal_if : Option (List ℕ × ℕ) → PlainCall
steal_if None = nothing (codes "usage: drc steal BOARD N\n")
steal_if (Some found) = steal found.0 found.1

-- the words behind `write`
abbrev pub write_if : Option (List ℕ × List ℕ) → PlainCall
write_if None = nothing (codes "usage: drc write BOARD SCRIPT\n")
write_if (Some files) = write files.0 files.1

-- by the first word, and the words behind it
abbrev pub call_by : List ℕ → List (List ℕ) → PlainCall
call_by first words =
    if bytes_eq first (codes "undo") then undo_if (two_files words)
    else if bytes_eq first (codes "try") then try_call words
    else if bytes_eq first (codes "steal") then steal_if (file_and_number most_workers words)
    else if bytes_eq first (codes "write") then write_if (two_files words)
    else check_call (first ∷ words)

abbrev pub call_of : List (List ℕ) → PlainCall
call_of [] = check_call []
call_of (first ∷ words) = call_by first words

-- the words as lists of bytes
abbrev pub words_of : List (Bor (List ℕ)) → List (List ℕ)
words_of words = map (λ word. word.now) words
