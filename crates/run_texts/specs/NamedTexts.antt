-- The texts that a call names, in the order in which they are read, and what each says. A further text is one entry more in each table
-- here.
use Rattle.std.specs.Prelude.{◌≡◌, ◌⊎◌, ℕ, ◌<◌, ◌≤◌, List, [], ◌∷◌, ◌++◌, length, codes, decimal, Option, None, Some, Ok, Err, slice_get}
use Rattle.plain_types.specs.Limits.{most_text, IsReadable, most_trials}
use Rattle.plain_types.specs.Reasons.{PlainReason, written, refused_at}
use Rattle.drc_io.specs.FaultCounts.{Rose}
use Rattle.drc_io.specs.Files.{IsWholeFile}
use Rattle.board_errors.specs.declared.errors.BoardError.{BoardError}
use Rattle.board_errors.specs.BoardReasons.{board_reason}
use Rattle.board_items.specs.Boards.{PlainBoard}
use Rattle.pcb_read.specs.BoardText.{BoardSays}
use Rattle.net_class.specs.declared.error.ProjectError.{ProjectError}
use Rattle.net_class.specs.ProjectReasons.{class_reason}
use Rattle.net_class.specs.NetClasses.{PlainClasses}
use Rattle.net_class.specs.ProjectText.{ProjectSays}
use Rattle.rule_text.specs.declared.error.RuleError.{RuleError}
use Rattle.rule_text.specs.RuleReasons.{rules_reason}
use Rattle.rule_text.specs.RulesOf.{PlainRules}
use Rattle.rule_text.specs.RuleText.{RulesSays}
use Rattle.edit_script.specs.declared.error.ScriptError.{ScriptError}
use Rattle.edit_script.specs.ScriptReasons.{script_reason}
use Rattle.edit_script.specs.Commands.{PlainCommand, PlainStep, place_of}
use Rattle.edit_script.specs.ScriptText.{ScriptSays, SaysSteps}
use Rattle.made_board.specs.MadeBoard.{made_text}
use Rattle.run_words.specs.Calls.{PlainSource, file, made, PlainCall, nothing, check, undo, try, steal, write}
use Rattle.run_texts.specs.declared.texts.Which.{Which}
use Rattle.run_texts.specs.declared.texts.Which.TheVariants.{Board, Project, Rules, Script, Steps, Trials, Text}

-- a text that the words name: which one it is, and where it comes from
pub record Named : Type 0 where
  pub which : Which
  pub source : PlainSource

-- the text of a file
abbrev pub named : Which → List ℕ → Named
named which name = record { which = which; source = file name }

-- the text of an option, where the option is given
abbrev pub optional : Which → Option (List ℕ) → List Named
optional which None = []
optional which (Some name) = named which name ∷ []

-- the texts of a call, in their order
abbrev pub texts_of : PlainCall → List Named
texts_of (nothing usage) = []
texts_of (check r) = record { which = Board; source = r.board } ∷ (optional Project r.project ++ (optional Rules r.rules ++ optional Script r.script))
texts_of (undo board script) = named Board board ∷ named Steps script ∷ []
texts_of (try board script workers) = named Board board ∷ named Trials script ∷ []
texts_of (steal board workers) = named Board board ∷ []
texts_of (write board script) = named Text board ∷ named Script script ∷ []

-- what lines call a text
abbrev pub word_of : Which → List ℕ
word_of Board = codes "board"
word_of Project = codes "project"
word_of Rules = codes "rules"
word_of Script = codes "script"
word_of Steps = codes "script"
word_of Trials = codes "script"
word_of Text = codes "board"

-- what a text stands for once it is accepted
pub data Value : Type 0 where
  a_board : PlainBoard → Value
  a_project : PlainClasses → Value
  a_rules : PlainRules → Value
  a_script : List PlainCommand → Value
  some_steps : List PlainStep → Value
  a_text : List ℕ → Value

-- what a text says: its value, or why it is refused, and where
pub data Said : Type 0 where
  accepted : Value → Said
  refused : List ℕ → Said

-- behind the place of a condition stands the place in what its text stands for. Other refusals have no such place
abbrev pub inner_text : Option ℕ → List ℕ
inner_text None = []
inner_text (Some inner) = codes " + " ++ decimal inner

-- a refusal as it is written: what it is called and its numbers, and its place, which is a byte of the text. What is refused by a name
-- alone has no place
abbrev pub why_at : List ℕ → Option ℕ → Option ℕ → List ℕ
why_at names None inner = names
why_at names (Some at) inner = names ++ codes " at " ++ decimal at ++ inner_text inner

abbrev pub reason_text : PlainReason → List ℕ
reason_text why = why_at (written why) why.place why.inner_place

-- a refusal that has a place, as it is written. Running out of memory has none: no text is refused for it
pub record IsRefusalText (why : PlainReason) (text : List ℕ) : Type 0 where
  pub at : ℕ
  pub has_place : why.place ≡ Some at
  pub text_is : text ≡ reason_text why

-- a script of too many commands is refused at this place
abbrev pub too_many : ℕ → PlainReason
too_many at = refused_at (codes "TooMany") 9 at

-- a script with more is refused at the first command that is too many
pub record HasTooMany (commands : List PlainCommand) (why : List ℕ) : Type 0 where
  pub command : PlainCommand
  pub stands : slice_get commands most_trials ≡ Some command
  pub why_is : why ≡ reason_text (too_many (place_of command))

-- the reader of scripts refuses the bytes so
abbrev pub RefusesScript : List ℕ → List ℕ → Type 0
RefusesScript bytes why = (e : ScriptError) × ScriptSays bytes (Err e) × IsRefusalText (script_reason e) why

-- the script has too many commands to be tried
abbrev pub RefusesTrials : List ℕ → List ℕ → Type 0
RefusesTrials bytes why = (commands : List PlainCommand) × ScriptSays bytes (Ok commands) × HasTooMany commands why

-- what the reader of a text finds in its bytes
abbrev pub ReaderSays : Which → List ℕ → Said → Type 0
ReaderSays Board bytes (accepted (a_board board)) = BoardSays bytes (Ok board)
ReaderSays Board bytes (accepted _) = ⊥
ReaderSays Board bytes (refused why) = (e : BoardError) × BoardSays bytes (Err e) × IsRefusalText (board_reason e) why
ReaderSays Project bytes (accepted (a_project classes)) = ProjectSays bytes (Ok classes)
ReaderSays Project bytes (accepted _) = ⊥
ReaderSays Project bytes (refused why) = (e : ProjectError) × ProjectSays bytes (Err e) × IsRefusalText (class_reason e) why
ReaderSays Rules bytes (accepted (a_rules rules)) = RulesSays bytes (Ok rules)
ReaderSays Rules bytes (accepted _) = ⊥
ReaderSays Rules bytes (refused why) = (e : RuleError) × RulesSays bytes (Err e) × IsRefusalText (rules_reason e) why
ReaderSays Script bytes (accepted (a_script commands)) = ScriptSays bytes (Ok commands)
ReaderSays Script bytes (accepted _) = ⊥
ReaderSays Script bytes (refused why) = RefusesScript bytes why
ReaderSays Steps bytes (accepted (some_steps steps)) = SaysSteps bytes (Ok steps)
ReaderSays Steps bytes (accepted _) = ⊥
ReaderSays Steps bytes (refused why) = (e : ScriptError) × SaysSteps bytes (Err e) × IsRefusalText (script_reason e) why
ReaderSays Trials bytes (accepted (a_script commands)) = ScriptSays bytes (Ok commands) × (length commands ≤ most_trials)
ReaderSays Trials bytes (accepted _) = ⊥
ReaderSays Trials bytes (refused why) = RefusesScript bytes why ⊎ RefusesTrials bytes why
-- a text that stands for its bytes, where a board is read of them; it is refused as a board is
ReaderSays Text bytes (accepted (a_text text)) = (text ≡ bytes) × ((board : PlainBoard) × BoardSays bytes (Ok board))
ReaderSays Text bytes (accepted _) = ⊥
ReaderSays Text bytes (refused why) = (e : BoardError) × BoardSays bytes (Err e) × IsRefusalText (board_reason e) why

-- how a text of too many bytes is refused: at the first that is too many
abbrev pub too_long : List ℕ
too_long = reason_text (refused_at (codes "TooLong") 0 most_text)

-- a text says that it is too long, or else what its reader finds
pub data TextSays (which : Which) (bytes : List ℕ) (said : Said) : Type 0 where
  longer : most_text < length bytes → said ≡ refused too_long → TextSays which bytes said
  read : IsReadable bytes → ReaderSays which bytes said → TextSays which bytes said

-- the bytes of a text: what the shelf tells of its file, or else any; or those of the generated board
abbrev pub AreBytesOf : Option (List (List ℕ × List ℕ)) → PlainSource → List ℕ → Type 0
AreBytesOf told (file name) bytes = IsWholeFile told name bytes
AreBytesOf told (made count) bytes = bytes ≡ made_text count

-- a text, wherever it comes from, says this
pub record SourceSays (told : Option (List (List ℕ × List ℕ))) (text : Named) (said : Said) : Type 0 where
  pub bytes : List ℕ
  pub whole : AreBytesOf told text.source bytes
  pub says : TextSays text.which bytes said

-- ---- several texts

-- the texts are accepted, each with its value
abbrev pub AreAccepted : Option (List (List ℕ × List ℕ)) → List Named → List Value → Type 0
AreAccepted told [] [] = Unit {0}
AreAccepted told [] (value ∷ values) = ⊥
AreAccepted told (text ∷ texts) [] = ⊥
AreAccepted told (text ∷ texts) (value ∷ values) = SourceSays told text (accepted value) × AreAccepted told texts values

-- a text's turn comes: it is among the texts, and those before it are accepted
pub record IsReached (told : Option (List (List ℕ × List ℕ))) (texts : List Named) (text : Named) : Type 0 where
  pub before : List Named
  pub after : List Named
  pub among : texts ≡ before ++ text ∷ after
  pub values : List Value
  pub before_accepted : AreAccepted told before values

-- ---- faults

-- a text was not read: its turn came, and the count of faults of its file rose
pub record ReadFails (call : PlainCall) (told : Option (List (List ℕ × List ℕ))) (before now : List ℕ → ℕ) (which : Which) : Type 0 where
  pub name : List ℕ
  pub reached : IsReached told (texts_of call) (named which name)
  pub rose : Rose (before name) (now name)
