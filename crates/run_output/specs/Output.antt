-- The whole output of the program, as a relation between what is called for, the files of its shelf and what it writes.
use Rattle.std.specs.Prelude.{◌≡◌, ℕ, ◌+◌, Bool, true, false, List, [], ◌∷◌, ◌++◌, Option, None, Some, Ok, codes, decimal, slice_get, ◌==◌, if◌then◌else◌}
use Rattle.board_items.specs.Boards.{PlainBoard}
use Rattle.net_class.specs.NetClasses.{PlainClasses, plain_classes}
use Rattle.rule_text.specs.RulesOf.{PlainRules, no_rules}
use Rattle.pair_check.specs.PlainRow.{PlainRow}
use Rattle.pair_check.specs.Rows.{AreRows}
use Rattle.drc_rows.specs.Report.{rows_text}
use Rattle.drc_rows.specs.ReportOf.{first_line}
use Rattle.edit_script.specs.Commands.{PlainCommand, PlainStep}
use Rattle.pcb_read.specs.BoardText.{BoardSays}
use Rattle.roundtrip_boards.specs.SameBoards.{IsSame}
use Rattle.board_write.specs.WriteResults.{Outcome}
use Rattle.drc_state.specs.States.{State, checked_in}
use Rattle.undo_log.specs.Past.{Past, begun}
use Rattle.what_if.specs.Trials.{IsSurvey}
use Rattle.run_words.specs.Calls.{PlainSource, file, made, PlainCall, nothing, check, undo, try, steal, write}
use Rattle.run_texts.specs.declared.texts.Which.{Which}
use Rattle.run_texts.specs.NamedTexts.{Named, texts_of, word_of, Value, a_board, a_project, a_rules, a_script, some_steps, refused, SourceSays, AreAccepted, IsReached, a_text}
use Rattle.run_output.specs.Reports.{IsOpening}
use Rattle.run_output.specs.CommandOutputs.{AreTurns, AreFirstTurns, IsTurn, IsStepTurn, IsTrial}

-- a text, and the status with which the program ends once it is written
pub record Output : Type 0 where
  pub text : List ℕ
  pub status : ℕ

-- the line that says how the program is called
abbrev pub usage : List ℕ → Output
usage line = record { text = line; status = 2 }

-- the line of a text that is refused
abbrev pub refusal : Which → List ℕ → Output
refusal which why = record { text = codes "refused " ++ word_of which ++ codes ": " ++ why ++ codes "\n"; status = 3 }

-- the line of a text that was not read
abbrev pub cannot_read : Which → List ℕ
cannot_read which = codes "cannot read " ++ word_of which ++ codes "\n"

-- the status of a board with these rows
abbrev pub status_of : List PlainRow → ℕ
status_of [] = 0
status_of (row ∷ rows) = 1

-- ---- what the texts open

abbrev pub board_among : List Value → Option PlainBoard
board_among [] = None
board_among (a_board board ∷ values) = Some board
board_among (_ ∷ values) = board_among values

-- the classes of the project, or without one the plain classes
abbrev pub classes_among : List Value → PlainClasses
classes_among [] = plain_classes
classes_among (a_project classes ∷ values) = classes
classes_among (_ ∷ values) = classes_among values

-- the rules of the rule file, or without one no rules
abbrev pub rules_among : List Value → PlainRules
rules_among [] = no_rules
rules_among (a_rules rules ∷ values) = rules
rules_among (_ ∷ values) = rules_among values

-- the commands of the script, or without one no commands
abbrev pub commands_among : List Value → List PlainCommand
commands_among [] = []
commands_among (a_script commands ∷ values) = commands
commands_among (_ ∷ values) = commands_among values

-- the steps of a script of steps
abbrev pub steps_among : List Value → List PlainStep
steps_among [] = []
steps_among (some_steps steps ∷ values) = steps
steps_among (_ ∷ values) = steps_among values

-- the bytes of the text that stands for them
abbrev pub text_among : List Value → Option (List ℕ)
text_among [] = None
text_among (a_text text ∷ values) = Some text
text_among (_ ∷ values) = text_among values

-- the state that texts with these values open
pub record IsOpenedBy (values : List Value) (s : State) : Type 0 where
  pub board : board_among values ≡ Some s.board
  pub classes : s.classes ≡ classes_among values
  pub rules : s.rules ≡ rules_among values

-- ---- what is written, by what is called for

-- a generated board is reported in short
abbrev pub is_short : PlainSource → Bool
is_short (file name) = false
is_short (made count) = true

-- the status is 1 exactly where the state has a row
pub record IsStatusOf (s : State) (status : ℕ) : Type 0 where
  pub rows : List PlainRow
  pub are_rows : AreRows (checked_in s) rows
  pub status_is : status ≡ status_of rows

-- the report of the opening, then what each command writes, and the status of the state that they lead to. `Turn` says what a command makes of
-- what there is, and writes; `present` says which state that has
pub record IsToldBy {S C : Type 0} (Turn : ℕ → S → C → S → List ℕ → Type 0) (present : S → State) (short : Bool) (start : S) (commands : List C) (out : Output) : Type 0 where
  pub first : List ℕ
  pub first_is : IsOpening short (present start) first
  pub rest : List ℕ
  pub last : S
  pub turns : AreTurns Turn 1 start commands last rest
  pub text_is : out.text ≡ first ++ rest
  pub status : IsStatusOf (present last) out.status

-- the report of the opening, and what the first of the commands write
pub record IsToldSoFarBy {S C : Type 0} (Turn : ℕ → S → C → S → List ℕ → Type 0) (present : S → State) (short : Bool) (start : S) (commands : List C) (text : List ℕ) : Type 0 where
  pub first : List ℕ
  pub first_is : IsOpening short (present start) first
  pub rest : List ℕ
  pub turns : AreFirstTurns Turn start commands rest
  pub text_is : text ≡ first ++ rest

-- a check: commands lead from state to state
abbrev pub itself : State → State
itself s = s

abbrev pub IsTold : Bool → State → List PlainCommand → Output → Type 0
IsTold short opening commands out = IsToldBy (IsTurn short) itself short opening commands out

abbrev pub IsToldSoFar : Bool → State → List PlainCommand → List ℕ → Type 0
IsToldSoFar short opening commands text = IsToldSoFarBy (IsTurn short) itself short opening commands text

-- steps lead from past to past
abbrev pub present_of : Past → State
present_of past = past.now

abbrev pub AreStepsTold : State → List PlainStep → Output → Type 0
AreStepsTold opening steps out = IsToldBy IsStepTurn present_of false (begun opening) steps out

abbrev pub AreStepsToldSoFar : State → List PlainStep → List ℕ → Type 0
AreStepsToldSoFar opening steps text = IsToldSoFarBy IsStepTurn present_of false (begun opening) steps text

-- the last line of trials: the first of the commands that leave the fewest rows, counted from 1, and how many it leaves
abbrev pub IsLeastLine : List (Option ℕ) → Option ℕ → List ℕ → Type 0
IsLeastLine counts None text = text ≡ codes "least none\n"
IsLeastLine counts (Some place) text =
    (count : ℕ) × (slice_get counts place ≡ Some (Some count)) × (text ≡ codes "least " ++ decimal (place + 1) ++ codes " with " ++ decimal count ++ codes " rows\n")

-- the status is 1 exactly where a row would come by some command
abbrev pub status_if : Bool → ℕ
status_if false = 0
status_if true = 1

-- what each command would do, and which of them leave the fewest rows
pub record AreTrialsTold (opening : State) (commands : List PlainCommand) (out : Output) : Type 0 where
  pub comes : Bool
  pub rest : List ℕ
  pub trials : AreTurns (IsTrial opening) 1 false commands comes rest
  pub counts : List (Option ℕ)
  pub least : Option ℕ
  pub survey : IsSurvey opening commands counts least
  pub last : List ℕ
  pub last_is : IsLeastLine counts least last
  pub text_is : out.text ≡ rest ++ last
  pub status : out.status ≡ status_if comes

-- what the first of the commands would do
abbrev pub AreFirstTrials : State → List PlainCommand → List ℕ → Type 0
AreFirstTrials opening commands text = AreFirstTurns (IsTrial opening) false commands text

-- the rows alone: they are found whole before the first of them is written
pub record AreRowsTold (opening : State) (out : Output) : Type 0 where
  pub rows : List PlainRow
  pub are_rows : AreRows (checked_in opening) rows
  pub text_is : out.text ≡ first_line 0 ++ rows_text opening.board opening.rules.rules rows
  pub status_is : out.status ≡ status_of rows

-- the status after commands of which so many were refused
abbrev pub status_after : ℕ → ℕ
status_after refusals = if refusals == 0 then 0 else 1

-- the text of a board after the commands, which is read again as the board that they leave, and the status 1 exactly where one of them is
-- refused. Without commands it is the text itself
pub record IsBoardWritten (text : List ℕ) (commands : List PlainCommand) (out : Output) : Type 0 where
  pub refusals : ℕ
  pub outcome : Outcome text commands refusals
  pub text_is : out.text ≡ outcome.out
  pub again : PlainBoard
  pub reads : BoardSays out.text (Ok again)
  pub same : IsSame again outcome.last
  pub unchanged : commands ≡ [] → out.text ≡ text
  pub status_is : out.status ≡ status_after refusals

-- all that a call writes whose texts have these values
abbrev pub IsTextOf : PlainCall → List Value → Output → Type 0
IsTextOf (nothing usage) values out = ⊥
IsTextOf (check r) values out = (opening : State) × IsOpenedBy values opening × IsTold (is_short r.board) opening (commands_among values) out
IsTextOf (undo board script) values out = (opening : State) × IsOpenedBy values opening × AreStepsTold opening (steps_among values) out
IsTextOf (try board script workers) values out = (opening : State) × IsOpenedBy values opening × AreTrialsTold opening (commands_among values) out
IsTextOf (steal board workers) values out = (opening : State) × IsOpenedBy values opening × AreRowsTold opening out
IsTextOf (write board script) values out = (text : List ℕ) × (text_among values ≡ Some text) × IsBoardWritten text (commands_among values) out

-- what it has written after some of the commands. The text of a board is written only once all are carried out
abbrev pub IsBegunBy : PlainCall → List Value → List ℕ → Type 0
IsBegunBy (nothing usage) values text = ⊥
IsBegunBy (check r) values text = (opening : State) × IsOpenedBy values opening × IsToldSoFar (is_short r.board) opening (commands_among values) text
IsBegunBy (undo board script) values text = (opening : State) × IsOpenedBy values opening × AreStepsToldSoFar opening (steps_among values) text
IsBegunBy (try board script workers) values text = (opening : State) × IsOpenedBy values opening × AreFirstTrials opening (commands_among values) text
IsBegunBy (steal board workers) values text = ⊥
IsBegunBy (write board script) values text = ⊥

-- the output: the usage line, or the line of the first text that is refused, or what all of them give
pub data IsOutputFor (call : PlainCall) (told : Option (List (List ℕ × List ℕ))) (out : Output) : Type 0 where
  unclear : (line : List ℕ) → call ≡ nothing line → out ≡ usage line → IsOutputFor call told out
  stopped : (text : Named) (why : List ℕ) → IsReached told (texts_of call) text → SourceSays told text (refused why) → out ≡ refusal text.which why → IsOutputFor call told out
  given : (values : List Value) → AreAccepted told (texts_of call) values → IsTextOf call values out → IsOutputFor call told out

-- what the output begins with: all of it, or in place of what the texts give as much as some of the commands do
pub data IsBegunFor (call : PlainCall) (told : Option (List (List ℕ × List ℕ))) (text : List ℕ) : Type 0 where
  whole : (out : Output) → IsOutputFor call told out → text ≡ out.text → IsBegunFor call told text
  begun_by : (values : List Value) → AreAccepted told (texts_of call) values → IsBegunBy call values text → IsBegunFor call told text
