-- What commands write one after another, from their numbers and the states that they lead to.
use Rattle.std.specs.Prelude.{◌≡◌, ℕ, ◌+◌, Bool, true, false, List, [], ◌∷◌, ◌++◌, length, codes, Ok, Err}
use Rattle.std.specs.List.{flat_map}
use Rattle.pair_check.specs.PlainRow.{PlainRow}
use Rattle.pair_check.specs.Rows.{AreRows}
use Rattle.drc_rows.specs.Report.{number_line, row_line}
use Rattle.edit_script.specs.Commands.{PlainCommand, PlainStep}
use Rattle.drc_state.specs.declared.error.EditError.{EditError}
use Rattle.drc_state.specs.States.{State, checked_in}
use Rattle.drc_state.specs.CommandSteps.{is_rules, Answers}
use Rattle.drc_state.specs.Recheck.{AreRechecked}
use Rattle.undo_log.specs.declared.error.HistoryError.{HistoryError}
use Rattle.undo_log.specs.Past.{Past, StepAnswers, does_replace}
use Rattle.what_if.specs.Trials.{IsDifference}
use Rattle.run_output.specs.Reports.{IsReport, why_edit, why_step, refused_line, refused_trial}

-- ---- in general

-- the turns of the commands, the first of which has the number n: the text of each, and where they lead
abbrev pub AreTurns : {S C : Type 0} → (ℕ → S → C → S → List ℕ → Type 0) → ℕ → S → List C → S → List ℕ → Type 0
AreTurns Turn n s [] last text = (last ≡ s) × (text ≡ [])
AreTurns {S} Turn n s (command ∷ commands) last text =
    (next : S) × (here : List ℕ) × (rest : List ℕ) × Turn n s command next here × AreTurns Turn (n + 1) next commands last rest × (text ≡ here ++ rest)

-- the turns of the first of the commands
pub record AreFirstTurns {S C : Type 0} (Turn : ℕ → S → C → S → List ℕ → Type 0) (s : S) (commands : List C) (text : List ℕ) : Type 0 where
  pub done : List C
  pub left : List C
  pub split : commands ≡ done ++ left
  pub last : S
  pub turns : AreTurns Turn 1 s done last text

-- ---- commands

-- a refused command writes its line, and the state stays; any other writes the report of the state that it leads to, where the tiles were
-- gone through that it affected
pub data IsTurn (short : Bool) (n : ℕ) (s : State) (command : PlainCommand) (next : State) (text : List ℕ) : Type 0 where
  refused : (why : EditError) → Answers s command (Err why) → next ≡ s → text ≡ refused_line n (why_edit why) → IsTurn short n s command next text
  made : Answers s command (Ok next) → (tiles : List ℕ) → AreRechecked (checked_in s) (checked_in next) (is_rules command) tiles → IsReport short n next (length tiles) text → IsTurn short n s command next text

-- ---- steps

-- the same of a step, from the past to the past that it leads to
pub data IsStepTurn (n : ℕ) (past : Past) (step : PlainStep) (next : Past) (text : List ℕ) : Type 0 where
  unstepped : (why : HistoryError) → StepAnswers past step (Err why) → next ≡ past → text ≡ refused_line n (why_step why) → IsStepTurn n past step next text
  stepped : StepAnswers past step (Ok next) → (tiles : List ℕ) → AreRechecked (checked_in past.now) (checked_in next.now) (does_replace past step) tiles → IsReport false n next.now (length tiles) text
      → IsStepTurn n past step next text

-- ---- trials

-- the lines of rows of a state, each behind a mark
abbrev pub marked_lines : List ℕ → State → List PlainRow → List ℕ
marked_lines mark s rows = flat_map (λ row. mark ++ row_line s.board s.rules.rules row) rows

-- what a command alone would do: the rows that would go, as the board now has them, those that would come, as it would have them, and how
-- many there would be
pub record IsTrialText (n : ℕ) (s after : State) (come : List PlainRow) (text : List ℕ) : Type 0 where
  pub gone : List PlainRow
  pub rows : List PlainRow
  pub differ : IsDifference s after come gone
  pub are_rows : AreRows (checked_in after) rows
  pub text_is : text ≡ number_line (codes "trial ") n [] ++ marked_lines (codes "- ") s gone ++ marked_lines (codes "+ ") after come ++ number_line (codes "rows ") (length rows) []

abbrev pub or_some : Bool → List PlainRow → Bool
or_some comes [] = comes
or_some comes (row ∷ rows) = true

-- the trial of a command: all are tried on one state, and what passes from one to the next is whether some row would come so far
pub data IsTrial (s : State) (n : ℕ) (comes : Bool) (command : PlainCommand) (next : Bool) (text : List ℕ) : Type 0 where
  untried : (why : EditError) → Answers s command (Err why) → next ≡ comes → text ≡ refused_trial n (why_edit why) → IsTrial s n comes command next text
  tried : (after : State) → Answers s command (Ok after) → (come : List PlainRow) → IsTrialText n s after come text → next ≡ or_some comes come → IsTrial s n comes command next text
