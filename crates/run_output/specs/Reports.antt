-- The report of a state, whole or short, and the line of a command that is refused.
use Rattle.std.specs.Prelude.{◌≡◌, ℕ, Bool, true, false, List, ◌++◌, codes, decimal}
use Rattle.plain_types.specs.Reasons.{PlainReason}
use Rattle.pair_check.specs.Rows.{AreRows}
use Rattle.net_groups.specs.NetParts.{AreParts}
use Rattle.drc_rows.specs.ReportOf.{Found, whole_report, short_report}
use Rattle.drc_state.specs.declared.error.EditError.{EditError}
use Rattle.drc_state.specs.CommandReasons.{edit_reason}
use Rattle.drc_state.specs.States.{State, checked_in}
use Rattle.drc_state.specs.Recheck.{IsHeldCount}
use Rattle.undo_log.specs.declared.error.HistoryError.{HistoryError}
use Rattle.undo_log.specs.declared.error.HistoryError.TheVariants.{Edit, NothingToUndo, NothingToRedo, Stopped, OutOfMemory}
use Rattle.undo_log.specs.HistoryReasons.{step_reason}
use Rattle.run_texts.specs.NamedTexts.{reason_text}

-- ---- reports

-- what is found of a state: its rows, a part for each of its nets, and how many tiles hold an item
pub record AreFindings (s : State) (found : Found) : Type 0 where
  pub rows : AreRows (checked_in s) found.rows
  pub parts : AreParts s.board found.parts
  pub held : IsHeldCount (checked_in s) found.held

abbrev pub report_text : Bool → ℕ → State → Found → ℕ → List ℕ
report_text true number s found done = short_report number s.board s.rules found done
report_text false number s found done = whole_report number s.board s.rules found done

-- the report of a state, where so many tiles were gone through
pub record IsReport (short : Bool) (number : ℕ) (s : State) (done : ℕ) (text : List ℕ) : Type 0 where
  pub found : Found
  pub are_findings : AreFindings s found
  pub text_is : text ≡ report_text short number s found done

-- the report of the opening: all tiles that hold an item were gone through
pub record IsOpening (short : Bool) (s : State) (text : List ℕ) : Type 0 where
  pub found : Found
  pub are_findings : AreFindings s found
  pub text_is : text ≡ report_text short 0 s found found.held

-- ---- refusals

abbrev pub why_edit : EditError → List ℕ
why_edit e = reason_text (edit_reason e)

-- a step that is a refused command is told as that command
abbrev pub step_told : HistoryError → PlainReason
step_told (Edit e) = edit_reason e
step_told NothingToUndo = step_reason NothingToUndo
step_told NothingToRedo = step_reason NothingToRedo
step_told Stopped = step_reason Stopped
step_told OutOfMemory = step_reason OutOfMemory

abbrev pub why_step : HistoryError → List ℕ
why_step e = reason_text (step_told e)

-- the line of what has this number and is refused
unfoldable pub refused_behind : List ℕ → ℕ → List ℕ → List ℕ
refused_behind before number why = before ++ decimal number ++ codes " refused: " ++ why ++ codes "\n"

-- the line of the command of this number
abbrev pub refused_line : ℕ → List ℕ → List ℕ
refused_line number why = refused_behind (codes "command ") number why

-- that of a command which is tried
abbrev pub refused_trial : ℕ → List ℕ → List ℕ
refused_trial number why = refused_behind (codes "trial ") number why
