-- The past of what is edited: the states before the present one, and those that were undone and may come again.
use Rattle.std.specs.Prelude.{◌≡◌, Bool, true, false, List, [], ◌∷◌, Result, Ok, Err, if◌then◌else◌}
use Rattle.std.specs.List.{AllZip}
use Rattle.edit_script.specs.Commands.{PlainCommand, again, PlainStep, edit, undo, redo}
use Rattle.drc_state.specs.declared.error.EditError.{EditError}
use Rattle.drc_state.specs.States.{State}
use Rattle.drc_state.specs.CommandSteps.{is_rules, Answers}
use Rattle.drc_state.specs.StateChanges.{returned}
use Rattle.undo_log.specs.declared.error.HistoryError.{HistoryError}
use Rattle.undo_log.specs.declared.error.HistoryError.TheVariants.{Edit, NothingToUndo, NothingToRedo}

-- a state, and whether the rules were replaced between it and its neighbour towards the present
pub record Passed : Type 0 where
  pub state : State
  pub replaced : Bool

-- the states before the present one and those that were undone, the nearest first on both sides
pub record Past : Type 0 where
  pub earlier : List Passed
  pub now : State
  pub later : List Passed

-- at the opening
abbrev pub begun : State → Past
begun state = record { earlier = []; now = state; later = [] }

-- ---- two pasts

-- the states are equal but for the numbers that come next, and so is whether the rules were replaced
pub record IsPassedEqualUpToNumbers (one other : Passed) : Type 0 where
  pub state : one.state ≡ returned other.state one.state
  pub replaced : one.replaced ≡ other.replaced

-- the present is one, and the other states are alike, each to each
pub record ArePastsEqualUpToNumbers (one other : Past) : Type 0 where
  pub now : one.now ≡ other.now
  pub earlier : AllZip IsPassedEqualUpToNumbers one.earlier other.earlier
  pub later : AllZip IsPassedEqualUpToNumbers one.later other.later

-- ---- steps

-- the command changes nothing, and reports again
abbrev pub is_again : PlainCommand → Bool
is_again (again at) = true
is_again command = false

-- the present goes before what comes, and what was undone is cut off; a report again changes nothing
abbrev pub edited : Past → PlainCommand → State → Past
edited past command next =
    if is_again command then past
    else record { earlier = record { state = past.now; replaced = is_rules command } ∷ past.earlier; now = next; later = [] }

-- back to the nearest state before
abbrev pub undone_to : Past → List Passed → Result Past HistoryError
undone_to past [] = Err NothingToUndo
undone_to past (passed ∷ earlier) =
    Ok (record { earlier = earlier; now = returned passed.state past.now; later = record { state = past.now; replaced = passed.replaced } ∷ past.later })

abbrev pub undone : Past → Result Past HistoryError
undone past = undone_to past past.earlier

-- on to the nearest state that was undone
abbrev pub redone_to : Past → List Passed → Result Past HistoryError
redone_to past [] = Err NothingToRedo
redone_to past (passed ∷ later) =
    Ok (record { earlier = record { state = past.now; replaced = passed.replaced } ∷ past.earlier; now = returned passed.state past.now; later = later })

abbrev pub redone : Past → Result Past HistoryError
redone past = redone_to past past.later

-- the past with what the command made, or its refusal
abbrev pub edit_answer : Past → PlainCommand → Result State EditError → Result Past HistoryError
edit_answer past command (Ok next) = Ok (edited past command next)
edit_answer past command (Err why) = Err (Edit why)

-- the answer of a step: the past with it, or why it is refused
abbrev pub StepAnswers : Past → PlainStep → Result Past HistoryError → Type 0
StepAnswers past (edit command) answer = (found : Result State EditError) × Answers past.now command found × (answer ≡ edit_answer past command found)
StepAnswers past (undo at) answer = answer ≡ undone past
StepAnswers past (redo at) answer = answer ≡ redone past

-- ---- what lies between the present before a step and after it

-- the rules were replaced between the present and the nearest of these
abbrev pub nearest_replaced : List Passed → Bool
nearest_replaced [] = false
nearest_replaced (passed ∷ others) = passed.replaced

-- the step replaces the rules
abbrev pub does_replace : Past → PlainStep → Bool
does_replace past (edit command) = is_rules command
does_replace past (undo at) = nearest_replaced past.earlier
does_replace past (redo at) = nearest_replaced past.later

-- ---- one step after another

-- a refused step leaves the past as it is
abbrev pub left_by : Past → Result Past HistoryError → Past
left_by past (Ok next) = next
left_by past (Err why) = past

-- the past after all of the steps
abbrev pub AreStepsTo : Past → List PlainStep → Past → Type 0
AreStepsTo past [] last = last ≡ past
AreStepsTo past (step ∷ steps) last = (answer : Result Past HistoryError) × StepAnswers past step answer × AreStepsTo (left_by past answer) steps last
