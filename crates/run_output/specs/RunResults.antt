-- What the parts of a run leave of a session and of a sink.
use Rattle.std.specs.Prelude.{◌≡◌, ◌≤◌, ◌⊎◌, ℕ, Bool, false, List, length, Option, Result, Ok, Err, MatchResult}
use Rattle.std.specs.Io.KnownBytes.{Appends, Keeps}
use Rattle.drc_io.specs.Sinks.{AppendsPrefix, Writes}
use Rattle.drc_io.specs.declared.Failed.{Failed}
use Rattle.edit_script.specs.Commands.{PlainStep}
use Rattle.drc_rows.specs.ReportOf.{Found}
use Rattle.drc_state.specs.declared.error.EditError.{EditError}
use Rattle.drc_state.specs.declared.error.EditError.TheVariants.{OutOfMemory as NoMemory}
use Rattle.drc_session.specs.Sessions.{PlainSession}
use Rattle.undo_log.specs.declared.error.HistoryError.{HistoryError}
use Rattle.undo_log.specs.declared.error.HistoryError.TheVariants.{OutOfMemory as NoMemoryForStep}
use Rattle.undo_log.specs.Past.{Past}
use Rattle.undo_log.specs.Ways.{PlainHistory, IsPastOf}
use Rattle.drc_state.specs.States.{State}
use Rattle.edit_script.specs.Commands.{PlainCommand}
use Rattle.run_output.specs.declared.breaks.Break.{Break}
use Rattle.run_output.specs.declared.breaks.Break.TheVariants.{Unwritten, OutOfMemory}
use Rattle.run_output.specs.Reports.{AreFindings, report_text, refused_line, why_edit, why_step}
use Rattle.run_output.specs.CommandOutputs.{AreTurns, AreFirstTurns, IsStepTurn}
use Rattle.run_output.specs.Output.{Output, IsLeastLine, AreTrialsTold, AreFirstTrials}

-- what is found of a session, where so many tiles hold an item
abbrev pub found_of : PlainSession → ℕ → Found
found_of session held = record { rows = session.rows; parts = session.nets; held = held }

-- the report of a session was written, or a prefix of it
pub record IsReported (short : Bool) (number : ℕ) (session : PlainSession) (done held : ℕ) (old new : Option (List ℕ)) (before now : ℕ) (result : Result (Unit {0}) Failed) : Type 0 where
  pub found : AreFindings session.state (found_of session held)
  pub writes : Writes {T = Unit {0}} {E = Failed} old new before now (report_text short number session.state (found_of session held) done) result

-- a turn was taken
pub record IsTurnTaken {S C : Type 0} (Turn : ℕ → S → C → S → List ℕ → Type 0) (number : ℕ) (s : S) (command : C) (next : S) (old new : Option (List ℕ)) : Type 0 where
  pub text : List ℕ
  pub turn : Turn number s command next text
  pub written : Appends old new text

-- a prefix of what a turn writes was written
pub record IsBroken {S C : Type 0} (Turn : ℕ → S → C → S → List ℕ → Type 0) (number : ℕ) (s : S) (command : C) (old new : Option (List ℕ)) : Type 0 where
  pub next : S
  pub text : List ℕ
  pub turn : Turn number s command next text
  pub written : AppendsPrefix old new text

-- all turns were taken
pub record AreTaken {S C : Type 0} (Turn : ℕ → S → C → S → List ℕ → Type 0) (s : S) (commands : List C) (last : S) (old new : Option (List ℕ)) : Type 0 where
  pub text : List ℕ
  pub turns : AreTurns Turn 1 s commands last text
  pub written : Appends old new text

-- a prefix of what the first turns write was written
pub record AreBroken {S C : Type 0} (Turn : ℕ → S → C → S → List ℕ → Type 0) (s : S) (commands : List C) (old new : Option (List ℕ)) : Type 0 where
  pub text : List ℕ
  pub turns : AreFirstTurns Turn s commands text
  pub written : AppendsPrefix old new text

-- so far the turns of the first k commands were taken, which are these
pub record SoFar {S C : Type 0} (Turn : ℕ → S → C → S → List ℕ → Type 0) (s : S) (done : List C) (k number : ℕ) (now : S) (old new : Option (List ℕ)) (before faults : ℕ) : Type 0 where
  pub counted : number ≡ k
  pub reached : length done ≡ k
  pub text : List ℕ
  pub turns : AreTurns Turn 1 s done now text
  pub written : Appends old new text
  pub later : before ≤ faults

-- a refusal was told: memory ran out and nothing was written, or its line was written, or a prefix of that
pub data IsAnswered (Wants : Type 0) (text : List ℕ) (old new : Option (List ℕ)) (before now : ℕ) (result : Result (Unit {0}) Break) : Type 0 where
  memory_ran_out : Wants → result ≡ Err OutOfMemory → Keeps old new → before ≡ now → IsAnswered Wants text old new before now result
  line : (Wants → ⊥) → (written : Result (Unit {0}) Failed) → Writes {T = Unit {0}} {E = Failed} old new before now text written
      → MatchResult written (λ u. result ≡ Ok u) (λ _. result ≡ Err Unwritten) → IsAnswered Wants text old new before now result

-- the same of a command, and of a step
abbrev pub IsEditAnswered : ℕ → EditError → Option (List ℕ) → Option (List ℕ) → ℕ → ℕ → Result (Unit {0}) Break → Type 0
IsEditAnswered number why old new before now result = IsAnswered (why ≡ NoMemory) (refused_line number (why_edit why)) old new before now result

abbrev pub IsStepAnswered : ℕ → HistoryError → Option (List ℕ) → Option (List ℕ) → ℕ → ℕ → Result (Unit {0}) Break → Type 0
IsStepAnswered number why old new before now result = IsAnswered (why ≡ NoMemoryForStep) (refused_line number (why_step why)) old new before now result

-- ---- steps, of whatever past the history may be said to have

-- the step was taken
abbrev pub IsStepTaken : ℕ → PlainHistory → PlainStep → PlainHistory → Option (List ℕ) → Option (List ℕ) → Type 0
IsStepTaken number was step is old new = (past : Past) → IsPastOf was past → (next : Past) × IsPastOf is next × IsTurnTaken IsStepTurn number past step next old new

-- a prefix of what it writes was written, or nothing
abbrev pub IsStepBroken : ℕ → PlainHistory → PlainStep → Option (List ℕ) → Option (List ℕ) → Type 0
IsStepBroken number was step old new = Keeps old new ⊎ ((past : Past) → IsPastOf was past → IsBroken IsStepTurn number past step old new)

-- so far the first k steps were taken, which are these
pub record AreStepsSoFar (was : PlainHistory) (done : List PlainStep) (k number : ℕ) (now : PlainHistory) (old new : Option (List ℕ)) (before faults : ℕ) : Type 0 where
  pub running : now.stopped ≡ false
  pub counted : number ≡ k
  pub reached : length done ≡ k
  pub later : before ≤ faults
  pub taken : (past : Past) → IsPastOf was past → (at : Past) × IsPastOf now at × SoFar IsStepTurn past done k number at old new before faults

-- ---- trials

-- the last line was written, or a prefix of it
pub record IsLeastWritten (counts : List (Option ℕ)) (least : Option ℕ) (old new : Option (List ℕ)) (before now : ℕ) (result : Result (Unit {0}) Failed) : Type 0 where
  pub text : List ℕ
  pub is : IsLeastLine counts least text
  pub writes : Writes {T = Unit {0}} {E = Failed} old new before now text result

-- what trials begin with: what the first of the commands would do, or all that is told
pub data AreTrialsToldSoFar (opening : State) (commands : List PlainCommand) (text : List ℕ) : Type 0 where
  first_of_them : AreFirstTrials opening commands text → AreTrialsToldSoFar opening commands text
  all_of_them : (out : Output) → AreTrialsTold opening commands out → text ≡ out.text → AreTrialsToldSoFar opening commands text
