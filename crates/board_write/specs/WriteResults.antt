-- What a call that writes a board answers, and what it leaves in its sink.
use Rattle.std.specs.Prelude.{◌≡◌, ⊤, ℕ, suc, List, [], ◌∷◌, Option, Result, Ok, Err}
use Rattle.std.specs.Io.KnownBytes.{Appends, Keeps}
use Rattle.drc_io.specs.FaultCounts.{Rose}
use Rattle.drc_io.specs.Sinks.{AppendsPrefix}
use Rattle.board_items.specs.Boards.{PlainBoard}
use Rattle.edit_script.specs.Commands.{PlainCommand}
use Rattle.pcb_read.specs.BoardText.{BoardSays}
use Rattle.board_edits.specs.declared.refusal.Refusal.{Refusal}
use Rattle.board_edits.specs.Operations.{PlainOperation}
use Rattle.roundtrip_boards.specs.WrittenBoard.{IsWritten}
use Rattle.board_write.specs.declared.error.WriteError.{WriteError}
use Rattle.board_write.specs.declared.error.WriteError.TheVariants.{Board, Failed, OutOfMemory}

-- how many commands are refused. Rules, and a report again, never are: they leave the board as it is
abbrev pub refused_by : Result PlainOperation Refusal → ℕ → ℕ
refused_by (Ok operation) others = others
refused_by (Err why) others = suc others

abbrev pub refused_in : List (Result PlainOperation Refusal) → ℕ
refused_in [] = 0
refused_in (answer ∷ answers) = refused_by answer (refused_in answers)

-- a text after the commands, of which so many are refused, and the board that they leave
pub record Outcome (text : List ℕ) (commands : List PlainCommand) (refused : ℕ) : Type 0 where
  pub out : List ℕ
  pub last : PlainBoard
  pub written : IsWritten text commands out last
  pub counted : refused ≡ refused_in written.answers

-- the call wrote such a text, and nothing else
abbrev pub WroteWhole : List ℕ → List PlainCommand → Option (List ℕ) → Option (List ℕ) → ℕ → Type 0
WroteWhole text commands old new refused = (outcome : Outcome text commands refused) × Appends old new outcome.out

-- a prefix of such a text was written
abbrev pub WrotePrefix : List ℕ → List PlainCommand → Option (List ℕ) → Option (List ℕ) → Type 0
WrotePrefix text commands old new = (refused : ℕ) × (outcome : Outcome text commands refused) × AppendsPrefix old new outcome.out

-- why no text came of it
abbrev pub IsCauseBefore : List ℕ → WriteError → Type 0
IsCauseBefore text (Board e) = BoardSays text (Err e)
IsCauseBefore text Failed = ⊥
IsCauseBefore text OutOfMemory = ⊤

-- why nothing came of it: the text is refused, which wrote nothing; the sink failed in between; or memory ran out, before anything was written
abbrev pub IsCause : List ℕ → List PlainCommand → Option (List ℕ) → Option (List ℕ) → ℕ → ℕ → WriteError → Type 0
IsCause text commands old new before now (Board e) = BoardSays text (Err e) × Keeps old new
IsCause text commands old new before now Failed = WrotePrefix text commands old new × Rose before now
IsCause text commands old new before now OutOfMemory = Keeps old new
