-- A board and its text, as they were read.
use Rattle.std.specs.Prelude.{◌≡◌, ℕ, ◌≤◌, List, length, None, Ok}
use Rattle.sexpr_read.specs.Tree.{levels}
use Rattle.sexpr_read.specs.Spelling.{Spells}
use Rattle.sexpr_read.specs.TreeRefusals.{refusal_of_one}
use Rattle.sexpr_read.specs.TreeViews.{root_of}
use Rattle.pcb_read.specs.BoardOf.{SaysBoard}
use Rattle.pcb_read.specs.UnitSpans.{AreSpans}
use Rattle.edit_script.specs.Commands.{PlainCommand}
use Rattle.board_write.specs.declared.source.SourceText.{SourceText}
use Rattle.board_write.specs.declared.written.Written.{Written}
use Rattle.board_write.specs.WriteResults.{Outcome}

pub record IsSource (text : List ℕ) (source : SourceText) : Type 0 where
  pub accepted : refusal_of_one text ≡ None
  pub spelled : Spells text (root_of source.doc)
  pub shallow : levels (root_of source.doc) ≤ 64
  pub says : SaysBoard (root_of source.doc) (Ok source.board)
  pub spans : AreSpans (root_of source.doc) source.spans
  pub each : length source.spans ≡ source.board.next_unit

-- it is the text after the commands, of which so many are refused
abbrev pub HasText : List ℕ → List PlainCommand → Written → Type 0
HasText text commands written = (outcome : Outcome text commands written.refused) × (written.text.items ≡ outcome.out)
