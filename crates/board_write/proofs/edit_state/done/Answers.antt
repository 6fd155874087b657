use Rattle.std.proofs.Common.{refl, subst}
use Rattle.board_items.specs.Boards.{PlainBoard}
use Rattle.edit_script.specs.Commands.{plain_command}
use Rattle.board_edits.specs.Operations.{After}
use Rattle.board_edits.specs.Fitting.{plain_operation}
use Rattle.board_write.proofs.Steps.{noted_board}
use Rattle.board_write.proofs.edit_state.done.Goals as goal

pub returns-clause-left : goal.returns-clause-left
returns-clause-left c = (
  c.requires.fits,
  subst (λ (b : PlainBoard). After b (plain_operation c.args.operation) c.make.new.board) c.in_ok-note.ensures.board c.in_ok-make.ensures.after,
  noted_board (plain_command c.args.command.now) (plain_operation c.args.operation) c.args.edit_state.now c.note.new.edit_state _ refl refl c.in_ok-note.ensures.noted,
)
