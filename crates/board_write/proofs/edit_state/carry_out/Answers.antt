use Rattle.edit_script.specs.Commands.{plain_command}
use Rattle.board_edits.specs.Fitting.{plain_operation}
use Rattle.board_write.proofs.Steps.{can_note}
use Rattle.board_write.proofs.edit_state.carry_out.Goals as goal

pub done-requires-clause-can : goal.done-requires-clause-can
done-requires-clause-can c = can_note c.args.edit_state.now (plain_command c.args.command.now) (plain_operation c.in-Ok.operation) c.requires.edit_state c.is_sound.ensures c.in-Ok.ensures.does
