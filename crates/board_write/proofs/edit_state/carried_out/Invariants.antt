use Rattle.std.proofs.Common.{map, take}
use Rattle.edit_script.specs.Commands.{plain_command}
use Rattle.board_write.specs.EditState.{Reached}
use Rattle.board_write.proofs.edit_state.carried_out.Given as goal

-- the commands so far were carried out
abbrev pub invariant-loop-command : goal.invariant-loop-command
invariant-loop-command l = Reached l.fn.board (map plain_command (take l.command-index l.commands)) l.edit_state
