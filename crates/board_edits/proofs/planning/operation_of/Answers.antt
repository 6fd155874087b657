use Rattle.std.proofs.Common.{subst}
use Rattle.edit_script.specs.declared.command.Command.{Command}
use Rattle.edit_script.specs.Commands.{plain_command, add}
use Rattle.board_edits.specs.Operations.{Does}
use Rattle.board_edits.proofs.FoundOperations.{only_one}
use Rattle.board_edits.proofs.planning.operation_of.Goals as goal

pub returns-in-Add-clause-only : goal.returns-in-Add-clause-only
returns-in-Add-clause-only c =
    λ answer does. only_one c.one_operation.ensures c.args.board.now (add c.in-Add.text.now c.in-Add.at) c.appended.result c.appended.ensures.found answer (subst (λ (command : Command). Does c.args.board.now (plain_command command) answer) c.in-Add.is does)
