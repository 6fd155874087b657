use Rattle.std.proofs.Common.{sym, subst}
use Rattle.std.proofs.lemmas.Result.{err_from_is_err_and}
use Rattle.board_items.specs.Boards.{PlainBoard}
use Rattle.edit_script.specs.Commands.{plain_command}
use Rattle.board_edits.specs.Fitting.{plain_operation, OperationFits}
use Rattle.drc_state.proofs.Planned.{makes_answer, gives_nothing, no_rules, refused, rules_refused, not_stopped}
use Rattle.drc_state.proofs.planning.edit_of.Goals as goal

pub returns-in_err-rules-in-Rules-clause-refused : goal.returns-in_err-rules-in-Rules-clause-refused
returns-in_err-rules-in-Rules-clause-refused c =
    let p = err_from_is_err_and c.from_residual.result c.from_residual.ensures.1 in
    rw p.1 (λ old same. rules_refused old c.in-Rules.text c.in-Rules.at c.args.command.now c.in_err-rules-in-Rules.field-0.0 p.0 c.in-Rules.is p.2 c.in_err-rules-in-Rules.ensures.refused)

pub returns-in_err-operation_of-in_default-clause-refused : goal.returns-in_err-operation_of-in_default-clause-refused
returns-in_err-operation_of-in_default-clause-refused c =
    let p = err_from_is_err_and c.from_residual-in_err-operation_of-in_default.result c.from_residual-in_err-operation_of-in_default.ensures.1 in
    let none = no_rules c.args.command.now c.in_default.not-Rules in
    rw p.1 (λ old same. refused old c.args.board.now (plain_command c.args.command.now) c.in_err-operation_of-in_default.field-0.0 p.0 none p.2 c.in_err-operation_of-in_default.ensures.does same)

pub returns-in_err-operation_of-in_default-clause-never : goal.returns-in_err-operation_of-in_default-clause-never
returns-in_err-operation_of-in_default-clause-never c =
    let p = err_from_is_err_and c.from_residual-in_err-operation_of-in_default.result c.from_residual-in_err-operation_of-in_default.ensures.1 in
    rw p.1 (not_stopped c.in_err-operation_of-in_default.field-0.0 p.0 p.2)

pub returns-in_ok-operation_of-in_default-clause-made : goal.returns-in_ok-operation_of-in_default-clause-made
returns-in_ok-operation_of-in_default-clause-made c = λ old new same makes.
    makes_answer old new c.args.board.now (plain_command c.args.command.now) (plain_operation c.in_ok-operation_of-in_default.field-0) (no_rules c.args.command.now c.in_default.not-Rules) same c.in_ok-operation_of-in_default.ensures.does makes

pub returns-in_ok-operation_of-in_default-clause-fits : goal.returns-in_ok-operation_of-in_default-clause-fits
returns-in_ok-operation_of-in_default-clause-fits c = λ old same. subst (λ (b : PlainBoard). OperationFits b (plain_operation c.in_ok-operation_of-in_default.field-0)) (sym same) c.in_ok-operation_of-in_default.ensures.fits

pub returns-in_ok-operation_of-in_default-clause-kind : goal.returns-in_ok-operation_of-in_default-clause-kind
returns-in_ok-operation_of-in_default-clause-kind c = sym (no_rules c.args.command.now c.in_default.not-Rules)

pub returns-in_ok-operation_of-in_default-clause-none : goal.returns-in_ok-operation_of-in_default-clause-none
returns-in_ok-operation_of-in_default-clause-none c =
    gives_nothing c.args.board.now (plain_command c.args.command.now) (plain_operation c.in_ok-operation_of-in_default.field-0) c.in_ok-operation_of-in_default.ensures.only
