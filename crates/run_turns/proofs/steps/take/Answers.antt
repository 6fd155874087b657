use Rattle.std.proofs.Common.{◌≡◌, ap, sym, subst, IfOk, IfErr}
use Rattle.edit_script.specs.Commands.{PlainStep, plain_step, undo, redo}
use Rattle.drc_session.specs.Sessions.{IsDealt}
use Rattle.undo_log.specs.HistoryCalls.{IsHistoryStepTaken, IsStepRefused}
use Rattle.run_turns.proofs.Stepping.{only_first}
use Rattle.run_turns.proofs.steps.take.Goals as goal

pub returns-in-Undo-clause-taken : goal.returns-in-Undo-clause-taken
returns-in-Undo-clause-taken g c =
    let same : plain_step c.args.step.now ≡ undo c.in-Undo.at = ap plain_step c.in-Undo.is in
    subst (λ (step : PlainStep). IfOk c.undo.result (IsHistoryStepTaken c.args.history.now c.undo.new.self step)) (sym same) (only_first (IsHistoryStepTaken c.args.history.now c.undo.new.self (undo c.in-Undo.at)) (IsDealt 1) c.undo.result (c.undo.ensures.taken c.in-Undo.at))

pub returns-in-Undo-clause-refused : goal.returns-in-Undo-clause-refused
returns-in-Undo-clause-refused g c =
    let same : plain_step c.args.step.now ≡ undo c.in-Undo.at = ap plain_step c.in-Undo.is in
    subst (λ (step : PlainStep). IfErr c.undo.result (IsStepRefused c.args.history.now c.undo.new.self step)) (sym same) (c.undo.ensures.refused c.in-Undo.at)

pub returns-in-Redo-clause-taken : goal.returns-in-Redo-clause-taken
returns-in-Redo-clause-taken g c =
    let same : plain_step c.args.step.now ≡ redo c.in-Redo.at = ap plain_step c.in-Redo.is in
    subst (λ (step : PlainStep). IfOk c.redo.result (IsHistoryStepTaken c.args.history.now c.redo.new.self step)) (sym same) (only_first (IsHistoryStepTaken c.args.history.now c.redo.new.self (redo c.in-Redo.at)) (IsDealt 1) c.redo.result (c.redo.ensures.taken c.in-Redo.at))

pub returns-in-Redo-clause-refused : goal.returns-in-Redo-clause-refused
returns-in-Redo-clause-refused g c =
    let same : plain_step c.args.step.now ≡ redo c.in-Redo.at = ap plain_step c.in-Redo.is in
    subst (λ (step : PlainStep). IfErr c.redo.result (IsStepRefused c.args.history.now c.redo.new.self step)) (sym same) (c.redo.ensures.refused c.in-Redo.at)
