use Rattle.std.proofs.Common.{map, subst}
use Rattle.edit_script.specs.Commands.{plain_command}
use Rattle.drc_state.specs.States.{State}
use Rattle.run_output.specs.Output.{AreTrialsTold}
use Rattle.run_output.specs.RunResults.{AreTrialsToldSoFar}
use Rattle.run_output.specs.RunEndings.{Ends}
use Rattle.run_trials.proofs.trials.report.Goals as goal

pub returns-in-Ok-clause-ends : goal.returns-in-Ok-clause-ends
returns-in-Ok-clause-ends g c =
    let commands = map plain_command c.args.commands.now in
    subst (λ (s : State). Ends (AreTrialsTold s commands) (AreTrialsToldSoFar s commands) (λ _. ⊥) (g.W.Sink.written c.args.out.now) (g.W.Sink.written c.tried-status.new.out) c.tried-status.result)
    c.in-Ok.ensures.state c.tried-status.ensures.ends
