use Rattle.std.proofs.Common.{map, subst}
use Rattle.edit_script.specs.Commands.{plain_command}
use Rattle.drc_state.specs.States.{State}
use Rattle.run_output.specs.Output.{IsTold, IsToldSoFar}
use Rattle.run_output.specs.RunEndings.{Ends}
use Rattle.run_turns.proofs.commands.report.Goals as goal

pub returns-in-Ok-clause-ends : goal.returns-in-Ok-clause-ends
returns-in-Ok-clause-ends g c =
    let commands = map plain_command c.args.commands.now in
    subst (λ (s : State). Ends (IsTold c.args.way.short s commands) (IsToldSoFar c.args.way.short s commands) (λ _. ⊥) (g.W.Sink.written c.args.out.now) (g.W.Sink.written c.go_through-status.new.out) c.go_through-status.result)
    c.in-Ok.ensures.state c.go_through-status.ensures.ends
