use Rattle.std.proofs.Common.{◌≡◌, false, map, take}
use Rattle.edit_script.specs.Commands.{plain_command}
use Rattle.run_output.specs.CommandOutputs.{IsTurn}
use Rattle.run_output.specs.RunResults.{SoFar}
use Rattle.run_turns.proofs.commands.turns.Given as goal

-- the turns of the commands that have been passed are taken
abbrev pub invariant-loop-command : goal.invariant-loop-command
invariant-loop-command g l =
    (l.session.stopped ≡ false)
    × SoFar (IsTurn l.way.short) l.initial.session.state (map plain_command (take l.command-index l.commands)) l.command-index l.number l.session.state (g.W.Sink.written l.initial.out) (g.W.Sink.written l.out)
    (g.W.Sink.faults l.initial.out) (g.W.Sink.faults l.out)
