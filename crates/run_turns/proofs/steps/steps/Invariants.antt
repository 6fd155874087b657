use Rattle.std.proofs.Common.{map, take}
use Rattle.edit_script.specs.Commands.{plain_step}
use Rattle.run_output.specs.RunResults.{AreStepsSoFar}
use Rattle.run_turns.proofs.steps.steps.Given as goal

-- the turns of the steps that have been passed are taken
abbrev pub invariant-loop-one : goal.invariant-loop-one
invariant-loop-one g l =
    AreStepsSoFar l.initial.history (map plain_step (take l.one-index l.steps)) l.one-index l.number l.history (g.W.Sink.written l.initial.out) (g.W.Sink.written l.out) (g.W.Sink.faults l.initial.out) (g.W.Sink.faults l.out)
