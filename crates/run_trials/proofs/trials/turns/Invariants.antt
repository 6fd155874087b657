use Rattle.std.proofs.Common.{◌≡◌, ◌≤◌, false, length, map, take, vec_capacity}
use Rattle.std.specs.List.{AllZip}
use Rattle.edit_script.specs.Commands.{plain_command}
use Rattle.what_if.specs.Trials.{IsCount}
use Rattle.run_output.specs.CommandOutputs.{IsTrial}
use Rattle.run_trials.specs.TrialResults.{IsTrialContext}
use Rattle.run_output.specs.RunResults.{SoFar}
use Rattle.run_trials.proofs.trials.turns.Given as goal

-- the commands that have been passed are tried and counted, and the session is where it was
abbrev pub invariant-loop-command : goal.invariant-loop-command
invariant-loop-command g l = record {
  trial_context : IsTrialContext l.session l.fn.trial_context;
  same : l.session.state ≡ l.initial.session.state;
  room : length l.commands ≤ vec_capacity l.counts;
  long : length l.counts.items ≡ l.command-index;
  counted : AllZip (IsCount l.initial.session.state) (map plain_command (take l.command-index l.commands)) l.counts.items;
  so_far : SoFar (IsTrial l.initial.session.state) false (map plain_command (take l.command-index l.commands)) l.command-index l.number l.comes (g.W.Sink.written l.initial.out) (g.W.Sink.written l.out) (g.W.Sink.faults l.initial.out)
      (g.W.Sink.faults l.out);
}
