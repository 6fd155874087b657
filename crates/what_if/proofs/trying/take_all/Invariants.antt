use Rattle.std.proofs.Common.{◌≡◌, false, take, map}
use Rattle.edit_script.specs.Commands.{plain_command}
use Rattle.what_if.specs.Trials.{LeadTo}
use Rattle.what_if.proofs.trying.take_all.Given as goal

abbrev pub invariant-loop-step : goal.invariant-loop-step
invariant-loop-step g l = record {
  running : l.session.stopped ≡ false;
  led : LeadTo l.initial.session.state (map plain_command (take l.step l.commands)) l.session.state;
}
