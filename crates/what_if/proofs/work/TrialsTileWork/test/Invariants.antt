use Rattle.std.proofs.Common.{◌≡◌, ◌-◌, length, map}
use Rattle.edit_script.specs.Commands.{plain_command}
use Rattle.what_if.proofs.RunCounts.{IsRunSoFar}
use Rattle.what_if.proofs.work.TrialsTileWork.test.Given as goal

abbrev pub invariant-places : goal.invariant-places
invariant-places g l = record {
  same : l.trial_scratch ≡ l.self.session.now;
  so_far : IsRunSoFar l.self.session.now.state (map plain_command l.self.commands.now) l.number l.self.stride l.place l.counts.items;
}

abbrev pub decreases-places : goal.decreases-places
decreases-places g l = length l.self.commands.now - l.place
