use Rattle.std.proofs.Common.{◌∙◌, IfOk, map, subst, arith}
use Rattle.std.proofs.lemmas.List.{length-map}
use Rattle.edit_script.specs.Commands.{plain_command}
use Rattle.drc_session.specs.Sessions.{PlainSession}
use Rattle.what_if.specs.Trials.{IsCountAt}
use Rattle.what_if.proofs.RunCounts.{run_more, run_done}
use Rattle.what_if.proofs.work.TrialsTileWork.test.Goals as goal

pub places-preserved : goal.places-preserved
places-preserved g c =
    let work = c.args.self.now in
    let commands = map plain_command work.commands.now in
    let inv = c.places.invariant in
    let found = subst (λ r. IfOk r (IsCountAt c.places.trial_scratch.state commands c.places.place)) c.in-Ok.is c.count_at-counted.ensures.count in
    let count = subst (λ (x : PlainSession). IsCountAt x.state commands c.places.place c.in-Ok.count) inv.same found in
    record {
      same = c.count_at-counted.ensures.same ∙ inv.same;
      so_far = run_more work.session.now.state commands c.args.number work.stride c.places.place c.places.counts.items c.push.new.self.items c.in-Ok.count inv.so_far count c.in-Ok-push.ensures.items;
    }

pub returns : goal.returns
returns g c =
    let work = c.args.self.now in
    let commands = map plain_command work.commands.now in
    run_done work.session.now.state commands c.args.number work.stride c.places.place c.places.counts.items (omega (arith, length-map work.commands.now plain_command)) c.places.invariant.so_far
