use Rattle.std.proofs.Common.{◌≡◌, MatchResult, map, subst, arith}
use Rattle.edit_script.specs.Commands.{plain_command}
use Rattle.what_if.specs.Trials.{IsCount}
use Rattle.what_if.proofs.Each.{as_many}
use Rattle.run_output.specs.declared.status.Status.{Status}
use Rattle.run_output.specs.declared.status.Status.TheVariants.{WriteFault}
use Rattle.run_trials.proofs.TrialTexts.{trials_whole}
use Rattle.run_trials.proofs.trials.go_through.Goals as goal

pub survey_by-requires : goal.survey_by-requires
survey_by-requires g c =
    let many = as_many (IsCount c.args.session.now.state) c.args.commands.now c.turns.new.counts.items c.in-Ok-turns.ensures.counts in
    omega (arith, many, c.requires.few)

pub returns-in-Ok-turns-clause-ends : goal.returns-in-Ok-turns-clause-ends
returns-in-Ok-turns-clause-ends g c =
    let s = c.args.session.now.state in
    let commands = map plain_command c.args.commands.now in
    let comes = c.in-Ok-turns.comes in
    let found = c.survey_by.result in
    let e = subst (λ (x : Status). MatchResult c.write_least.result (λ _. c.after.result ≡ x) (λ _. c.after.result ≡ WriteFault)) c.status_of.ensures c.after.ensures in
    let survey = c.survey_by.ensures s commands c.in-Ok.ensures c.in-Ok-turns.ensures.counts in
    trials_whole s commands (g.W.Sink.written c.args.out.now) (g.W.Sink.written c.turns.new.out) _ comes found.counts.items found.least _ _ c.write_least.result c.after.result c.in-Ok-turns.ensures.taken survey c.write_least.ensures e
