use Rattle.std.proofs.Common.{ap, ℕ}
use Rattle.edit_script.specs.Commands.{plain_command}
use Rattle.run_output.specs.Reports.{report_text}
use Rattle.run_output.specs.CommandOutputs.{IsTurn, made}
use Rattle.run_output.specs.RunResults.{found_of}
use Rattle.run_output.proofs.Turning.{taken_by, broken_by, refused_taken, refused_runs, refused_broken, refused_fault, refused_later}
use Rattle.run_turns.proofs.commands.turn.Goals as goal

pub returns-in-Ok-clause-taken : goal.returns-in-Ok-clause-taken
returns-in-Ok-clause-taken g c =
    let session = c.apply.new.self in
    let carried = c.in-Ok.ensures.carried.0 in
    let tiles = c.in-Ok.applied.tiles.items in
    let found = found_of session c.tiles_of.result.held in
    let text = report_text c.args.way.short c.args.number session.state found c.tiles_of.result.done in
    let is = ap (λ (done : ℕ). report_text c.args.way.short c.args.number session.state found done) c.tiles_of.ensures.done in
    taken_by (IsTurn c.args.way.short) c.args.number c.args.session.now.state (plain_command c.args.command.now) session.state _ _ _ _ text
    (made carried.answer tiles carried.applied_is.tiles (record { found = found; are_findings = c.write_report.ensures.found; text_is = is })) c.write_report.result c.or_break.result c.or_break.ensures c.write_report.ensures.writes

pub returns-in-Ok-clause-broken : goal.returns-in-Ok-clause-broken
returns-in-Ok-clause-broken g c =
    let session = c.apply.new.self in
    let carried = c.in-Ok.ensures.carried.0 in
    let tiles = c.in-Ok.applied.tiles.items in
    let found = found_of session c.tiles_of.result.held in
    let text = report_text c.args.way.short c.args.number session.state found c.tiles_of.result.done in
    let is = ap (λ (done : ℕ). report_text c.args.way.short c.args.number session.state found done) c.tiles_of.ensures.done in
    broken_by (IsTurn c.args.way.short) c.args.number c.args.session.now.state (plain_command c.args.command.now) session.state _ _ _ _ text
    (made carried.answer tiles carried.applied_is.tiles (record { found = found; are_findings = c.write_report.ensures.found; text_is = is })) c.write_report.result c.or_break.result c.or_break.ensures c.write_report.ensures.writes

pub returns-in-Err : goal.returns-in-Err
returns-in-Err g c =
    let was = c.args.session.now in
    let is = c.apply.new.self in
    let command = plain_command c.args.command.now in
    let why = c.in-Err.why in
    let by = c.in-Err.ensures.refused in
    record {
      taken = refused_taken c.args.way.short c.args.number was is command why _ _ _ _ c.refused.result c.requires.running by c.refused.ensures;
      running = refused_runs c.args.way.short c.args.number was is command why _ _ _ _ c.refused.result c.requires.running by c.refused.ensures;
      broken = refused_broken c.args.way.short c.args.number was is command why _ _ _ _ c.refused.result c.requires.running by c.refused.ensures;
      fault = refused_fault _ _ _ _ _ _ c.refused.result c.refused.ensures;
      later = refused_later _ _ _ _ _ _ c.refused.result c.refused.ensures;
    }
