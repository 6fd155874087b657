use Rattle.std.proofs.Common.{◌≡◌, ◌∙◌, ap, sym, subst, false}
use Rattle.edit_script.specs.Commands.{plain_step}
use Rattle.drc_session.specs.Sessions.{PlainSession}
use Rattle.drc_state.specs.States.{State, checked_in}
use Rattle.drc_state.specs.Recheck.{IsHeldCount}
use Rattle.undo_log.specs.Past.{Past}
use Rattle.undo_log.specs.Ways.{IsPastOf}
use Rattle.run_output.specs.Reports.{report_text}
use Rattle.run_output.specs.RunResults.{found_of}
use Rattle.run_turns.proofs.Stepping.{Takes, step_turn, taken_by, broken_by, refused_taken, refused_runs, refused_broken}
use Rattle.run_output.proofs.Turning.{refused_fault, refused_later}
use Rattle.run_turns.proofs.steps.step.Goals as goal

pub write_report-requires-clause-held : goal.write_report-requires-clause-held
write_report-requires-clause-held g c =
    let p = c.in-Ok.ensures.taken.past in
    let from = c.in-Ok.ensures.taken.steps p.0 p.1 in
    let same : from.next.now ≡ c.session.result.now.state = from.is_past.present ∙ ap (λ (s : PlainSession). s.state) (sym c.session.ensures.same) in
    subst (λ (s : State). IsHeldCount (checked_in s) c.tiles_of.result.held) same (subst (IsHeldCount (checked_in from.next.now)) (sym c.tiles_of.ensures.held) from.applied_is.held)

pub returns-in-Ok-clause-taken : goal.returns-in-Ok-clause-taken
returns-in-Ok-clause-taken g c =
    let session = c.session.result.now in
    let held = c.tiles_of.result.held in
    let done = c.tiles_of.result.done in
    let text = report_text false c.args.number session.state (found_of session held) done in
    let step = plain_step c.args.step.now in
    let takes : (past : Past) → IsPastOf c.args.history.now past → Takes c.args.number past step c.take.new.history text = λ past are. (
    let from = c.in-Ok.ensures.taken.steps past are in
    let same : from.next.now ≡ session.state = from.is_past.present ∙ ap (λ (s : PlainSession). s.state) (sym c.session.ensures.same) in
    record {
      next = from.next;
      is_past = from.is_past;
      turn = step_turn c.args.number past from.next step c.in-Ok.applied session held done same from.answer from.applied_is c.write_report.ensures.found c.tiles_of.ensures.done;
    }
    ) in
    taken_by c.args.number c.args.history.now step c.take.new.history _ _ _ _ text takes c.write_report.result c.or_break.result c.or_break.ensures c.write_report.ensures.writes

pub returns-in-Ok-clause-broken : goal.returns-in-Ok-clause-broken
returns-in-Ok-clause-broken g c =
    let session = c.session.result.now in
    let held = c.tiles_of.result.held in
    let done = c.tiles_of.result.done in
    let text = report_text false c.args.number session.state (found_of session held) done in
    let step = plain_step c.args.step.now in
    let takes : (past : Past) → IsPastOf c.args.history.now past → Takes c.args.number past step c.take.new.history text = λ past are. (
    let from = c.in-Ok.ensures.taken.steps past are in
    let same : from.next.now ≡ session.state = from.is_past.present ∙ ap (λ (s : PlainSession). s.state) (sym c.session.ensures.same) in
    record {
      next = from.next;
      is_past = from.is_past;
      turn = step_turn c.args.number past from.next step c.in-Ok.applied session held done same from.answer from.applied_is c.write_report.ensures.found c.tiles_of.ensures.done;
    }
    ) in
    broken_by c.args.number c.args.history.now step c.take.new.history _ _ _ _ text takes c.write_report.result c.or_break.result c.or_break.ensures c.write_report.ensures.writes

pub returns-in-Err : goal.returns-in-Err
returns-in-Err g c =
    let was = c.args.history.now in
    let is = c.take.new.history in
    let step = plain_step c.args.step.now in
    let why = c.in-Err.why in
    let by = c.in-Err.ensures.refused in
    record {
      taken = refused_taken c.args.number was is step why _ _ _ _ c.refused.result c.requires.running by c.refused.ensures;
      running = refused_runs c.args.number was is step why _ _ _ _ c.refused.result c.requires.running by c.refused.ensures;
      broken = refused_broken c.args.number was is step why _ _ _ _ c.refused.result c.requires.running by c.refused.ensures;
      fault = refused_fault _ _ _ _ _ _ c.refused.result c.refused.ensures;
      later = refused_later _ _ _ _ _ _ c.refused.result c.refused.ensures;
    }
