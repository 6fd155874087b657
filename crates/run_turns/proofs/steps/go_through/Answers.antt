use Rattle.std.proofs.Common.{◌≡◌, ◌∙◌, Err, inl, ap, map, sym, subst, false}
use Rattle.edit_script.specs.Commands.{plain_step}
use Rattle.drc_session.specs.Sessions.{PlainSession}
use Rattle.drc_state.specs.States.{State}
use Rattle.undo_log.specs.Past.{begun}
use Rattle.run_output.specs.Reports.{IsOpening, report_text}
use Rattle.run_output.specs.CommandOutputs.{IsStepTurn}
use Rattle.run_output.specs.Output.{IsStatusOf, present_of}
use Rattle.run_output.specs.RunEndings.{number_of}
use Rattle.run_output.specs.RunResults.{found_of}
use Rattle.run_output.proofs.Turning.{opening_is, told_whole, told_prefix, first_prefix, no_fault, rose_since}
use Rattle.run_turns.proofs.steps.go_through.Goals as goal

pub returns-in-Err-clause-ends : goal.returns-in-Err-clause-ends
returns-in-Err-clause-ends g c =
    let session = c.session.result.now in
    let opening = c.args.history.now.session.state in
    let same : session.state ≡ opening = ap (λ (s : PlainSession). s.state) c.session.ensures.same in
    let text = report_text false 0 session.state (found_of session c.args.tiles.held) c.args.tiles.done in
    let first = subst (λ (s : State). IsOpening false s text) same (opening_is false session c.args.tiles.done c.args.tiles.held c.write_report.ensures.found c.requires.whole) in
    inl (first_prefix IsStepTurn present_of false (begun opening) (map plain_step c.args.all.now) (g.W.Sink.written c.args.out.now) (g.W.Sink.written c.write_report.new.out) (g.W.Sink.written c.write_report.new.out) text first
    c.in-Err.ensures.writes.bytes)

pub returns-in-Ok-steps-clause-ends : goal.returns-in-Ok-steps-clause-ends
returns-in-Ok-steps-clause-ends g c =
    let session = c.session.result.now in
    let opening = c.args.history.now.session.state in
    let same : session.state ≡ opening = ap (λ (s : PlainSession). s.state) c.session.ensures.same in
    let text = report_text false 0 session.state (found_of session c.args.tiles.held) c.args.tiles.done in
    let first = subst (λ (s : State). IsOpening false s text) same (opening_is false session c.args.tiles.done c.args.tiles.held c.write_report.ensures.found c.requires.whole) in
    let last = c.in-Ok-steps.ensures.taken (begun opening) c.requires.begun in
    let now = c.session-in-Ok-steps.result.now in
    let status = subst (λ (s : State). IsStatusOf s (number_of c.session_status.result)) (ap (λ (s : PlainSession). s.state) c.session-in-Ok-steps.ensures.same ∙ sym last.1.present) c.session_status.ensures in
    told_whole IsStepTurn present_of false (begun opening) (map plain_step c.args.all.now) _ _ _ text first last.0 c.session_status.result c.in-Ok.ensures.writes.bytes last.2 status

pub returns-in-Ok-steps-clause-fault : goal.returns-in-Ok-steps-clause-fault
returns-in-Ok-steps-clause-fault g c e = absurd (no_fault c.session-in-Ok-steps.result.now.state c.session_status.result c.session_status.ensures e)

pub returns-in-Err-Unwritten-clause-ends : goal.returns-in-Err-Unwritten-clause-ends
returns-in-Err-Unwritten-clause-ends g c =
    let session = c.session.result.now in
    let opening = c.args.history.now.session.state in
    let same : session.state ≡ opening = ap (λ (s : PlainSession). s.state) c.session.ensures.same in
    let text = report_text false 0 session.state (found_of session c.args.tiles.held) c.args.tiles.done in
    let first = subst (λ (s : State). IsOpening false s text) same (opening_is false session c.args.tiles.done c.args.tiles.held c.write_report.ensures.found c.requires.whole) in
    inl (told_prefix IsStepTurn present_of false (begun opening) (map plain_step c.args.all.now) _ (g.W.Sink.written c.write_report.new.out) _ text first c.in-Ok.ensures.writes.bytes
    (c.in-Err-Unwritten.ensures.broken (begun opening) c.requires.begun))

pub returns-in-Err-Unwritten-clause-fault : goal.returns-in-Err-Unwritten-clause-fault
returns-in-Err-Unwritten-clause-fault g c e =
    rose_since _ (g.W.Sink.faults c.write_report.new.out) _ c.in-Ok.ensures.writes.later (c.steps.ensures.fault (c.in-Err-Unwritten.is ∙ ap Err c.in-Err-Unwritten.field-0-is))

pub returns-in-Err-OutOfMemory-clause-ends : goal.returns-in-Err-OutOfMemory-clause-ends
returns-in-Err-OutOfMemory-clause-ends g c =
    let session = c.session.result.now in
    let opening = c.args.history.now.session.state in
    let same : session.state ≡ opening = ap (λ (s : PlainSession). s.state) c.session.ensures.same in
    let text = report_text false 0 session.state (found_of session c.args.tiles.held) c.args.tiles.done in
    let first = subst (λ (s : State). IsOpening false s text) same (opening_is false session c.args.tiles.done c.args.tiles.held c.write_report.ensures.found c.requires.whole) in
    told_prefix IsStepTurn present_of false (begun opening) (map plain_step c.args.all.now) _ (g.W.Sink.written c.write_report.new.out) _ text first c.in-Ok.ensures.writes.bytes
    (c.in-Err-OutOfMemory.ensures.broken (begun opening) c.requires.begun)
