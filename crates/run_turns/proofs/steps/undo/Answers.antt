use Rattle.std.proofs.Common.{ap, subst, map, ℕ, List, refl}
use Rattle.edit_script.specs.Commands.{PlainStep, plain_step}
use Rattle.run_words.specs.Calls.{undo}
use Rattle.run_texts.specs.declared.texts.Which.TheVariants.{Steps}
use Rattle.run_texts.specs.NamedTexts.{named, a_board, some_steps, accepted, ReaderSays}
use Rattle.run_texts.specs.OpenedValues.{opened_in}
use Rattle.run_texts.specs.RunFindings.{StopsReading}
use Rattle.run_texts.proofs.Accepting.{text_says, reading_stops, second_stops}
use Rattle.run_output.specs.Output.{AreStepsTold, AreStepsToldSoFar}
use Rattle.run_output.specs.RunEndings.{Ends}
use Rattle.run_output.proofs.Ending.{line_ends}
use Rattle.run_output.proofs.Scripted.{steps_end}
use Rattle.run_turns.proofs.steps.undo.Goals as goal

pub returns-in-Err-clause-ends : goal.returns-in-Err-clause-ends
returns-in-Err-clause-ends g c =
    let call = undo c.args.files.board.now c.args.files.script.now in
    line_ends call (g.F.Shelf.files c.args.shelf.now) _ _ _ _ c.in-Err.stop (c.in-Err.ensures.stop call refl) c.write_stop.result c.write_stop.ensures.ends

pub returns-clause-ends : goal.returns-clause-ends
returns-clause-ends g c =
    let told = g.F.Shelf.files c.args.shelf.now in
    let before = g.F.Shelf.faults c.args.shelf.now in
    let now = g.F.Shelf.faults c.scripted_texts.new.shelf in
    let board = c.args.files.board.now in
    let script = c.args.files.script.now in
    let opened = opened_in c.in-Ok.texts.0 in
    let bytes = c.in-Ok.texts.1.items in
    let stop = c.in-Err-steps_in.stop in
    let reads = subst (λ (b : List ℕ). StopsReading Steps b stop) c.deref.ensures.value c.in-Err-steps_in.ensures.says in
    let text = reading_stops told now now (named Steps script) bytes stop c.in-Ok.ensures.whole c.in-Ok.ensures.short reads in
    let stops = second_stops told before now Steps board script (a_board opened.board) (undo board script) now stop refl c.in-Ok.ensures.ok.board c.in-Ok.ensures.counts text in
    line_ends (undo board script) told before now _ _ stop stops c.write_stop-in-Err-steps_in.result c.write_stop-in-Err-steps_in.ensures.ends

pub returns-in-Ok-steps_in-clause-ends : goal.returns-in-Ok-steps_in-clause-ends
returns-in-Ok-steps_in-clause-ends g c =
    let told = g.F.Shelf.files c.args.shelf.now in
    let board = c.args.files.board.now in
    let script = c.args.files.script.now in
    let opening = opened_in c.in-Ok.texts.0 in
    let bytes = c.in-Ok.texts.1.items in
    let steps = map plain_step c.in-Ok-steps_in.all.items in
    let reads = subst (λ (b : List ℕ). ReaderSays Steps b (accepted (some_steps steps))) c.deref.ensures.value c.in-Ok-steps_in.ensures.says in
    let says = text_says told (named Steps script) bytes (accepted (some_steps steps)) c.in-Ok.ensures.whole c.in-Ok.ensures.short reads in
    let ends = subst (λ (ss : List PlainStep). Ends (AreStepsTold opening ss) (AreStepsToldSoFar opening ss) (λ _. ⊥) (g.W.Sink.written c.args.out.now) (g.W.Sink.written c.report.new.out) c.report.result)
    (ap (map plain_step) c.deref-in-Ok-steps_in.ensures.value) c.report.ensures.ends in
    steps_end told board script opening c.in-Ok.ensures.ok steps says _ _ _ _ c.report.result ends
