use Rattle.std.proofs.Common.{ap, subst, map, ℕ, List, refl}
use Rattle.edit_script.specs.Commands.{PlainCommand, plain_command}
use Rattle.run_words.specs.Calls.{try}
use Rattle.run_texts.specs.declared.texts.Which.TheVariants.{Trials}
use Rattle.run_texts.specs.NamedTexts.{named, a_board, a_script, accepted, ReaderSays}
use Rattle.run_texts.specs.OpenedValues.{opened_in}
use Rattle.run_texts.specs.RunFindings.{StopsReading}
use Rattle.run_texts.proofs.Accepting.{text_says, reading_stops, second_stops}
use Rattle.run_output.specs.Output.{AreTrialsTold}
use Rattle.run_output.specs.RunResults.{AreTrialsToldSoFar}
use Rattle.run_output.specs.RunEndings.{Ends}
use Rattle.run_output.proofs.Ending.{line_ends}
use Rattle.run_output.proofs.Scripted.{trials_end}
use Rattle.run_trials.proofs.trials.try_each.Goals as goal

pub returns-in-Err-clause-ends : goal.returns-in-Err-clause-ends
returns-in-Err-clause-ends g c =
    let call = try c.args.files.board.now c.args.files.script.now c.args.workers in
    line_ends call (g.F.Shelf.files c.args.shelf.now) _ _ _ _ c.in-Err.stop (c.in-Err.ensures.stop call refl) c.write_stop.result c.write_stop.ensures.ends

pub returns-clause-ends : goal.returns-clause-ends
returns-clause-ends g c =
    let told = g.F.Shelf.files c.args.shelf.now in
    let before = g.F.Shelf.faults c.args.shelf.now in
    let now = g.F.Shelf.faults c.scripted_texts.new.shelf in
    let board = c.args.files.board.now in
    let script = c.args.files.script.now in
    let call = try board script c.args.workers in
    let opened = opened_in c.in-Ok.texts.0 in
    let bytes = c.in-Ok.texts.1.items in
    let stop = c.in-Err-trials_in.stop in
    let reads = subst (λ (b : List ℕ). StopsReading Trials b stop) c.deref.ensures.value c.in-Err-trials_in.ensures.says in
    let text = reading_stops told now now (named Trials script) bytes stop c.in-Ok.ensures.whole c.in-Ok.ensures.short reads in
    let stops = second_stops told before now Trials board script (a_board opened.board) call now stop refl c.in-Ok.ensures.ok.board c.in-Ok.ensures.counts text in
    line_ends call told before now _ _ stop stops c.write_stop-in-Err-trials_in.result c.write_stop-in-Err-trials_in.ensures.ends

pub returns-in-Ok-trials_in-clause-ends : goal.returns-in-Ok-trials_in-clause-ends
returns-in-Ok-trials_in-clause-ends g c =
    let told = g.F.Shelf.files c.args.shelf.now in
    let board = c.args.files.board.now in
    let script = c.args.files.script.now in
    let opening = opened_in c.in-Ok.texts.0 in
    let bytes = c.in-Ok.texts.1.items in
    let commands = map plain_command c.in-Ok-trials_in.commands.items in
    let reads = subst (λ (b : List ℕ). ReaderSays Trials b (accepted (a_script commands))) c.deref.ensures.value c.in-Ok-trials_in.ensures.says in
    let says = text_says told (named Trials script) bytes (accepted (a_script commands)) c.in-Ok.ensures.whole c.in-Ok.ensures.short reads in
    let ends = subst (λ (cs : List PlainCommand). Ends (AreTrialsTold opening cs) (AreTrialsToldSoFar opening cs) (λ _. ⊥) (g.W.Sink.written c.args.out.now) (g.W.Sink.written c.report.new.out) c.report.result)
    (ap (map plain_command) c.deref-in-Ok-trials_in.ensures.value) c.report.ensures.ends in
    trials_end told board script opening c.in-Ok.ensures.ok commands says c.args.workers _ _ _ _ c.report.result ends
