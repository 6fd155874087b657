use Rattle.std.proofs.Common.{ap, subst, map, ℕ, List, []}
use Rattle.edit_script.specs.Commands.{plain_command}
use Rattle.run_words.specs.Calls.{check}
use Rattle.run_words.specs.CallValues.{reading_in}
use Rattle.run_texts.specs.declared.texts.Which.TheVariants.{Script}
use Rattle.run_texts.specs.NamedTexts.{a_script}
use Rattle.run_texts.specs.OpenedValues.{opened_in}
use Rattle.run_texts.specs.RunFindings.{StopsOption, StopsReadingOption, AreBytesOfOption, GivesReading}
use Rattle.run_texts.proofs.Accepting.{script_stops, option_stopped, option_gives}
use Rattle.run_output.specs.Output.{IsTold, IsToldSoFar}
use Rattle.run_output.specs.RunEndings.{Ends}
use Rattle.run_output.proofs.Ending.{line_ends, told_ends}
use Rattle.run_turns.proofs.commands.check.Goals as goal

pub returns-in-Err-clause-ends : goal.returns-in-Err-clause-ends
returns-in-Err-clause-ends g c =
    let told = g.F.Shelf.files c.args.shelf.now in
    line_ends (check (reading_in c.args.request)) told _ _ _ _ c.in-Err.stop c.in-Err.ensures.stop c.write_stop.result c.write_stop.ensures.ends

pub returns-in-Err-script_text-clause-ends : goal.returns-in-Err-script_text-clause-ends
returns-in-Err-script_text-clause-ends g c =
    let told = g.F.Shelf.files c.args.shelf.now in
    let before = g.F.Shelf.faults c.args.shelf.now in
    let middle = g.F.Shelf.faults c.texts_of.new.shelf in
    let now = g.F.Shelf.faults c.script_text.new.shelf in
    let reading = reading_in c.args.request in
    let stop = c.in-Err-script_text.stop in
    let are = c.in-Ok.ensures.ok in
    let option = subst (λ t. StopsOption t middle now Script reading.script stop) c.in-Ok.ensures.same c.in-Err-script_text.ensures.stop in
    let stops = script_stops told before now reading middle stop c.in-Ok.ensures.counts (opened_in c.in-Ok.texts) are.board are.classes are.rules option in
    line_ends (check reading) told before now _ _ stop stops c.write_stop-in-Err-script_text.result c.write_stop-in-Err-script_text.ensures.ends

pub returns-clause-ends : goal.returns-clause-ends
returns-clause-ends g c =
    let told = g.F.Shelf.files c.args.shelf.now in
    let before = g.F.Shelf.faults c.args.shelf.now in
    let middle = g.F.Shelf.faults c.texts_of.new.shelf in
    let now = g.F.Shelf.faults c.script_text.new.shelf in
    let reading = reading_in c.args.request in
    let stop = c.in-Err-commands_of.stop in
    let are = c.in-Ok.ensures.ok in
    let script = c.in-Ok-script_text.script.items in
    let whole = subst (λ t. AreBytesOfOption t reading.script script) c.in-Ok.ensures.same c.in-Ok-script_text.ensures.whole in
    let reads = subst (λ (bytes : List ℕ). StopsReadingOption Script reading.script bytes stop) c.deref.ensures.value c.in-Err-commands_of.ensures.stop in
    let option = option_stopped told middle now Script reading.script script stop whole c.in-Ok-script_text.ensures.short reads in
    let stops = script_stops told before now reading middle stop c.in-Ok.ensures.counts (opened_in c.in-Ok.texts) are.board are.classes are.rules option in
    line_ends (check reading) told before now _ _ stop stops c.write_stop-in-Err-commands_of.result c.write_stop-in-Err-commands_of.ensures.ends

pub returns-in-Ok-commands_of-clause-ends : goal.returns-in-Ok-commands_of-clause-ends
returns-in-Ok-commands_of-clause-ends g c =
    let told = g.F.Shelf.files c.args.shelf.now in
    let before = g.F.Shelf.faults c.args.shelf.now in
    let now = g.F.Shelf.faults c.script_text.new.shelf in
    let reading = reading_in c.args.request in
    let opening = opened_in c.in-Ok.texts in
    let are = c.in-Ok.ensures.ok in
    let commands = map plain_command c.in-Ok-commands_of.commands.items in
    let script = c.in-Ok-script_text.script.items in
    let whole = subst (λ t. AreBytesOfOption t reading.script script) c.in-Ok.ensures.same c.in-Ok-script_text.ensures.whole in
    let reads = subst (λ (bytes : List ℕ). GivesReading Script reading.script bytes (a_script []) (a_script commands)) c.deref.ensures.value c.in-Ok-commands_of.ensures.says in
    let gives = option_gives told Script reading.script script (a_script []) (a_script commands) whole c.in-Ok-script_text.ensures.short reads in
    let ends = subst (λ cs. Ends (IsTold c.way_of.result.short opening cs) (IsToldSoFar c.way_of.result.short opening cs) (λ _. ⊥) (g.W.Sink.written c.args.out.now) (g.W.Sink.written c.report.new.out) c.report.result)
    (ap (map plain_command) c.deref-in-Ok-commands_of.ensures.value) c.report.ensures.ends in
    told_ends told reading opening commands are gives c.way_of.result.short c.way_of.ensures.short before now _ _ c.report.result ends
