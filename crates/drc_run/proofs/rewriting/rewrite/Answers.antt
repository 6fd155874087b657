use Rattle.std.proofs.Common.{◌∙◌, ap, subst, sym, map, ℕ, List}
use Rattle.drc_io.specs.Files.{IsWholeFile}
use Rattle.edit_script.specs.Commands.{PlainCommand, plain_command}
use Rattle.board_write.specs.Sources.{IsSource}
use Rattle.run_words.specs.Calls.{write}
use Rattle.run_texts.specs.declared.texts.Which.TheVariants.{Text, Script}
use Rattle.run_texts.specs.NamedTexts.{named, a_text, a_script, accepted, ReaderSays}
use Rattle.run_texts.specs.RunFindings.{StopsReading, StopsText}
use Rattle.run_texts.proofs.Accepting.{text_says, reading_stops}
use Rattle.run_output.specs.Output.{IsBoardWritten}
use Rattle.run_output.specs.RunEndings.{Ends, IsTextOfOne}
use Rattle.run_output.proofs.Ending.{line_ends}
use Rattle.drc_run.proofs.Rewrites.{text_stops, script_stops, rewritten_ends}
use Rattle.drc_run.proofs.rewriting.rewrite.Goals as goal

pub rewritten-requires-clause-read : goal.rewritten-requires-clause-read
rewritten-requires-clause-read g c =
    subst (λ (b : List ℕ). IsSource b c.in-Ok-source_in.source) (c.deref.ensures.value ∙ sym c.deref-in-Ok-script_in.ensures.value) c.in-Ok-source_in.ensures.read

-- the text of the board is unread
pub returns-in-Err-clause-ends : goal.returns-in-Err-clause-ends
returns-in-Err-clause-ends g c =
    let told = g.F.Shelf.files c.args.shelf.now in
    let board = c.args.files.board.now in
    let script = c.args.files.script.now in
    line_ends (write board script) told _ _ _ _ c.in-Err.stop (text_stops told board script _ _ c.in-Err.stop c.in-Err.ensures.stop) c.write_stop.result c.write_stop.ensures.ends

-- it is refused
pub returns-in-Err-source_in-clause-ends : goal.returns-in-Err-source_in-clause-ends
returns-in-Err-source_in-clause-ends g c =
    let told = g.F.Shelf.files c.args.shelf.now in
    let before = g.F.Shelf.faults c.args.shelf.now in
    let now = g.F.Shelf.faults c.fetch_text.new.shelf in
    let board = c.args.files.board.now in
    let script = c.args.files.script.now in
    let stop = c.in-Err-source_in.stop in
    let reads = subst (λ (b : List ℕ). StopsReading Text b stop) c.deref.ensures.value c.in-Err-source_in.ensures.says in
    let text = reading_stops told before now (named Text board) c.in-Ok.text.items stop c.in-Ok.ensures.whole c.in-Ok.ensures.short reads in
    line_ends (write board script) told before now _ _ stop (text_stops told board script before now stop text) c.write_stop-in-Err-source_in.result c.write_stop-in-Err-source_in.ensures.ends

-- the script is unread
pub returns-in-Err-script_text-clause-ends : goal.returns-in-Err-script_text-clause-ends
returns-in-Err-script_text-clause-ends g c =
    let told = g.F.Shelf.files c.args.shelf.now in
    let before = g.F.Shelf.faults c.args.shelf.now in
    let middle = g.F.Shelf.faults c.fetch_text.new.shelf in
    let now = g.F.Shelf.faults c.script_text.new.shelf in
    let board = c.args.files.board.now in
    let script = c.args.files.script.now in
    let bytes = c.in-Ok.text.items in
    let stop = c.in-Err-script_text.stop in
    let reads = subst (λ (b : List ℕ). ReaderSays Text b (accepted (a_text b))) c.deref.ensures.value c.in-Ok-source_in.ensures.says in
    let first = text_says told (named Text board) bytes (accepted (a_text bytes)) c.in-Ok.ensures.whole c.in-Ok.ensures.short reads in
    let unread = subst (λ t. StopsText t middle now (named Script script) stop) c.in-Ok.ensures.same c.in-Err-script_text.ensures.stop in
    line_ends (write board script) told before now _ _ stop (script_stops told board script before now stop bytes middle first c.in-Ok.ensures.counts unread) c.write_stop-in-Err-script_text.result
    c.write_stop-in-Err-script_text.ensures.ends

-- both are accepted
pub returns-in-Ok-script_in-clause-ends : goal.returns-in-Ok-script_in-clause-ends
returns-in-Ok-script_in-clause-ends g c =
    let told = g.F.Shelf.files c.args.shelf.now in
    let board = c.args.files.board.now in
    let script = c.args.files.script.now in
    let text = c.in-Ok.text.items in
    let bytes = c.in-Ok-script_text.script.items in
    let commands = map plain_command c.in-Ok-script_in.commands.items in
    let accepts = subst (λ (b : List ℕ). ReaderSays Text b (accepted (a_text b))) c.deref.ensures.value c.in-Ok-source_in.ensures.says in
    let first = text_says told (named Text board) text (accepted (a_text text)) c.in-Ok.ensures.whole c.in-Ok.ensures.short accepts in
    let whole = subst (λ t. IsWholeFile t script bytes) c.in-Ok.ensures.same c.in-Ok-script_text.ensures.whole in
    let reads = subst (λ (b : List ℕ). ReaderSays Script b (accepted (a_script commands))) c.deref-2.ensures.value c.in-Ok-script_in.ensures.says in
    let says = text_says told (named Script script) bytes (accepted (a_script commands)) whole c.in-Ok-script_text.ensures.short reads in
    let of = λ (b : List ℕ) (cs : List PlainCommand). Ends (IsBoardWritten b cs) (IsTextOfOne (IsBoardWritten b cs)) (λ _. ⊥) (g.W.Sink.written c.args.out.now) (g.W.Sink.written c.rewritten.new.out) c.rewritten.result in
    let own = subst (λ (b : List ℕ). of b (map plain_command c.deref-in-Ok-script_in-2.result.now)) c.deref-in-Ok-script_in.ensures.value c.rewritten.ensures.ends in
    let ends = subst (λ (cs : List PlainCommand). of text cs) (ap (map plain_command) c.deref-in-Ok-script_in-2.ensures.value) own in
    rewritten_ends told board script text commands first says _ _ _ _ c.rewritten.result ends

-- the script is refused
pub returns-clause-ends : goal.returns-clause-ends
returns-clause-ends g c =
    let told = g.F.Shelf.files c.args.shelf.now in
    let before = g.F.Shelf.faults c.args.shelf.now in
    let middle = g.F.Shelf.faults c.fetch_text.new.shelf in
    let now = g.F.Shelf.faults c.script_text.new.shelf in
    let board = c.args.files.board.now in
    let script = c.args.files.script.now in
    let text = c.in-Ok.text.items in
    let bytes = c.in-Ok-script_text.script.items in
    let stop = c.in-Err-script_in.stop in
    let accepts = subst (λ (b : List ℕ). ReaderSays Text b (accepted (a_text b))) c.deref.ensures.value c.in-Ok-source_in.ensures.says in
    let first = text_says told (named Text board) text (accepted (a_text text)) c.in-Ok.ensures.whole c.in-Ok.ensures.short accepts in
    let whole = subst (λ t. IsWholeFile t script bytes) c.in-Ok.ensures.same c.in-Ok-script_text.ensures.whole in
    let reads = subst (λ (b : List ℕ). StopsReading Script b stop) c.deref-2.ensures.value c.in-Err-script_in.ensures.says in
    let refused = reading_stops told middle now (named Script script) bytes stop whole c.in-Ok-script_text.ensures.short reads in
    line_ends (write board script) told before now _ _ stop (script_stops told board script before now stop text middle first c.in-Ok.ensures.counts refused) c.write_stop-in-Err-script_in.result
    c.write_stop-in-Err-script_in.ensures.ends
