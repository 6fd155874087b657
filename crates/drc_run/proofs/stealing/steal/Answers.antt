use Rattle.std.proofs.Common.{[], subst, refl}
use Rattle.run_words.specs.Calls.{Reading, check, steal}
use Rattle.run_texts.specs.OpenedValues.{opened_in}
use Rattle.run_texts.specs.RunFindings.{StopsTexts, AreOpened, only_board}
use Rattle.run_texts.proofs.Accepting.{first_stops}
use Rattle.run_output.proofs.Ending.{line_ends}
use Rattle.drc_run.proofs.Stolen.{rows_end}
use Rattle.drc_run.proofs.stealing.steal.Goals as goal

pub returns-in-Err-clause-ends : goal.returns-in-Err-clause-ends
returns-in-Err-clause-ends g c =
    let told = g.F.Shelf.files c.args.shelf.now in
    let before = g.F.Shelf.faults c.args.shelf.now in
    let now = g.F.Shelf.faults c.texts_of.new.shelf in
    let call = steal c.args.found.board.now c.args.found.number in
    let stop = c.in-Err.stop in
    let stops = first_stops told before now (check (only_board c.args.found.board.now)) call [] stop refl
    (subst (λ (r : Reading). StopsTexts told (check r) before now stop) c.board_alone.ensures.reading c.in-Err.ensures.stop) in
    line_ends call told before now _ _ stop stops c.write_stop.result c.write_stop.ensures.ends

pub returns-in-Ok-clause-ends : goal.returns-in-Ok-clause-ends
returns-in-Ok-clause-ends g c =
    let told = g.F.Shelf.files c.args.shelf.now in
    let opening = opened_in c.in-Ok.texts in
    let are = subst (λ (r : Reading). AreOpened told r opening) c.board_alone.ensures.reading c.in-Ok.ensures.ok in
    rows_end told c.args.found.board.now c.args.found.number opening are _ _ _ _ c.report.result c.report.ensures.ends
