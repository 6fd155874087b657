use Rattle.std.proofs.Common.{[], ◌∷◌, subst}
use Rattle.drc_io.specs.Files.{IsWholeFile}
use Rattle.run_words.specs.Calls.{Reading, check}
use Rattle.run_texts.specs.NamedTexts.{named, a_board}
use Rattle.run_texts.specs.OpenedValues.{opened_in}
use Rattle.run_texts.specs.RunFindings.{StopsText, StopsTexts, AreOpened, only_board}
use Rattle.run_texts.proofs.Accepting.{first_stops, second_stops}
use Rattle.run_texts.proofs.texts.scripted_texts.Goals as goal

pub returns-in-Err-clause-stop : goal.returns-in-Err-clause-stop
returns-in-Err-clause-stop g c = λ call e.
    let told = g.F.Shelf.files c.args.shelf.now in
    let before = g.F.Shelf.faults c.args.shelf.now in
    let now = g.F.Shelf.faults c.texts_of.new.shelf in
    let stop = c.in-Err.stop in
    first_stops told before now (check (only_board c.args.files.board.now)) call (named c.args.which c.args.files.script.now ∷ []) stop e
    (subst (λ (r : Reading). StopsTexts told (check r) before now stop) c.board_alone.ensures.reading c.in-Err.ensures.stop)

pub returns-in-Ok-fetch_text-clause-ok : goal.returns-in-Ok-fetch_text-clause-ok
returns-in-Ok-fetch_text-clause-ok g c =
    subst (λ (r : Reading). AreOpened (g.F.Shelf.files c.args.shelf.now) r (opened_in c.in-Ok.texts)) c.board_alone.ensures.reading c.in-Ok.ensures.ok

pub returns-in-Ok-fetch_text-clause-whole : goal.returns-in-Ok-fetch_text-clause-whole
returns-in-Ok-fetch_text-clause-whole g c = subst (λ t. IsWholeFile t c.args.files.script.now c.in-Ok-fetch_text.script.items) c.in-Ok.ensures.same c.in-Ok-fetch_text.ensures.whole

pub returns-in-Err-fetch_text-clause-stop : goal.returns-in-Err-fetch_text-clause-stop
returns-in-Err-fetch_text-clause-stop g c = λ call e.
    let told = g.F.Shelf.files c.args.shelf.now in
    let before = g.F.Shelf.faults c.args.shelf.now in
    let middle = g.F.Shelf.faults c.texts_of.new.shelf in
    let now = g.F.Shelf.faults c.fetch_text.new.shelf in
    let opened = opened_in c.in-Ok.texts in
    let are = subst (λ (r : Reading). AreOpened told r opened) c.board_alone.ensures.reading c.in-Ok.ensures.ok in
    let stop = c.in-Err-fetch_text.stop in
    second_stops told before now c.args.which c.args.files.board.now c.args.files.script.now (a_board opened.board) call middle stop e are.board c.in-Ok.ensures.counts
    (subst (λ t. StopsText t middle now (named c.args.which c.args.files.script.now) stop) c.in-Ok.ensures.same c.in-Err-fetch_text.ensures.stop)
