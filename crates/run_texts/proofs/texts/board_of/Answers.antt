use Rattle.std.proofs.Common.{◌≤◌, ℕ, List, length, sym, subst}
use Rattle.run_words.specs.CallValues.{source_in}
use Rattle.run_texts.specs.declared.texts.Which.TheVariants.{Board}
use Rattle.run_texts.specs.NamedTexts.{AreBytesOf}
use Rattle.run_texts.proofs.Accepting.{stops_if_refused}
use Rattle.run_texts.proofs.texts.board_of.Goals as goal

pub returns-in-Ok-clause-stop : goal.returns-in-Ok-clause-stop
returns-in-Ok-clause-stop g c =
    let told = g.F.Shelf.files c.args.shelf.now in
    let source = source_in c.args.source in
    let whole = subst (AreBytesOf told source) (sym c.deref.ensures.value) c.in-Ok.ensures.whole in
    let short = subst (λ (l : List ℕ). length l ≤ 33554432) (sym c.deref.ensures.value) c.in-Ok.ensures.short in
    stops_if_refused told (g.F.Shelf.faults c.args.shelf.now) (g.F.Shelf.faults c.board_text.new.shelf) (record { which = Board; source = source }) c.deref.result.now _ c.board_in.result whole short c.board_in.ensures
