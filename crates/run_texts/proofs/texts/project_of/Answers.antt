use Rattle.std.proofs.Common.{◌≤◌, ℕ, List, length, sym, subst}
use Rattle.drc_io.specs.Files.{IsWholeFile}
use Rattle.run_texts.specs.declared.texts.Which.TheVariants.{Project}
use Rattle.run_texts.specs.NamedTexts.{named}
use Rattle.run_texts.proofs.Accepting.{stops_if_refused}
use Rattle.run_texts.proofs.texts.project_of.Goals as goal

pub returns-in-Ok-clause-stop : goal.returns-in-Ok-clause-stop
returns-in-Ok-clause-stop g c =
    let told = g.F.Shelf.files c.args.shelf.now in
    let whole = subst (IsWholeFile told c.args.name.now) (sym c.deref.ensures.value) c.in-Ok.ensures.whole in
    let short = subst (λ (l : List ℕ). length l ≤ 33554432) (sym c.deref.ensures.value) c.in-Ok.ensures.short in
    stops_if_refused told (g.F.Shelf.faults c.args.shelf.now) (g.F.Shelf.faults c.fetch_text.new.shelf) (named Project c.args.name.now) c.deref.result.now _ c.classes_in.result whole short c.classes_in.ensures
