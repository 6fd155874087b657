use Rattle.std.proofs.Common.{◌≡◌, inr, ◌<◌, ℕ, false, ◌∙◌, ap, length, arith}
use Rattle.std.proofs.lemmas.Str.{IsCharBoundary-start}
use Rattle.sexpr_read.specs.declared.place.Span.{Span}
use Rattle.sexpr_read.specs.Comments.{shown}
use Rattle.sexpr_read.specs.ForestCells.{cells_of, forest_of}
use Rattle.sexpr_read.specs.Spelling.{SpellsAll, SpellsForest}
use Rattle.sexpr_read.specs.TreeViews.{root_of}
use Rattle.sexpr_read.proofs.Lines.{line_first, sign_shown}
use Rattle.sexpr_read.proofs.Faults.{stands_first}
use Rattle.sexpr_read.proofs.HeadFaults.{close_outside}
use Rattle.sexpr_read.proofs.FromText.{forest_of-spelled, are_placed-spelled}
use Rattle.sexpr_read.proofs.Texts.{are_texts-spelled}
use Rattle.sexpr_read.proofs.reader.read_all.Goals as goal

pub read_forest-requires-clause-line : goal.read_forest-requires-clause-line
read_forest-requires-clause-line c = λ e low. line_first c.args.text.now

pub read_forest-requires-clause-stands : goal.read_forest-requires-clause-stands
read_forest-requires-clause-stands c = stands_first false (shown c.args.text.now)

pub returns-then-stop-text-clause-err : goal.returns-then-stop-text-clause-err
returns-then-stop-text-clause-err c =
    let read = c.in_ok-stop.ensures.ok in
    let low : c.in_ok-stop.stop < length c.args.text.now = omega (arith, read.within, c.if-stop-text.true) in
    inr (close_outside false (shown c.args.text.now) _ _ read.stands low (read.ends low))

pub invariant_of-result : goal.invariant_of-result
invariant_of-result c =
    let text = c.args.text.now in
    let read = c.in_ok-stop.ensures.ok in
    let forest_is : forest_of text c.read_forest.new.arena.cells.items ≡ read.forest =
    ap (forest_of text) read.kept ∙ forest_of-spelled text (shown text) (sign_shown false text) read.forest _ _ read.spelled in
    record {
      placed = record { wide = omega arith; within = read.within };
      whole = rw read.kept (ap cells_of (forest_of-spelled text (shown text) (sign_shown false text) read.forest _ _ read.spelled));
      each_placed = rw read.kept (are_placed-spelled text (shown text) (sign_shown false text) read.forest _ _ read.within read.spelled);
      texts = rw forest_is (are_texts-spelled false text c.requires.utf8 read.forest _ _ (IsCharBoundary-start text c.requires.utf8) read.within read.spelled);
    }

pub returns-clause-spelled : goal.returns-clause-spelled
unfolding SpellsAll root_of
returns-clause-spelled c =
    let text = c.args.text.now in
    let read = c.in_ok-stop.ensures.ok in
    let whole : c.in_ok-stop.stop ≡ length text = omega (arith, c.if-stop-text.false) in
    let forest_is : forest_of text c.read_forest.new.arena.cells.items ≡ read.forest =
    ap (forest_of text) read.kept ∙ forest_of-spelled text (shown text) (sign_shown false text) read.forest _ _ read.spelled in
    let inside : SpellsForest (shown text) text 0 (length text) (forest_of text c.read_forest.new.arena.cells.items) =
    rw (forest_is, ← whole) read.spelled in
    let place : ℕ → Span = λ n. record { at = 0; end = n } in
    (c.requires.utf8, ap place whole, inside)

pub returns-clause-levels : goal.returns-clause-levels
unfolding root_of
returns-clause-levels c =
    let text = c.args.text.now in
    let read = c.in_ok-stop.ensures.ok in
    let forest_is : forest_of text c.read_forest.new.arena.cells.items ≡ read.forest =
    ap (forest_of text) read.kept ∙ forest_of-spelled text (shown text) (sign_shown false text) read.forest _ _ read.spelled in
    rw forest_is (omega (arith, read.shallow))
