use Rattle.std.proofs.Common.{refl, ◌≡◌, ◌<◌, ◌≤◌, ◌+◌, suc, true, ◌∙◌, ap, length, arith}
use Rattle.std.specs.Str.{IsCharBoundary}
use Rattle.sexpr_read.specs.ByteClasses.{sign_of}
use Rattle.sexpr_read.specs.ForestCells.{cells_of, forest_of}
use Rattle.sexpr_read.specs.Spelling.{Spells, SpellsForest}
use Rattle.sexpr_read.specs.TreeViews.{root_of}
use Rattle.sexpr_read.proofs.Machine.{over_gap, over_first, over_close}
use Rattle.sexpr_read.proofs.Faults.{stands_first, blank_gap, not_blank}
use Rattle.sexpr_read.proofs.Unique.{forest_ordered}
use Rattle.sexpr_read.proofs.FromText.{forest_of-spelled, are_placed-spelled}
use Rattle.sexpr_read.proofs.Texts.{are_texts-spelled, cut_behind_open}
use Rattle.sexpr_read.proofs.reader.read_one.Goals as goal

pub read_forest-requires-clause-stands : goal.read_forest-requires-clause-stands
read_forest-requires-clause-stands c =
    let sign = sign_of c.args.text.now in
    let next : c.in_ok-start.start + 1 ≡ suc c.in_ok-start.start = omega arith in
    let gap = c.in_ok-start.ensures.gap in
    rw next (over_first sign _ (blank_gap sign _ gap) c.in_ok-start.ensures.bracket (over_gap true sign 0 _ 0 gap (stands_first true sign)))

pub check_rest-requires-clause-stands : goal.check_rest-requires-clause-stands
check_rest-requires-clause-stands c =
    let sign = sign_of c.args.text.now in
    let next : c.in_ok-close.close + 1 ≡ suc c.in_ok-close.close = omega arith in
    let read = c.in_ok-close.ensures.ok in
    let low : c.in_ok-close.close < length c.args.text.now = omega (arith, read.within, c.if-close-text.false) in
    rw next (over_close true sign _ 0 (read.ends low) read.stands)

pub check_rest-requires-clause-seen : goal.check_rest-requires-clause-seen
check_rest-requires-clause-seen c =
    let read = c.in_ok-close.ensures.ok in
    let behind : c.in_ok-start.start + 1 ≤ c.in_ok-close.close =
    forest_ordered (sign_of c.args.text.now) c.args.text.now read.forest _ _ read.spelled in
    not_blank (sign_of c.args.text.now) c.in_ok-start.start _ c.in_ok-start.ensures.bracket (omega arith)

pub invariant_of-result : goal.invariant_of-result
invariant_of-result c =
    let text = c.args.text.now in
    let read = c.in_ok-close.ensures.ok in
    let behind : c.in_ok-start.start + 1 ≤ c.in_ok-close.close = forest_ordered (sign_of text) text read.forest _ _ read.spelled in
    let next : c.in_ok-start.start + 1 ≡ suc c.in_ok-start.start = omega arith in
    let begins : IsCharBoundary text (c.in_ok-start.start + 1) =
    rw next (cut_behind_open text _ c.requires.utf8 c.in_ok-start.ensures.within c.in_ok-start.ensures.bracket) in
    let forest_is : forest_of text c.read_forest.new.arena.cells.items ≡ read.forest =
    ap (forest_of text) read.kept ∙ forest_of-spelled text (sign_of text) (λ p s. refl) read.forest _ _ read.spelled in
    record {
      placed = record { wide = omega arith; within = omega (arith, read.within, c.if-close-text.false) };
      whole = rw read.kept (ap cells_of (forest_of-spelled text (sign_of text) (λ p s. refl) read.forest _ _ read.spelled));
      each_placed = rw read.kept (are_placed-spelled text (sign_of text) (λ p s. refl) read.forest _ _ read.within read.spelled);
      texts = rw forest_is (are_texts-spelled true text c.requires.utf8 read.forest _ _ begins read.within read.spelled);
    }

pub returns-clause-spelled : goal.returns-clause-spelled
unfolding Spells root_of
returns-clause-spelled c =
    let text = c.args.text.now in
    let sign = sign_of text in
    let read = c.in_ok-close.ensures.ok in
    let next : c.in_ok-start.start + 1 ≡ suc c.in_ok-start.start = omega arith in
    let last : c.in_ok-close.close + 1 ≡ suc c.in_ok-close.close = omega arith in
    let low : c.in_ok-close.close < length text = omega (arith, read.within, c.if-close-text.false) in
    let forest_is : forest_of text c.read_forest.new.arena.cells.items ≡ read.forest =
    ap (forest_of text) read.kept ∙ forest_of-spelled text (sign_of text) (λ p s. refl) read.forest _ _ read.spelled in
    let inside : SpellsForest sign text (suc c.in_ok-start.start) c.in_ok-close.close (forest_of text c.read_forest.new.arena.cells.items) =
    rw (forest_is, ← next) read.spelled in (
      c.requires.utf8,
      (
        c.in_ok-start.ensures.gap,
        c.in_ok-start.ensures.bracket,
        (c.in_ok-close.close, last, inside, read.ends low),
        c.in_ok-check_rest.ensures.ok,
      ),
    )

pub returns-clause-levels : goal.returns-clause-levels
unfolding root_of
returns-clause-levels c =
    let text = c.args.text.now in
    let read = c.in_ok-close.ensures.ok in
    let forest_is : forest_of text c.read_forest.new.arena.cells.items ≡ read.forest =
    ap (forest_of text) read.kept ∙ forest_of-spelled text (sign_of text) (λ p s. refl) read.forest _ _ read.spelled in
    rw forest_is (omega (arith, read.shallow))
