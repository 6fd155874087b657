use Rattle.std.proofs.Common.{arith, ◌∙◌, sym, get_or}
use Rattle.json_exact.proofs.Scanning.{row_stops, row_inside, row_more, row_less, steps_step}
use Rattle.json_exact.specs.Scans.{way_of}
use Rattle.json_exact.proofs.strings.row_end.Goals as goal
use Rattle.json_exact.proofs.strings.row_end.Goals.{then-i-text-via-then-i-text, then-i-text-via-else-i-text+then-not-accepts}

pub returns-then-i-text : goal.returns-then-i-text
returns-then-i-text c =
    row_stops c.args.row.now c.row.class-index c.args.text.now c.args.at c.row.i c.row-test.true c.row.invariant.0 c.row.invariant.1 c.row.invariant.2 c.row.invariant.3
    (λ in'. elim c.then-i-text.branch [
      | then-i-text-via-then-i-text w ↦ absurd (omega arith)
      | then-i-text-via-else-i-text+then-not-accepts w ↦ row_less c.args.row.now c.row.class-index _ (get_or c.args.text.now c.row.i 0) c.row-test.true (sym w.accepts.ensures ∙ w.if-not-accepts.true)
    ])

pub row-preserved : goal.row-preserved
row-preserved c = (
  omega arith,
  omega arith,
  steps_step (way_of c.args.row.now) _ c.args.text.now c.args.at c.row.i c.row.invariant.0 (omega arith) c.row.invariant.2
      ∙ row_more c.args.row.now c.row.class-index _ (get_or c.args.text.now c.row.i 0) c.row-test.true (sym c.accepts.ensures ∙ c.if-not-accepts.false),
  λ j h k. row_inside c.args.row.now c.row.class-index c.args.text.now c.args.at c.row.i j c.row-test.true c.row.invariant.2 c.row.invariant.3 h k,
)
