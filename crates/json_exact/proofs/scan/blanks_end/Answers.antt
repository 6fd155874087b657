use Rattle.std.proofs.Common.{arith, sym, ◌∙◌}
use Rattle.json_exact.proofs.Scanning.{blanks_step}
use Rattle.json_exact.proofs.scan.blanks_end.Goals as goal

pub blanks-preserved : goal.blanks-preserved
blanks-preserved c =
    (omega arith, omega arith, blanks_step c.args.text.now c.args.at c.blanks.i c.blanks.invariant.0 c.blanks-test.true c.blanks.invariant.2 (sym c.is_blank.ensures ∙ c.if-not-is_blank.false))
