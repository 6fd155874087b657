use Rattle.std.proofs.Common.{arith, sym, ◌∙◌}
use Rattle.json_exact.proofs.Scanning.{written_step, not_misplaced}
use Rattle.json_exact.proofs.scan.number_end.Goals as goal

pub digits-preserved : goal.digits-preserved
digits-preserved c = (
  omega arith,
  omega arith,
  written_step c.args.text.now c.args.at c.digits.i c.digits.last _ c.digits.invariant.0 (omega arith) c.digits.invariant.2 c.then-longer.ensures,
  not_misplaced _ (sym c.eq.ensures ∙ c.if-eq.false),
)
