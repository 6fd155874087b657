use Rattle.std.proofs.Common.{subst, sym, arith}
use Rattle.std.proofs.lemmas.Result.{err_from_is_err_and}
use Rattle.drc_rows.specs.ReportOf.{part_text}
use Rattle.net_groups.specs.NetParts.{IsWritable}
use Rattle.drc_rows.proofs.Lines.{flat_more_at, flat_rest_at, Puts-then, Puts-cut, Puts-text}
use Rattle.run_reports.proofs.writing.push_open.Goals as goal

pub push_part-requires : goal.push_part-requires
push_part-requires g c = subst (IsWritable c.args.board.now) (sym c.part-item.is) (c.requires c.loop-part.part-index c.part-item.result (omega arith))

pub returns-in_err-push_part : goal.returns-in_err-push_part
returns-in_err-push_part g c =
    let p = err_from_is_err_and c.from_residual.result c.from_residual.ensures.1 in
    Puts-cut _ _ _ _ _ _ _ _ _ _ _ _ _ p.1 (flat_rest_at (part_text c.args.board.now) c.args.parts.now c.loop-part.part-index c.part-item.result (omega arith) c.part-item.is)
    (Puts-then _ _ _ _ _ _ _ _ _ _ _ _ _ c.loop-part.invariant c.in_err-push_part.ensures)

pub loop-part-preserved : goal.loop-part-preserved
loop-part-preserved g c =
    Puts-text _ _ _ _ _ _ _ _ _ (sym (flat_more_at (part_text c.args.board.now) c.args.parts.now c.loop-part.part-index c.part-item.result (omega arith) c.part-item.is))
    (Puts-then _ _ _ _ _ _ _ _ _ _ _ _ _ c.loop-part.invariant c.in_ok-push_part.ensures)
