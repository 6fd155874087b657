use Rattle.std.proofs.Common.{sym}
use Rattle.std.proofs.lemmas.Result.{err_from_is_err_and}
use Rattle.drc_io.specs.declared.Failed.{Failed}
use Rattle.drc_rows.proofs.Lines.{Puts-then, Puts-cut, Puts-text, Puts-through, Puts-none, Puts-append}
use Rattle.drc_rows.proofs.buffer.ReportBuffer.push_over.Goals as goal

pub returns-in_err-put_all : goal.returns-in_err-put_all
returns-in_err-put_all g c =
    let p = err_from_is_err_and c.from_residual-in_err-put_all.result c.from_residual-in_err-put_all.ensures.1 in
    Puts-cut _ _ _ _ _ _ _ _ _ _ _ _ _ p.1 c.split_at.ensures.by_index.0
    (Puts-then _ _ _ _ _ _ _ _ _ _ _ _ _ c.in_ok-flush.ensures.puts (Puts-through _ _ _ _ _ _ _ c.in_ok-flush.ensures.empty c.in_err-put_all.ensures))

pub returns : goal.returns
returns g c =
    Puts-text _ _ _ _ _ _ _ _ _ (sym c.split_at.ensures.by_index.0)
    (Puts-then _ _ _ _ _ _ _ _ _ _ _ _ _
    (Puts-then _ _ _ _ _ _ _ _ _ _ _ _ _ c.in_ok-flush.ensures.puts (Puts-through _ _ _ _ _ _ _ c.in_ok-flush.ensures.empty c.in_ok-put_all.ensures))
    (Puts-append {S = Unit {0}} {T = Unit {0}} {E = Failed} {D = Failed} _ _ _ _ _ _ _ _ tt tt (Puts-none _ _ _ tt) c.append.ensures))
