use Rattle.std.proofs.Common.{ℕ, ap, [], codes}
use Rattle.std.proofs.lemmas.Result.{err_from_is_err_and}
use Rattle.drc_rows.proofs.Lines.{Puts-then, Puts-stop, Puts-text}
use Rattle.drc_rows.specs.Report.{number_line}
use Rattle.run_reports.proofs.writing.push_parts.Goals as goal

pub returns-in_err-push_open : goal.returns-in_err-push_open
returns-in_err-push_open g c =
    let p = err_from_is_err_and c.from_residual.result c.from_residual.ensures.1 in
    Puts-stop _ _ _ _ _ _ _ _ _ _ _ _ p.1 c.in_err-push_open.ensures

pub returns : goal.returns
returns g c =
    let count = ap (λ (n : ℕ). number_line (codes "open nets ") n []) c.count_open.ensures in
    Puts-then _ _ _ _ _ _ _ _ _ _ _ _ _ c.in_ok-push_open.ensures (Puts-text _ _ _ _ _ _ _ _ _ count c.push_line.ensures)
