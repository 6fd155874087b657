use Rattle.std.proofs.Common.{sym, ap, ◌∙◌, map}
use Rattle.std.proofs.lemmas.Result.{err_from_is_err_and}
use Rattle.cond_lang.specs.Rules.{plain_rule}
use Rattle.drc_rows.specs.Report.{source_text}
use Rattle.drc_rows.proofs.Lines.{Puts-then, Puts-stop, Puts-text}
use Rattle.drc_rows.proofs.report.push_asked.Goals as goal

pub push_source-requires : goal.push_source-requires
push_source-requires g c = λ n e. c.requires n (sym c.source.ensures ∙ e)

pub returns-in_err-push : goal.returns-in_err-push
returns-in_err-push g c =
    let p = err_from_is_err_and c.from_residual.result c.from_residual.ensures.1 in
    Puts-stop _ _ _ _ _ _ _ _ _ _ _ _ p.1 c.in_err-push.ensures

pub returns : goal.returns
returns g c =
    let source = ap (source_text (map plain_rule c.args.rules.now)) c.source.ensures in
    Puts-then _ _ _ _ _ _ _ _ _ _ _ _ _ c.in_ok-push.ensures (Puts-text _ _ _ _ _ _ _ _ _ source c.push_source.ensures)
