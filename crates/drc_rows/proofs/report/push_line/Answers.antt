use Rattle.std.proofs.Common.{◌≡◌, ◌++◌, codes, decimal, rules, append_assoc}
use Rattle.drc_rows.proofs.Lines.{Puts-text}
use Rattle.drc_rows.specs.Report.{number_line}
use Rattle.drc_rows.proofs.report.push_line.Goals as goal

pub returns : goal.returns
unfolding number_line
returns g c =
    let number : c.as_bytes.result.now ≡ decimal c.args.number = search rules in
    let text : c.args.before.now ++ (c.as_bytes.result.now ++ (c.args.after.now ++ codes "\n")) ≡ c.args.before.now ++ decimal c.args.number ++ c.args.after.now ++ codes "\n" = rw number (simp append_assoc) in
    Puts-text _ _ _ _ _ _ _ _ _ text c.push_all.ensures
