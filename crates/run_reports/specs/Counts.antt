-- The numbers of a short report.
use Rattle.std.specs.Prelude.{ℕ, List, [], ◌++◌, codes}
use Rattle.drc_rows.specs.Report.{number_line}

-- how many rows, notes and open nets there are
abbrev pub counts_text : ℕ → ℕ → ℕ → List ℕ
counts_text rows notes nets = number_line (codes "rows ") rows [] ++ number_line (codes "not checked ") notes [] ++ number_line (codes "open nets ") nets []
