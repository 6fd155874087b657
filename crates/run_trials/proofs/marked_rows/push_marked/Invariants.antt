use Rattle.std.proofs.Common.{take, map, ◌++◌, Ok}
use Rattle.std.specs.List.{flat_map}
use Rattle.drc_io.specs.declared.Failed.{Failed}
use Rattle.drc_rows.specs.Buffer.{Puts}
use Rattle.cond_lang.specs.Rules.{plain_rule}
use Rattle.pair_check.specs.PlainRow.{PlainRow}
use Rattle.drc_rows.specs.Report.{row_line}
use Rattle.run_trials.proofs.marked_rows.push_marked.Given as goal

-- the lines of the rows that have been passed are in the buffer
abbrev pub invariant-loop-row : goal.invariant-loop-row
invariant-loop-row g l =
    Puts {T = Unit {0}} {E = Failed} (g.W.Sink.written l.initial.out) (g.W.Sink.written l.out) (g.W.Sink.faults l.initial.out) (g.W.Sink.faults l.out)
    l.initial.buffer (flat_map (λ (row : PlainRow). l.mark ++ row_line l.view.board.now (map plain_rule l.view.rules.now) row) (take l.row-index l.rows)) l.buffer (Ok tt)
