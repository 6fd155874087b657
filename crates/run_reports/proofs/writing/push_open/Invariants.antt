use Rattle.std.proofs.Common.{take, Ok}
use Rattle.std.specs.List.{flat_map}
use Rattle.drc_io.specs.declared.Failed.{Failed}
use Rattle.drc_rows.specs.Buffer.{Puts}
use Rattle.drc_rows.specs.ReportOf.{part_text}
use Rattle.run_reports.proofs.writing.push_open.Given as goal

-- the lines of the nets that have been passed are in the buffer
abbrev pub invariant-loop-part : goal.invariant-loop-part
invariant-loop-part g l =
    Puts {T = Unit {0}} {E = Failed} (g.W.Sink.written l.initial.out) (g.W.Sink.written l.out) (g.W.Sink.faults l.initial.out) (g.W.Sink.faults l.out)
    l.initial.buffer (flat_map (part_text l.board) (take l.part-index l.parts)) l.buffer (Ok tt)
