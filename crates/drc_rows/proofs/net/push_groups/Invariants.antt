use Rattle.std.proofs.Common.{take, Ok}
use Rattle.std.specs.List.{flat_map}
use Rattle.drc_io.specs.declared.Failed.{Failed}
use Rattle.drc_rows.specs.Buffer.{Puts}
use Rattle.drc_rows.specs.NetBlock.{group_line}
use Rattle.drc_rows.proofs.net.push_groups.Given as goal

-- the lines of the groups that have been passed are in the buffer
abbrev pub invariant-loop-group : goal.invariant-loop-group
invariant-loop-group g l =
    Puts {T = Unit {0}} {E = Failed} (g.W.Sink.written l.initial.out) (g.W.Sink.written l.out) (g.W.Sink.faults l.initial.out) (g.W.Sink.faults l.out)
    l.initial.buffer (flat_map (group_line l.board) (take l.group-index l.groups)) l.buffer (Ok tt)
