use Rattle.std.proofs.Common.{take, Ok}
use Rattle.std.specs.List.{flat_map}
use Rattle.drc_io.specs.declared.Failed.{Failed}
use Rattle.drc_rows.specs.Buffer.{Puts}
use Rattle.drc_rows.specs.NetBlock.{link_line}
use Rattle.drc_rows.proofs.net.push_links.Given as goal

-- the lines of the links that have been passed are in the buffer
abbrev pub invariant-loop-link : goal.invariant-loop-link
invariant-loop-link g l =
    Puts {T = Unit {0}} {E = Failed} (g.W.Sink.written l.initial.out) (g.W.Sink.written l.out) (g.W.Sink.faults l.initial.out) (g.W.Sink.faults l.out)
    l.initial.buffer (flat_map (link_line l.board l.anchors) (take l.link-index l.links)) l.buffer (Ok tt)
