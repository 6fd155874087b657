use Rattle.std.proofs.Common.{take, Ok}
use Rattle.std.specs.List.{flat_map}
use Rattle.drc_io.specs.declared.Failed.{Failed}
use Rattle.drc_rows.specs.Buffer.{Puts}
use Rattle.drc_rows.specs.NoteLines.{note_line}
use Rattle.drc_rows.proofs.notes.push_items.Given as goal

-- the lines of the notes that have been passed are in the buffer
abbrev pub invariant-loop-note : goal.invariant-loop-note
invariant-loop-note g l =
    Puts {T = Unit {0}} {E = Failed} (g.W.Sink.written l.initial.out) (g.W.Sink.written l.out) (g.W.Sink.faults l.initial.out) (g.W.Sink.faults l.out)
    l.initial.buffer (flat_map (note_line l.board) (take l.note-index l.notes)) l.buffer (Ok tt)
