use Rattle.std.proofs.Common.{◌≡◌, ◌++◌, false, List, length, Result}
use Rattle.sexpr_read.specs.declared.place.Span.{Span}
use Rattle.sexpr_read.specs.Tree.{parts}
use Rattle.sexpr_read.specs.TreeViews.{tree_of, trees_left}
use Rattle.board_errors.specs.declared.errors.BoardError.{BoardError}
use Rattle.pcb_read.specs.BoardOf.{Reading, SaysParts}
use Rattle.pcb_read.specs.UnitSpans.{SaysSpans}
use Rattle.pcb_read.proofs.root.read_parts.Given as goal

-- what is left says after what was read so far, all parts say, and so with the spans; there is a span for each unit, and without a list of layers there is no copper layer
abbrev pub invariant-loop-part : goal.invariant-loop-part
invariant-loop-part l = record {
  read : (answer : Result Reading BoardError) → SaysParts (record { board = l.board; layered = l.layered }) (trees_left l.part-iterator) answer
      → SaysParts (record { board = l.initial.board; layered = l.initial.layered }) (parts (tree_of l.root)) answer;
  spans : (others : List Span) → SaysSpans (record { board = l.board; layered = l.layered }) (trees_left l.part-iterator) others
      → SaysSpans (record { board = l.initial.board; layered = l.initial.layered }) (parts (tree_of l.root)) (l.spans.items ++ others);
  each : length l.spans.items ≡ l.board.next_unit;
  unlisted : l.layered ≡ false → l.board.copper.bits ≡ 0;
}
