use Rattle.std.proofs.Common.{drop}
use Rattle.board_items.specs.Boards.{marks_of}
use Rattle.item_facts.proofs.Marked.{AreMarked}
use Rattle.item_facts.proofs.near.index_marks.Given as goal

abbrev pub invariant-loop-id : goal.invariant-loop-id
invariant-loop-id l = AreMarked l.board.items (drop l.id-index (marks_of l.board.items)) l.index
