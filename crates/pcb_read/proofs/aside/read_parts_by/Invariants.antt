use Rattle.std.proofs.Common.{◌≡◌, [], false, length, Result}
use Rattle.board_errors.specs.declared.errors.BoardError.{BoardError}
use Rattle.sexpr_read.specs.Tree.{parts}
use Rattle.sexpr_read.specs.TreeViews.{tree_of}
use Rattle.pcb_read.specs.BoardOf.{Reading, SaysParts}
use Rattle.pcb_read.specs.PartSlots.{trees_ahead, reading_of}
use Rattle.pcb_read.proofs.aside.read_parts_by.Given as goal

-- what is ahead says after what was read so far, all parts say; an empty block is the last
abbrev pub invariant-blocks-2 : goal.invariant-blocks-2
invariant-blocks-2 g l = record {
  says : (answer : Result Reading BoardError) → SaysParts (reading_of l.read) (trees_ahead l.ahead) answer
      → SaysParts (reading_of l.initial.read) (parts (tree_of l.root)) answer;
  last : l.ahead.block.items ≡ [] → trees_ahead l.ahead ≡ [];
  unlisted : l.read.layered ≡ false → l.read.board.copper.bits ≡ 0;
}

abbrev pub decreases-blocks-2 : goal.decreases-blocks-2
decreases-blocks-2 g l = length (trees_ahead l.ahead)
