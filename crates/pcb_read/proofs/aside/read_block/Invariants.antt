use Rattle.std.proofs.Common.{◌≡◌, false, length, map, Result}
use Rattle.std.specs.Vec.Iter.{into_iter_items, into_iter_len}
use Rattle.board_errors.specs.declared.errors.BoardError.{BoardError}
use Rattle.pcb_read.specs.BoardOf.{Reading, SaysParts}
use Rattle.pcb_read.specs.PartSlots.{tree_in, reading_of}
use Rattle.pcb_read.proofs.aside.read_block.Given as goal

-- what is left says after what was read so far, all parts say
abbrev pub invariant-loop-slot : goal.invariant-loop-slot
invariant-loop-slot l = record {
  says : (answer : Result Reading BoardError) → SaysParts (reading_of l.read) (map tree_in (into_iter_items l.slot-iterator)) answer
      → SaysParts (reading_of l.initial.read) (map tree_in l.fn.block.items) answer;
  unlisted : l.read.layered ≡ false → l.read.board.copper.bits ≡ 0;
  many : into_iter_len l.slot-iterator ≡ length (into_iter_items l.slot-iterator);
}
