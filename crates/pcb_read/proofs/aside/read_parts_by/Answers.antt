use Rattle.std.proofs.Common.{◌∙◌, map}
use Rattle.sexpr_read.specs.Tree.{parts}
use Rattle.sexpr_read.specs.TreeViews.{tree_of, trees_left}
use Rattle.pcb_read.specs.PartSlots.{tree_in, trees_ahead, reading_of}
use Rattle.pcb_read.proofs.Slotting.{block_refused, block_read}
use Rattle.pcb_read.proofs.aside.read_parts_by.Goals as goal

pub returns-in-Err : goal.returns-in-Err
returns-in-Err g c =
    let ahead = c.blocks-2.ahead in
    block_refused (reading_of c.args.read.now) (reading_of c.blocks-2.read) (parts (tree_of c.args.root)) (map tree_in ahead.block.items) (trees_left ahead.left) c.in-Err.error c.blocks-2.invariant.says c.in-Err.ensures.says

pub blocks-2-preserved : goal.blocks-2-preserved
blocks-2-preserved g c =
    let ahead = c.blocks-2.ahead in
    let read = c.in_default.ensures in
    record {
      says = block_read (reading_of c.args.read.now) (reading_of c.blocks-2.read) (reading_of c.read_next.new.read) (parts (tree_of c.args.root)) (map tree_in ahead.block.items) (trees_left ahead.left)
          (trees_ahead c.read_next.new.ahead) c.blocks-2.invariant.says read.next.0 read.says;
      last = λ none. read.next.0 ∙ read.next.1 none;
      unlisted = read.unlisted;
    }
