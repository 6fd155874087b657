use Rattle.sexpr_read.specs.TreeViews.{tree_of}
use Rattle.board_write.proofs.Prefixes.{on_ok}
use Rattle.board_write.proofs.Editing.{added_piece}
use Rattle.board_write.proofs.root.append_spaced.Goals as goal

pub returns : goal.returns
returns c =
    on_ok c.append_list.result
    (added_piece c.args.mark (tree_of c.args.list) c.args.out.now.items c.moving_by-moving.result c.requires c.moving_by-moving.ensures c.in_ok-append.ensures)
    c.append_list.ensures
