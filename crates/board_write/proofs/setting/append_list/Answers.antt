use Rattle.sexpr_read.specs.TreeViews.{tree_of, trees_left}
use Rattle.board_write.proofs.Prefixes.{on_ok}
use Rattle.board_write.proofs.SetDown.{list_whole}
use Rattle.board_write.proofs.setting.append_list.Goals as goal

pub returns : goal.returns
returns c =
    on_ok c.append-2.result
    (list_whole c.args.setting (tree_of c.args.list) c.args.moving (trees_left c.children.result) c.span-span.result c.end_inside.result c.args.out.now.items c.span-span.ensures c.end_inside.ensures c.children.ensures.given c.in_ok-append.ensures c.in_ok-append_parts.ensures)
    c.append-2.ensures
