use Rattle.sexpr_read.specs.TreeViews.{tree_of}
use Rattle.board_write.proofs.Prefixes.{if_ok, prefix_opened, prefix_whole}
use Rattle.board_write.proofs.setting.append_opening.Goals as goal

pub returns-in-Some : goal.returns-in-Some
returns-in-Some c =
    if_ok c.append_place.result
    (λ left h. prefix_whole c.args.setting c.args.moving (tree_of c.args.list) c.span.result c.args.out.now.items c.append_place.new.out.items c.in-Some.place left c.span.ensures c.in_ok-append.ensures c.in-Some.ensures.stands c.in-Some.ensures.numbers h)
    c.append_place.ensures

pub returns-in-None : goal.returns-in-None
returns-in-None c =
    prefix_opened c.args.setting c.args.moving (tree_of c.args.list) c.span.result c.args.out.now.items c.append.new.out.items c.children.result c.span.ensures c.in_ok-append.ensures c.children.ensures.given c.in-None.ensures.numbers
