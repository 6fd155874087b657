use Rattle.std.proofs.Common.{List, All, subst, sym}
use Rattle.one_item.specs.declared.item.Item.{Item}
use Rattle.part_read.specs.Ready.{IsReady}
use Rattle.footprint_read.proofs.Standing.{one_ready}
use Rattle.footprint_read.proofs.children.add_child.Goals as goal

pub returns-then-has_head-clause-ready : goal.returns-then-has_head-clause-ready
returns-then-has_head-clause-ready c =
    let board = c.args.board.now in
    let unit = c.args.unit in
    c.in_ok-add_items.ensures.ready board unit c.requires.ready
    (subst (λ (is : List Item). All (IsReady board unit) is) (sym c.in_ok-one.ensures) (one_ready board unit c.in_ok-pad.pad c.in_ok-pad.ensures.ready))
