use Rattle.std.proofs.Common.{◌∙◌, sym, ap, List, Ok}
use Rattle.one_item.specs.declared.item.Item.{Item}
use Rattle.sexpr_read.specs.TreeViews.{tree_of}
use Rattle.part_read.specs.Graphics.{one_item, graphic_by}
use Rattle.part_read.proofs.Graphical.{graphic_ready}
use Rattle.part_read.proofs.graphics.read_graphic.Goals as goal

pub returns-in_ok-one-in-Copper-clause-ready : goal.returns-in_ok-one-in-Copper-clause-ready
returns-in_ok-one-in-Copper-clause-ready c =
    let args = c.args in
    graphic_ready args.board.now args.unit args.placement args.kind (tree_of args.node) args.lies _ c.soundness.ensures.sound.no_net c.requires.on
    (ap (graphic_by args.board.now args.unit args.placement args.kind (tree_of args.node)) c.in-Copper.is ∙ ap one_item c.in_ok-item-in-Copper.ensures.read ∙ ap (λ (items : List Item). Ok items) (sym c.in_ok-one-in-Copper.ensures))

pub returns-in_ok-one-in-Outlines-clause-ready : goal.returns-in_ok-one-in-Outlines-clause-ready
returns-in_ok-one-in-Outlines-clause-ready c =
    let args = c.args in
    graphic_ready args.board.now args.unit args.placement args.kind (tree_of args.node) args.lies _ c.soundness.ensures.sound.no_net c.requires.on
    (ap (graphic_by args.board.now args.unit args.placement args.kind (tree_of args.node)) c.in-Outlines.is ∙ ap one_item c.in_ok-item-in-Outlines.ensures.read ∙ ap (λ (items : List Item). Ok items) (sym c.in_ok-one-in-Outlines.ensures))
