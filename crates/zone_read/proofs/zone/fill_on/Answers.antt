use Rattle.std.proofs.Common.{◌≡◌, ◌∙◌, sym, ap, subst, refl, true}
use Rattle.sexpr_read.specs.TreeViews.{tree_of}
use Rattle.one_item.specs.declared.item.What.TheVariants.{Fill}
use Rattle.one_item.specs.declared.item.Item.{Item}
use Rattle.copper_layers.specs.Layers.{single_layer}
use Rattle.board_items.specs.Boards.{is_admitted}
use Rattle.part_read.specs.ElementResults.{name_in}
use Rattle.part_read.specs.OnBoard.{fits_board}
use Rattle.part_read.specs.Figures.{first_of}
use Rattle.part_read.proofs.Plain.{plain_by}
use Rattle.zone_read.proofs.Admitting.{fill_admitted, part_is}
use Rattle.zone_read.proofs.zone.fill_on.Goals as goal

pub returns-clause-ready : goal.returns-clause-ready
returns-clause-ready c board of on =
    let corners = c.in_ok-corners.corners in
    let shape = c.in-Some.shape in
    let near : fits_board (first_of corners) ≡ true = rw c.in-Some.is at c.in_ok-shape.ensures.near in
    let copper = c.one_part-copper.ensures ∙ part_is c.of.result (single_layer c.args.layer) shape c.of.ensures.value in
    let same = plain_by c.plain_item.result _ (name_in (tree_of c.args.node)) c.args.unit c.args.net _ (first_of corners) _ _ Fill Fill c.plain_item.ensures c.in_ok-name.ensures c.first_of.ensures copper refl refl in
    record {
      admitted = subst (λ (item : Item). is_admitted board item ≡ true) (sym same) (fill_admitted board (name_in (tree_of c.args.node)) c.args.unit c.args.net (first_of corners) c.args.layer shape near of on);
      of_unit = ap (λ (item : Item). item.unit) same;
    }
