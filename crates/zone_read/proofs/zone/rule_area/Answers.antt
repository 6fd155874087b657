use Rattle.std.proofs.Common.{◌≡◌, sym, ap, subst, refl, true, []}
use Rattle.sexpr_read.specs.TreeViews.{tree_of}
use Rattle.one_item.specs.declared.item.Item.{Item}
use Rattle.board_items.specs.Boards.{is_admitted}
use Rattle.zone_read.proofs.Filling.{area_is}
use Rattle.zone_read.proofs.Admitting.{area_admitted}
use Rattle.part_read.specs.ElementResults.{name_in}
use Rattle.part_read.specs.Figures.{first_of}
use Rattle.part_read.proofs.Plain.{plain_by}
use Rattle.zone_read.proofs.zone.rule_area.Goals as goal

pub returns-clause-area : goal.returns-clause-area
returns-clause-area c =
    area_is c.args.owner.now.board.now c.args.owner.now.unit (tree_of c.args.node) c.args.owner.now.net c.args.layers c.args.title (tree_of c.args.keepout) c.in_ok-bans.bans c.in_ok-corners.corners c.in_ok-shape.shape c.plain_item.result
    (sym c.in_ok-bans.ensures) c.in_ok-corners.ensures c.in_ok-shape.ensures.shape
    (plain_by c.plain_item.result _ _ c.args.owner.now.unit c.args.owner.now.net _ _ _ _ _ _ c.plain_item.ensures c.in_ok-name.ensures c.first_of.ensures c.no_parts.ensures c.in_ok-what.ensures refl)

pub returns-clause-ready : goal.returns-clause-ready
returns-clause-ready c =
    let corners = c.in_ok-corners.corners in
    let name = name_in (tree_of c.args.node) in
    let same = plain_by c.plain_item.result _ name c.args.owner.now.unit c.args.owner.now.net _ (first_of corners) _ [] _ _ c.plain_item.ensures c.in_ok-name.ensures c.first_of.ensures c.no_parts.ensures c.in_ok-what.ensures refl in
    let fine = area_admitted c.args.owner.now.board.now name c.args.owner.now.unit c.args.owner.now.net (first_of corners) c.args.title c.in_ok-bans.bans c.args.layers c.in_ok-shape.shape c.in_ok-shape.ensures.near c.requires.net c.requires.on in
    record { admitted = subst (λ (item : Item). is_admitted c.args.owner.now.board.now item ≡ true) (sym same) fine; of_unit = ap (λ (item : Item). item.unit) same }
