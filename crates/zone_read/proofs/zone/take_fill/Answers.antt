use Rattle.std.proofs.Common.{◌≡◌, ◌∙◌, sym, ap, subst, ℕ, List, length, codes, true, Some, Ok}
use Rattle.sexpr_read.specs.TreeViews.{tree_of}
use Rattle.one_item.specs.declared.item.Item.{Item}
use Rattle.list_read.specs.ListHeads.{has_head}
use Rattle.part_read.specs.Lists.{before}
use Rattle.zone_read.specs.ZoneOf.{fill_layer, fill_in_capacity, fills_after}
use Rattle.part_read.specs.Ready.{AreReady}
use Rattle.part_read.specs.Capacity.{has_capacity_after}
use Rattle.zone_read.proofs.Filling.{filled}
use Rattle.zone_read.proofs.Admitting.{more_ready}
use Rattle.zone_read.proofs.zone.take_fill.Goals as goal

pub returns-clause-taken : goal.returns-clause-taken
returns-clause-taken c rest =
    let t = tree_of c.args.part in
    let tree = tree_of c.args.node in
    let head : has_head (codes "filled_polygon") t ≡ true = sym c.has_head.ensures ∙ c.if-not-has_head.false in
    let on : fill_layer c.args.owner.now.board.now.copper t ≡ Ok (Some c.in-Some.layer) = cc (c.in_ok-layer.ensures.layer, c.copper.ensures, c.in-Some.is) in
    let made : fill_in_capacity (length c.args.fills.now.items) c.args.owner.now.board.now c.args.owner.now.unit c.args.owner.now.net tree t c.in-Some.layer ≡ Ok c.in_ok-fill.fill =
    subst (λ (n : ℕ). fill_in_capacity n c.args.owner.now.board.now c.args.owner.now.unit c.args.owner.now.net tree t c.in-Some.layer ≡ Ok c.in_ok-fill.fill) (ap (λ (items : List Item). length items) c.as_slice.ensures.value) c.in_ok-fill.ensures.fill in
    filled c.args.owner.now.board.now c.args.owner.now.unit c.args.owner.now.net tree t rest c.args.fills.now.items head c.in-Some.layer c.in_ok-fill.fill on made
    ∙ ap (λ (items : List Item). before items (fills_after (length items) c.args.owner.now.board.now c.args.owner.now.unit c.args.owner.now.net tree rest)) (sym c.in_ok-push_item.ensures)

pub returns-clause-ready : goal.returns-clause-ready
returns-clause-ready c =
    let board = c.args.owner.now.board.now in
    let old = c.args.fills.now.items in
    let capacity : has_capacity_after (length old) board c.args.owner.now.unit ≡ true = subst (λ (n : ℕ). has_capacity_after n board c.args.owner.now.unit ≡ true) (ap (λ (items : List Item). length items) c.as_slice.ensures.value) c.in_ok-fill.ensures.capacity in
    subst (λ (items : List Item). AreReady board c.args.owner.now.unit items) (sym c.in_ok-push_item.ensures)
    (more_ready board c.args.owner.now.unit old c.in_ok-fill.fill c.requires.ready c.in_ok-fill.ensures.ready capacity)
