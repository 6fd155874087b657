use Rattle.std.proofs.Common.{◌∙◌, List, All, subst, sym}
use Rattle.sexpr_read.specs.TreeViews.{tree_of}
use Rattle.part_read.specs.Ready.{IsReady}
use Rattle.footprint_read.specs.declared.contents.Given.{Given}
use Rattle.footprint_read.specs.FootprintOf.{items_of}
use Rattle.footprint_read.proofs.Standing.{all_ready, ready_in_capacity, placed_fits}
use Rattle.footprint_read.proofs.footprint.finished.Goals as goal

pub returns-clause-ready : goal.returns-clause-ready
returns-clause-ready c =
    let board = c.args.board.now in
    let unit = c.args.unit in
    let fits = placed_fits c.args.head c.args.courts.front c.args.courts.back (sym c.is_placed.ensures ∙ c.if-not-is_placed.false) in
    let all = all_ready board unit c.args.head (tree_of c.args.node) c.args.given c.args.courts.front c.args.courts.back c.requires.net fits c.requires.front c.requires.back c.requires.given in
    ready_in_capacity board unit c.into_list.result.items c.in_ok-items.items.items
    (subst (λ (gs : List Given). All (IsReady board unit) (items_of gs)) (sym (c.into_list.ensures ∙ c.in_ok-all.ensures)) all) c.in_ok-items.ensures
