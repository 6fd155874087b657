use Rattle.std.proofs.Common.{sym, subst, refl, List}
use Rattle.geo_seg.specs.declared.boxes.Bounds.{Bounds}
use Rattle.row_check.proofs.BlockLists.{AreBehind, more_cut, all_behind}
use Rattle.row_check.proofs.blocks.boxes_of.Goals as goal

pub walk-preserved : goal.walk-preserved
walk-preserved c =
    subst (λ (bs : List Bounds). AreBehind c.args.size bs c.args.entries.now c.split_at.result.0.now) (sym c.in_ok-push.ensures.items)
    (more_cut c.args.size c.walk.boxes.items c.args.entries.now c.walk.left.now c.split_at.result.0.now c.split_at.result.1.now c.box_of.result _ refl c.walk-test.true c.split_at.ensures.front c.split_at.ensures.back c.box_of.ensures c.walk.invariant)

pub returns : goal.returns
returns c = all_behind c.args.size c.walk.boxes.items c.args.entries.now c.walk.left.now c.walk.invariant
