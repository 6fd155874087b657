use Rattle.std.proofs.Common.{◌≡◌, length, sym, ap, ◌∙◌, arith}
use Rattle.std.proofs.lemmas.List.{get_or_default}
use Rattle.geo_seg.specs.Boxes.{FitsWithin}
use Rattle.net_groups.specs.Stretches.{stretched}
use Rattle.net_groups.proofs.Stretched.{stretched_more, stretched_fits, stretched_all}
use Rattle.net_groups.proofs.Asked.{no_bounds}
use Rattle.std.proofs.Common.{get_or, subst, pos}
use Rattle.net_groups.proofs.spreading.stretch_all.Goals as goal

pub loop-item_box-preserved : goal.loop-item_box-preserved
loop-item_box-preserved c =
    let item_boxes = c.args.item_boxes.now in
    let k = c.loop-item_box.item_box-index in
    let fits = stretched_fits c.args.stretch (get_or item_boxes k no_bounds) (c.requires k no_bounds c.loop-item_box-test.true) in
    rw c.in_ok-push.ensures.items
    (stretched_more c.args.stretch item_boxes k c.loop-item_box.wide.items c.stretched.result c.loop-item_box.invariant (subst (FitsWithin (pos 1500000000)) (sym c.stretched.ensures) fits)
    (λ d. c.stretched.ensures ∙ ap (stretched c.args.stretch) (get_or_default item_boxes k no_bounds d c.loop-item_box-test.true)))

pub returns : goal.returns
returns c =
    let last : c.loop-item_box.item_box-index ≡ length c.args.item_boxes.now = omega arith in
    stretched_all c.args.stretch c.args.item_boxes.now c.loop-item_box.item_box-index c.loop-item_box.wide.items last c.loop-item_box.invariant
