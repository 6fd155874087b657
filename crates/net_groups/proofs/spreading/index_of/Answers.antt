use Rattle.std.proofs.Common.{pos, ap, arith}
use Rattle.std.proofs.lemmas.List.{get_or_default}
use Rattle.box_index.specs.Tiles.{PlainIndex}
use Rattle.net_groups.proofs.Held.{held_more}
use Rattle.net_groups.proofs.spreading.index_of.Goals as goal

pub loop-place-preserved : goal.loop-place-preserved
loop-place-preserved c =
    held_more c.args.item_boxes.now c.loop-place.place c.loop-place.index c.insert.new.self _ _ (omega (arith, c.requires.few, c.loop-place-test.true)) c.loop-place.invariant
    (λ d. get_or_default c.args.item_boxes.now c.loop-place.place (record { left = pos 0; top = pos 0; right = pos 0; bottom = pos 0 }) d c.loop-place-test.true)
    (ap (λ (x : PlainIndex). x.entries) c.in_ok-insert.ensures.ok)
