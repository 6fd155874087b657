use Rattle.std.proofs.Common.{◌≡◌, false, refl, sym, ◌∙◌}
use Rattle.geo_seg.proofs.Choices.{surely, surely_not}
use Rattle.item_copper.specs.MeasuredSides.{is_taken}
use Rattle.item_copper.proofs.Chosen.{one_more}
use Rattle.item_copper.proofs.SideLists.{none_up_to, not_none}
use Rattle.item_copper.proofs.measured_pair.lists_none.Goals as goal

pub returns-then-takes : goal.returns-then-takes
returns-then-takes c =
    surely_not _ refl (not_none (is_taken c.args.listed.now.layer) c.args.listed.now.parts.now c.loop-part.part-index c.part-item.result c.loop-part-test.true c.part-item.is (sym c.takes.ensures ∙ c.if-takes.true))

pub loop-part-preserved : goal.loop-part-preserved
loop-part-preserved c =
    one_more (λ part. is_taken c.args.listed.now.layer part ≡ false) c.args.listed.now.parts.now c.loop-part.part-index c.part-item.result c.loop-part-test.true c.part-item.is (sym c.takes.ensures ∙ c.if-takes.false) c.loop-part.invariant

pub returns : goal.returns
returns c = surely _ refl (none_up_to (is_taken c.args.listed.now.layer) c.args.listed.now.parts.now c.loop-part.part-index c.loop-part-test.false c.loop-part.invariant)
