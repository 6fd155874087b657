use Rattle.std.proofs.Common.{sym, ◌∙◌}
use Rattle.geo_seg.specs.declared.shapes.Shape.{Shape}
use Rattle.geo_seg.specs.Distances.{Meet}
use Rattle.one_item.specs.declared.parts.Part.{Part}
use Rattle.item_copper.specs.MeasuredSides.{is_taken}
use Rattle.item_copper.proofs.Chosen.{surely_chosen, surely_none_chosen}
use Rattle.item_copper.proofs.measured_pair.meets_listed.Goals as goal

abbrev Meets : Shape → Part → Type 0
Meets shape other = Meet shape other.shape

pub returns-then-meet : goal.returns-then-meet
returns-then-meet c =
    surely_chosen (Meets c.args.shape.now) (is_taken c.args.listed.now.layer) c.args.listed.now.parts.now c.loop-other.other-index c.other-item.result c.loop-other-test.true c.other-item.is
    (sym c.takes.ensures ∙ c.if-takes.true) (c.meet.ensures.0 c.if-meet.true)

pub returns : goal.returns
returns c = surely_none_chosen (Meets c.args.shape.now) (is_taken c.args.listed.now.layer) c.args.listed.now.parts.now c.loop-other.other-index c.loop-other-test.false c.loop-other.invariant
