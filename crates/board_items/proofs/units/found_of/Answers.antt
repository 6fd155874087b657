use Rattle.std.proofs.Common.{◌∙◌, sym}
use Rattle.board_items.proofs.Named.{found_none, found_shared, found_inside, found_unit}
use Rattle.board_items.proofs.units.found_of.Goals as goal

pub returns-in_default : goal.returns-in_default
returns-in_default c =
    found_none c.args.name.now c.bytes.result.now c.args.board.now.items c.bytes.ensures.value (sym c.if-is_empty.false ∙ c.is_empty.ensures)
    (sym c.named-items.ensures.items ∙ c.in_default.ensures.steps.0)

pub returns-then-has_other_unit : goal.returns-then-has_other_unit
returns-then-has_other_unit c =
    found_shared c.args.name.now c.bytes.result.now c.args.board.now.items c.bytes.ensures.value (sym c.if-is_empty.false ∙ c.is_empty.ensures) _ _
    (sym c.named-items.ensures.items ∙ c.in-Some.ensures.steps) (sym c.has_other_unit.ensures ∙ c.if-has_other_unit.true)

pub returns-then-is_footprint_named_otherwise : goal.returns-then-is_footprint_named_otherwise
returns-then-is_footprint_named_otherwise c =
    found_inside c.args.name.now c.bytes.result.now c.args.board.now.items c.bytes.ensures.value (sym c.if-is_empty.false ∙ c.is_empty.ensures) _ _
    (sym c.named-items.ensures.items ∙ c.in-Some.ensures.steps) (sym c.has_other_unit.ensures ∙ c.if-has_other_unit.false)
    (sym c.is_footprint_named_otherwise.ensures ∙ c.if-is_footprint_named_otherwise.true)

pub returns-else-is_footprint_named_otherwise : goal.returns-else-is_footprint_named_otherwise
returns-else-is_footprint_named_otherwise c =
    found_unit c.args.name.now c.bytes.result.now c.args.board.now.items c.bytes.ensures.value (sym c.if-is_empty.false ∙ c.is_empty.ensures) _ _
    (sym c.named-items.ensures.items ∙ c.in-Some.ensures.steps) (sym c.has_other_unit.ensures ∙ c.if-has_other_unit.false)
    (sym c.is_footprint_named_otherwise.ensures ∙ c.if-is_footprint_named_otherwise.false)
