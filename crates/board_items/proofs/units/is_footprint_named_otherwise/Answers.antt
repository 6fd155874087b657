use Rattle.std.proofs.Common.{◌∙◌, ap}
use Rattle.board_items.specs.Units.{has_body_named_otherwise}
use Rattle.board_items.proofs.Named.{body_of_unit}
use Rattle.board_items.proofs.units.is_footprint_named_otherwise.Goals as goal

pub returns : goal.returns
returns c = c.has_body_named_otherwise.ensures ∙ ap (has_body_named_otherwise c.args.name.now) c.of_unit.ensures.items ∙ body_of_unit c.args.unit c.args.name.now c.args.board.now.items
