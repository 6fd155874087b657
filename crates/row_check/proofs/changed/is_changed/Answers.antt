use Rattle.std.proofs.Common.{◌∙◌}
use Rattle.row_check.proofs.TileWalk.{changed_is}
use Rattle.row_check.proofs.changed.is_changed.Goals as goal

pub returns-in_default : goal.returns-in_default
returns-in_default c = c.is_ok.ensures.value ∙ changed_is c.args.changed.now c.args.id c.binary_search.result c.binary_search.ensures.position c.requires
