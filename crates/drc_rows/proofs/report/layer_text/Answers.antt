use Rattle.kind_subjects.proofs.KindLayers.{layer_below}
use Rattle.drc_rows.proofs.report.layer_text.Goals as goal

pub layer_name-requires : goal.layer_name-requires
layer_name-requires c = layer_below c.args.row.now.kind c.in-Copper.layer c.in-Copper.ensures.of_kind
