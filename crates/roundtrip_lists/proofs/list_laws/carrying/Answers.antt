use Rattle.roundtrip_lists.proofs.Circles.{end_within}
use Rattle.roundtrip_lists.proofs.Composing.{carried_both}
use Rattle.roundtrip_lists.proofs.Figures.{parts_carried}
use Rattle.roundtrip_lists.proofs.list_laws.carrying.Goals as goal

pub returns : goal.returns
returns c = record { parts = parts_carried; both = carried_both; ends = end_within }
