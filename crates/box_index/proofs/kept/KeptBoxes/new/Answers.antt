use Rattle.box_index.proofs.FarLemmas.{no_entries}
use Rattle.box_index.proofs.kept.KeptBoxes.new.Goals as goal

pub returns : goal.returns
returns c = no_entries c.new.result.items c.new-2.result.entries c.new.ensures.items c.new-2.ensures.empty
