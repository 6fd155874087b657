use Rattle.std.proofs.Common.{◌∙◌, ap}
use Rattle.box_index.specs.BoxSlots.{far_entries}
use Rattle.box_index.proofs.FarLemmas.{far_placed}
use Rattle.box_index.proofs.kept.put_far.Goals as goal

pub returns-clause-ok : goal.returns-clause-ok
returns-clause-ok c = ap far_entries c.in_ok-insert.ensures.entries ∙ far_placed c.args.id c.args.sides c.args.far.now.entries c.requires
