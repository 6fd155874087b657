use Rattle.box_index.proofs.KeptLemmas.{put_slot}
use Rattle.box_index.proofs.kept.put.Goals as goal

pub returns : goal.returns
returns c = put_slot c.args.id c.args.sides c.args.slots.now c.requires
