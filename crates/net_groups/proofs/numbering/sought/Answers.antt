use Rattle.std.specs.Prelude.{Ok, Err}
use Rattle.net_groups.proofs.Beside.{sought_is}
use Rattle.net_groups.proofs.numbering.sought.Goals as goal

pub returns-in-Ok-clause-is : goal.returns-in-Ok-clause-is
returns-in-Ok-clause-is c = (sought_is c.args.ids.now c.requires.rises c.args.id c.requires.listed (Ok c.in-Ok.place) c.in-Ok.ensures.position).1

pub returns-in-Err-clause-within : goal.returns-in-Err-clause-within
returns-in-Err-clause-within c = absurd (sought_is c.args.ids.now c.requires.rises c.args.id c.requires.listed (Err c.in-Err.place) c.in-Err.ensures.position)

pub returns-in-Err-clause-is : goal.returns-in-Err-clause-is
returns-in-Err-clause-is c = absurd (sought_is c.args.ids.now c.requires.rises c.args.id c.requires.listed (Err c.in-Err.place) c.in-Err.ensures.position)
