use Rattle.pad_read.proofs.Adding.{next_is}
use Rattle.pad_read.proofs.copper.draw_next.Goals as goal

pub returns : goal.returns
returns c rest = next_is _ _ _ rest c.in_ok-drew.drew c.in_ok-drew.ensures
