use Rattle.net_groups.proofs.Parts as parts
use Rattle.net_groups.proofs.laws.parts_are_writable.Goals as goal

pub returns : goal.returns
returns c = parts.are_writable
