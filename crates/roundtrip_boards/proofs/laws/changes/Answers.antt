use Rattle.roundtrip_boards.proofs.Turning.{all_change}
use Rattle.roundtrip_boards.proofs.laws.changes.Goals as goal

pub returns : goal.returns
returns c = all_change
