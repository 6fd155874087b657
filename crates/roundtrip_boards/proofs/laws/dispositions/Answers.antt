use Rattle.roundtrip_boards.proofs.Fitting.{dispositions_fit}
use Rattle.roundtrip_boards.proofs.Heading.{first_there}
use Rattle.roundtrip_boards.proofs.laws.dispositions.Goals as goal

pub returns : goal.returns
returns c = record { fit = dispositions_fit; first = first_there }
