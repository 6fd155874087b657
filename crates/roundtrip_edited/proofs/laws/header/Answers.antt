use Rattle.roundtrip_edited.proofs.Header.{header_again}
use Rattle.roundtrip_edited.proofs.laws.header.Goals as goal

pub returns : goal.returns
returns c = header_again
