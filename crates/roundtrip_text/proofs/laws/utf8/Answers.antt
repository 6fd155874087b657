use Rattle.roundtrip_text.proofs.Utf8.{utf8_apart, utf8_joined}
use Rattle.roundtrip_text.proofs.laws.utf8.Goals as goal

pub returns : goal.returns
returns c = record { apart = utf8_apart; joined = utf8_joined }
