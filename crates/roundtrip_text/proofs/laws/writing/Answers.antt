use Rattle.roundtrip_text.proofs.Writing.{text_rewritten_writes, spaced_writes}
use Rattle.roundtrip_text.proofs.laws.writing.Goals as goal

pub returns : goal.returns
returns c = record { text_rewritten = λ text f g from to part. text_rewritten_writes text f g from to part.within part.spelled; alone = spaced_writes }
