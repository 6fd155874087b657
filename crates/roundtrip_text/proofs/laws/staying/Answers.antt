use Rattle.roundtrip_text.proofs.Staying.{edited_stays, whole_stays}
use Rattle.roundtrip_text.proofs.laws.staying.Goals as goal

pub returns : goal.returns
returns c = record { parts = λ text f dispositions from to part. edited_stays text f dispositions from to part.within part.spelled; whole = whole_stays }
