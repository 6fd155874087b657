use Rattle.roundtrip_text.proofs.Editing.{head_stays}
use Rattle.roundtrip_text.proofs.laws.editing.Goals as goal

pub returns : goal.returns
returns c text dispositions s q content others from to part fit = head_stays text dispositions s q content others from to part.within part.spelled fit.fit fit.first
