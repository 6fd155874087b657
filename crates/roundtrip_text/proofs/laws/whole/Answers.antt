use Rattle.roundtrip_text.proofs.Whole.{whole_edited}
use Rattle.roundtrip_text.proofs.laws.whole.Goals as goal

pub returns : goal.returns
returns c text root dispositions added fit may =
    whole_edited text root.span dispositions root.head_span root.quoted root.head root.others added root.spelled root.shallow fit.behind_head.fit fit.behind_head.first fit.utf8 may.atoms may.utf8 may.shallow
