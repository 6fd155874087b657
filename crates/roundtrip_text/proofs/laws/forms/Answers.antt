use Rattle.roundtrip_text.proofs.Forms.{forms_atoms}
use Rattle.roundtrip_text.proofs.laws.forms.Goals as goal

pub returns : goal.returns
returns c = forms_atoms
