use Rattle.roundtrip_lists.proofs.Elements.{heads_translated, element_translated}
use Rattle.roundtrip_lists.proofs.list_laws.elements.Goals as goal

pub returns : goal.returns
returns c = record { heads = heads_translated; found = element_translated }
