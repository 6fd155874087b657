use Rattle.roundtrip_edited.proofs.Parts.{plain_sort, moved_sort, other_keeps, others_read}
use Rattle.roundtrip_edited.proofs.laws.parts.Goals as goal

pub returns : goal.returns
returns c = record { plain = plain_sort; moved = moved_sort; kept = other_keeps; others = others_read }
