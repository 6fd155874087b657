use Rattle.roundtrip_lists.proofs.Moving.{moved_translated, moved_respelled, moved_utf8, translated_same, translated_itself}
use Rattle.roundtrip_lists.proofs.list_laws.moving.Goals as goal

pub returns : goal.returns
returns c = record { translated = moved_translated; written = moved_respelled; utf8 = moved_utf8; same = translated_same; itself = translated_itself }
