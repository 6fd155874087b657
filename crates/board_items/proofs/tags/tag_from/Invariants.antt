use Rattle.std.proofs.Common.{◌≡◌, drop}
use Rattle.board_items.specs.Tags.{tag_from}
use Rattle.board_items.proofs.tags.tag_from.Given as goal

abbrev pub invariant-loop-byte : goal.invariant-loop-byte
invariant-loop-byte l = tag_from 0 l.bytes ≡ tag_from l.tag (drop l.byte-index l.bytes)
