use Rattle.std.proofs.Common.{◌≡◌, map, take}
use Rattle.board_items.specs.Back.{kept_entry}
use Rattle.board_edits.specs.Making.{ids_of}
use Rattle.board_edits.proofs.making.ids_kept.Given as goal

abbrev pub invariant-loop-kept : goal.invariant-loop-kept
invariant-loop-kept l = l.ids.items ≡ ids_of (map kept_entry (take l.kept-index l.items))
