use Rattle.std.proofs.Common.{◌≡◌, length}
use Rattle.board_items.specs.Tags.{named_from}
use Rattle.board_items.proofs.tags.next_named.Given as goal

-- no slot that has passed holds an item of the name
abbrev pub invariant-loop-place : goal.invariant-loop-place
invariant-loop-place l = (named_from l.name l.first l.slots ≡ named_from l.name l.place l.slots) × (l.place-end ≡ length l.slots)
