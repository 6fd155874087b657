use Rattle.std.proofs.Common.{◌≡◌, ◌≤◌, take}
use Rattle.board_items.specs.ItemSlots.{present}
use Rattle.board_items.specs.ItemNotes.{body_before}
use Rattle.board_items.proofs.NoteWalks.{bodies, last_of}
use Rattle.board_items.proofs.notes.last_body.Given as goal

-- the body stands among the slots that are left
abbrev pub invariant-slots : goal.invariant-slots
invariant-slots l = record {
  found : body_before l.unit l.id (present 0 l.fn.slots) ≡ last_of (bodies l.unit (present 0 (take l.place l.fn.slots)));
  within : l.place ≤ l.id;
}

abbrev pub decreases-slots : goal.decreases-slots
decreases-slots l = l.place
