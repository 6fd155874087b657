-- What has become of units, as the code keeps it: a mark for each by its number.
use Rattle.std.specs.Prelude.{◌≡◌, ℕ, ◌≤◌, ◌*◌, ◌+ℤ◌, ℤ, Bool, true, false, List, Option, None, Some, slice_index_or, slice_set, unsigned_abs, ⊤}
use Rattle.roundtrip_lists.specs.Translated.{Shift}
use Rattle.roundtrip_boards.specs.WrittenBoard.{Draft, is_gone, shift_of_unit}
use Rattle.board_write.specs.declared.distance.Distance.{Distance}
use Rattle.board_write.specs.declared.marks.Mark.{Mark}
use Rattle.board_write.specs.declared.marks.Mark.TheVariants.{Stays, Gone, Moved}

abbrev pub plain_shift : Distance → Shift
plain_shift by = record { dx = by.dx; dy = by.dy }

-- a unit's mark; one that was not marked stays
abbrev pub mark_at : List Mark → ℕ → Mark
mark_at marks unit = slice_index_or marks unit Stays

abbrev pub mark_of_unit : List Mark → Option ℕ → Mark
mark_of_unit marks None = Stays
mark_of_unit marks (Some unit) = mark_at marks unit

-- ---- marks as plain data

pub data PlainMark : Type 0 where
  stays : PlainMark
  gone : PlainMark
  moves : Shift → PlainMark

abbrev pub plain_mark : Mark → PlainMark
plain_mark Stays = stays
plain_mark Gone = gone
plain_mark (Moved by) = moves (plain_shift by)

-- what a draft of the changes has of a unit
abbrev pub mark_by : Bool → Option Shift → PlainMark
mark_by true by = gone
mark_by false None = stays
mark_by false (Some by) = moves by

abbrev pub mark_in : Draft → ℕ → PlainMark
mark_in draft unit = mark_by (is_gone draft unit) (shift_of_unit draft unit)

-- the marks are those of the draft
abbrev pub AreMarks : Draft → List Mark → Type 0
AreMarks draft marks = (unit : ℕ) → plain_mark (mark_at marks unit) ≡ mark_in draft unit

-- a mark after one move more
abbrev pub moved_on : ℤ → ℤ → PlainMark → PlainMark
moved_on dx dy stays = moves (record { dx = dx; dy = dy })
moved_on dx dy gone = gone
moved_on dx dy (moves by) = moves (record { dx = by.dx +ℤ dx; dy = by.dy +ℤ dy })

-- the unit's mark is that after one move more
abbrev pub IsMarkedOn : ℤ → ℤ → ℕ → List Mark → List Mark → Type 0
IsMarkedOn dx dy unit old new = (mark : Mark) × (plain_mark mark ≡ moved_on dx dy (plain_mark (mark_at old unit))) × (new ≡ slice_set old unit mark)

-- a distance of 64 bits
abbrev pub IsHeld : ℤ → Type 0
IsHeld n = unsigned_abs n ≤ 9223372036854775808

-- a shift of so many moves at most, each by distances of 64 bits
abbrev pub IsShortShift : ℕ → PlainMark → Type 0
IsShortShift many stays = ⊤
IsShortShift many gone = ⊤
IsShortShift many (moves by) = (unsigned_abs by.dx ≤ many * 9223372036854775808) × (unsigned_abs by.dy ≤ many * 9223372036854775808)
