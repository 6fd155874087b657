-- Points that are moved, as they are read of a text.
use Rattle.std.specs.Prelude.{◌≡◌, ◌⊎◌, ◌+ℤ◌, true, Option, None, Some}
use Rattle.exact_dec.specs.DecimalAnswers.{is_far}
use Rattle.part_read.specs.declared.numbers.RawPoint.{RawPoint}
use Rattle.roundtrip_lists.specs.Translated.{Shift}

abbrev pub moved_raw_point : Shift → RawPoint → RawPoint
moved_raw_point d s = record { x = s.x +ℤ d.dx; y = s.y +ℤ d.dy }

-- a point that would go too far stays where it is
abbrev pub IsMovedRawPoint : Option Shift → RawPoint → RawPoint → Type 0
IsMovedRawPoint None s t = t ≡ s
IsMovedRawPoint (Some d) s t = (t ≡ moved_raw_point d s) ⊎ ((t ≡ s) × ((is_far (s.x +ℤ d.dx) ≡ true) ⊎ (is_far (s.y +ℤ d.dy) ≡ true)))
