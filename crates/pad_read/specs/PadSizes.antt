-- The sizes of pads and of their holes.
use Rattle.std.specs.Prelude.{ℤ, pos, ◌≤ℤ◌, ◌&&◌, Bool, codes, Option, None, Some, slice_get, int_le, Result, Ok, if◌then◌else◌}
use Rattle.std.specs.Ordering.{int_eq}
use Rattle.sexpr_read.specs.Tree.{Tree, parts}
use Rattle.board_errors.specs.declared.errors.BoardError.{BoardError}
use Rattle.part_read.specs.declared.numbers.RawPoint.{RawPoint}
use Rattle.list_read.specs.FirstRefusals.{◌>>=◌}
use Rattle.list_read.specs.ListHeads.{is_text}
use Rattle.list_read.specs.NamedElements.{element}
use Rattle.part_read.specs.ElementResults.{in_needed, given_or, atom_of, atom_or}
use Rattle.part_read.specs.BoardNumbers.{size_in, raw_point_at}
use Rattle.part_read.specs.Placements.{greatest_size}
use Rattle.pad_read.specs.declared.sizes.Sizes.{Sizes}
use Rattle.pad_read.specs.declared.sizes.Drilling.{Drilling}

-- the sizes of (size W H)
unfoldable pub sizes_at : Tree → Result Sizes BoardError
sizes_at list = do
  first ← atom_of 1 list
  w ← size_in first
  second ← atom_of 2 list
  h ← size_in second
  Ok (record { w = w; h = h })

-- the sizes of a pad, which must be there
abbrev pub sizes_of : Tree → Result Sizes BoardError
sizes_of tree = in_needed sizes_at tree (element (codes "size") tree)

-- the smaller size
abbrev pub least_of : Sizes → ℤ
least_of s = if int_le s.w s.h then s.w else s.h

-- both sizes are equal
abbrev pub are_equal : Sizes → Sizes → Bool
are_equal s t = int_eq s.w t.w && int_eq s.h t.h

-- both sizes are as they are read
pub record AreRead (s : Sizes) : Type 0 where
  pub w_from : pos 0 ≤ℤ s.w
  pub w_to : s.w ≤ℤ greatest_size
  pub h_from : pos 0 ≤ℤ s.h
  pub h_to : s.h ≤ℤ greatest_size

-- ---- drills: (drill D), (drill oval W) or (drill oval W H), each perhaps with (offset X Y)

-- the sizes of an oval hole; the second is the first where it is missing
unfoldable pub oval_sizes : Tree → Result Sizes BoardError
oval_sizes list = do
  first ← atom_of 2 list
  w ← size_in first
  h ← atom_or w size_in (slice_get (parts list) 3)
  Ok (record { w = w; h = h })

-- the sizes of a round hole by its diameter
abbrev pub round_sizes : Tree → Result Sizes BoardError
round_sizes atom = size_in atom >>= λ d. Ok (record { w = d; h = d })

-- the sizes of the hole of a drill; where its first part is missing or a list, there is no hole
abbrev pub drilled_by : Tree → Option Tree → Result (Option Sizes) BoardError
drilled_by list found =
    atom_or None (λ t. (if is_text t (codes "oval") then oval_sizes list else round_sizes t) >>= λ sizes. Ok (Some sizes)) found

-- the copper stands where the pad does
abbrev pub no_offset : RawPoint
no_offset = record { x = pos 0; y = pos 0 }

-- the hole and the offset that this `drill` gives
unfoldable pub drilling_at : Tree → Result Drilling BoardError
drilling_at list = do
  sizes ← drilled_by list (slice_get (parts list) 1)
  offset ← given_or no_offset raw_point_at (element (codes "offset") list)
  Ok (record { sizes = sizes; offset = offset })

-- there is no hole and no offset
abbrev pub no_drilling : Drilling
no_drilling = record { sizes = None; offset = no_offset }

-- the hole and the offset of its copper that a pad's `drill` gives
abbrev pub drilling_of : Tree → Result Drilling BoardError
drilling_of tree = given_or no_drilling drilling_at (element (codes "drill") tree)
