-- Where something stands and how it is turned, as (at X Y ANGLE) says it, and its clearance, as (clearance C) does: of a footprint and of
-- a pad alike.
use Rattle.std.specs.Prelude.{ℕ, ℤ, pos, ◌/◌, ◌%◌, ◌==◌, unsigned_abs, codes, Option, None, Some, slice_get, Result, Ok, if◌then◌else◌}
use Rattle.std.specs.Int.{int_rem_euclid}
use Rattle.sexpr_read.specs.Tree.{Tree, parts}
use Rattle.board_errors.specs.declared.errors.BoardError.{BoardError}
use Rattle.list_read.specs.FirstRefusals.{◌>>=◌}
use Rattle.list_read.specs.NamedElements.{element}
use Rattle.part_read.specs.ElementResults.{in_needed, given_or, atom_of, atom_or}
use Rattle.part_read.specs.BoardNumbers.{length_in, raw_point_at}
use Rattle.pad_read.specs.declared.local_placements.LocalPlacement.{LocalPlacement}

-- ---- angles, read as lengths are: a quarter turn is 90,000,000

-- an angle that is missing is 0
abbrev pub angle_by : Option Tree → Result ℤ BoardError
angle_by found = atom_or (pos 0) length_in found

-- the position and the angle of (at X Y ANGLE)
unfoldable pub local_placement_at : Tree → Result LocalPlacement BoardError
local_placement_at list = do
  raw_point ← raw_point_at list
  angle ← angle_by (slice_get (parts list) 3)
  Ok (record { at = raw_point; angle = angle })

-- the position and the angle of a list, which must have them
abbrev pub local_placement_of : Tree → Result LocalPlacement BoardError
local_placement_of tree = in_needed local_placement_at tree (element (codes "at") tree)

-- how many quarter turns the rest of an angle is, whole turns left out, if it is a multiple of one
abbrev pub quarters_by : ℕ → Option ℕ
quarters_by rest = if rest % 90000000 == 0 then Some (rest / 90000000) else None

-- how many quarter turns an angle is, as it is read
abbrev pub quarters_of : ℤ → Option ℕ
quarters_of angle = quarters_by (unsigned_abs (int_rem_euclid angle (pos 360000000)))

-- ---- clearances, of which 0 and less count as none

-- the clearance of (clearance C), 0 where it is missing
unfoldable pub clearance_of : Tree → Result ℤ BoardError
clearance_of tree = given_or (pos 0) (λ list. atom_of 1 list >>= length_in) (element (codes "clearance") tree)
