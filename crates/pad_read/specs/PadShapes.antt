-- The shapes of pads that are all within a radius of a box: discs, rectangles, ovals and rounded rectangles. Both numbers of a box count
-- half nanometres from its middle to an edge: as many as its side has nanometres.
use Rattle.std.specs.Prelude.{ℕ, ◌≤◌, ℤ, pos, unsigned_abs, ◌+ℤ◌, ◌-ℤ◌, ◌*ℤ◌, ◌%◌, ◌==◌, codes, Option, int_le, Result, Ok, if◌then◌else◌}
use Rattle.plain_types.specs.Lengths.{greatest}
use Rattle.sexpr_read.specs.Tree.{Tree, content}
use Rattle.exact_dec.specs.Computed.{ratio_near_answer}
use Rattle.geo_seg.specs.declared.points.Point.{Point}
use Rattle.geo_seg.specs.declared.shapes.Shape.{Shape}
use Rattle.board_errors.specs.declared.errors.BoardError.{BoardError}
use Rattle.board_errors.specs.declared.errors.BoardError.TheVariants.{BadNumber}
use Rattle.part_read.specs.declared.numbers.RawPoint.{RawPoint}
use Rattle.list_read.specs.FirstRefusals.{◌>>=◌, needed}
use Rattle.list_read.specs.ListHeads.{place}
use Rattle.list_read.specs.NamedElements.{element}
use Rattle.part_read.specs.ElementResults.{given_or, atom_of}
use Rattle.part_read.specs.BoardNumbers.{read_as}
use Rattle.part_read.specs.Placements.{most_read}
use Rattle.part_read.specs.There.{both}
use Rattle.pad_read.specs.Halves.{half_point}
use Rattle.part_read.specs.Figures.{box_core, radius_of, around}
use Rattle.pad_read.specs.declared.sizes.Sizes.{Sizes}
use Rattle.pad_read.specs.declared.sizes.RoundedRect.{RoundedRect}
use Rattle.pad_read.specs.PadSizes.{least_of}

-- a disc as wide as the first size; the second one is not looked at
abbrev pub circle_rounded_rect : Sizes → RoundedRect
circle_rounded_rect s = record { x = pos 0; y = pos 0; radius = s.w }

-- a rectangle with sharp corners
abbrev pub rect_rounded_rect : Sizes → RoundedRect
rect_rounded_rect s = record { x = s.w; y = s.h; radius = pos 0 }

-- a line in its middle, drawn as wide as the smaller size
abbrev pub oval_rounded_rect : Sizes → RoundedRect
oval_rounded_rect s = let least = least_of s in record { x = s.w -ℤ least; y = s.h -ℤ least; radius = least }

-- a box that the radius makes as large as the rectangle
abbrev pub round_rounded_rect : Sizes → ℤ → RoundedRect
round_rounded_rect s r = record { x = s.w -ℤ r; y = s.h -ℤ r; radius = r }

-- its numbers are made of what was read, so sums of them are in range
pub record IsSmall (c : RoundedRect) : Type 0 where
  pub x : unsigned_abs c.x ≤ 3000000000000
  pub y : unsigned_abs c.y ≤ 3000000000000
  pub radius : unsigned_abs c.radius ≤ 3000000000000

-- ---- the radius of a rounded rectangle

-- a share of a size, as it is read
abbrev pub IsSizeRatio : ℤ → Type 0
IsSizeRatio n = unsigned_abs n ≤ most_read

-- a radius in half nanometres, as far from 0 as twice a share
abbrev pub IsTwoShares : ℤ → Type 0
IsTwoShares n = unsigned_abs n ≤ 2000000000000

-- the smaller number
abbrev pub least_number : ℤ → ℤ → ℤ
least_number a b = if int_le a b then a else b

-- the ratio times a size, to the nearest nanometre; a size above 500 mm is refused after all elements, whatever its radius is
unfoldable pub share_of : ℤ → Tree → Result ℤ BoardError
share_of size atom = do
  text ← needed (BadNumber (place atom)) (content atom)
  read_as (BadNumber (place atom)) (ratio_near_answer text (least_number size greatest))

-- twice that share, or the size where it is smaller
abbrev pub ratio_in : ℤ → Tree → Result ℤ BoardError
ratio_in least atom = share_of least atom >>= λ share. Ok (least_number (pos 2 *ℤ share) least)

-- the radius in half nanometres: that share of the smaller size, or half of the size where the share is more
unfoldable pub round_radius : Sizes → Tree → Result ℤ BoardError
round_radius s tree = given_or (pos 0) (λ list. atom_of 1 list >>= ratio_in (least_of s)) (element (codes "roundrect_rratio") tree)

-- ---- on the board

-- the rounded rectangle turned by so many quarter turns
abbrev pub turned_rounded_rect : ℕ → RoundedRect → RoundedRect
turned_rounded_rect quarter c = if quarter % 2 == 0 then c else record { x = c.y; y = c.x; radius = c.radius }

-- the left and upper corner of the box around this raw point, if it lies on the board
abbrev pub low_point : RawPoint → RoundedRect → Option Point
low_point s c = half_point (record { x = (pos 2 *ℤ s.x) -ℤ c.x; y = (pos 2 *ℤ s.y) -ℤ c.y })

-- the right and lower corner of that box, if it lies on the board
abbrev pub high_point : RawPoint → RoundedRect → Option Point
high_point s c = half_point (record { x = (pos 2 *ℤ s.x) +ℤ c.x; y = (pos 2 *ℤ s.y) +ℤ c.y })

-- the shape around this raw point, if it lies on the board
abbrev pub rounded_rect_at : RawPoint → RoundedRect → Option Shape
rounded_rect_at s c = both around (radius_of c.radius) (both box_core (low_point s c) (high_point s c))
