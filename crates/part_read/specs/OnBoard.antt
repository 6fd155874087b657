-- Points and shapes, from numbers in nanometres. Those that lie off the board are plain numbers too, and are tested last; a point
-- and a shape are made where the test holds. They count half nanometres, so a coordinate is doubled, and half of a width is the
-- width itself.
use Rattle.std.specs.Prelude.{◌≡◌, ℤ, pos, ◌*ℤ◌, Bool, true, false, ◌&&◌, Option, None, Some, refl}
use Rattle.geo_seg.specs.Ranges.{IsCoordinate}
use Rattle.geo_seg.specs.declared.points.Point.{Point}
use Rattle.geo_seg.specs.declared.shapes.Core.{Core}
use Rattle.geo_seg.specs.declared.shapes.Core.TheVariants.{Line}
use Rattle.geo_seg.specs.declared.shapes.Shape.{Shape}
use Rattle.plain_types.specs.Lengths.{IsLength, is_length}
use Rattle.plain_types.proofs.LengthTests.{length_in_range}
use Rattle.int_algebra.proofs.Tested.{front, back, doubled_by_tests}
use Rattle.one_item.specs.Positions.{is_near}
use Rattle.part_read.specs.declared.numbers.RawPoint.{RawPoint}
use Rattle.part_read.specs.declared.on_board.Strip.{Strip}

-- what is made where the test holds
abbrev pub tested : {A : Type 0} (test : Bool) → (test ≡ true → A) → Option A
tested true make = Some (make refl)
tested false make = None

-- twice a number that lies on a board is a coordinate
pub doubled_in_range : (z : ℤ) → is_near z ≡ true → IsCoordinate (pos 2 *ℤ z)
doubled_in_range z h = doubled_by_tests z (front _ _ h) (back _ _ h)

-- the raw point lies on a board: at most 500 mm from 0 in x and in y
abbrev pub fits_board : RawPoint → Bool
fits_board raw_point = is_near raw_point.x && is_near raw_point.y

-- the point at a raw point that does
abbrev pub point_at : (raw_point : RawPoint) → fits_board raw_point ≡ true → Point
point_at raw_point fits = record {
  x = pos 2 *ℤ raw_point.x;
  y = pos 2 *ℤ raw_point.y;
  x_in_range = doubled_in_range raw_point.x (front _ _ fits);
  y_in_range = doubled_in_range raw_point.y (back _ _ fits);
}

-- both ends of the strip lie on a board, and its width is a length
abbrev pub is_strip : Strip → Bool
is_strip strip = (fits_board strip.a && fits_board strip.b) && is_length strip.width

-- the line from the one end to the other
abbrev pub line_between : (a b : RawPoint) → fits_board a && fits_board b ≡ true → Core
line_between a b fit = Line (record { a = point_at a (front _ _ fit); b = point_at b (back _ _ fit) })

-- the shape of a strip that fits: all that lies within half its width of that line
abbrev pub strip_shape : (strip : Strip) → is_strip strip ≡ true → Shape
strip_shape strip fits =
    let wide : IsLength strip.width = length_in_range strip.width (back _ _ fits) in
    record { core = line_between strip.a strip.b (front _ _ fits); radius = strip.width; radius_from = wide.from; radius_to = wide.to }
