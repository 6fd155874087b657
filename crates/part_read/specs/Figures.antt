-- Figures: what graphics draw, as plain numbers, and the parts of copper, the lines of an edge or the courtyards that they give
-- where they lie on a board. Shapes count half nanometres, so half of a width is the width itself.
use Rattle.std.specs.Prelude.{◌≡◌, ◌≤◌, ℤ, pos, ◌+ℤ◌, ◌*ℤ◌, ◌≤ℤ◌, Bool, true, false, ◌||◌, List, [], ◌∷◌, map, Option, option_map, None, ⊤, refl, if◌then◌else◌}
use Rattle.std.specs.Ordering.{int_eq}
use Rattle.int_algebra.proofs.Tested.{le_by_test}
use Rattle.geo_seg.specs.declared.points.Point.{Point}
use Rattle.geo_seg.specs.declared.points.Seg.{Seg}
use Rattle.geo_seg.specs.declared.shapes.Core.{Core}
use Rattle.geo_seg.specs.declared.shapes.Core.TheVariants.{Line as LineCore, Area}
use Rattle.geo_seg.specs.declared.shapes.Shape.{Shape}
use Rattle.plain_types.specs.Lengths.{IsLength, greatest, is_length}
use Rattle.copper_layers.specs.declared.set.LayerSet.{LayerSet}
use Rattle.one_item.specs.declared.parts.Part.{Part}
use Rattle.part_read.specs.declared.numbers.RawPoint.{RawPoint}
use Rattle.part_read.specs.declared.placements.Placement.{Placement}
use Rattle.part_read.specs.declared.figures.Figure.{Figure}
use Rattle.part_read.specs.declared.figures.Figure.TheVariants.{Line, Rect, Circle, Outline}
use Rattle.part_read.specs.declared.figures.Drawing.{Drawing}
use Rattle.part_read.specs.declared.radii.Radius.{Radius}
use Rattle.plain_types.proofs.LengthTests.{length_in_range}
use Rattle.part_read.specs.There.{both}
use Rattle.part_read.specs.OnBoard.{tested}
use Rattle.part_read.specs.Circles.{most_radius}
use Rattle.part_read.specs.Placements.{greatest_size, IsReadRawPoint, point_stood, points_stood}

-- ---- cores of points

-- the lines from each of the corners to the next, and from the last one back to the first
abbrev pub sides_from : Point → Point → List Point → List Seg
sides_from first p [] = record { a = p; b = first } ∷ []
sides_from first p (q ∷ qs) = record { a = p; b = q } ∷ sides_from first q qs

-- the lines around an outline
abbrev pub sides : List Point → List Seg
sides [] = []
sides (p ∷ ps) = sides_from p p ps

-- the corners of a box, of which two that lie across are given
abbrev pub box_corners : Point → Point → List Point
box_corners p q =
    p ∷ record { x = q.x; y = p.y; x_in_range = q.x_in_range; y_in_range = p.y_in_range } ∷ q
    ∷ record { x = p.x; y = q.y; x_in_range = p.x_in_range; y_in_range = q.y_in_range } ∷ []

-- a box; where it has no extent in one direction, it is a line
abbrev pub box_core : Point → Point → Core
box_core p q = if int_eq p.x q.x || int_eq p.y q.y then LineCore (record { a = p; b = q }) else Area (box_corners p q)

-- each line as the core of a shape
abbrev pub line_cores : List Seg → List Core
line_cores lines = map (λ line. LineCore line) lines

-- ---- the cores of a figure, if it lies on the board: what is not filled is one line for each side

-- the line between two points
abbrev pub line_between : Point → Point → List Core
line_between p q = LineCore (record { a = p; b = q }) ∷ []

-- a rectangle by two corners that lie across: its area, or its four sides
abbrev pub box_between : Bool → Point → Point → List Core
box_between filled p q = if filled then box_core p q ∷ [] else line_cores (sides (box_corners p q))

-- an outline: its area, or its sides
abbrev pub cores_around : Bool → List Point → List Core
cores_around filled ps = if filled then Area ps ∷ [] else line_cores (sides ps)

-- the cores of a figure that stands so
abbrev pub cores_of : Placement → Bool → Figure → Option (List Core)
cores_of placement filled (Line a b) = both line_between (point_stood placement a) (point_stood placement b)
cores_of placement filled (Rect a b) = both (box_between filled) (point_stood placement a) (point_stood placement b)
cores_of placement filled (Circle c r) = both line_between (point_stood placement c) (point_stood placement c)
cores_of placement filled (Outline raw_points) = option_map (cores_around filled) (points_stood placement raw_points)

-- ---- with half of a width around them

-- a length is a radius
abbrev pub radius_at : (w : ℤ) → is_length w ≡ true → Radius
radius_at w fits = let range : IsLength w = length_in_range w fits in record { value = w; from = range.from; to = range.to }

-- the radius, if it is a length
abbrev pub radius_of : ℤ → Option Radius
radius_of w = tested (is_length w) (radius_at w)

-- 0 is a radius
pub zero_from : pos 0 ≤ℤ pos 0
zero_from = le_by_test (pos 0) (pos 0) refl

-- and no greater than the greatest one
pub zero_to : pos 0 ≤ℤ greatest
zero_to = le_by_test (pos 0) greatest refl

-- the radius 0
abbrev pub no_radius : Radius
no_radius = record { value = pos 0; from = zero_from; to = zero_to }

-- all that lies within the radius of the core
abbrev pub around : Radius → Core → Shape
around r core = record { core = core; radius = r.value; radius_from = r.from; radius_to = r.to }

-- each core with the radius around it, on these layers
abbrev pub parts_around : LayerSet → Radius → List Core → List Part
parts_around layers r cores = map (λ core. record { layers = layers; shape = around r core }) cores

-- the radius in half nanometres: half of the width, and that of a circle's disc beside it
abbrev pub radius_with : ℤ → Figure → ℤ
radius_with w (Circle c r) = (pos 2 *ℤ r) +ℤ w
radius_with w figure = w

-- the parts that a drawing gives, unless it leaves the board or its width, or the diameter of its disc, is above 500 mm
abbrev pub drawn : LayerSet → Placement → Drawing → Option (List Part)
drawn layers placement d = both (parts_around layers) (radius_of (radius_with d.width d.figure)) (cores_of placement d.filled d.figure)

-- on Edge.Cuts the lines alone count, though the width must be one
abbrev pub drawn_edge : Placement → Drawing → Option (List Part)
drawn_edge placement d =
    if is_length d.width then drawn (record { bits = 0 }) placement (record { figure = d.figure; width = pos 0; filled = false }) else None

-- ---- where it is said to be

-- the first of the raw points; where there is none, the raw point at 0
abbrev pub first_of : List RawPoint → RawPoint
first_of [] = record { x = pos 0; y = pos 0 }
first_of (s ∷ ss) = s

-- the raw point by which a report names a figure
abbrev pub first_raw_point : Figure → RawPoint
first_raw_point (Line a b) = a
first_raw_point (Rect a b) = a
first_raw_point (Circle c r) = c
first_raw_point (Outline raw_points) = first_of raw_points

-- ---- circles that are no discs

-- an open circle: not filled, and with a width; one without is filled
abbrev pub is_ring : Drawing → Bool
is_ring d = ring_by d.figure
  where
    ring_by : Figure → Bool
    ring_by (Circle c r) = if d.filled || int_eq d.width (pos 0) then false else true
    ring_by figure = false

-- the figure is a circle
abbrev pub is_circle : Figure → Bool
is_circle (Circle c r) = true
is_circle figure = false

-- ---- what was read lies within reach of all sums

-- the raw points and the radius of the figure are as they are read; an outline has its raw points so by its type
abbrev pub HasReach : Figure → Type 0
HasReach (Line a b) = IsReadRawPoint a × IsReadRawPoint b
HasReach (Rect a b) = IsReadRawPoint a × IsReadRawPoint b
HasReach (Circle c r) = IsReadRawPoint c × ((pos 0 ≤ℤ r) × (r ≤ℤ pos most_radius))
HasReach (Outline raw_points) = ⊤

-- the figure and the width are as they are read
pub record IsDrawable (d : Drawing) : Type 0 where
  pub figure : HasReach d.figure
  pub from : pos 0 ≤ℤ d.width
  pub to : d.width ≤ℤ greatest_size
