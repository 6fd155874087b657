-- Courtyards: on each side the rectangles, outlines and circles of its layer, and the closed outlines of its lines. A side with a
-- curve or a loose line is not checked. Widths and fills have no effect.
use Rattle.std.specs.Prelude.{◌≡◌, ℕ, ◌+◌, ℤ, pos, ◌==◌, ◌&&◌, ◌||◌, nat_le, length, Bool, true, false, not, cond, List, [], ◌∷◌, ◌++◌, map, codes, Option, None, Some, Result, Ok, Err, ◌⊎◌, if◌then◌else◌}
use Rattle.std.specs.List.{list_any, list_all}
use Rattle.sexpr_read.specs.Tree.{Tree, parts}
use Rattle.geo_seg.specs.declared.points.Point.{Point}
use Rattle.geo_seg.specs.declared.points.Seg.{Seg}
use Rattle.geo_seg.specs.declared.shapes.Core.TheVariants.{Area}
use Rattle.board_errors.specs.declared.errors.BoardError.{BoardError}
use Rattle.board_errors.specs.declared.errors.BoardError.TheVariants.{Missing}
use Rattle.one_item.specs.declared.parts.Part.{Part}
use Rattle.part_read.specs.declared.numbers.RawPoint.{RawPoint}
use Rattle.part_read.specs.declared.placements.Placement.{Placement}
use Rattle.part_read.specs.declared.drawings.GraphicKind.{GraphicKind}
use Rattle.part_read.specs.declared.drawings.GraphicKind.TheVariants.{Line, Rect, Circle, Outline}
use Rattle.part_read.specs.declared.figures.Figure.{Figure}
use Rattle.part_read.specs.declared.figures.Figure.TheVariants.{Rect as RectFigure, Circle as CircleFigure, Outline as OutlineFigure}
use Rattle.part_read.specs.declared.figures.Drawing.{Drawing}
use Rattle.list_read.specs.FirstRefusals.{◌>>=◌, needed}
use Rattle.list_read.specs.ListHeads.{place, has_head}
use Rattle.list_read.specs.NamedElements.{element}
use Rattle.part_read.specs.There.{both}
use Rattle.part_read.specs.BoardNumbers.{raw_point_of}
use Rattle.part_read.specs.OnBoard.{tested, fits_board, point_at}
use Rattle.part_read.specs.Placements.{stood}
use Rattle.part_read.specs.Circles.{radius_between}
use Rattle.part_read.specs.Figures.{no_radius, around}
use Rattle.part_read.specs.Drawings.{raw_points_among}
use Rattle.pad_read.specs.PadOf.{all_drawn}
use Rattle.courtyard.specs.Ends.{is_same}
use Rattle.courtyard.specs.ClosedOutlines.{AreChained}
use Rattle.footprint_read.specs.declared.sides.RawSegment.{RawSegment}
use Rattle.footprint_read.specs.declared.sides.CourtSide.{CourtSide}
use Rattle.footprint_read.specs.declared.courts.Court.{Court}
use Rattle.footprint_read.specs.declared.courts.Court.TheVariants.{Unchecked, Parts, Off}

-- ---- what a list on the layer of a courtyard gives its side

-- a side of which nothing was read
abbrev pub empty_side : CourtSide
empty_side = record { curved = false; drawings = []; lines = [] }

-- what is given first, and what comes after it
abbrev pub side_then : CourtSide → CourtSide → CourtSide
side_then first more = record { curved = first.curved || more.curved; drawings = first.drawings ++ more.drawings; lines = first.lines ++ more.lines }

-- a curve alone
abbrev pub curve_side : CourtSide
curve_side = record empty_side { curved = true }

-- a figure with all that it encloses, and nothing around it
abbrev pub figure_side : Figure → CourtSide
figure_side figure = record empty_side { drawings = record { figure = figure; width = pos 0; filled = true } ∷ [] }

-- a line from one raw point of the board to another
unfoldable pub line_side : Placement → Tree → Result CourtSide BoardError
line_side placement tree = do
  start ← raw_point_of (codes "start") tree
  end ← raw_point_of (codes "end") tree
  Ok (record empty_side { lines = record { a = stood placement start; b = stood placement end } ∷ [] })

-- a rectangle
unfoldable pub rect_side : Tree → Result CourtSide BoardError
rect_side tree = do
  start ← raw_point_of (codes "start") tree
  end ← raw_point_of (codes "end") tree
  Ok (figure_side (RectFigure start end))

-- a circle around its centre through its end
unfoldable pub circle_side : Tree → Result CourtSide BoardError
circle_side tree = do
  center ← raw_point_of (codes "center") tree
  end ← raw_point_of (codes "end") tree
  Ok (figure_side (CircleFigure center (radius_between center end)))

-- an outline of these raw points, three at least; with an arc among them the side has a curve
abbrev pub raw_points_side : Tree → Bool → List RawPoint → Result CourtSide BoardError
raw_points_side list curved raw_points =
    if curved then Ok curve_side
    else if nat_le 3 (length raw_points) then Ok (figure_side (OutlineFigure raw_points))
    else Err (Missing (place list))

-- an arc stands among the raw points
abbrev pub has_arc : Tree → Bool
has_arc list = list_any (has_head (codes "arc")) (parts list)

-- an outline; with an arc in it its points are not counted
unfoldable pub outline_side : Tree → Result CourtSide BoardError
outline_side tree = do
  list ← needed (Missing (place tree)) (element (codes "pts") tree)
  raw_points ← raw_points_among true (parts list)
  raw_points_side list (has_arc list) raw_points

-- what a graphic of this kind gives its side
abbrev pub graphic_side : Placement → GraphicKind → Tree → Result CourtSide BoardError
graphic_side placement Line tree = line_side placement tree
graphic_side placement Rect tree = rect_side tree
graphic_side placement Circle tree = circle_side tree
graphic_side placement Outline tree = outline_side tree

-- ---- loose lines; a place is a raw point as a pair of numbers

-- the place of a raw point
abbrev pub at : RawPoint → ℤ × ℤ
at raw_point = (raw_point.x, raw_point.y)

-- a line that has a length
abbrev pub is_long : RawSegment → Bool
is_long line = not (is_same (at line.a) (at line.b))

-- how many ends of the line stand at a place: none where it has no length
abbrev pub ends_at : ℤ × ℤ → RawSegment → ℕ
ends_at k line = cond (is_long line) (cond (is_same (at line.a) k) 1 0 + cond (is_same (at line.b) k) 1 0) 0

-- how many ends of the lines stand at a place
abbrev pub many_at : ℤ × ℤ → List RawSegment → ℕ
many_at k [] = 0
many_at k (line ∷ lines) = ends_at k line + many_at k lines

-- each end of the line, if it has a length, equals exactly one other end of the lines: with itself there are two at its place
abbrev pub is_met : List RawSegment → RawSegment → Bool
is_met lines line = not (is_long line) || (many_at (at line.a) lines == 2 && many_at (at line.b) lines == 2)

-- no end is loose
abbrev pub is_closed : List RawSegment → Bool
is_closed lines = list_all (is_met lines) lines

-- ---- the parts of a side

-- the line between two points
abbrev pub line_to : Point → Point → Seg
line_to a b = record { a = a; b = b }

-- the line, if it lies on the board
abbrev pub seg_of : RawSegment → Option Seg
seg_of line = both line_to (tested (fits_board line.a) (point_at line.a)) (tested (fits_board line.b) (point_at line.b))

-- the lines that have a length, if they all lie on the board
abbrev pub segs_of : List RawSegment → Option (List Seg)
segs_of [] = Some []
segs_of (line ∷ lines) = if is_long line then both (λ seg segs. seg ∷ segs) (seg_of line) (segs_of lines) else segs_of lines

-- the parts of all figures, if they lie on the board and no diameter is above 500 mm
abbrev pub figure_parts : Placement → List Drawing → Option (List Part)
figure_parts placement drawings = all_drawn (record { bits = 0 }) placement drawings

-- what a closed outline encloses
abbrev pub outline_part : List Point → Part
outline_part points = record { layers = record { bits = 0 }; shape = around no_radius (Area points) }

-- ---- the courtyard of a side: it is not checked, or it lies on the board and has these parts, or it leaves the board

-- the parts are those of the figures, and then the closed outlines of the lines, by their definition
pub record HasParts (placement : Placement) (side : CourtSide) (parts : List Part) : Type 0 where
  pub drawn : List Part
  pub segs : List Seg
  pub polys : List (List Point)
  pub of_figures : figure_parts placement side.drawings ≡ Some drawn
  pub of_lines : segs_of side.lines ≡ Some segs
  pub chained : AreChained segs polys
  pub all : parts ≡ drawn ++ map outline_part polys

-- the side is checked: it has no curve and no loose line
abbrev pub IsCheckedSide : CourtSide → Type 0
IsCheckedSide side = (side.curved ≡ false) × (is_closed side.lines ≡ true)

-- this is the courtyard of the side of a footprint that stands so
abbrev pub IsCourt : Placement → CourtSide → Court → Type 0
IsCourt placement side Unchecked = (side.curved ≡ true) ⊎ (is_closed side.lines ≡ false)
IsCourt placement side (Parts parts) = IsCheckedSide side × HasParts placement side parts
IsCourt placement side Off = IsCheckedSide side × ((figure_parts placement side.drawings ≡ None) ⊎ (segs_of side.lines ≡ None))

-- the parts of a courtyard, none where it is not checked
abbrev pub parts_in : Court → List Part
parts_in (Parts parts) = parts
parts_in court = []

-- the courtyard does not leave the board
abbrev pub lies_on_board : Court → Bool
lies_on_board Off = false
lies_on_board court = true
