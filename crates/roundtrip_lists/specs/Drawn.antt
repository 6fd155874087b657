-- Drawings that are read of lists that are equal up to translation.
use Rattle.std.specs.Prelude.{◌≡◌, ℤ, pos, int_le, nat_le, true, length, List, Option}
use Rattle.std.specs.List.{AllZip}
use Rattle.part_read.specs.declared.numbers.RawPoint.{RawPoint}
use Rattle.part_read.specs.declared.figures.Figure.{Figure}
use Rattle.part_read.specs.declared.figures.Figure.TheVariants.{Line, Rect, Circle, Outline}
use Rattle.part_read.specs.declared.figures.Drawing.{Drawing}
use Rattle.part_read.specs.Circles.{radius_between}
use Rattle.roundtrip_lists.specs.Translated.{Shift}
use Rattle.roundtrip_lists.specs.Moved.{IsMovedRawPoint}

-- three corners or more, each moved
pub record AreCorners (d : Option Shift) (raw_points others : List RawPoint) : Type 0 where
  pub each : AllZip (IsMovedRawPoint d) raw_points others
  pub enough : nat_le 3 (length raw_points) ≡ true

-- the circles are those around a centre through an end
pub record AreCircles (d : Option Shift) (center other : RawPoint) (radius new : ℤ) : Type 0 where
  pub centers : IsMovedRawPoint d center other
  pub end : RawPoint
  pub new_end : RawPoint
  pub ends : IsMovedRawPoint d end new_end
  pub is : radius ≡ radius_between center end
  pub new_is : new ≡ radius_between other new_end

abbrev pub FigureRead : Option Shift → Figure → Figure → Type 0
FigureRead d (Line a b) (Line c e) = IsMovedRawPoint d a c × IsMovedRawPoint d b e
FigureRead d (Line a b) (Rect c e) = ⊥
FigureRead d (Line a b) (Circle c r) = ⊥
FigureRead d (Line a b) (Outline ss) = ⊥
FigureRead d (Rect a b) (Line c e) = ⊥
FigureRead d (Rect a b) (Rect c e) = IsMovedRawPoint d a c × IsMovedRawPoint d b e
FigureRead d (Rect a b) (Circle c r) = ⊥
FigureRead d (Rect a b) (Outline ss) = ⊥
FigureRead d (Circle a q) (Line c e) = ⊥
FigureRead d (Circle a q) (Rect c e) = ⊥
FigureRead d (Circle a q) (Circle c r) = AreCircles d a c q r
FigureRead d (Circle a q) (Outline ss) = ⊥
FigureRead d (Outline ss) (Line c e) = ⊥
FigureRead d (Outline ss) (Rect c e) = ⊥
FigureRead d (Outline ss) (Circle c r) = ⊥
FigureRead d (Outline ss) (Outline ts) = AreCorners d ss ts

-- the same width and fill, and figures that are so
pub record DrawingRead (d : Option Shift) (drawing other : Drawing) : Type 0 where
  pub figure : Figure
  pub figures : FigureRead d drawing.figure figure
  pub is : other ≡ record drawing { figure = figure }
  pub wide : int_le (pos 0) drawing.width ≡ true
