-- The drawings of lists equal up to translation.
use Rattle.std.proofs.Common.{◌≡◌, ◌∙◌, refl, ap, ℤ, Bool, true, false, codes, Option}
use Rattle.sexpr_read.specs.declared.place.Span.{Span}
use Rattle.sexpr_read.specs.Tree.{Forest, Tree, branch}
use Rattle.part_read.specs.declared.figures.Figure.{Figure}
use Rattle.part_read.specs.declared.figures.Figure.TheVariants.{Line, Rect, Circle, Outline}
use Rattle.part_read.specs.declared.figures.Drawing.{Drawing}
use Rattle.part_read.specs.declared.drawings.GraphicKind.{GraphicKind}
use Rattle.part_read.specs.declared.drawings.GraphicKind.TheVariants.{Line as LineKind, Rect as RectKind, Circle as CircleKind, Outline as OutlineKind}
use Rattle.part_read.specs.BoardNumbers.{raw_point_of}
use Rattle.part_read.specs.Circles.{radius_between}
use Rattle.part_read.specs.Drawings.{corners_of, width_of, fill_of, line_drawing, rect_drawing, circle_drawing, outline_drawing, drawing_of}
use Rattle.roundtrip_lists.specs.Translated.{Shift, Translated}
use Rattle.roundtrip_lists.specs.Agreeing.{Agrees, Same}
use Rattle.roundtrip_lists.specs.Moved.{IsMovedRawPoint}
use Rattle.roundtrip_lists.proofs.Elements.{agrees_bind}
use Rattle.roundtrip_lists.proofs.RawPoints.{raw_point_translated}
use Rattle.roundtrip_lists.specs.Drawn.{AreCorners, FigureRead, DrawingRead}
use Rattle.roundtrip_lists.proofs.Corners.{corners_translated}
use Rattle.roundtrip_lists.proofs.Widths.{IsWide, width_translated, fill_translated}

module _ (d : Option Shift) (i j : Forest) (s r : Span) (h : Translated d i j) where
  abbrev one : Tree
  one = branch s i

  abbrev two : Tree
  two = branch r j

  read_so : (figure other : Figure) (width new : ℤ) (filled fill : Bool) → FigureRead d figure other → IsWide width new → fill ≡ filled
      → DrawingRead d (record { figure = figure; width = width; filled = filled }) (record { figure = other; width = new; filled = fill })
  read_so figure other width new filled fill figures wide same = record {
    figure = other;
    figures = figures;
    is = ap (λ (w : ℤ). let x : Drawing = record { figure = other; width = w; filled = fill } in x) wide.0 ∙ ap (λ (b : Bool). let x : Drawing = record { figure = other; width = width; filled = b } in x) same;
    wide = wide.1;
  }

  line_translated : Agrees (DrawingRead d) (line_drawing one) (line_drawing two)
  unfolding line_drawing
  line_translated =
      agrees_bind (IsMovedRawPoint d) (DrawingRead d) (raw_point_of (codes "start") one) (raw_point_of (codes "start") two) _ _ (raw_point_translated d (codes "start") refl i j s r h) (λ a a' ea.
      agrees_bind (IsMovedRawPoint d) (DrawingRead d) (raw_point_of (codes "end") one) (raw_point_of (codes "end") two) _ _ (raw_point_translated d (codes "end") refl i j s r h) (λ b b' eb.
      agrees_bind IsWide (DrawingRead d) (width_of one) (width_of two) _ _ (width_translated d i j s r h) (λ w w' ew.
      read_so (Line a b) (Line a' b') w w' true true (ea, eb) ew refl)))

  rect_translated : Agrees (DrawingRead d) (rect_drawing one) (rect_drawing two)
  unfolding rect_drawing
  rect_translated =
      agrees_bind (IsMovedRawPoint d) (DrawingRead d) (raw_point_of (codes "start") one) (raw_point_of (codes "start") two) _ _ (raw_point_translated d (codes "start") refl i j s r h) (λ a a' ea.
      agrees_bind (IsMovedRawPoint d) (DrawingRead d) (raw_point_of (codes "end") one) (raw_point_of (codes "end") two) _ _ (raw_point_translated d (codes "end") refl i j s r h) (λ b b' eb.
      agrees_bind IsWide (DrawingRead d) (width_of one) (width_of two) _ _ (width_translated d i j s r h) (λ w w' ew.
      agrees_bind Same (DrawingRead d) (fill_of false one) (fill_of false two) _ _ (fill_translated d false i j s r h) (λ f f' ef.
      read_so (Rect a b) (Rect a' b') w w' f f' (ea, eb) ew ef))))

  circle_translated : Agrees (DrawingRead d) (circle_drawing one) (circle_drawing two)
  unfolding circle_drawing
  circle_translated =
      agrees_bind (IsMovedRawPoint d) (DrawingRead d) (raw_point_of (codes "center") one) (raw_point_of (codes "center") two) _ _ (raw_point_translated d (codes "center") refl i j s r h) (λ a a' ea.
      agrees_bind (IsMovedRawPoint d) (DrawingRead d) (raw_point_of (codes "end") one) (raw_point_of (codes "end") two) _ _ (raw_point_translated d (codes "end") refl i j s r h) (λ b b' eb.
      agrees_bind IsWide (DrawingRead d) (width_of one) (width_of two) _ _ (width_translated d i j s r h) (λ w w' ew.
      agrees_bind Same (DrawingRead d) (fill_of false one) (fill_of false two) _ _ (fill_translated d false i j s r h) (λ f f' ef.
      read_so (Circle a (radius_between a b)) (Circle a' (radius_between a' b')) w w' f f' (record { centers = ea; end = b; new_end = b'; ends = eb; is = refl; new_is = refl }) ew ef))))

  outline_translated : Agrees (DrawingRead d) (outline_drawing one) (outline_drawing two)
  unfolding outline_drawing
  outline_translated =
      agrees_bind (AreCorners d) (DrawingRead d) (corners_of one) (corners_of two) _ _ (corners_translated d i j s r h) (λ a a' ea.
      agrees_bind IsWide (DrawingRead d) (width_of one) (width_of two) _ _ (width_translated d i j s r h) (λ w w' ew.
      agrees_bind Same (DrawingRead d) (fill_of true one) (fill_of true two) _ _ (fill_translated d true i j s r h) (λ f f' ef.
      read_so (Outline a) (Outline a') w w' f f' ea ew ef)))

  pub drawing_translated : (kind : GraphicKind) → Agrees (DrawingRead d) (drawing_of kind one) (drawing_of kind two)
  drawing_translated LineKind = line_translated
  drawing_translated RectKind = rect_translated
  drawing_translated CircleKind = circle_translated
  drawing_translated OutlineKind = outline_translated
