-- Figures that stand elsewhere: because their points were moved, or because what they stand in was.
use Rattle.std.specs.Prelude.{◌≡◌, ◌+ℤ◌, true}
use Rattle.std.specs.List.{AllZip}
use Rattle.one_item.specs.Positions.{is_near}
use Rattle.part_read.specs.declared.numbers.RawPoint.{RawPoint}
use Rattle.part_read.specs.declared.placements.Placement.{Placement}
use Rattle.part_read.specs.declared.figures.Figure.{Figure}
use Rattle.part_read.specs.declared.figures.Figure.TheVariants.{Line, Rect, Circle, Outline}
use Rattle.part_read.specs.Placements.{stood}
use Rattle.roundtrip_lists.specs.Translated.{Shift}
use Rattle.roundtrip_lists.specs.Moved.{moved_raw_point}

-- if the moved point is on a board, the second one stands there
abbrev pub StandsMoved : Shift → Placement → Placement → RawPoint → RawPoint → Type 0
StandsMoved d placement new s t = is_near ((stood placement s).x +ℤ d.dx) ≡ true → is_near ((stood placement s).y +ℤ d.dy) ≡ true → stood new t ≡ moved_raw_point d (stood placement s)

abbrev pub FigureMoved : Shift → Placement → Placement → Figure → Figure → Type 0
FigureMoved d placement new (Line a b) (Line c e) = StandsMoved d placement new a c × StandsMoved d placement new b e
FigureMoved d placement new (Line a b) (Rect c e) = ⊥
FigureMoved d placement new (Line a b) (Circle c r) = ⊥
FigureMoved d placement new (Line a b) (Outline ss) = ⊥
FigureMoved d placement new (Rect a b) (Line c e) = ⊥
FigureMoved d placement new (Rect a b) (Rect c e) = StandsMoved d placement new a c × StandsMoved d placement new b e
FigureMoved d placement new (Rect a b) (Circle c r) = ⊥
FigureMoved d placement new (Rect a b) (Outline ss) = ⊥
FigureMoved d placement new (Circle a q) (Line c e) = ⊥
FigureMoved d placement new (Circle a q) (Rect c e) = ⊥
FigureMoved d placement new (Circle a q) (Circle c r) = StandsMoved d placement new a c × (r ≡ q)
FigureMoved d placement new (Circle a q) (Outline ss) = ⊥
FigureMoved d placement new (Outline ss) (Line c e) = ⊥
FigureMoved d placement new (Outline ss) (Rect c e) = ⊥
FigureMoved d placement new (Outline ss) (Circle c r) = ⊥
FigureMoved d placement new (Outline ss) (Outline ts) = AllZip (StandsMoved d placement new) ss ts
