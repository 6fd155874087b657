-- What graphics draw, read from their lists: (HEAD (start X Y) (end X Y) (stroke (width W)) (fill F) ..) and its kin. The elements
-- are looked at in the order in which they stand here.
use Rattle.std.specs.Prelude.{◌≡◌, ◌⊎◌, nat_le, length, ℤ, pos, Bool, true, false, ◌&&◌, ◌||◌, not, List, [], ◌∷◌, codes, Option, option_and_then, Result, Ok, Err, if◌then◌else◌}
use Rattle.std.specs.Option.{option_or}
use Rattle.sexpr_read.specs.Tree.{Tree, parts}
use Rattle.board_errors.specs.declared.errors.BoardError.{BoardError}
use Rattle.board_errors.specs.declared.errors.BoardError.TheVariants.{Missing, Arc, OutOfMemory}
use Rattle.part_read.specs.declared.numbers.RawPoint.{RawPoint}
use Rattle.part_read.specs.declared.figures.Figure.TheVariants.{Line, Rect, Circle, Outline}
use Rattle.part_read.specs.declared.figures.Drawing.{Drawing}
use Rattle.part_read.specs.declared.drawings.GraphicKind.{GraphicKind}
use Rattle.part_read.specs.declared.drawings.GraphicKind.TheVariants.{Line as LineKind, Rect as RectKind, Circle as CircleKind, Outline as OutlineKind}
use Rattle.list_read.specs.FirstRefusals.{◌>>=◌, check}
use Rattle.list_read.specs.ListHeads.{place, is_text, has_head}
use Rattle.list_read.specs.NamedElements.{element}
use Rattle.part_read.specs.ElementResults.{in_needed, given_or, atom_of}
use Rattle.part_read.specs.BoardNumbers.{raw_point_at, raw_point_of, size_at}
use Rattle.part_read.specs.Lists.{before}
use Rattle.part_read.specs.Circles.{radius_between}

-- ---- corners

-- the raw points of each (xy X Y), in order; an (arc ..) is refused, or passed over where curves may stand
abbrev pub raw_points_among : Bool → List Tree → Result (List RawPoint) BoardError
raw_points_among curved [] = Ok []
raw_points_among curved (t ∷ ts) =
    if has_head (codes "xy") t then (do
      raw_point ← raw_point_at t
      raw_points ← raw_points_among curved ts
      Ok (raw_point ∷ raw_points))
    else if has_head (codes "arc") t && not curved then Err (Arc (place t))
    else raw_points_among curved ts

-- one part more is looked at: the raw points so far, and those of this part and of what follows it, are the new ones and those of what
-- follows; or the part is refused
abbrev pub TakesRawPoint : Result (Unit {0}) BoardError → Bool → Tree → List RawPoint → List RawPoint → Type 0
TakesRawPoint (Ok _) curved t old new = (rest : List Tree) → before old (raw_points_among curved (t ∷ rest)) ≡ before new (raw_points_among curved rest)
TakesRawPoint (Err e) curved t old new = (e ≡ OutOfMemory) ⊎ ((rest : List Tree) → raw_points_among curved (t ∷ rest) ≡ Err e)

-- three raw points or more
abbrev pub enough : Tree → List RawPoint → Result (List RawPoint) BoardError
enough list raw_points = check (Missing (place list)) (nat_le 3 (length raw_points)) >>= λ _. Ok raw_points

-- the corners of (pts (xy X Y) ..)
unfoldable pub corners_in : Tree → Result (List RawPoint) BoardError
corners_in list = raw_points_among false (parts list) >>= enough list

-- the corners in the element `pts`, which must be there
abbrev pub corners_of : Tree → Result (List RawPoint) BoardError
corners_of tree = in_needed corners_in tree (element (codes "pts") tree)

-- ---- width and fill

-- the list of the width: that in a stroke, else that beside it
abbrev pub width_list : Tree → Option Tree
width_list tree = option_or (option_and_then (element (codes "width")) (element (codes "stroke") tree)) (element (codes "width") tree)

-- the width in (stroke (width W) ..), else that in (width W), else 0
unfoldable pub width_of : Tree → Result ℤ BoardError
width_of tree = given_or (pos 0) size_at (width_list tree)

-- what the word says, if it is one of the four
abbrev pub filled_by : Bool → Tree → Bool
filled_by otherwise atom =
    if is_text atom (codes "solid") || is_text atom (codes "yes") then true
    else if is_text atom (codes "none") || is_text atom (codes "no") then false
    else otherwise

-- whether (fill WORD) says that it is filled
unfoldable pub fill_of : Bool → Tree → Result Bool BoardError
fill_of otherwise tree = given_or otherwise (λ list. atom_of 1 list >>= λ atom. Ok (filled_by otherwise atom)) (element (codes "fill") tree)

-- ---- drawings; where `fill` is missing, an outline is filled and the others are not

-- a line from its start to its end
unfoldable pub line_drawing : Tree → Result Drawing BoardError
line_drawing tree = do
  start ← raw_point_of (codes "start") tree
  end ← raw_point_of (codes "end") tree
  width ← width_of tree
  Ok (record { figure = Line start end; width = width; filled = true })

-- a rectangle, of which two corners that lie across are given
unfoldable pub rect_drawing : Tree → Result Drawing BoardError
rect_drawing tree = do
  start ← raw_point_of (codes "start") tree
  end ← raw_point_of (codes "end") tree
  width ← width_of tree
  filled ← fill_of false tree
  Ok (record { figure = Rect start end; width = width; filled = filled })

-- a circle around its centre through its end
unfoldable pub circle_drawing : Tree → Result Drawing BoardError
circle_drawing tree = do
  center ← raw_point_of (codes "center") tree
  end ← raw_point_of (codes "end") tree
  width ← width_of tree
  filled ← fill_of false tree
  Ok (record { figure = Circle center (radius_between center end); width = width; filled = filled })

-- an outline by its corners
unfoldable pub outline_drawing : Tree → Result Drawing BoardError
outline_drawing tree = do
  corners ← corners_of tree
  width ← width_of tree
  filled ← fill_of true tree
  Ok (record { figure = Outline corners; width = width; filled = filled })

-- what a graphic of this kind draws
abbrev pub drawing_of : GraphicKind → Tree → Result Drawing BoardError
drawing_of LineKind tree = line_drawing tree
drawing_of RectKind tree = rect_drawing tree
drawing_of CircleKind tree = circle_drawing tree
drawing_of OutlineKind tree = outline_drawing tree
