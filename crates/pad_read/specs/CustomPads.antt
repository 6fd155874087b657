-- Custom pads: an anchor, and primitives around it.
use Rattle.std.specs.Prelude.{Bool, ◌||◌, not, List, [], ◌∷◌, ◌++◌, codes, Option, None, Some, option_and_then, Result, Ok, Err, if◌then◌else◌}
use Rattle.std.specs.List.{list_all}
use Rattle.sexpr_read.specs.Tree.{Tree, parts}
use Rattle.board_errors.specs.declared.errors.BoardError.{BoardError}
use Rattle.board_errors.specs.declared.errors.BoardError.TheVariants.{PadShape, Arc, Ring}
use Rattle.part_read.specs.declared.drawings.GraphicKind.{GraphicKind}
use Rattle.part_read.specs.declared.drawings.GraphicKind.TheVariants.{Line, Rect, Circle, Outline}
use Rattle.part_read.specs.declared.figures.Drawing.{Drawing}
use Rattle.list_read.specs.FirstRefusals.{◌>>=◌, check}
use Rattle.list_read.specs.ListHeads.{place, is_text, has_head}
use Rattle.list_read.specs.NamedElements.{element}
use Rattle.plain_types.specs.Lengths.{is_length}
use Rattle.part_read.specs.ElementResults.{given_or, atom_of}
use Rattle.part_read.specs.Figures.{is_ring, radius_with}
use Rattle.part_read.specs.Drawings.{drawing_of}
use Rattle.pad_read.specs.declared.sizes.Sizes.{Sizes}
use Rattle.pad_read.specs.declared.sizes.RoundedRect.{RoundedRect}
use Rattle.pad_read.specs.PadShapes.{circle_rounded_rect, rect_rounded_rect}

-- ---- the anchor: a disc or a rectangle

-- the anchor of this word; another word is refused at the pad
abbrev pub anchor_by_word : Tree → Sizes → Tree → Result RoundedRect BoardError
anchor_by_word pad s atom =
    if is_text atom (codes "circle") then Ok (circle_rounded_rect s)
    else if is_text atom (codes "rect") then Ok (rect_rounded_rect s)
    else Err (PadShape (place pad))

-- the anchor that (options (anchor WORD)) names, a disc where it is missing
unfoldable pub anchor_of : Sizes → Tree → Result RoundedRect BoardError
anchor_of s pad =
    given_or (circle_rounded_rect s) (λ list. atom_of 1 list >>= anchor_by_word pad s) (option_and_then (element (codes "anchor")) (element (codes "options") pad))

-- ---- the primitives

-- what a primitive is, by its head
abbrev pub primitive_kind : Tree → Option GraphicKind
primitive_kind t =
    if has_head (codes "gr_line") t then Some Line
    else if has_head (codes "gr_rect") t then Some Rect
    else if has_head (codes "gr_circle") t then Some Circle
    else if has_head (codes "gr_poly") t then Some Outline
    else None

-- an open circle is refused at the pad; arcs and curves are refused where they stand; others are passed over
abbrev pub primitive_by : Tree → Tree → Option GraphicKind → Result (List Drawing) BoardError
primitive_by pad t (Some kind) = do
  drawing ← drawing_of kind t
  solid ← check (Ring (place pad)) (not (is_ring drawing))
  Ok (drawing ∷ [])
primitive_by pad t None = if has_head (codes "gr_arc") t || has_head (codes "gr_curve") t then Err (Arc (place t)) else Ok []

-- what the primitives among these lists draw, in order; the first refusal counts
abbrev pub primitives_among : Tree → List Tree → Result (List Drawing) BoardError
primitives_among pad [] = Ok []
primitives_among pad (t ∷ ts) = do
  first ← primitive_by pad t (primitive_kind t)
  others ← primitives_among pad ts
  Ok (first ++ others)

-- what (primitives ..) draws
unfoldable pub primitives_of : Tree → Result (List Drawing) BoardError
primitives_of pad = given_or [] (λ list. primitives_among pad (parts list)) (element (codes "primitives") pad)

-- ---- what must be at most 500 mm, whether or not the pad has copper

-- the width of a primitive, and of a circle the diameter of its disc, its width included. In half nanometres it is the radius
abbrev pub primitive_fits : Drawing → Bool
primitive_fits d = is_length (radius_with d.width d.figure)

-- each primitive is at most that large
abbrev pub primitives_fit : List Drawing → Bool
primitives_fit ds = list_all primitive_fits ds
