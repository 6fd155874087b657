-- The frame of a pad: (pad "NUMBER" TYPE SHAPE (at X Y ANGLE) (size W H) (drill ..) ..): how it is made, where it stands, how it is turned
-- and how large it and its hole are. A pad's angle is that on the board.
use Rattle.std.specs.Prelude.{ℕ, ◌<◌, ℤ, pos, Bool, true, false, ◌&&◌, not, codes, Option, None, Some, IfSome, Result, Ok, if◌then◌else◌}
use Rattle.std.specs.Ordering.{int_eq}
use Rattle.sexpr_read.specs.Tree.{Tree}
use Rattle.board_errors.specs.declared.errors.BoardError.{BoardError}
use Rattle.board_errors.specs.declared.errors.BoardError.TheVariants.{Missing, Turned, PadShape}
use Rattle.part_read.specs.declared.numbers.RawPoint.{RawPoint}
use Rattle.part_read.specs.declared.placements.Placement.{Placement}
use Rattle.list_read.specs.FirstRefusals.{◌>>=◌, needed, check}
use Rattle.list_read.specs.ListHeads.{place, is_text}
use Rattle.list_read.specs.NamedElements.{element}
use Rattle.part_read.specs.ElementResults.{atom_of}
use Rattle.part_read.specs.Placements.{IsRawPointWithin, IsReadRawPoint, stood}
use Rattle.pad_read.specs.declared.sizes.Sizes.{Sizes}
use Rattle.pad_read.specs.declared.sizes.Drilling.{Drilling}
use Rattle.pad_read.specs.declared.pads.PadType.{PadType}
use Rattle.pad_read.specs.declared.pads.PadType.TheVariants.{ThruHole, Smd, Connect, NpThruHole}
use Rattle.pad_read.specs.declared.pads.PadWord.{PadWord}
use Rattle.pad_read.specs.declared.pads.PadWord.TheVariants.{Circle, Rect, Oval, RoundRect, Custom}
use Rattle.pad_read.specs.declared.pads.Frame.{Frame}
use Rattle.pad_read.specs.LocalPlacements.{local_placement_of, quarters_of}
use Rattle.pad_read.specs.PadSizes.{AreRead, sizes_of, drilling_of}

-- ---- the words at its front

-- what a pad is made for, by its word
abbrev pub type_by : Tree → Option PadType
type_by atom =
    if is_text atom (codes "thru_hole") then Some ThruHole
    else if is_text atom (codes "smd") then Some Smd
    else if is_text atom (codes "connect") then Some Connect
    else if is_text atom (codes "np_thru_hole") then Some NpThruHole
    else None

-- what a pad is made for: its second word
abbrev pub type_of : Tree → Result PadType BoardError
type_of tree = atom_of 2 tree >>= λ atom. needed (Missing (place tree)) (type_by atom)

-- the shape of a pad, by its word; trapezoids are not read
abbrev pub word_by : Tree → Option PadWord
word_by atom =
    if is_text atom (codes "circle") then Some Circle
    else if is_text atom (codes "rect") then Some Rect
    else if is_text atom (codes "oval") then Some Oval
    else if is_text atom (codes "roundrect") then Some RoundRect
    else if is_text atom (codes "custom") then Some Custom
    else None

-- there is such an element
abbrev pub is_there : Option Tree → Bool
is_there None = false
is_there (Some t) = true

-- the shape, unless a corner is cut off
unfoldable pub word_of : Tree → Result PadWord BoardError
word_of tree = do
  atom ← atom_of 3 tree
  word ← needed (PadShape (place tree)) (word_by atom)
  whole ← check (PadShape (place tree)) (not (is_there (element (codes "chamfer") tree)))
  Ok word

-- ---- the hole

-- a pad of this type may have a hole
abbrev pub has_hole : PadType → Bool
has_hole ThruHole = true
has_hole NpThruHole = true
has_hole type = false

-- its hole is plated
abbrev pub is_plated : PadType → Bool
is_plated ThruHole = true
is_plated type = false

-- the sizes of its hole, if it has one
abbrev pub hole_sizes : PadType → Option Sizes → Option Sizes
hole_sizes type sizes = if has_hole type then sizes else None

-- ---- how it is turned: by quarter turns, or as it likes where nothing shows it

-- there is no hole, or both sizes of it are one
abbrev pub is_round_hole : Option Sizes → Bool
is_round_hole None = true
is_round_hole (Some s) = int_eq s.w s.h

-- the shape is a circle
abbrev pub is_circle_word : PadWord → Bool
is_circle_word Circle = true
is_circle_word word = false

-- nothing shows how the pad is turned: it is a circle, its copper is not moved, and its hole is round
abbrev pub is_turning : PadWord → RawPoint → Option Sizes → Bool
is_turning word offset hole = is_circle_word word && (int_eq offset.x (pos 0) && int_eq offset.y (pos 0)) && is_round_hole hole

-- the quarter turns that an angle is; where it is none of them, 0 if nothing shows it
abbrev pub or_unturned : Bool → Option ℕ → Option ℕ
or_unturned turns (Some quarter) = Some quarter
or_unturned turns None = if turns then Some 0 else None

-- how many quarter turns the pad is turned, if that can be said
abbrev pub quarter_of : PadWord → Drilling → PadType → ℤ → Option ℕ
quarter_of word drilling type angle = or_unturned (is_turning word drilling.offset (hole_sizes type drilling.sizes)) (quarters_of angle)

-- ---- the whole

-- the frame of a pad in a footprint that stands so; its position is relative to that of the footprint, and turned with it
unfoldable pub frame_of : Placement → Tree → Result Frame BoardError
frame_of placement tree = do
  type ← type_of tree
  word ← word_of tree
  local_placement ← local_placement_of tree
  sizes ← sizes_of tree
  drilling ← drilling_of tree
  quarter ← needed (Turned (place tree)) (quarter_of word drilling type local_placement.angle)
  Ok (record { pad_type = type; word = word; at = stood placement local_placement.at; quarter = quarter; sizes = sizes; drilling = drilling })

-- the position of a pad on the board, or off it: no further from 0 than the sum of two raw points that are read, those of its footprint and
-- its own
abbrev pub IsPadRawPoint : RawPoint → Type 0
IsPadRawPoint s = IsRawPointWithin 2000000000000 s

-- the frame is made of what was read, so its sums are in range
pub record IsFramed (f : Frame) : Type 0 where
  pub quarter : f.quarter < 4
  pub at : IsPadRawPoint f.at
  pub sizes : AreRead f.sizes
  pub drilled : IfSome f.drilling.sizes AreRead
  pub offset : IsReadRawPoint f.drilling.offset
