-- Footprints: the items that (footprint .. (layer F.Cu) (at X Y ANGLE) ..) gives: its body, then its pads, graphics, edges and notes in
-- the order of the text, then a note for each side whose courtyard is not checked, front first. Raw points of its parts are relative to its
-- position, and turned by its angle.
use Rattle.std.specs.Prelude.{◌≡◌, ◌⊎◌, Vec, ℕ, suc, Bool, ◌&&◌, ◌||◌, List, [], ◌∷◌, ◌++◌, map, codes, Option, None, Some, Result, Ok, Err, refl, if◌then◌else◌}
use Rattle.std.specs.declared.alloc.Global.{Global}
use Rattle.sexpr_read.specs.Tree.{Tree, parts}
use Rattle.board_errors.specs.declared.errors.BoardError.{BoardError}
use Rattle.board_errors.specs.declared.errors.BoardError.TheVariants.{OutOfBoard, TooMany, OutOfMemory}
use Rattle.one_item.specs.declared.item.About.TheVariants.{Text, Courtyard, FootZone}
use Rattle.one_item.specs.declared.item.What.TheVariants.{Body}
use Rattle.one_item.specs.declared.item.Item.{Item}
use Rattle.board_items.specs.Boards.{PlainBoard}
use Rattle.part_read.specs.declared.drawings.GraphicKind.{GraphicKind}
use Rattle.part_read.specs.declared.drawings.GraphicKind.TheVariants.{Line, Rect, Circle, Outline}
use Rattle.part_read.specs.declared.graphics.LayerRole.{LayerRole}
use Rattle.part_read.specs.declared.graphics.LayerRole.TheVariants.{Front, Back}
use Rattle.list_read.specs.FirstRefusals.{◌>>=◌, check}
use Rattle.list_read.specs.ListHeads.{place, has_head}
use Rattle.part_read.specs.ElementResults.{name_in}
use Rattle.part_read.specs.OnBoard.{fits_board}
use Rattle.part_read.specs.PlainItems.{plain_item}
use Rattle.part_read.specs.Capacity.{has_capacity_after}
use Rattle.part_read.specs.Graphics.{layer_role_of, graphic_by, curve_by, text_by, note_of}
use Rattle.pad_read.specs.declared.head.Head.{Head}
use Rattle.footprint_read.specs.declared.sides.CourtSide.{CourtSide}
use Rattle.footprint_read.specs.declared.contents.Contents.{Contents}
use Rattle.footprint_read.specs.declared.contents.Given.{Given}
use Rattle.footprint_read.specs.FootHead.{head_of}
use Rattle.pad_read.specs.PadOf.{pad_of}
use Rattle.footprint_read.specs.declared.courts.Court.{Court}
use Rattle.footprint_read.specs.declared.courts.Court.TheVariants.{Unchecked}
use Rattle.footprint_read.specs.Courtyards.{IsCourt, empty_side, side_then, curve_side, graphic_side, parts_in, lies_on_board}

-- ---- what each child gives

-- nothing is given
abbrev pub empty : Contents
empty = record { given = []; front = empty_side; back = empty_side }

-- items, with the place of the list that gives them
abbrev pub given_at : ℕ → List Item → List Given
given_at place items = map (λ item. record { place = place; item = item }) items

-- the items that this list gives, and nothing to a side
abbrev pub giving : Tree → Result (List Item) BoardError → Result Contents BoardError
giving tree answer = answer >>= λ items. Ok (record empty { given = given_at (place tree) items })

-- what is given to the courtyard of the front
abbrev pub at_front : Result CourtSide BoardError → Result Contents BoardError
at_front answer = answer >>= λ side. Ok (record empty { front = side })

-- what is given to the courtyard of the back
abbrev pub at_back : Result CourtSide BoardError → Result Contents BoardError
at_back answer = answer >>= λ side. Ok (record empty { back = side })

-- what a graphic gives that lies here
abbrev pub drawn_gives : PlainBoard → ℕ → Head → GraphicKind → Tree → LayerRole → Result Contents BoardError
drawn_gives board unit head kind tree Front = at_front (graphic_side head.placement kind tree)
drawn_gives board unit head kind tree Back = at_back (graphic_side head.placement kind tree)
drawn_gives board unit head kind tree lies = giving tree (graphic_by board unit head.placement kind tree lies)

-- a curve on copper or on Edge.Cuts is refused, and one in a courtyard leaves its side unchecked
abbrev pub arc_gives : Tree → LayerRole → Result Contents BoardError
arc_gives tree Front = at_front (Ok curve_side)
arc_gives tree Back = at_back (Ok curve_side)
arc_gives tree lies = giving tree (curve_by tree lies)

-- what a graphic of a footprint is, by its head
abbrev pub drawn_kind : Tree → Option GraphicKind
drawn_kind t =
    if has_head (codes "fp_line") t then Some Line
    else if has_head (codes "fp_rect") t then Some Rect
    else if has_head (codes "fp_circle") t then Some Circle
    else if has_head (codes "fp_poly") t then Some Outline
    else None

-- the list is an arc or a curve
abbrev pub is_curve : Tree → Bool
is_curve t = has_head (codes "fp_arc") t || has_head (codes "fp_curve") t

-- texts, and properties, which KiCad 8 shows as texts
abbrev pub is_writing : Tree → Bool
is_writing t = has_head (codes "fp_text") t || has_head (codes "fp_text_box") t || has_head (codes "property") t

-- what a child gives that is neither a pad nor a graphic
abbrev pub other_gives : PlainBoard → ℕ → Tree → Result Contents BoardError
other_gives board unit t =
    if is_curve t then (layer_role_of board.copper t >>= arc_gives t)
    else if is_writing t then (layer_role_of board.copper t >>= λ lies. giving t (text_by unit Text t lies))
    else if has_head (codes "zone") t then giving t (Ok (note_of (name_in t) unit FootZone [] ∷ []))
    else Ok empty

-- what a child gives that is no pad, by the graphic that it is
abbrev pub kind_gives : PlainBoard → ℕ → Head → Tree → Option GraphicKind → Result Contents BoardError
kind_gives board unit head t (Some kind) = layer_role_of board.copper t >>= drawn_gives board unit head kind t
kind_gives board unit head t None = other_gives board unit t

-- what a child of the footprint gives
unfoldable pub child_gives : PlainBoard → ℕ → Head → Tree → Result Contents BoardError
child_gives board unit head t =
    if has_head (codes "pad") t then giving t (pad_of board unit head t >>= λ pad. Ok (pad ∷ []))
    else kind_gives board unit head t (drawn_kind t)

-- ---- what all children give, in the order of the text: the first refusal counts

-- what is given first, and what comes after it
abbrev pub contents_then : Contents → Contents → Contents
contents_then first more = record { given = first.given ++ more.given; front = side_then first.front more.front; back = side_then first.back more.back }

-- what these children give
abbrev pub children_give : PlainBoard → ℕ → Head → List Tree → Result Contents BoardError
children_give board unit head [] = Ok empty
children_give board unit head (t ∷ ts) = do
  first ← child_gives board unit head t
  more ← children_give board unit head ts
  Ok (contents_then first more)

-- ---- body and notes of courtyards

-- the body of a footprint, with its reference and its courtyards
abbrev pub body_of : ℕ → Head → Tree → Court → Court → Item
body_of unit head tree front back =
    plain_item (name_in tree) unit 0 head.placement.at [] (Body head.reference (parts_in front) (parts_in back) head.on_back) refl

-- the note of a courtyard that is not checked
abbrev pub court_notes : ℕ → Tree → List ℕ → Court → List Item
court_notes unit tree layer Unchecked = note_of (name_in tree) unit Courtyard layer ∷ []
court_notes unit tree layer court = []

-- the body, what the children give, and the notes of the courtyards, the front first
abbrev pub all_given : ℕ → Head → Tree → List Given → Court → Court → List Given
all_given unit head tree given front back =
    ((given_at (place tree) (body_of unit head tree front back ∷ []) ++ given)
    ++ given_at (place tree) (court_notes unit tree (codes "F.CrtYd") front))
    ++ given_at (place tree) (court_notes unit tree (codes "B.CrtYd") back)

-- ---- room

-- the items alone
abbrev pub items_of : List Given → List Item
items_of given = map (λ g. g.item) given

-- the first item for which there is no room is refused at the list that gives it; so many come before
abbrev pub with_reserved : PlainBoard → ℕ → ℕ → List Given → Result (Unit {0}) BoardError
with_reserved board unit before [] = Ok tt
with_reserved board unit before (g ∷ gs) =
    if has_capacity_after before board unit then with_reserved board unit (suc before) gs else Err (TooMany g.place)

-- the items, if the board has room for them all
abbrev pub in_capacity : PlainBoard → ℕ → List Given → Result (List Item) BoardError
in_capacity board unit given = with_reserved board unit 0 given >>= λ capacity. Ok (items_of given)

-- the body must lie on the board with its courtyards; then there must be room
abbrev pub is_placed : Head → Court → Court → Bool
is_placed head front back = fits_board head.placement.at && (lies_on_board front && lies_on_board back)

-- the items of a footprint with these courtyards, if it lies on the board and there is room
unfoldable pub finished : PlainBoard → ℕ → Head → Tree → List Given → Court → Court → Result (List Item) BoardError
finished board unit head tree given front back = do
  on_board ← check (OutOfBoard (place tree)) (is_placed head front back)
  in_capacity board unit (all_given unit head tree given front back)

-- ---- the whole: it gives these items, or this refusal

-- what all children of a footprint give
abbrev pub contents_of : PlainBoard → ℕ → Head → Tree → Result Contents BoardError
contents_of board unit head tree = children_give board unit head (parts tree)

-- what the children gave and the courtyards of both sides, by their definition, make the answer
pub record SaysOf (board : PlainBoard) (unit : ℕ) (head : Head) (tree : Tree) (contents : Contents) (answer : Result (List Item) BoardError) : Type 0 where
  pub front : Court
  pub back : Court
  pub of_front : IsCourt head.placement contents.front front
  pub of_back : IsCourt head.placement contents.back back
  pub same : answer ≡ finished board unit head tree contents.given front back

-- the answer of a footprint whose children gave this, or were refused so
abbrev pub SaysInside : PlainBoard → ℕ → Head → Tree → Result Contents BoardError → Result (List Item) BoardError → Type 0
SaysInside board unit head tree (Err e) answer = answer ≡ Err e
SaysInside board unit head tree (Ok contents) answer = SaysOf board unit head tree contents answer

-- the answer of a footprint whose head was read as this, or was refused so
abbrev pub SaysWithHead : PlainBoard → ℕ → Tree → Result Head BoardError → Result (List Item) BoardError → Type 0
SaysWithHead board unit tree (Err e) answer = answer ≡ Err e
SaysWithHead board unit tree (Ok head) answer = SaysInside board unit head tree (contents_of board unit head tree) answer

-- the answer of this list as a footprint on this board
abbrev pub FootprintSays : PlainBoard → ℕ → Tree → Result (List Item) BoardError → Type 0
FootprintSays board unit tree answer = SaysWithHead board unit tree (head_of board.copper tree) answer

-- the call gives items that the definition gives, or a refusal that it gives, unless memory ran out
abbrev pub SaysItems : Result (Vec Item Global) BoardError → PlainBoard → ℕ → Tree → Type 0
SaysItems (Ok items) board unit tree = FootprintSays board unit tree (Ok items.items)
SaysItems (Err e) board unit tree = (e ≡ OutOfMemory) ⊎ FootprintSays board unit tree (Err e)
