-- What a list of a board is, by its head. The lists are those of the KiCad developer documentation.
use Rattle.std.specs.Prelude.{List, [], ◌∷◌, codes, Bool, ◌||◌, Option, None, Some, if◌then◌else◌}
use Rattle.sexpr_read.specs.Tree.{Tree, parts}
use Rattle.one_item.specs.declared.item.About.TheVariants.{Text as OfText, Dimension as OfDimension}
use Rattle.part_read.specs.declared.drawings.GraphicKind.TheVariants.{Line, Rect, Circle, Outline}
use Rattle.list_read.specs.ListHeads.{is_text}
use Rattle.pcb_read.specs.declared.sorts.Sort.{Sort}
use Rattle.pcb_read.specs.declared.sorts.Sort.TheVariants.{Track, Via, Arc, Graphic, Curve, Text, Zone, Footprint}

abbrev pub is_curve : Tree → Bool
is_curve head = is_text head (codes "gr_arc") || is_text head (codes "gr_curve") || is_text head (codes "bezier")

abbrev pub is_writing : Tree → Bool
is_writing head = is_text head (codes "gr_text") || is_text head (codes "gr_text_box")

-- graphics, texts and dimensions
abbrev pub drawn_sort : Tree → Option Sort
drawn_sort head =
    if is_text head (codes "gr_line") then Some (Graphic Line)
    else if is_text head (codes "gr_rect") then Some (Graphic Rect)
    else if is_text head (codes "gr_circle") then Some (Graphic Circle)
    else if is_text head (codes "gr_poly") then Some (Graphic Outline)
    else if is_curve head then Some Curve
    else if is_writing head then Some (Text OfText)
    else if is_text head (codes "dimension") then Some (Text OfDimension)
    else None

abbrev pub sort_by : Tree → Option Sort
sort_by head =
    if is_text head (codes "segment") then Some Track
    else if is_text head (codes "via") then Some Via
    else if is_text head (codes "zone") then Some Zone
    else if is_text head (codes "footprint") then Some Footprint
    else if is_text head (codes "arc") then Some Arc
    else drawn_sort head

abbrev pub sort_among : List Tree → Option Sort
sort_among [] = None
sort_among (head ∷ others) = sort_by head

-- None where its head is that of no item
unfoldable pub sort_of : Tree → Option Sort
sort_of tree = sort_among (parts tree)
