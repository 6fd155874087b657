-- The board of a tree: (kicad_pcb (version N) PART ..), its parts read in the order of the text. The formats are those of the
-- KiCad developer documentation. A list with a head that is not named here is passed over, and so is what stands in a list beside
-- the elements that are named; of two elements with one head the first counts.
use Rattle.std.specs.Prelude.{◌≡◌, ◌⊎◌, List, [], ◌∷◌, ◌++◌, find, codes, Bool, true, false, ◌||◌, Option, None, Some, Result, Ok, Err, if◌then◌else◌}
use Rattle.sexpr_read.specs.Tree.{Tree, parts, is_list}
use Rattle.board_errors.specs.declared.errors.BoardError.{BoardError}
use Rattle.board_errors.specs.declared.errors.BoardError.TheVariants.{NotABoard, Version, Missing}
use Rattle.one_item.specs.declared.item.Item.{Item}
use Rattle.board_items.specs.Boards.{PlainBoard, empty_board, with_item}
use Rattle.list_read.specs.FirstRefusals.{◌>>=◌, needed, check}
use Rattle.list_read.specs.ListHeads.{place, is_text, has_head}
use Rattle.part_read.specs.ElementResults.{atom_of}
use Rattle.part_read.specs.BoardLayers.{layers_listed}
use Rattle.pcb_read.specs.declared.sorts.Sort.{Sort}
use Rattle.pcb_read.specs.Nets.{with_net_of}
use Rattle.pcb_read.specs.Sorts.{sort_of}
use Rattle.pcb_read.specs.ItemsOf.{SaysItems}

-- ---- the parts of the root

-- the board so far, and whether its layers were listed
pub record Reading : Type 0 where
  pub board : PlainBoard
  pub layered : Bool

-- the first list of layers gives the copper layers; a second one is passed over
unfoldable pub with_layers : Reading → Tree → Result Reading BoardError
with_layers reading tree =
    if reading.layered then Ok reading
    else (layers_listed tree >>= λ set. Ok (record { board = record reading.board { copper = set }; layered = true }))

abbrev pub with_board : Reading → Result PlainBoard BoardError → Result Reading BoardError
with_board reading answer = answer >>= λ board. Ok (record reading { board = board })

-- a part that gives no items
unfoldable pub with_other : Reading → Tree → Result Reading BoardError
with_other reading tree =
    if has_head (codes "net") tree then with_board reading (with_net_of reading.board tree)
    else if has_head (codes "layers") tree then with_layers reading tree
    else Ok reading

-- the items go last, in order
abbrev pub with_items : PlainBoard → List Item → PlainBoard
with_items board [] = board
with_items board (item ∷ items) = with_items (with_item board item) items

-- the new board is the old one with the first of the items, all or none or some of them: what stood there stays as it was
abbrev pub HasFirstOf : List Item → PlainBoard → PlainBoard → Type 0
HasFirstOf items old new = (first : List Item) × (others : List Item) × (items ≡ first ++ others) × (new ≡ with_items old first)

-- with the items that were found
abbrev pub with_found : PlainBoard → Result (List Item) BoardError → Result PlainBoard BoardError
with_found board items = items >>= λ found. Ok (with_items board found)

-- the board with the items of a list, which are a unit of their own
abbrev pub SaysWith : PlainBoard → Tree → Sort → Result PlainBoard BoardError → Type 0
SaysWith board tree sort answer =
    (items : Result (List Item) BoardError) × SaysItems board board.next_unit tree sort items × (answer ≡ with_found board items)

-- what is read with one part of the root
abbrev pub SaysPartBy : Reading → Tree → Option Sort → Result Reading BoardError → Type 0
SaysPartBy reading tree None answer = answer ≡ with_other reading tree
SaysPartBy reading tree (Some sort) answer = (board : Result PlainBoard BoardError) × SaysWith reading.board tree sort board × (answer ≡ with_board reading board)

abbrev pub SaysPart : Reading → Tree → Result Reading BoardError → Type 0
SaysPart reading tree answer = SaysPartBy reading tree (sort_of tree) answer

-- what is read with all parts, up to the first refusal
abbrev pub SaysParts : Reading → List Tree → Result Reading BoardError → Type 0
SaysParts reading [] answer = answer ≡ Ok reading
SaysParts reading (t ∷ ts) answer =
    ((next : Reading) × SaysPart reading t (Ok next) × SaysParts next ts answer)
    ⊎ ((e : BoardError) × SaysPart reading t (Err e) × (answer ≡ Err e))

-- ---- the root

-- the versions that are read: those of KiCad 7 and of KiCad 8
abbrev pub is_version : Tree → Bool
is_version atom = is_text atom (codes "20221018") || is_text atom (codes "20240108")

-- (version N), which is the first list in the root
unfoldable pub version_in : Tree → Result (Unit {0}) BoardError
version_in root = do
  list ← needed (Missing (place root)) (find is_list (parts root))
  named ← check (Missing (place root)) (has_head (codes "version") list)
  atom ← atom_of 1 list
  check (Version (place atom)) (is_version atom)

-- it is the root of a board, of a version that is read
unfoldable pub header_in : Tree → Result (Unit {0}) BoardError
header_in root = check (NotABoard (place root)) (has_head (codes "kicad_pcb") root) >>= λ named. version_in root

-- no layer is listed, and no net declared but 0
abbrev pub unread : Reading
unread = record { board = empty_board (record { bits = 0 }); layered = false }

-- a board must list its layers
abbrev pub board_in : Tree → Result Reading BoardError → Result PlainBoard BoardError
board_in root answer = do
  reading ← answer
  layered ← check (Missing (place root)) reading.layered
  Ok reading.board

abbrev pub SaysAfter : Tree → Result (Unit {0}) BoardError → Result PlainBoard BoardError → Type 0
SaysAfter root (Err e) answer = answer ≡ Err e
SaysAfter root (Ok _) answer = (reading : Result Reading BoardError) × SaysParts unread (parts root) reading × (answer ≡ board_in root reading)

-- the board that a root says, or its first refusal
abbrev pub SaysBoard : Tree → Result PlainBoard BoardError → Type 0
SaysBoard root answer = SaysAfter root (header_in root) answer
