-- The lines of a net that is not whole: its groups, each by how many items it has and its item of the least id, and the links
-- that would join them.
use Rattle.std.specs.Prelude.{ℕ, List, [], ◌++◌, length, codes, decimal, Option, None, Some, unwrap_or}
use Rattle.std.specs.List.{flat_map}
use Rattle.exact_dec.specs.MillimetreText.{mm_text}
use Rattle.one_item.specs.declared.item.Item.{Item}
use Rattle.board_items.specs.Boards.{PlainBoard, item_at, name_of}
use Rattle.net_groups.specs.ConnectedClasses.{least}
use Rattle.ratsnest.specs.declared.anchor.Anchor.{Anchor}
use Rattle.ratsnest.specs.declared.link.Link.{Link}
use Rattle.ratsnest.specs.NestOf.{anchor_at}
use Rattle.drc_rows.specs.Buffer.{named}
use Rattle.drc_rows.specs.Report.{title_of, text_of}

-- how many groups the net has
abbrev pub net_line : List ℕ → ℕ → List ℕ
net_line name count = named (codes "net") name ++ (codes ": " ++ decimal count ++ codes " groups\n")

-- a group, whose members rise
abbrev pub group_line : PlainBoard → List ℕ → List ℕ
group_line board group = (codes "group of " ++ decimal (length group) ++ codes ": ") ++ text_of (item_at board.items (least group)) ++ codes "\n"

-- an item, said to be where an anchor is
abbrev pub item_text_at : Item → Anchor → List ℕ
item_text_at item anchor = title_of item.name item.what ++ (codes " at " ++ mm_text anchor.x ++ codes " " ++ mm_text anchor.y)

-- the same of the item of an id. Those of anchors are always there
abbrev pub text_at : Option Item → Anchor → List ℕ
text_at None anchor = []
text_at (Some item) anchor = item_text_at item anchor

-- an anchor: its item, and where it is itself
abbrev pub anchor_text : PlainBoard → Anchor → List ℕ
anchor_text board anchor = text_at (item_at board.items anchor.id) anchor

-- the two ends of a link
abbrev pub ends_text : PlainBoard → Anchor → Anchor → List ℕ
ends_text board first second = anchor_text board first ++ codes " | " ++ anchor_text board second

-- a link, with the square of its length in square nanometres
unfoldable pub link_line : PlainBoard → List Anchor → Link → List ℕ
link_line board anchors link =
    (codes "link " ++ decimal link.square ++ codes ": ") ++ ends_text board (anchor_at anchors link.first) (anchor_at anchors link.second) ++ codes "\n"

-- all lines of the net
unfoldable pub net_block : PlainBoard → ℕ → List (List ℕ) → List Anchor → List Link → List ℕ
net_block board net groups anchors links =
    net_line (unwrap_or (name_of board net) []) (length groups) ++ flat_map (group_line board) groups ++ flat_map (link_line board anchors) links
