-- What is found of the nets of a board.
use Rattle.std.specs.Prelude.{◌≡◌, ◌<◌, ℕ, Bool, not, nat_eq, nat_le, List, length, map, filter, All, IsSome}
use Rattle.std.specs.List.{AllZip}
use Rattle.board_items.specs.Boards.{PlainBoard, name_of}
use Rattle.ratsnest.specs.declared.anchor.Anchor.{Anchor}
use Rattle.ratsnest.specs.declared.link.Link.{Link}
use Rattle.ratsnest.specs.NestOf.{IsNest, HasPlaces}
use Rattle.net_groups.specs.NetGroups.{AreGroups, HasItem}
use Rattle.net_groups.specs.Anchors.{AreAnchors}

-- its groups, where links may end, and the links
pub record PlainNetPart : Type 0 where
  pub net : ℕ
  pub groups : List (List ℕ)
  pub anchors : List Anchor
  pub links : List Link

-- a net is open where its copper is in two pieces or more
abbrev pub is_open : PlainNetPart → Bool
is_open part = nat_le 2 (length part.groups)

-- what is found of the net of this number: the groups of its items, the anchors of these, and their nest
pub record IsNetPart (board : PlainBoard) (net : ℕ) (part : PlainNetPart) : Type 0 where
  pub number : part.net ≡ net
  pub groups : AreGroups board net part.groups
  pub anchors : AreAnchors board net part.groups part.anchors
  pub links : IsNest part.anchors part.links

-- the numbers of the nets that are declared, in the order of the file, but for 0, which is no net
abbrev pub real_nets : PlainBoard → List ℕ
real_nets board = filter (λ net. not (nat_eq net 0)) (map (λ entry. entry.0) board.nets)

-- a part for each net, in their order
abbrev pub AreParts : PlainBoard → List PlainNetPart → Type 0
AreParts board parts = AllZip (IsNetPart board) (real_nets board) parts

-- all that the lines of a net ask for
pub record IsWritable (board : PlainBoard) (part : PlainNetPart) : Type 0 where
  pub declared : IsSome (name_of board part.net)
  pub filled : All (λ group. 0 < length group) part.groups
  pub members : All (All (HasItem board)) part.groups
  pub anchors : All (λ anchor. HasItem board anchor.id) part.anchors
  pub places : All (HasPlaces part.anchors) part.links
