-- Which pairs of items are compared for which kind, as this project's profile has it. Two items are of one footprint where they
-- are of one unit.
use Rattle.std.specs.Prelude.{ℕ, List, [], Bool, true, false, ◌&&◌, ◌||◌, not, nat_eq, ◌==◌, bytes_eq, bit_and, Option, Some}
use Rattle.std.specs.Ordering.{int_eq}
use Rattle.geo_seg.specs.declared.points.Point.{Point}
use Rattle.geo_seg.specs.declared.shapes.Core.{Core}
use Rattle.geo_seg.specs.declared.shapes.Core.TheVariants.{Line, Area as Polygon}
use Rattle.copper_layers.specs.declared.set.LayerSet.{LayerSet}
use Rattle.one_item.specs.declared.item.Hole.{Hole}
use Rattle.one_item.specs.declared.item.Bans.{Bans}
use Rattle.one_item.specs.declared.item.What.{What}
use Rattle.one_item.specs.declared.item.What.TheVariants.{Track, Via, Pad, Graphic, Edge, Area, Body}
use Rattle.one_item.specs.declared.item.Item.{Item}
use Rattle.one_item.specs.ItemKinds.{is_body}
use Rattle.cond_lang.specs.declared.kind.Kind.{Kind}
use Rattle.cond_lang.specs.declared.kind.Kind.TheVariants.{Short, Clearance, HoleClearance, HoleToHole, EdgeClearance, CourtyardClearance, Keepout, TrackWidth, ViaDiameter, HoleSize, AnnularWidth, Disallow, PhysicalClearance, PhysicalHoleClearance, Assertion}

-- ---- nets

-- both are on the same net, which is one
abbrev pub share_net : Item → Item → Bool
share_net a b = nat_eq a.net b.net && not (nat_eq a.net 0)

-- neither is on a net
abbrev pub are_without_net : Item → Item → Bool
are_without_net a b = nat_eq a.net 0 && nat_eq b.net 0

-- both are on nets
abbrev pub are_on_nets : Item → Item → Bool
are_on_nets a b = not (nat_eq a.net 0) && not (nat_eq b.net 0)

-- ---- footprints

abbrev pub is_pad : What → Bool
is_pad (Pad number reference) = true
is_pad _ = false

abbrev pub is_graphic : What → Bool
is_graphic Graphic = true
is_graphic _ = false

-- the number of a pad; what is no pad has none
abbrev pub pad_number : What → List ℕ
pad_number (Pad number reference) = number
pad_number _ = []

abbrev pub are_graphics : Item → Item → Bool
are_graphics a b = is_graphic a.what && is_graphic b.what

-- both are of one footprint, or at least of one list of the board file
abbrev pub are_of_one_unit : Item → Item → Bool
are_of_one_unit a b = nat_eq a.unit b.unit

-- the one is a graphic and the other a pad
abbrev pub are_graphic_and_pad : Item → Item → Bool
are_graphic_and_pad a b = (is_graphic a.what && is_pad b.what) || (is_pad a.what && is_graphic b.what)

-- both are pads, and have one number that is not empty
abbrev pub are_pads_of_one_number : Item → Item → Bool
are_pads_of_one_number a b = not (bytes_eq (pad_number a.what) []) && bytes_eq (pad_number a.what) (pad_number b.what)

-- a graphic and a pad of one footprint, or two of its pads with one number
abbrev pub belong_together : Item → Item → Bool
belong_together a b = are_of_one_unit a b && (are_graphic_and_pad a b || are_pads_of_one_number a b)

-- ---- holes

-- a via with the word `micro`
abbrev pub is_micro_via : What → Bool
is_micro_via (Via size drill micro blind) = micro
is_micro_via _ = false

abbrev pub is_one_point : Point → Point → Bool
is_one_point a b = int_eq a.x b.x && int_eq a.y b.y

-- a round hole is a disc: its core is one point
abbrev pub is_disc : Core → Bool
is_disc (Line s) = is_one_point s.a s.b
is_disc (Polygon corners) = false

-- a layer is in both sets
abbrev pub do_share_layer : LayerSet → LayerSet → Bool
do_share_layer s t = not (bit_and s.bits t.bits == 0)

-- both are there and round, and go through a layer together
abbrev pub are_round_holes : Option Hole → Option Hole → Bool
are_round_holes (Some a) (Some b) = is_disc a.shape.core && is_disc b.shape.core && do_share_layer a.layers b.layers
are_round_holes _ _ = false

-- ---- areas

-- the bans of an area are against the kind of item
abbrev pub does_ban : Bans → What → Bool
does_ban bans (Track width) = bans.tracks
does_ban bans (Via size drill micro blind) = bans.vias
does_ban bans (Pad number reference) = bans.pads
does_ban bans (Body reference front back on_back) = bans.footprints
does_ban bans _ = false

-- the one is a rule area that bans the other
abbrev pub keeps_out : What → What → Bool
keeps_out (Area title bans shape) what = does_ban bans what
keeps_out _ what = false

-- ---- edges

abbrev pub is_edge : What → Bool
is_edge (Edge lines) = true
is_edge _ = false

-- ---- the table

-- not one net, not both without one, not two graphics, and not parts of one footprint that belong together
abbrev pub may_be_near : Item → Item → Bool
may_be_near a b = not (share_net a b || are_without_net a b || are_graphics a b || belong_together a b)

-- the pair is compared for the kind. That a short takes the place of a clearance, and of that of a hole, is said where rows are defined
unfoldable pub is_compared : Kind → Item → Item → Bool
is_compared Short a b = may_be_near a b && are_on_nets a b
is_compared Clearance a b = may_be_near a b
is_compared HoleClearance a b = not (share_net a b || belong_together a b)
is_compared HoleToHole a b = not (is_micro_via a.what || is_micro_via b.what) && are_round_holes a.hole b.hole
is_compared EdgeClearance a b = not (are_of_one_unit a b || (is_edge a.what && is_edge b.what))
is_compared CourtyardClearance a b = is_body a.what && is_body b.what
is_compared Keepout a b = not (are_of_one_unit a b) && (keeps_out a.what b.what || keeps_out b.what a.what)
is_compared PhysicalClearance a b = not (are_of_one_unit a b)
is_compared PhysicalHoleClearance a b = not (are_of_one_unit a b)
is_compared TrackWidth a b = false
is_compared ViaDiameter a b = false
is_compared HoleSize a b = false
is_compared AnnularWidth a b = false
is_compared Disallow a b = false
is_compared Assertion a b = false
