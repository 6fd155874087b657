-- What is measured for a kind on a layer: which parts of the one item face which parts of the other.
use Rattle.std.specs.Prelude.{ℕ, ℤ, nat_eq, Bool, true, false, IsTrue, List, [], ◌∷◌, ◌⊎◌, All, if◌then◌else◌, Option}
use Rattle.std.specs.List.{Any}
use Rattle.one_item.specs.declared.parts.Part.{Part}
use Rattle.one_item.specs.declared.item.Hole.{Hole}
use Rattle.one_item.specs.declared.item.What.{What}
use Rattle.one_item.specs.declared.item.What.TheVariants.{Edge, Area, Body}
use Rattle.one_item.specs.declared.item.Item.{Item}
use Rattle.one_item.specs.CopperPairs.{on_layer, SomeMeet, Keeps}
use Rattle.one_item.specs.ItemParts.{hole_parts}
use Rattle.cond_lang.specs.declared.kind.Kind.{Kind}
use Rattle.rule_pick.specs.FactsOf.{parts_asked}
use Rattle.kind_subjects.specs.declared.subject.OperandKinds.{OperandKinds}
use Rattle.kind_subjects.specs.declared.subject.OperandKinds.TheVariants.{Coppers, HolesAndCopper, Holes, EdgesAndCopper, Yards, Areas}
use Rattle.kind_subjects.specs.declared.subject.Subject.{Subject}
use Rattle.kind_subjects.specs.declared.subject.Subject.TheVariants.{Sides, Length, Whole}
use Rattle.kind_subjects.specs.declared.layer.RowLayer.{RowLayer}
use Rattle.kind_subjects.specs.declared.layer.RowLayer.TheVariants.{Copper, FrontYard, BackYard, Nowhere}
use Rattle.kind_subjects.specs.Subjects.{subject_of}

-- parts of the one item, and those of the other that they are measured against
pub record MeasuredPair : Type 0 where
  pub own : List Part
  pub others : List Part

-- ---- the parts of an item

-- its copper on the layer
abbrev pub copper_on : ℕ → Item → List Part
copper_on layer item = on_layer layer item.copper

-- its hole, where it goes through the layer
abbrev pub hole_on : ℕ → Item → List Part
hole_on layer item = on_layer layer (hole_parts item.hole)

abbrev pub hole_without : List Part → Option Hole → List Part
hole_without [] hole = hole_parts hole
hole_without (part ∷ parts) hole = []

-- the hole of an item without copper
abbrev pub hole_alone : Item → List Part
hole_alone item = hole_without item.copper item.hole

-- the lines of an edge of the board
abbrev pub lines_of : What → List Part
lines_of (Edge lines) = lines
lines_of _ = []

abbrev pub front_of : What → List Part
front_of (Body reference front back on_back) = front
front_of _ = []

abbrev pub back_of : What → List Part
back_of (Body reference front back on_back) = back
back_of _ = []

-- a rule area, where it has the layer
abbrev pub area_on : ℕ → What → List Part
area_on layer (Area title bans shape) = on_layer layer (shape ∷ [])
area_on layer _ = []

-- a footprint is where its courtyards are: that of the front on F.Cu and that of the back on B.Cu
abbrev pub yard_on : ℕ → List Part → List Part → List Part
yard_on layer front back = if nat_eq layer 0 then front else if nat_eq layer 31 then back else []

-- where the item is, as an area sees it: its copper on the layer, or without copper its hole, and of a footprint the courtyard
abbrev pub placed_on : ℕ → Item → What → List Part
placed_on layer item (Body reference front back on_back) = yard_on layer front back
placed_on layer item _ = on_layer layer (parts_asked item)

-- ---- the table

abbrev pub measured_pair : List Part → List Part → MeasuredPair
measured_pair own others = record { own = own; others = others }

-- both ways
abbrev pub both_ways : List Part → List Part → List Part → List Part → List MeasuredPair
both_ways own_of_a part_of_b own_of_b part_of_a = measured_pair own_of_a part_of_b ∷ measured_pair own_of_b part_of_a ∷ []

abbrev pub copper_pairs : ℕ → Item → Item → List MeasuredPair
copper_pairs layer a b = measured_pair (copper_on layer a) (copper_on layer b) ∷ []

abbrev pub hole_pairs : ℕ → Item → Item → List MeasuredPair
hole_pairs layer a b = both_ways (hole_on layer a) (copper_on layer b) (hole_on layer b) (copper_on layer a)

abbrev pub faced : OperandKinds → RowLayer → Item → Item → List MeasuredPair
faced Coppers (Copper layer) a b = copper_pairs layer a b
faced Coppers _ a b = []
faced HolesAndCopper (Copper layer) a b = hole_pairs layer a b
faced HolesAndCopper _ a b = []
faced Holes Nowhere a b = measured_pair (hole_parts a.hole) (hole_parts b.hole) ∷ []
faced Holes _ a b = []
faced EdgesAndCopper (Copper layer) a b = both_ways (lines_of a.what) (copper_on layer b) (lines_of b.what) (copper_on layer a)
faced EdgesAndCopper Nowhere a b = both_ways (lines_of a.what) (hole_alone b) (lines_of b.what) (hole_alone a)
faced EdgesAndCopper _ a b = []
faced Yards FrontYard a b = measured_pair (front_of a.what) (front_of b.what) ∷ []
faced Yards BackYard a b = measured_pair (back_of a.what) (back_of b.what) ∷ []
faced Yards _ a b = []
faced Areas (Copper layer) a b = both_ways (area_on layer a.what) (placed_on layer b b.what) (area_on layer b.what) (placed_on layer a a.what)
faced Areas _ a b = []

-- of a single item nothing faces anything
abbrev pub measured_pairs_in : Subject → RowLayer → Item → Item → List MeasuredPair
measured_pairs_in (Sides operand_kinds) layer a b = faced operand_kinds layer a b
measured_pairs_in (Length measure) layer a b = []
measured_pairs_in Whole layer a b = []

unfoldable pub measured_pairs : Kind → RowLayer → Item → Item → List MeasuredPair
measured_pairs kind layer a b = measured_pairs_in (subject_of kind) layer a b

-- ---- what is asked of it

-- some of what faces each other touches or overlaps
abbrev pub MeetAt : Kind → RowLayer → Item → Item → Type 0
MeetAt kind layer a b = Any (λ f. SomeMeet f.own f.others) (measured_pairs kind layer a b)

-- all that faces each other keeps the distance v, in nanometres; where it is 0 nothing has to be kept
abbrev pub KeepAt : Kind → RowLayer → Item → Item → ℤ → Type 0
KeepAt kind layer a b v = All (λ f. Keeps f.own f.others v) (measured_pairs kind layer a b)

-- what faces each other so may not touch either
abbrev pub apart_by : OperandKinds → Bool
apart_by Coppers = false
apart_by HolesAndCopper = false
apart_by Holes = false
apart_by EdgesAndCopper = false
apart_by Yards = true
apart_by Areas = false

abbrev pub apart_in : Subject → Bool
apart_in (Sides operand_kinds) = apart_by operand_kinds
apart_in (Length measure) = false
apart_in Whole = false

abbrev pub may_not_meet : Kind → Bool
may_not_meet kind = apart_in (subject_of kind)

-- the distance is not kept, or the two meet where they may not
abbrev pub TooNear : Kind → RowLayer → Item → Item → ℤ → Type 0
TooNear kind layer a b v = (IsTrue (may_not_meet kind) × MeetAt kind layer a b) ⊎ (¬ (KeepAt kind layer a b v))
