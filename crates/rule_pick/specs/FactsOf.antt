-- The facts of an item of a board: what rules may ask of it. Lengths are in nanometres.
use Rattle.std.specs.Prelude.{◌≡◌, ◌⊎◌, ◌↔◌, ℕ, ℤ, nat_eq, Bool, true, false, IsTrue, List, [], ◌∷◌, Option, None, Some, unwrap_or, if◌then◌else◌}
use Rattle.std.specs.Option.{option_map}
use Rattle.std.specs.List.{Any}
use Rattle.geo_seg.specs.Distances.{Meet}
use Rattle.copper_layers.specs.declared.set.LayerSet.{LayerSet}
use Rattle.one_item.specs.declared.parts.Part.{Part}
use Rattle.one_item.specs.declared.item.Hole.{Hole}
use Rattle.one_item.specs.declared.item.What.{What}
use Rattle.one_item.specs.declared.item.What.TheVariants as what
use Rattle.one_item.specs.declared.item.Item.{Item}
use Rattle.board_items.specs.Boards.{PlainBoard, name_of, item_at}
use Rattle.one_item.specs.CopperPairs.{PartsMeet, SomeMeet, on_layer}
use Rattle.copper_layers.specs.Layers.{has_layer}
use Rattle.one_item.specs.ItemParts.{hole_parts}
use Rattle.net_class.specs.NetClasses.{PlainClass, PlainClasses, class_of}
use Rattle.rule_pick.specs.declared.kinds.ItemKind.{ItemKind}
use Rattle.rule_pick.specs.declared.kinds.ItemKind.TheVariants.{Track, Via, Pad, Graphic, Fill, Edge, Area, Body, Note}
use Rattle.rule_pick.specs.declared.facts.Facts.{Facts}

-- ---- classes

-- the class of a name; Default where there is none
abbrev pub class_of_name : PlainClasses → Option (List ℕ) → PlainClass
class_of_name classes None = classes.default
class_of_name classes (Some name) = class_of classes name

-- the class of a net: that of its name. Net 0 is no net, and has the class Default
unfoldable pub class_of_net : PlainClasses → PlainBoard → ℕ → PlainClass
class_of_net classes board net = if nat_eq net 0 then classes.default else class_of_name classes (name_of board net)

-- ---- what the kind says

abbrev pub kind_of : What → ItemKind
kind_of (what.Track width) = Track
kind_of (what.Via size drill micro blind) = Via
kind_of (what.Pad number reference) = Pad
kind_of what.Graphic = Graphic
kind_of what.Fill = Fill
kind_of (what.Edge lines) = Edge
kind_of (what.Area title bans shape) = Area
kind_of (what.Body reference front back on_back) = Body
kind_of (what.Note about layer) = Note

-- a track has a width
abbrev pub width_of : What → Option ℤ
width_of (what.Track width) = Some width
width_of _ = None

-- a via has a diameter
abbrev pub diameter_of : What → Option ℤ
diameter_of (what.Via size drill micro blind) = Some size
diameter_of _ = None

-- of a via with a hole its smaller size
abbrev pub hole_of : What → Option Hole → Option ℤ
hole_of (what.Via size drill micro blind) hole = option_map (λ h. h.least) hole
hole_of _ hole = None

abbrev pub is_micro : What → Bool
is_micro (what.Via size drill micro blind) = micro
is_micro _ = false

abbrev pub is_blind : What → Bool
is_blind (what.Via size drill micro blind) = blind
is_blind _ = false

abbrev pub is_edge : What → Bool
is_edge (what.Edge lines) = true
is_edge _ = false

abbrev pub is_plated : Option Hole → Bool
is_plated None = false
is_plated (Some hole) = hole.plated

-- ---- layers

-- some part lies on the layer
abbrev pub SomeOn : ℕ → List Part → Type 0
SomeOn layer parts = Any (λ part. IsTrue (has_layer part.layers layer)) parts

-- An item lies on the layers of its copper, an area on its own, and a body on that of its side: F.Cu is 0, B.Cu is 31.
abbrev pub LiesOn : Item → What → ℕ → Type 0
LiesOn item (what.Area title bans shape) layer = IsTrue (has_layer shape.layers layer)
LiesOn item (what.Body reference front back on_back) layer = layer ≡ (if on_back then 31 else 0)
LiesOn item _ layer = SomeOn layer item.copper

-- the set holds the layers of the item and no others
pub record AreLayersOf (item : Item) (layers : LayerSet) : Type 0 where
  pub each : (layer : ℕ) → (IsTrue (has_layer layers layer) ↔ LiesOn item item.what layer)

-- ---- areas and courtyards

-- an item is where its copper is, and without copper where its hole is
abbrev pub placed_parts : List Part → Option Hole → List Part
placed_parts [] hole = hole_parts hole
placed_parts (part ∷ parts) hole = part ∷ parts

abbrev pub parts_asked : Item → List Part
parts_asked item = placed_parts item.copper item.hole

-- the area has this layer, and some of the parts meet it
pub record MeetsOn (layer : ℕ) (parts : List Part) (area : Part) : Type 0 where
  pub on : IsTrue (has_layer area.layers layer)
  pub meet : Any (λ part. Meet part.shape area.shape) parts

-- A body is where its courtyards are, that of the front on F.Cu and that of the back on B.Cu.
abbrev pub MeetsPart : Item → What → Part → Type 0
MeetsPart item (what.Body reference front back on_back) area = MeetsOn 0 front area ⊎ MeetsOn 31 back area
MeetsPart item _ area = Any (λ part. PartsMeet part area) (parts_asked item)

-- the other is a rule area of this title, and the item meets it
abbrev pub MeetsArea : Item → What → List ℕ → Type 0
MeetsArea item (what.Area title bans shape) name = (name ≡ title) × MeetsPart item item.what shape
MeetsArea item _ name = ⊥

-- on F.Cu the item meets the front courtyard, or on B.Cu the back one
abbrev pub MeetsEither : Item → List Part → List Part → Type 0
MeetsEither item front back = SomeMeet (on_layer 0 (parts_asked item)) front ⊎ SomeMeet (on_layer 31 (parts_asked item)) back

-- the other is a body of this reference, and the item meets one of its courtyards
abbrev pub MeetsCourtyard : Item → What → List ℕ → Type 0
MeetsCourtyard item (what.Body reference front back on_back) name = (name ≡ reference) × MeetsEither item front back
MeetsCourtyard item _ name = ⊥

-- of the items, in the order of their places, the names that they give, and no others; two of one name stay two
abbrev pub AreNamesOf : (What → List ℕ → Type 0) → List (ℕ × Item) → List (List ℕ) → Type 0
AreNamesOf Gives [] names = names ≡ []
AreNamesOf Gives (entry ∷ entries) [] = ((name : List ℕ) → ¬ (Gives entry.1.what name)) × AreNamesOf Gives entries []
AreNamesOf Gives (entry ∷ entries) (name ∷ names) =
    (Gives entry.1.what name × AreNamesOf Gives entries names)
    ⊎ (((other : List ℕ) → ¬ (Gives entry.1.what other)) × AreNamesOf Gives entries (name ∷ names))

-- ---- the whole

pub record AreFactsOf (board : PlainBoard) (classes : PlainClasses) (item : Item) (facts : Facts) : Type 0 where
  pub kind : facts.kind ≡ kind_of item.what
  pub class : facts.class ≡ (class_of_net classes board item.net).name
  pub net_name : facts.net_name ≡ unwrap_or (name_of board item.net) []
  pub width : facts.width ≡ width_of item.what
  pub diameter : facts.diameter ≡ diameter_of item.what
  pub hole : facts.hole ≡ hole_of item.what item.hole
  pub layers : AreLayersOf item facts.layers
  pub on_edge : facts.on_edge ≡ is_edge item.what
  pub plated : facts.plated ≡ is_plated item.hole
  pub micro : facts.micro ≡ is_micro item.what
  pub blind : facts.blind ≡ is_blind item.what
  pub local : facts.local ≡ item.local
  pub class_clearance : facts.class_clearance ≡ (class_of_net classes board item.net).clearance
  pub areas : AreNamesOf (MeetsArea item) board.items facts.areas
  pub courtyards : AreNamesOf (MeetsCourtyard item) board.items facts.courtyards

-- the facts of the item of this id
pub record AreFacts (board : PlainBoard) (classes : PlainClasses) (id : ℕ) (facts : Facts) : Type 0 where
  pub item : Item
  pub stands : item_at board.items id ≡ Some item
  pub facts_of : AreFactsOf board classes item facts
