-- What an item meets of an area or a body has a box that meets its own.
use Rattle.std.proofs.Common.{◌≡◌, ◌≢◌, inl, inr, refl, sym, subst, ℕ, true, List, [], ◌∷◌, ◌++◌, Contains, Option, arith}
use Rattle.std.specs.List.{Any}
use Rattle.std.proofs.lemmas.List.Elements.{Contains-append_left, Contains-append_right}
use Rattle.geo_seg.specs.Distances.{Meet}
use Rattle.one_item.specs.declared.parts.Part.{Part}
use Rattle.one_item.specs.declared.item.Hole.{Hole}
use Rattle.one_item.specs.declared.item.What.{What}
use Rattle.one_item.specs.declared.item.What.TheVariants as what
use Rattle.one_item.specs.declared.item.Item.{Item}
use Rattle.one_item.specs.ItemKinds.{is_mark}
use Rattle.copper_layers.specs.Layers.{has_layer}
use Rattle.one_item.specs.CopperPairs.{PartsMeet, on_layer}
use Rattle.one_item.specs.ItemParts.{parts_of, hole_parts, kind_parts}
use Rattle.item_copper.proofs.Meeting.{any_of_chosen}
use Rattle.item_copper.proofs.ItemBoxes.{parts_meet}
use Rattle.item_facts.specs.NearItems.{MayMeetItem}
use Rattle.rule_pick.specs.FactsOf.{placed_parts, parts_asked, MeetsPart, MeetsArea, MeetsEither, MeetsCourtyard}

-- a part of the one list and a part of the other meet
record HaveMeeting (ps qs : List Part) : Type 0 where
  part : Part
  other : Part
  first : Contains ps part
  second : Contains qs other
  meet : Meet part.shape other.shape

one_of : {X : Type 0} (P : X → Type 0) (xs : List X) (a : Any P xs) → Contains xs a.1
one_of P xs a = (a.0, a.2, a.3)

placed_in : (copper : List Part) (hole : Option Hole) (others : List Part) (part : Part) → Contains (placed_parts copper hole) part → Contains (copper ++ (hole_parts hole ++ others)) part
placed_in [] hole others part c = Contains-append_left (hole_parts hole) others part c
placed_in (p ∷ ps) hole others part c = Contains-append_left (p ∷ ps) (hole_parts hole ++ others) part c

asked_in : (item : Item) (part : Part) → Contains (parts_asked item) part → Contains (parts_of item) part
asked_in item part c = placed_in item.copper item.hole (kind_parts item.what) part c

kind_in : (item : Item) (part : Part) → Contains (kind_parts item.what) part → Contains (parts_of item) part
kind_in item part c = Contains-append_right item.copper (hole_parts item.hole ++ kind_parts item.what) part (Contains-append_right (hole_parts item.hole) (kind_parts item.what) part c)

here : (part : Part) → Contains (part ∷ []) part
here part = (0, omega arith, refl)

-- ---- areas

asked_meets : (item : Item) (area : Part) → Any (λ part. PartsMeet part area) (parts_asked item) → HaveMeeting (parts_of item) (area ∷ [])
asked_meets item area a =
    record { part = a.1; other = area; first = asked_in item a.1 (one_of (λ part. PartsMeet part area) (parts_asked item) a); second = here area; meet = a.4.meet }

court_meets : (item : Item) (parts : List Part) (area : Part) → ((part : Part) → Contains parts part → Contains (kind_parts item.what) part) → Any (λ part. Meet part.shape area.shape) parts → HaveMeeting (parts_of item) (area ∷ [])
court_meets item parts area into a =
    record { part = a.1; other = area; first = kind_in item a.1 (into a.1 (one_of (λ part. Meet part.shape area.shape) parts a)); second = here area; meet = a.4 }

front_in : (item : Item) (front back : List Part) → kind_parts item.what ≡ front ++ back → (part : Part) → Contains front part → Contains (kind_parts item.what) part
front_in item front back e part c = subst (λ (ps : List Part). Contains ps part) (sym e) (Contains-append_left front back part c)

back_in : (item : Item) (front back : List Part) → kind_parts item.what ≡ front ++ back → (part : Part) → Contains back part → Contains (kind_parts item.what) part
back_in item front back e part c = subst (λ (ps : List Part). Contains ps part) (sym e) (Contains-append_right front back part c)

part_meeting : (item : Item) (w : What) (area : Part) → kind_parts item.what ≡ kind_parts w → MeetsPart item w area → HaveMeeting (parts_of item) (area ∷ [])
part_meeting item (what.Body reference front back on_back) area e (inl on) = court_meets item front area (front_in item front back e) on.meet
part_meeting item (what.Body reference front back on_back) area e (inr on) = court_meets item back area (back_in item front back e) on.meet
part_meeting item _ area e a = asked_meets item area a

area_meeting : (item : Item) (w : What) (name : List ℕ) → MeetsArea item w name → (is_mark w ≡ true) × HaveMeeting (parts_of item) (kind_parts w)
area_meeting item (what.Area title bans shape) name m = (refl, part_meeting item item.what shape refl m.1)
area_meeting item _ name m = absurd m

-- ---- courtyards

layer_meets : (item : Item) (layer : ℕ) (court kind : List Part) → ((part : Part) → Contains court part → Contains kind part) → Any (λ part. Any (λ other. Meet part.shape other.shape) court) (on_layer layer (parts_asked item))
    → HaveMeeting (parts_of item) kind
layer_meets item layer court kind into a =
    let one = any_of_chosen (λ (part : Part). Any (λ other. Meet part.shape other.shape) court) (λ (part : Part). has_layer part.layers layer) (parts_asked item) a in
    let part = one.1 in
    let some = one.4.1 in
    record { part = part; other = some.1; first = asked_in item part (one.0, one.2, one.3); second = into some.1 (one_of (λ other. Meet part.shape other.shape) court some); meet = some.4 }

either_meeting : (item : Item) (front back : List Part) → MeetsEither item front back → HaveMeeting (parts_of item) (front ++ back)
either_meeting item front back (inl m) = layer_meets item 0 front (front ++ back) (λ part c. Contains-append_left front back part c) m.some
either_meeting item front back (inr m) = layer_meets item 31 back (front ++ back) (λ part c. Contains-append_right front back part c) m.some

courtyard_meeting : (item : Item) (w : What) (name : List ℕ) → MeetsCourtyard item w name → (is_mark w ≡ true) × HaveMeeting (parts_of item) (kind_parts w)
courtyard_meeting item (what.Body reference front back on_back) name m = (refl, either_meeting item front back m.1)
courtyard_meeting item _ name m = absurd m

-- ---- boxes

not_empty : (ps : List Part) (part : Part) → Contains ps part → ps ≢ []
not_empty ps part c e = nothing (subst (λ (qs : List Part). Contains qs part) e c)
  where
    nothing : Contains [] part → ⊥
    nothing d = let lt = d.1 in omega arith

is_near : (item other : Item) → is_mark other.what ≡ true → HaveMeeting (parts_of item) (kind_parts other.what) → MayMeetItem item other
is_near item other mark m = record {
  mark = mark;
  own = not_empty (parts_of item) m.part m.first;
  parts = not_empty (parts_of other) m.other (kind_in other m.other m.second);
  boxes = λ b c hb hc. parts_meet (parts_of item) (parts_of other) b c hb hc m.part m.other m.first (kind_in other m.other m.second) m.meet;
}

pub near_area : (item other : Item) (name : List ℕ) → MeetsArea item other.what name → MayMeetItem item other
near_area item other name m = let found = area_meeting item other.what name m in is_near item other found.0 found.1

pub near_courtyard : (item other : Item) (name : List ℕ) → MeetsCourtyard item other.what name → MayMeetItem item other
near_courtyard item other name m = let found = courtyard_meeting item other.what name m in is_near item other found.0 found.1
