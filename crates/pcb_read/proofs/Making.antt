-- Tracks and vias: what is made where the test holds, whatever shows that lengths are in range.
use Rattle.std.proofs.Common.{◌≡◌, ◌∙◌, refl, sym, ap, subst, ℕ, ℤ, pos, List, ◌≤ℤ◌, [], ◌∷◌, Bool, true, false, ◌&&◌, is_some, IsTrue, ◌++◌, Option, None, Some, unwrap_or}
use Rattle.std.specs.List.{list_all}
use Rattle.std.specs.Int.Signed.{le_z}
use Rattle.std.proofs.Math.Dec.{T_prop}
use mathlib.Core.Bool.{Bool-set}
use Rattle.int_algebra.proofs.Tested.{front, back}
use Rattle.geo_seg.specs.declared.shapes.Shape.{Shape}
use Rattle.plain_types.specs.Lengths.{IsLength, IsLengthIfSome}
use Rattle.copper_layers.specs.declared.set.LayerSet.{LayerSet}
use Rattle.one_item.specs.declared.parts.Part.{Part}
use Rattle.one_item.specs.declared.item.Hole.{Hole}
use Rattle.one_item.specs.declared.item.What.{What}
use Rattle.one_item.specs.declared.item.What.TheVariants.{Track, Via}
use Rattle.one_item.specs.declared.item.Item.{Item}
use Rattle.one_item.specs.Measures.{HasLengths}
use Rattle.one_item.proofs.MeasureLemmas.{via_lengths}
use Rattle.copper_layers.specs.Layers.{is_within}
use Rattle.one_item.specs.ItemParts.{hole_parts}
use Rattle.one_item.specs.Positions.{is_near, is_on_board}
use Rattle.board_items.specs.Boards.{PlainBoard, name_of, has_layers_of, is_admitted}
use Rattle.part_read.specs.declared.on_board.Strip.{Strip}
use Rattle.plain_types.proofs.LengthTests.{length_in_range}
use Rattle.part_read.specs.OnBoard.{tested, is_strip, strip_shape}
use Rattle.pcb_read.specs.declared.items.Origin.{Origin}
use Rattle.pcb_read.specs.declared.items.ViaForm.{ViaForm}
use Rattle.pcb_read.specs.Tracks.{track_along, disc, is_hole, is_drill, hole_by, hole_through, drill_in_range, via_at}

-- ---- a value with what a test shows

-- a test has one proof
test_prop : (test : Bool) → IsProp (test ≡ true)
test_prop test = Bool-set test true

pub both_none : {A B : Type 0} (test : Bool) (f : test ≡ true → A) (g : test ≡ true → B) → None ≡ tested test f → None ≡ tested test g
both_none true f g h = absurd cc
both_none false f g h = refl

pub both_some : {A B : Type 0} (test : Bool) (f : test ≡ true → A) (g : test ≡ true → B) (x : A) (y : B) → Some x ≡ tested test f → ((h : test ≡ true) → x ≡ f h → y ≡ g h) → Some y ≡ tested test g
both_some {B = B} true f g x y some same = let e : x ≡ f refl = cc in ap (λ (z : B). Some z) (same refl e)
both_some false f g x y some same = absurd cc

pub passes : {A : Type 0} (test : Bool) (f : test ≡ true → A) (x : A) → Some x ≡ tested test f → test ≡ true
passes true f x some = refl
passes false f x some = absurd cc

-- two tests
none_first : {A C : Type 0} (a b : Bool) (f : a ≡ true → A) (make : a && b ≡ true → C) → None ≡ tested a f → None ≡ tested (a && b) make
none_first true b f make h = absurd cc
none_first false b f make h = refl

none_second : {B C : Type 0} (a b : Bool) (g : b ≡ true → B) (make : a && b ≡ true → C) → a ≡ true → None ≡ tested b g → None ≡ tested (a && b) make
none_second true true g make h k = absurd cc
none_second true false g make h k = refl
none_second false b g make h k = refl

both_together : {A B C : Type 0} (a b : Bool) (f : a ≡ true → A) (g : b ≡ true → B) (make : a && b ≡ true → C) (x : A) (y : B) (z : C)
    → Some x ≡ tested a f → Some y ≡ tested b g → ((h : a && b ≡ true) → x ≡ f (front a b h) → y ≡ g (back a b h) → z ≡ make h) → Some z ≡ tested (a && b) make
both_together {C = C} true true f g make x y z s t same =
    let e : x ≡ f refl = cc in
    let k : y ≡ g refl = cc in
    ap (λ (v : C). Some v) (same refl (e ∙ ap f (test_prop true refl (front true true refl))) (k ∙ ap g (test_prop true refl (back true true refl))))
both_together true false f g make x y z s t same = absurd cc
both_together false b f g make x y z s t same = absurd cc

-- ---- items with the same lengths

≤ℤ_prop : (a b : ℤ) → IsProp (a ≤ℤ b)
≤ℤ_prop a b = hlevel (T_prop (le_z a b))

IsLength-prop : (n : ℤ) → IsProp (IsLength n)
IsLength-prop n = hlevel (≤ℤ_prop (pos 0) n, ≤ℤ_prop n (pos 500000000))

some_prop : (n : Option ℤ) → IsProp (IsLengthIfSome n)
some_prop n = hlevel IsLength-prop

HasLengths-prop : (what : What) → IsProp (HasLengths what)
HasLengths-prop what = hlevel IsLength-prop

same_item : (i : Item) (k : IsLengthIfSome i.local) (m : HasLengths i.what) → i ≡ record i { local_in_range = k; what_in_range = m }
same_item i k m =
    ap (λ (l : IsLengthIfSome i.local). record i { local_in_range = l }) (some_prop i.local i.local_in_range k)
    ∙ ap (λ (l : HasLengths i.what). record i { local_in_range = k; what_in_range = l }) (HasLengths-prop i.what i.what_in_range m)

one_hole : (h : Hole) (k : IsLength h.least) → h ≡ record h { least_in_range = k }
one_hole h k = ap (λ (l : IsLength h.least). record h { least_in_range = l }) (IsLength-prop h.least h.least_in_range k)

-- ---- tracks

pub no_track : (strip : Strip) (origin : Origin) → None ≡ tested (is_strip strip) (strip_shape strip) → None ≡ track_along strip origin
no_track strip origin none = both_none (is_strip strip) (strip_shape strip) _ none

abbrev pub track_item : (strip : Strip) → Origin → Shape → IsLengthIfSome None → HasLengths (Track strip.width) → Item
track_item strip origin shape k m = record {
  name = origin.name;
  unit = origin.unit;
  net = origin.net;
  x = strip.a.x;
  y = strip.a.y;
  copper = record { layers = origin.layers; shape = shape } ∷ [];
  hole = None;
  local = None;
  what = Track strip.width;
  local_in_range = k;
  what_in_range = m;
}

pub track_is : (strip : Strip) (origin : Origin) (shape : Shape) (k : IsLengthIfSome None) (m : HasLengths (Track strip.width))
    → Some shape ≡ tested (is_strip strip) (strip_shape strip) → Some (track_item strip origin shape k m) ≡ track_along strip origin
track_is strip origin shape k m some =
    both_some (is_strip strip) (strip_shape strip) _ shape _ some
    (λ h e. ap (λ (s : Shape). track_item strip origin s k m) e ∙ same_item (track_item strip origin (strip_shape strip h) k m) _ _)

-- the same from numbers that are those of the strip
abbrev pub track_row : List ℕ → ℕ → ℕ → (x y width : ℤ) → List Part → IsLengthIfSome None → HasLengths (Track width) → Item
track_row name unit net x y width copper k m =
    record { name = name; unit = unit; net = net; x = x; y = y; copper = copper; hole = None; local = None; what = Track width; local_in_range = k; what_in_range = m }

pub track_from : (strip : Strip) (origin : Origin) (shape : Shape) (x y width : ℤ) (copper : List Part) (k : IsLengthIfSome None) (m : HasLengths (Track width))
    → x ≡ strip.a.x → y ≡ strip.a.y → width ≡ strip.width → copper ≡ record { layers = origin.layers; shape = shape } ∷ []
    → Some shape ≡ tested (is_strip strip) (strip_shape strip) → Some (track_row origin.name origin.unit origin.net x y width copper k m) ≡ track_along strip origin
track_from strip origin shape x y width copper k m e f g h some =
    subst (λ (w : ℤ). (m : HasLengths (Track w)) → Some (track_row origin.name origin.unit origin.net x y w copper k m) ≡ track_along strip origin) (sym g)
    (λ m. ap (λ (v : ℤ). Some (track_row origin.name origin.unit origin.net v y strip.width copper k m)) e
    ∙ ap (λ (v : ℤ). Some (track_row origin.name origin.unit origin.net strip.a.x v strip.width copper k m)) f
    ∙ ap (λ (v : List Part). Some (track_row origin.name origin.unit origin.net strip.a.x strip.a.y strip.width v k m)) h
    ∙ track_is strip origin shape k m some) m

-- ---- vias

module _ (form : ViaForm) (origin : Origin) where
  pub no_disc : None ≡ tested (is_strip (disc form form.size)) (strip_shape (disc form form.size)) → None ≡ via_at form origin
  no_disc none = none_first (is_strip (disc form form.size)) (is_hole form) (strip_shape (disc form form.size)) _ none

  pub no_hole : (shape : Shape) → Some shape ≡ tested (is_strip (disc form form.size)) (strip_shape (disc form form.size)) → None ≡ tested (is_hole form) (hole_through form origin.layers) → None ≡ via_at form origin
  no_hole shape some none =
      none_second (is_strip (disc form form.size)) (is_hole form) (hole_through form origin.layers) _
      (passes (is_strip (disc form form.size)) (strip_shape (disc form form.size)) shape some) none

  abbrev pub via_item : Shape → Option Hole → IsLengthIfSome None → HasLengths (Via form.size (unwrap_or form.drill (pos 0)) form.micro form.blind) → Item
  via_item shape hole k m = record {
    name = origin.name;
    unit = origin.unit;
    net = origin.net;
    x = form.at.x;
    y = form.at.y;
    copper = record { layers = origin.layers; shape = shape } ∷ [];
    hole = hole;
    local = None;
    what = Via form.size (unwrap_or form.drill (pos 0)) form.micro form.blind;
    local_in_range = k;
    what_in_range = m;
  }

  pub via_is : (shape : Shape) (hole : Option Hole) (k : IsLengthIfSome None) (m : HasLengths (Via form.size (unwrap_or form.drill (pos 0)) form.micro form.blind))
      → Some shape ≡ tested (is_strip (disc form form.size)) (strip_shape (disc form form.size))
      → Some hole ≡ tested (is_hole form) (hole_through form origin.layers)
      → Some (via_item shape hole k m) ≡ via_at form origin
  via_is shape hole k m s t =
      both_together (is_strip (disc form form.size)) (is_hole form) (strip_shape (disc form form.size)) (hole_through form origin.layers) _ shape hole _ s t
      (λ h e f. ap (λ (x : Shape). via_item x hole k m) e ∙ ap (λ (x : Option Hole). via_item (strip_shape (disc form form.size) (front _ _ h)) x k m) f
      ∙ same_item (via_item (strip_shape (disc form form.size) (front _ _ h)) (hole_through form origin.layers (back _ _ h)) k m) _ _)

abbrev pub via_row : List ℕ → ℕ → ℕ → (x y : ℤ) → List Part → Option Hole → (size drill : ℤ) (micro blind : Bool) → IsLengthIfSome None → HasLengths (Via size drill micro blind) → Item
via_row name unit net x y copper hole size drill micro blind k m =
    record { name = name; unit = unit; net = net; x = x; y = y; copper = copper; hole = hole; local = None; what = Via size drill micro blind; local_in_range = k; what_in_range = m }

pub via_from : (form : ViaForm) (origin : Origin) (shape : Shape) (x y size drill : ℤ) (copper : List Part) (hole : Option Hole) (k : IsLengthIfSome None) (m : HasLengths (Via size drill form.micro form.blind))
    → x ≡ form.at.x → y ≡ form.at.y → size ≡ form.size → drill ≡ unwrap_or form.drill (pos 0) → copper ≡ record { layers = origin.layers; shape = shape } ∷ []
    → Some shape ≡ tested (is_strip (disc form form.size)) (strip_shape (disc form form.size)) → Some hole ≡ tested (is_hole form) (hole_through form origin.layers)
    → Some (via_row origin.name origin.unit origin.net x y copper hole size drill form.micro form.blind k m) ≡ via_at form origin
via_from form origin shape x y size drill copper hole k m e f g d h s t =
    subst (λ (v : ℤ). (m : HasLengths (Via v drill form.micro form.blind)) → Some (via_row origin.name origin.unit origin.net x y copper hole v drill form.micro form.blind k m) ≡ via_at form origin) (sym g)
    (λ m. subst (λ (v : ℤ). (m : HasLengths (Via form.size v form.micro form.blind)) → Some (via_row origin.name origin.unit origin.net x y copper hole form.size v form.micro form.blind k m) ≡ via_at form origin) (sym d)
    (λ m. ap (λ (v : ℤ). Some (via_row origin.name origin.unit origin.net v y copper hole form.size (unwrap_or form.drill (pos 0)) form.micro form.blind k m)) e
    ∙ ap (λ (v : ℤ). Some (via_row origin.name origin.unit origin.net form.at.x v copper hole form.size (unwrap_or form.drill (pos 0)) form.micro form.blind k m)) f
    ∙ ap (λ (v : List Part). Some (via_row origin.name origin.unit origin.net form.at.x form.at.y v hole form.size (unwrap_or form.drill (pos 0)) form.micro form.blind k m)) h
    ∙ via_is form origin shape hole k m s t) m) m

-- a hole of this drill
pub hole_is : (form : ViaForm) (layers : LayerSet) (drill : ℤ) (shape : Shape) (k : IsLength drill) → form.drill ≡ Some drill
    → Some shape ≡ tested (is_strip (disc form drill)) (strip_shape (disc form drill))
    → Some (Some (record { shape = shape; layers = layers; plated = true; least = drill; least_in_range = k })) ≡ tested (is_hole form) (hole_through form layers)
hole_is form layers drill shape k is some = rw is (both_some (is_strip (disc form drill)) (strip_shape (disc form drill)) _ shape _ some
    (λ h e. ap (λ (x : Shape). Some (record { shape = x; layers = layers; plated = true; least = drill; least_in_range = k })) e
    ∙ ap (λ (x : Hole). Some x) (one_hole (record { shape = strip_shape (disc form drill) h; layers = layers; plated = true; least = drill; least_in_range = k }) _)))

pub no_hole_is : (form : ViaForm) (layers : LayerSet) (drill : ℤ) → form.drill ≡ Some drill
    → None ≡ tested (is_strip (disc form drill)) (strip_shape (disc form drill)) → None ≡ tested (is_hole form) (hole_through form layers)
no_hole_is form layers drill is none = rw is (both_none (is_strip (disc form drill)) (strip_shape (disc form drill)) _ none)

-- ---- what is read may stand on the board

both : (a b : Bool) → a ≡ true → b ≡ true → a && b ≡ true
both true true h k = refl
both true false h k = cc
both false b h k = cc

-- where a strip lies on a board, its first end does
pub strip_begins : (strip : Strip) (shape : Shape) → Some shape ≡ tested (is_strip strip) (strip_shape strip) → is_near strip.a.x && is_near strip.a.y ≡ true
strip_begins strip shape some = front _ _ (front _ _ (passes (is_strip strip) (strip_shape strip) shape some))

pub admitted_by : (board : PlainBoard) (item : Item) → is_on_board item ≡ true → is_some (name_of board item.net) ≡ true → has_layers_of board item ≡ true → is_admitted board item ≡ true
admitted_by board item h k m = both _ _ (both _ _ h k) m

found_at : {A : Type 0} (test : Bool) (f : test ≡ true → A) (x : A) → Some x ≡ tested test f → (h : test ≡ true) × (x ≡ f h)
found_at true f x some = (refl, cc)
found_at false f x some = absurd cc

hole_layers : (copper layers : LayerSet) (form : ViaForm) (drill : Option ℤ) (fits : is_drill form drill ≡ true) → IsTrue (is_within layers copper)
    → list_all (λ part. is_within part.layers copper) (hole_parts (hole_by form layers drill fits)) ≡ true
hole_layers copper layers form None fits on = refl
hole_layers copper layers form (Some drill) fits on = both _ _ on refl

-- the hole goes through the layers of the via
pub hole_on : (copper : LayerSet) (form : ViaForm) (layers : LayerSet) (hole : Option Hole) → Some hole ≡ tested (is_hole form) (hole_through form layers) → IsTrue (is_within layers copper)
    → list_all (λ part. is_within part.layers copper) (hole_parts hole) ≡ true
hole_on copper form layers hole some on =
    let found = found_at (is_hole form) (hole_through form layers) hole some in
    rw found.1 (hole_layers copper layers form form.drill found.0 on)

-- a via has one part of copper and perhaps a hole, on layers of the board
pub via_layers : (copper layers : LayerSet) (shape : Shape) (hole : Option Hole) → IsTrue (is_within layers copper)
    → list_all (λ part. is_within part.layers copper) (hole_parts hole) ≡ true
    → list_all (λ part. is_within part.layers copper) (record { layers = layers; shape = shape } ∷ (hole_parts hole ++ [])) ≡ true
via_layers copper layers shape None h k = both _ _ h k
via_layers copper layers shape (Some hole) h k = both _ _ h k

admitted_if : (near_x near_y declared on : Bool) → near_x && near_y ≡ true → declared ≡ true → on ≡ true → ((near_x && near_y) && declared) && on ≡ true
admitted_if near_x near_y declared on h k m = both _ _ (both _ _ h k) m

-- a track stands on each board that has its net and its layers
pub track_admitted : (board : PlainBoard) (strip : Strip) (net : ℕ) (layers : LayerSet) (shape : Shape) (x y : ℤ) (copper : List Part)
    → x ≡ strip.a.x → y ≡ strip.a.y → copper ≡ record { layers = layers; shape = shape } ∷ [] → Some shape ≡ tested (is_strip strip) (strip_shape strip)
    → is_some (name_of board net) ≡ true → IsTrue (is_within layers board.copper)
    → ((is_near x && is_near y) && is_some (name_of board net)) && list_all (λ (part : Part). is_within part.layers board.copper) (copper ++ ([] ++ [])) ≡ true
track_admitted board strip net layers shape x y copper e f h some declared on =
    let near : is_near x && is_near y ≡ true = rw (e, f) (strip_begins strip shape some) in
    let there : list_all (λ (part : Part). is_within part.layers board.copper) (copper ++ ([] ++ [])) ≡ true = rw h (via_layers board.copper layers shape None on refl) in
    admitted_if (is_near x) (is_near y) (is_some (name_of board net)) (list_all (λ (part : Part). is_within part.layers board.copper) (copper ++ ([] ++ []))) near declared there

pub via_admitted : (board : PlainBoard) (form : ViaForm) (net : ℕ) (layers : LayerSet) (shape : Shape) (hole : Option Hole) (x y : ℤ) (copper : List Part)
    → x ≡ form.at.x → y ≡ form.at.y → copper ≡ record { layers = layers; shape = shape } ∷ [] → Some shape ≡ tested (is_strip (disc form form.size)) (strip_shape (disc form form.size))
    → Some hole ≡ tested (is_hole form) (hole_through form layers)
    → is_some (name_of board net) ≡ true → IsTrue (is_within layers board.copper)
    → ((is_near x && is_near y) && is_some (name_of board net)) && list_all (λ (part : Part). is_within part.layers board.copper) (copper ++ (hole_parts hole ++ [])) ≡ true
via_admitted board form net layers shape hole x y copper e f h some holed declared on =
    let near : is_near x && is_near y ≡ true = rw (e, f) (strip_begins (disc form form.size) shape some) in
    let there : list_all (λ (part : Part). is_within part.layers board.copper) (copper ++ (hole_parts hole ++ [])) ≡ true =
    rw h (via_layers board.copper layers shape hole on (hole_on board.copper form layers hole holed on)) in
    admitted_if (is_near x) (is_near y) (is_some (name_of board net)) (list_all (λ (part : Part). is_within part.layers board.copper) (copper ++ (hole_parts hole ++ []))) near declared there

-- its lengths are in range
pub via_ranges : (form : ViaForm) (layers : LayerSet) (shape : Shape) (hole : Option Hole) (size drill : ℤ) → size ≡ form.size → drill ≡ unwrap_or form.drill (pos 0)
    → Some shape ≡ tested (is_strip (disc form form.size)) (strip_shape (disc form form.size)) → Some hole ≡ tested (is_hole form) (hole_through form layers)
    → HasLengths (Via size drill form.micro form.blind)
via_ranges form layers shape hole size drill e f some holed =
    rw (e, f) (via_lengths form.size (unwrap_or form.drill (pos 0)) form.micro form.blind
    (length_in_range form.size (back _ _ (passes (is_strip (disc form form.size)) (strip_shape (disc form form.size)) shape some)))
    (drill_in_range form form.drill (passes (is_hole form) (hole_through form layers) hole holed)))

pub no_drill : (form : ViaForm) (layers : LayerSet) → form.drill ≡ None → Some None ≡ tested (is_hole form) (hole_through form layers)
no_drill form layers none = rw none refl

pub hole_from : (form : ViaForm) (layers : LayerSet) (drill least : ℤ) (shape : Shape) (k : IsLength least) → form.drill ≡ Some drill → least ≡ drill
    → Some shape ≡ tested (is_strip (disc form drill)) (strip_shape (disc form drill))
    → Some (Some (record { shape = shape; layers = layers; plated = true; least = least; least_in_range = k })) ≡ tested (is_hole form) (hole_through form layers)
hole_from form layers drill least shape k is e some =
    subst (λ (v : ℤ). (k : IsLength v) → Some (Some (record { shape = shape; layers = layers; plated = true; least = v; least_in_range = k })) ≡ tested (is_hole form) (hole_through form layers)) (sym e)
    (λ k. hole_is form layers drill shape k is some) k
