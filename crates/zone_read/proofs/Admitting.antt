-- The items of a zone may stand on the board.
use Rattle.std.proofs.Common.{◌≡◌, ◌∙◌, refl, ap, sym, ℕ, ◌≤◌, ℤ, pos, ◌+ℤ◌, arith, List, [], ◌∷◌, length, Bool, true, false, ◌&&◌, is_some, IsTrue, Some}
use Rattle.std.proofs.lemmas.Int.{ints}
use Rattle.geo_seg.specs.declared.points.Point.{Point}
use Rattle.geo_seg.specs.declared.shapes.Shape.{Shape}
use Rattle.copper_layers.specs.declared.set.LayerSet.{LayerSet}
use Rattle.one_item.specs.declared.item.Bans.{Bans}
use Rattle.one_item.specs.declared.parts.Part.{Part}
use Rattle.one_item.specs.declared.item.What.TheVariants.{Fill, Area}
use Rattle.copper_layers.specs.Layers.{has_layer, is_within, single_layer}
use Rattle.board_items.specs.Boards.{PlainBoard, name_of, is_admitted}
use Rattle.copper_layers.proofs.LayerLemmas.{single_within}
use Rattle.part_read.specs.declared.numbers.RawPoint.{RawPoint}
use Rattle.part_read.specs.OnBoard.{tested, fits_board, point_at}
use Rattle.part_read.specs.Placements.{stood, points_stood}
use Rattle.part_read.specs.Figures.{first_of}
use Rattle.part_read.specs.PlainItems.{plain_item}
use Rattle.std.proofs.Common.{◌++◌, length-append}
use Rattle.std.proofs.lemmas.List.Elements.{All-nil, All-cons, All-append}
use Rattle.one_item.specs.declared.item.Item.{Item}
use Rattle.part_read.proofs.There.{map_some, both_some}
use Rattle.part_read.specs.Ready.{IsReady, AreReady}
use Rattle.part_read.specs.Capacity.{has_capacity_after}
pub use Rattle.part_read.proofs.Capacities.{none_ready}
use Rattle.part_read.proofs.Capacities.{capacity_by}
use Rattle.zone_read.specs.ZoneOf.{as_it_is, area_with, area_of}

tested_holds : {A : Type 0} (test : Bool) (make : test ≡ true → A) (x : A) → tested test make ≡ Some x → test ≡ true
tested_holds true make x h = refl
tested_holds false make x h = absurd cc

zero_plus : (z : ℤ) → pos 0 +ℤ z ≡ z
zero_plus z = omega (arith, ints)

first_near : (corners : List RawPoint) (points : List Point) → 1 ≤ length corners → points_stood as_it_is corners ≡ Some points → fits_board (first_of corners) ≡ true
first_near [] points n h = absurd (omega (arith, n))
first_near (s ∷ ss) points n h =
    let found = both_some _ _ _ points h in
    let near : fits_board (stood as_it_is s) ≡ true = tested_holds (fits_board (stood as_it_is s)) (point_at (stood as_it_is s)) found.0 found.2 in
    ap (λ (x : ℤ). let t : RawPoint = record { x = x; y = s.y } in fits_board t) (sym (zero_plus s.x))
    ∙ ap (λ (y : ℤ). let t : RawPoint = record { x = pos 0 +ℤ s.x; y = y } in fits_board t) (sym (zero_plus s.y)) ∙ near

-- the first corner of an area lies on the board
pub area_near : (corners : List RawPoint) (shape : Shape) → 1 ≤ length corners → area_of corners ≡ Some shape → fits_board (first_of corners) ≡ true
area_near corners shape n h = let found = map_some area_with (points_stood as_it_is corners) shape h in first_near corners found.0 n found.1

both : (a b : Bool) → a ≡ true → b ≡ true → a && b ≡ true
both true true h k = refl
both true false h k = cc
both false b h k = cc

admitted_by : (board : PlainBoard) (at : RawPoint) (net : ℕ) (layers : Bool) → fits_board at ≡ true → is_some (name_of board net) ≡ true → layers ≡ true → (fits_board at && is_some (name_of board net)) && layers ≡ true
admitted_by board at net layers h k m = both _ _ (both _ _ h k) m

one_within : (set copper : LayerSet) → is_within set copper ≡ true → is_within set copper && true ≡ true
one_within set copper h = both _ _ h refl

pub fill_admitted : (board : PlainBoard) (name : List ℕ) (unit net : ℕ) (at : RawPoint) (layer : ℕ) (shape : Shape) → fits_board at ≡ true → is_some (name_of board net) ≡ true
    → IsTrue (has_layer board.copper layer) → is_admitted board (plain_item name unit net at (record { layers = single_layer layer; shape = shape } ∷ []) Fill refl) ≡ true
fill_admitted board name unit net at layer shape near of on =
    admitted_by board at net _ near of (one_within (single_layer layer) board.copper ((single_within layer board.copper).1 on))

pub area_admitted : (board : PlainBoard) (name : List ℕ) (unit net : ℕ) (at : RawPoint) (title : List ℕ) (bans : Bans) (layers : LayerSet) (shape : Shape) → fits_board at ≡ true
    → is_some (name_of board net) ≡ true → IsTrue (is_within layers board.copper)
    → is_admitted board (plain_item name unit net at [] (Area title bans (record { layers = layers; shape = shape })) refl) ≡ true
area_admitted board name unit net at title bans layers shape near of on = admitted_by board at net _ near of (one_within layers board.copper on)

-- ---- lists of items

pub one_ready : (board : PlainBoard) (unit : ℕ) (item : Item) → IsReady board unit item → has_capacity_after 0 board unit ≡ true → AreReady board unit (item ∷ [])
one_ready board unit item h k =
    let capacity = capacity_by 0 board unit k in
    record { each = All-cons (IsReady board unit) item [] h (All-nil (IsReady board unit)); capacity = omega (arith, capacity.0); numbered = λ n. capacity.1 }

pub more_ready : (board : PlainBoard) (unit : ℕ) (items : List Item) (item : Item) → AreReady board unit items → IsReady board unit item → has_capacity_after (length items) board unit ≡ true
    → AreReady board unit (items ++ item ∷ [])
more_ready board unit items item all h k =
    let capacity = capacity_by (length items) board unit k in
    let more = length-append items (item ∷ []) in
    record {
      each = All-append (IsReady board unit) items (item ∷ []) all.each (All-cons (IsReady board unit) item [] h (All-nil (IsReady board unit)));
      capacity = omega (arith, capacity.0, more);
      numbered = λ n. capacity.1;
    }

pub part_is : (s t : LayerSet) (shape : Shape) → s ≡ t → (let p : Part = record { layers = s; shape = shape } in p ∷ []) ≡ (let q : Part = record { layers = t; shape = shape } in q ∷ [])
part_is s t shape e = ap (λ (l : LayerSet). let p : Part = record { layers = l; shape = shape } in p ∷ []) e
