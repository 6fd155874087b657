-- Lists of units, as they are rewritten.
use Rattle.std.proofs.Common.{◌≡◌, ◌∙◌, refl, sym, ap, subst, ℕ, suc, Bool, true, false, cond, List, [], ◌∷◌, map, length, codes, Option, None, Some, Ok}
use Rattle.std.specs.Prelude.{nat_le, nat_lt, ◌&&◌}
use Rattle.std.specs.List.{AllZip}
use Rattle.std.proofs.lemmas.List.{length-map}
use Rattle.std.proofs.lemmas.Slice.Eq.{bytes_eq-Decides}
use Rattle.sexpr_read.specs.declared.place.Span.{Span}
use Rattle.sexpr_read.specs.Tree.{Forest, none, atom, list, Tree, leaf, branch, trees, unescaped}
use Rattle.one_item.specs.declared.item.Item.{Item}
use Rattle.board_items.specs.Boards.{PlainBoard}
use Rattle.board_items.specs.ItemRefusals.{capacity_of}
use Rattle.list_read.specs.ListHeads.{is_text, first_is}
use Rattle.roundtrip_text.specs.Pieces.{SameTrees}
use Rattle.roundtrip_lists.specs.Translated.{Shift, Translated}
use Rattle.roundtrip_lists.specs.Carried.{shift_of, Becomes, of_unit, ItemsOf}
use Rattle.roundtrip_lists.specs.Moving.{moved}
use Rattle.roundtrip_lists.proofs.Moving.{moved_translated, translated_same, translated_itself}
use Rattle.pcb_read.specs.declared.sorts.Sort.{Sort}
use Rattle.pcb_read.specs.declared.sorts.Sort.TheVariants.{Track, Via, Arc, Graphic, Curve, Text, Zone, Footprint}
use Rattle.pcb_read.specs.Sorts.{sort_by, sort_of}
use Rattle.pcb_read.specs.ItemsOf.{SaysItems, has_capacity}
use Rattle.pcb_read.specs.BoardOf.{Reading}
use Rattle.roundtrip_edited.specs.Footprints.{is_footprint}
use Rattle.roundtrip_edited.proofs.Units.{same_nets, tracks_carried, vias_carried, arcs_carried, graphics_carried, curves_carried, texts_carried}
use Rattle.roundtrip_edited.proofs.Zones.{zone_carried}
use Rattle.roundtrip_boards.specs.Roots.{SameLayersAndNets}
use Rattle.roundtrip_boards.specs.WrittenBoard.{first_at, moved_if}
use Rattle.roundtrip_boards.specs.Ledger.{Entry, IsNow, AreNow}
use Rattle.roundtrip_boards.specs.Reads.{IsUnit}
use Rattle.roundtrip_boards.proofs.Following.{items_now}
use Rattle.roundtrip_boards.proofs.Ledger.{units_of, next_with}
use Rattle.roundtrip_edited.specs.Carries.{Carries}

-- ---- what is carried, and what is without items

as_become : (d : Shift) (items : List Item) (now : List (ℕ × Item)) → AllZip (IsNow d) items now → AllZip (Becomes d) items (map (λ (x : ℕ × Item). x.1) now)
as_become d [] [] h = tt
as_become d [] (n ∷ now) h = absurd h
as_become d (i ∷ items) [] h = absurd h
as_become d (i ∷ items) (n ∷ now) h = (h.0, as_become d items now h.1)

pub carries : (sort : Sort) (s r : Span) (i j : Forest) (o : Option Shift) (e : Entry) → sort_of (branch s i) ≡ Some sort → SameTrees (moved_if o i) j → AreNow (shift_of o) e → Carries sort (branch s i) (branch r j) e.read (items_now e)
carries sort s r i j o e is same now =
    record { shift = o; old = s; new = r; inside = i; within = j; was = refl; is = refl; is_sort = is; same = same; become = as_become (shift_of o) e.read e.now now }

same_of : (i j : Forest) → Translated None i j → SameTrees i j
same_of none none h = tt
same_of none (atom t r e rest) h = absurd h
same_of none (list t within rest) h = absurd h
same_of (atom s q c others) none h = absurd h
same_of (atom s q c others) (atom t r e rest) h = (h.0, h.1, same_of others rest h.2)
same_of (atom s q c others) (list t within rest) h = absurd h
same_of (list s inside others) none h = absurd h
same_of (list s inside others) (atom t r e rest) h = absurd h
same_of (list s inside others) (list t within rest) h = (same_of inside within h.0, same_of others rest h.1)

pub without : (sort : Sort) (s r : Span) (i j : Forest) → sort_of (branch s i) ≡ Some sort → Translated None i j → Carries sort (branch s i) (branch r j) [] []
without sort s r i j is translated = record { shift = None; old = s; new = r; inside = i; within = j; was = refl; is = refl; is_sort = is; same = same_of i j translated; become = tt }

zip_long : (d : Shift) (items now : List Item) → AllZip (Becomes d) items now → length now ≡ length items
zip_long d [] [] h = refl
zip_long d [] (n ∷ now) h = absurd h
zip_long d (i ∷ items) [] h = absurd h
zip_long d (i ∷ items) (n ∷ now) h = ap suc (zip_long d items now h.1)

pub as_long : (sort : Sort) (t u : Tree) (items now : List Item) → Carries sort t u items now → length now ≡ length items
as_long sort t u items now c = zip_long (shift_of c.shift) items now c.become

-- ---- lists that are no footprints

abbrev some_footprint : Option Sort
some_footprint = Some Footprint

leaf_footprint : (t : Span) (q : Bool) (c : List ℕ) → is_text (leaf t q c) (codes "footprint") ≡ true → sort_by (leaf t q c) ≡ some_footprint
leaf_footprint t false c h = subst (λ (l : List ℕ). sort_by (leaf t false l) ≡ some_footprint) (sym ((bytes_eq-Decides c (codes "footprint")).0 h)) refl
leaf_footprint t true c h = subst (λ (l : List ℕ). sort_by (leaf t false l) ≡ some_footprint) (sym ((bytes_eq-Decides (unescaped c) (codes "footprint")).0 h)) refl

head_footprint : (s : Span) (i : Forest) → first_is (trees i) (codes "footprint") ≡ true → sort_of (branch s i) ≡ some_footprint
unfolding sort_of
head_footprint s none h = absurd cc
head_footprint s (list t inside others) h = absurd cc
head_footprint s (atom t q c others) h = leaf_footprint t q c h

no_head : (s : Span) (i : Forest) (sort : Sort) → sort_of (branch s i) ≡ Some sort → is_footprint sort ≡ false → first_is (trees i) (codes "footprint") ≡ false
no_head s i sort is plain = by_test (first_is (trees i) (codes "footprint")) refl
  where
    one_sort : some_footprint ≡ Some sort → Footprint ≡ sort
    one_sort e = cc

    by_test : (b : Bool) → first_is (trees i) (codes "footprint") ≡ b → b ≡ false
    by_test false e = refl
    by_test true e =
        let same : Footprint ≡ sort = one_sort (sym (head_footprint s i e) ∙ is) in
        absurd (let c : true ≡ false = ap is_footprint same ∙ plain in cc)

unit_translated : (o : Option Shift) (i j : Forest) → first_is (trees i) (codes "footprint") ≡ false → SameTrees (moved_if o i) j → Translated o i j
unit_translated None i j plain same = translated_same None i i j (translated_itself i) same
unit_translated (Some by) i j plain same =
    translated_same (Some by) i (moved by i) j (moved_translated by i) (subst (λ (b : Bool). SameTrees (cond b (first_at by i) (moved by i)) j) plain same)

-- ---- what they give

module _ (o : Option Shift) (board other : PlainBoard) (unit own : ℕ) (i j : Forest) (s r : Span) (items now : List Item) (ground : SameLayersAndNets board other) (translated : Translated o i j) (become : AllZip (Becomes (shift_of o)) items now) where
  sort_carried : (sort : Sort) → is_footprint sort ≡ false → SaysItems board unit (branch s i) sort (Ok items) → has_capacity other own (of_unit own now) ≡ true → SaysItems other own (branch r j) sort (Ok (of_unit own now))
  sort_carried Track plain says capacity = tracks_carried o board other unit own i j s r items now ground translated become says capacity
  sort_carried Via plain says capacity = vias_carried o board other unit own i j s r items now ground translated become says capacity
  sort_carried Arc plain says capacity = arcs_carried o board other unit own i j s r items now ground translated become says
  sort_carried (Graphic kind) plain says capacity = graphics_carried o board other unit own i j s r items now ground translated become kind says capacity
  sort_carried Curve plain says capacity = curves_carried o board other unit own i j s r items now ground translated become says
  sort_carried (Text about) plain says capacity = texts_carried o board other unit own i j s r items now ground translated become about says capacity
  sort_carried Zone plain says capacity = sym (zone_carried o board other unit own i j s r items now (sym ground.copper) (same_nets board other ground) translated become capacity (sym says))
  sort_carried Footprint plain says capacity = absurd cc

-- as many items need as much room
capacity_of_unit : (other : PlainBoard) (own : ℕ) (now : List Item) → has_capacity other own now ≡ true → has_capacity other own (of_unit own now) ≡ true
capacity_of_unit other own [] h = refl
capacity_of_unit other own (n ∷ now) h =
    subst (λ (z : ℕ). by_length z ≡ true) (sym (length-map (n ∷ now) (λ (x : Item). record x { unit = own }))) h
  where
    by_length : ℕ → Bool
    by_length z = nat_le z (capacity_of other) && nat_lt own 4294967295

pub list_carried : (sort : Sort) (board other : PlainBoard) (unit own : ℕ) (t u : Tree) (items now : List Item) → is_footprint sort ≡ false → SameLayersAndNets board other → SaysItems board unit t sort (Ok items) → Carries sort t u items now
    → has_capacity other own now ≡ true → SaysItems other own u sort (Ok (of_unit own now))
list_carried sort board other unit own t u items now plain ground says c capacity =
    subst (λ (z : Tree). SaysItems other own z sort (Ok (of_unit own now))) (sym c.is)
    (sort_carried c.shift board other unit own c.inside c.within c.old c.new items now ground
    (unit_translated c.shift c.inside c.within (no_head c.old c.inside sort c.is_sort plain) c.same) c.become sort plain
    (subst (λ (z : Tree). SaysItems board unit z sort (Ok items)) c.was says) (capacity_of_unit other own now capacity))

-- ---- a unit takes one number

pub unit_grows : (a next : Reading) (t : Tree) (i : Item) (items : List Item) → IsUnit a next t (i ∷ items) → ItemsOf a.board.next_unit (i ∷ items) → next.board.next_unit ≡ suc a.board.next_unit
unit_grows a next t i items unit of = ap (λ (r : Reading). r.board.next_unit) unit.after ∙ next_with a.board i items (units_of a.board.next_unit (i ∷ items) of)
