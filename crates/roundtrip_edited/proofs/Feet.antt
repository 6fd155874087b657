-- Lists of footprints, as they are rewritten.
use Rattle.std.proofs.Common.{◌≡◌, ◌∙◌, refl, sym, ap, subst, ℕ, ◌<◌, ◌≤◌, arith, Bool, true, false, cond, leb, ltb, List, [], ◌∷◌, length, codes, Option, None, Some, Ok, inl, inr}
use Rattle.std.specs.List.{AllZip}
use Rattle.std.proofs.lemmas.Bool.{leb-true, ltb-true, and_parts}
use Rattle.sexpr_read.specs.declared.place.Span.{Span}
use Rattle.sexpr_read.specs.Tree.{Forest, none, atom, list, Tree, leaf, branch, trees}
use Rattle.one_item.specs.declared.item.Item.{Item}
use Rattle.board_items.specs.Boards.{PlainBoard}
use Rattle.board_items.specs.ItemRefusals.{capacity_of}
use Rattle.one_item.specs.declared.item.About.TheVariants.{Text as OfText, Dimension as OfDimension}
use Rattle.part_read.specs.declared.drawings.GraphicKind.TheVariants.{Line, Rect, Circle, Outline}
use Rattle.list_read.specs.ListHeads.{is_text, first_is}
use Rattle.roundtrip_text.specs.Pieces.{SameTrees}
use Rattle.footprint_read.specs.FootprintOf.{FootprintSays}
use Rattle.roundtrip_lists.specs.Translated.{Shift, place_moved, Translated}
use Rattle.roundtrip_lists.specs.Carried.{shift_of, Becomes, of_unit, ItemsOf}
use Rattle.roundtrip_lists.specs.Moving.{put_if, moved}
use Rattle.roundtrip_lists.proofs.Moving.{translated_same, translated_itself}
use Rattle.pcb_read.specs.declared.sorts.Sort.{Sort}
use Rattle.pcb_read.specs.declared.sorts.Sort.TheVariants.{Track, Via, Arc, Graphic, Curve, Text, Zone, Footprint}
use Rattle.pcb_read.specs.Sorts.{is_curve, is_writing, drawn_sort, sort_of}
use Rattle.pcb_read.specs.ItemsOf.{SaysItems, has_capacity}
use Rattle.roundtrip_edited.specs.Footprints.{is_footprint}
use Rattle.roundtrip_edited.proofs.Units.{same_nets}
use Rattle.roundtrip_footprints.specs.FootprintPlaces.{AtMoved}
use Rattle.roundtrip_footprints.proofs.Carried.{foot_carried}
use Rattle.roundtrip_footprints.proofs.Feet.{foot_some, foot_stands}
use Rattle.roundtrip_footprints.proofs.Written.{written_place, all_kept}
use Rattle.roundtrip_boards.specs.Roots.{SameLayersAndNets}
use Rattle.roundtrip_boards.specs.WrittenBoard.{first_at, moved_if}
use Rattle.roundtrip_edited.specs.Carries.{Carries}

plain_of : (f g : Forest) → SameTrees f g → Translated None f g
plain_of f g same = translated_same None f f g (translated_itself f) same

-- ---- the first place is moved

at_moved : (by : Shift) (i j : Forest) → SameTrees (first_at by i) j → AtMoved by i j
at_moved by none none h = tt
at_moved by none (atom t r e rest) h = absurd h
at_moved by none (list t within rest) h = absurd h
at_moved by (atom s q c others) none h = absurd h
at_moved by (atom s q c others) (atom t r e rest) h = (h.0, h.1, at_moved by others rest h.2)
at_moved by (atom s q c others) (list t within rest) h = absurd h
at_moved by (list s i others) j h = by_head (first_is (trees i) (codes "at")) refl j h (λ rest k. at_moved by others rest k)
  where
    by_head : (b : Bool) → first_is (trees i) (codes "at") ≡ b → (j : Forest) → SameTrees (cond b (list s (put_if (place_moved by i) i) others) (list s i (first_at by others))) j
        → ((rest : Forest) → SameTrees (first_at by others) rest → AtMoved by others rest) → AtMoved by (list s i others) j
    by_head true e none h more = absurd h
    by_head true e (atom t r x rest) h more = absurd h
    by_head true e (list t within rest) h more = inl (written_place by i within e h.0, plain_of others rest h.1)
    by_head false e none h more = absurd h
    by_head false e (atom t r x rest) h more = absurd h
    by_head false e (list t within rest) h more = inr (e, plain_of i within h.0, more rest h.1)

-- ---- a list of this sort has this head

abbrev is_foot : Option Sort → Bool
is_foot None = false
is_foot (Some sort) = is_footprint sort

never_drawn : (line rect circle outline curve writing measure : Bool)
    → is_foot (cond line (Some (Graphic Line)) (cond rect (Some (Graphic Rect)) (cond circle (Some (Graphic Circle)) (cond outline (Some (Graphic Outline)) (cond curve (Some Curve) (cond writing (Some (Text OfText)) (cond measure (Some (Text OfDimension)) None))))))) ≡ false
never_drawn true rect circle outline curve writing measure = refl
never_drawn false true circle outline curve writing measure = refl
never_drawn false false true outline curve writing measure = refl
never_drawn false false false true curve writing measure = refl
never_drawn false false false false true writing measure = refl
never_drawn false false false false false true measure = refl
never_drawn false false false false false false true = refl
never_drawn false false false false false false false = refl

by_tests : (track via zone foot arc : Bool) (o : Option Sort) → is_foot o ≡ false → is_foot (cond track (Some Track) (cond via (Some Via) (cond zone (Some Zone) (cond foot (Some Footprint) (cond arc (Some Arc) o))))) ≡ true → foot ≡ true
by_tests track via zone true arc o plain e = refl
by_tests true via zone false arc o plain e = absurd cc
by_tests false true zone false arc o plain e = absurd cc
by_tests false false true false arc o plain e = absurd cc
by_tests false false false false true o plain e = absurd cc
by_tests false false false false false o plain e = absurd (let c : false ≡ true = sym plain ∙ e in cc)

foot_head : (s : Span) (i : Forest) → sort_of (branch s i) ≡ Some Footprint → first_is (trees i) (codes "footprint") ≡ true
unfolding sort_of
foot_head s none h = absurd cc
foot_head s (list t inside others) h = absurd cc
foot_head s (atom t q c others) h =
    by_tests (is_text (leaf t q c) (codes "segment")) (is_text (leaf t q c) (codes "via")) (is_text (leaf t q c) (codes "zone")) (is_text (leaf t q c) (codes "footprint")) (is_text (leaf t q c) (codes "arc")) (drawn_sort (leaf t q c))
    (never_drawn (is_text (leaf t q c) (codes "gr_line")) (is_text (leaf t q c) (codes "gr_rect")) (is_text (leaf t q c) (codes "gr_circle")) (is_text (leaf t q c) (codes "gr_poly")) (is_curve (leaf t q c)) (is_writing (leaf t q c)) (is_text (leaf t q c) (codes "dimension")))
    (ap is_foot h)

unit_moved : (o : Option Shift) (i j : Forest) → first_is (trees i) (codes "footprint") ≡ true → SameTrees (moved_if o i) j → AtMoved (shift_of o) i j
unit_moved None i j foot same = all_kept i j (plain_of i j same)
unit_moved (Some by) i j foot same = at_moved by i j (subst (λ (b : Bool). SameTrees (cond b (first_at by i) (moved by i)) j) foot same)

-- ---- what they give

-- a footprint gives items, so there is room for some
some_capacity : (other : PlainBoard) (own : ℕ) (items now : List Item) (d : Shift) → AllZip (Becomes d) items now → 1 ≤ length items → has_capacity other own now ≡ true → (length now ≤ capacity_of other) × (own < 4294967295)
some_capacity other own [] now d become some capacity = absurd (omega (arith, some))
some_capacity other own (i ∷ items) [] d become some capacity = absurd become
some_capacity other own (i ∷ items) (n ∷ now) d become some capacity =
    let k = and_parts (leb (length (n ∷ now)) (capacity_of other)) (ltb own 4294967295) capacity in
    (leb-true (length (n ∷ now)) (capacity_of other) k.0, ltb-true own 4294967295 k.1)

pub feet_carried : (board other : PlainBoard) (unit own : ℕ) (t u : Tree) (items now : List Item) → SameLayersAndNets board other → SaysItems board unit t Footprint (Ok items) → Carries Footprint t u items now → has_capacity other own now ≡ true
    → SaysItems other own u Footprint (Ok (of_unit own now))
feet_carried board other unit own t u items now ground says c capacity =
    let said : FootprintSays board unit (branch c.old c.inside) (Ok items) = subst (λ (z : Tree). FootprintSays board unit z (Ok items)) c.was says in
    let fits = some_capacity other own items now (shift_of c.shift) c.become (foot_some board unit (branch c.old c.inside) items said) capacity in
    subst (λ (z : Tree). FootprintSays other own z (Ok (of_unit own now))) (sym c.is)
    (foot_carried (shift_of c.shift) board other ground.copper (same_nets board other ground) unit own c.inside c.within c.old c.new (unit_moved c.shift c.inside c.within (foot_head c.old c.inside c.is_sort) c.same) items now c.become said fits.0 fits.1)

pub feet_stand : (board : PlainBoard) (unit : ℕ) (t : Tree) (items : List Item) → SaysItems board unit t Footprint (Ok items) → ItemsOf unit items
feet_stand board unit t items says = foot_stands board unit t items says
