-- A zone's list that is equal up to translation gives the same area or fills, carried, where the board has room.
use Rattle.std.proofs.Common.{◌≡◌, ◌∙◌, refl, sym, ap, subst, ℕ, suc, ◌+◌, ◌<◌, ◌≤◌, arith, ℤ, pos, ◌+ℤ◌, ◌*ℤ◌, Bool, true, false, cond, List, [], ◌∷◌, length, codes, Option, None, Some, option_map, Result, Ok, Err}
use Rattle.std.specs.Prelude.{nat_lt, unwrap_or, MatchBool}
use Rattle.std.specs.List.{AllZip}
use Rattle.std.proofs.lemmas.Bool.{leb-true}
use Rattle.std.proofs.lemmas.Bool.Decides.{nat_tests}
use Rattle.int_algebra.proofs.Tested.{front, back}
use Rattle.sexpr_read.specs.declared.place.Span.{Span}
use Rattle.sexpr_read.specs.Tree.{Forest, none, atom, list, Tree, branch, trees}
use Rattle.geo_seg.specs.declared.points.Point.{Point}
use Rattle.geo_seg.specs.declared.shapes.Core.{Core}
use Rattle.geo_seg.specs.declared.shapes.Core.TheVariants.{Line as LineCore, Area as AreaCore}
use Rattle.geo_seg.specs.declared.shapes.Shape.{Shape}
use Rattle.geo_seg.specs.Shifts.{IsShiftedShape, IsShiftedCore}
use Rattle.board_errors.specs.declared.errors.BoardError.{BoardError}
use Rattle.board_errors.specs.declared.errors.BoardError.TheVariants.{Missing, OutOfBoard, ThickFill, TooMany}
use Rattle.copper_layers.specs.declared.set.LayerSet.{LayerSet}
use Rattle.one_item.specs.declared.parts.Part.{Part}
use Rattle.one_item.specs.declared.item.Bans.{Bans}
use Rattle.one_item.specs.declared.item.Hole.{Hole}
use Rattle.one_item.specs.declared.item.What.TheVariants.{Fill, Area}
use Rattle.one_item.specs.declared.item.Item.{Item}
use Rattle.copper_layers.specs.Layers.{single_layer}
use Rattle.one_item.specs.Positions.{is_near, is_on_board}
use Rattle.board_items.specs.Boards.{PlainBoard, name_of}
use Rattle.board_items.specs.ItemRefusals.{capacity_of}
use Rattle.one_item.specs.ItemMoves.{AreShifted, HoleIsShifted}
use Rattle.one_item.specs.ItemKinds.{is_note}
use Rattle.part_read.specs.declared.numbers.RawPoint.{RawPoint}
use Rattle.list_read.specs.FirstRefusals.{◌>>=◌, needed, check}
use Rattle.list_read.specs.ListHeads.{place, has_head}
use Rattle.list_read.specs.NamedElements.{element}
use Rattle.part_read.specs.ElementResults.{atom_of, in_needed, name_in}
use Rattle.part_read.specs.BoardLayers.{layer_in, named}
use Rattle.part_read.specs.NetsOf.{net_of}
use Rattle.part_read.specs.LayersWhere.{layers_of_any}
use Rattle.part_read.specs.Placements.{points_stood}
use Rattle.part_read.specs.Figures.{first_of}
use Rattle.part_read.specs.PlainItems.{plain_item}
use Rattle.part_read.specs.Capacity.{has_capacity_after}
use Rattle.pcb_read.specs.ItemsOf.{has_capacity}
use Rattle.part_read.specs.Drawings.{corners_of, corners_in}
use Rattle.part_read.proofs.There.{map_some}
use Rattle.part_read.proofs.Shapes.{one_shape}
use Rattle.zone_read.specs.ZoneOf.{layers_among, zone_layers, title_of, as_it_is, area_with, area_of, ban_of, bans_in, polygon_of, is_thin_by, is_thin, fill_layer, fill_on, fill_in_capacity, with_fill, fills_after, area_in_capacity, rule_area, zone_by, zone_of}
use Rattle.roundtrip_lists.specs.Translated.{Shift, is_place_word, Translated, TranslatedTrees}
use Rattle.roundtrip_lists.specs.Agreeing.{Agrees, BothAgree, Same, SameAtom, TranslatedParts, FoundTranslated}
use Rattle.roundtrip_lists.specs.Carried.{shift_of, IsCarried, Becomes, of_unit, IfAccepted, ReadsCarried}
use Rattle.roundtrip_lists.specs.Moved.{IsMovedRawPoint}
use Rattle.roundtrip_lists.specs.FigurePositions.{StandsMoved}
use Rattle.roundtrip_lists.proofs.Elements.{agrees_bind, agrees_both, heads_translated, element_translated, given_or_translated, inside_by_head, same_value, atom_translated}
use Rattle.roundtrip_lists.proofs.Numbers.{needed_translated, net_translated, name_translated, layer_in_translated}
use Rattle.roundtrip_lists.proofs.Shapes.{one_item, leads_bind, settled, two_pass}
use Rattle.roundtrip_lists.proofs.Figures.{points_carried}
use Rattle.roundtrip_lists.specs.Drawn.{AreCorners}
use Rattle.roundtrip_lists.proofs.Corners.{corners_in_translated}
use Rattle.roundtrip_lists.proofs.Graphics.{text_same}
use Rattle.roundtrip_lists.proofs.Named.{named_atom, named_translated}
use Rattle.roundtrip_lists.proofs.Steps.{leads_needed, element_in}
use Rattle.roundtrip_edited.proofs.Units.{as_they_are}

pub zone_layers_translated : (d : Option Shift) (copper : LayerSet) (i j : Forest) (s r : Span) → Translated d i j → Agrees Same (zone_layers copper (branch s i)) (zone_layers copper (branch r j))
unfolding zone_layers
zone_layers_translated d copper i j s r h =
    by_found (element (codes "layer") (branch s i)) (element (codes "layer") (branch r j)) (element (codes "layers") (branch s i)) (element (codes "layers") (branch r j))
    (element_translated d (codes "layer") s r i j h) (element_translated d (codes "layers") s r i j h)
  where
    by_found : (o p m n : Option Tree) → FoundTranslated d (has_head (codes "layer")) o p → FoundTranslated d (has_head (codes "layers")) m n → Agrees Same (layers_among copper (branch s i) o m) (layers_among copper (branch r j) p n)
    by_found None (Some y) m n k l = absurd k
    by_found (Some x) None m n k l = absurd k
    by_found (Some x) (Some y) m n k l =
        agrees_bind SameAtom Same (atom_of 1 x) (atom_of 1 y) _ _ (agrees_both SameAtom (atom_of 1 x) (atom_of 1 y) (atom_translated d 1 x y (inside_by_head d x y (codes "layer") k.0 k.1 refl)))
        (λ a b e. agrees_bind Same Same (named copper a) (named copper b) _ _ (named_atom copper a b e) (λ v w f. ap layers_of_any f))
    by_found None None None None k l = tt
    by_found None None None (Some y) k l = absurd l
    by_found None None (Some x) None k l = absurd l
    by_found None None (Some x) (Some y) k l = named_translated d copper x y (inside_by_head d x y (codes "layers") l.0 l.1 refl)

-- ---- titles and bans

pub title_translated : (d : Option Shift) (i j : Forest) (s r : Span) → Translated d i j → Agrees Same (title_of (branch s i)) (title_of (branch r j))
unfolding title_of
title_translated d i j s r h =
    given_or_translated Same d (has_head (codes "name")) [] [] _ _ (element (codes "name") (branch s i)) (element (codes "name") (branch r j)) (element_translated d (codes "name") s r i j h) refl
    (λ x y k e. agrees_bind SameAtom Same (atom_of 1 x) (atom_of 1 y) _ _ (agrees_both SameAtom (atom_of 1 x) (atom_of 1 y) (atom_translated d 1 x y (inside_by_head d x y (codes "name") k e refl)))
    (λ a b m. ap (λ (v : Option (List ℕ)). unwrap_or v []) (sym (same_value a b m))))

ban_translated : (d : Option Shift) (word : List ℕ) → is_place_word word ≡ false → (t u : Tree) → TranslatedParts d t u → Agrees Same (ban_of word t) (ban_of word u)
ban_translated d word plain t u h =
    given_or_translated Same d (has_head word) false false _ _ (element word t) (element word u) (element_in d word t u h) refl
    (λ x y k e. agrees_bind SameAtom Same (atom_of 1 x) (atom_of 1 y) _ _ (agrees_both SameAtom (atom_of 1 x) (atom_of 1 y) (atom_translated d 1 x y (inside_by_head d x y word k e plain)))
    (λ a b m. text_same a b (codes "not_allowed") m))

bans_same : (a b c e f g k l : Bool) → f ≡ a → g ≡ b → k ≡ c → l ≡ e
    → (let x : Bans = record { tracks = f; vias = g; pads = k; footprints = l } in x) ≡ record { tracks = a; vias = b; pads = c; footprints = e }
bans_same a b c e f g k l ha hb hc he =
    ap (λ (z : Bool). let x : Bans = record { tracks = z; vias = g; pads = k; footprints = l } in x) ha
    ∙ ap (λ (z : Bool). let x : Bans = record { tracks = a; vias = z; pads = k; footprints = l } in x) hb
    ∙ ap (λ (z : Bool). let x : Bans = record { tracks = a; vias = b; pads = z; footprints = l } in x) hc
    ∙ ap (λ (z : Bool). let x : Bans = record { tracks = a; vias = b; pads = c; footprints = z } in x) he

pub bans_translated : (d : Option Shift) (t u : Tree) → TranslatedParts d t u → Agrees Same (bans_in t) (bans_in u)
unfolding bans_in
bans_translated d t u h =
    agrees_bind Same Same (ban_of (codes "tracks") t) (ban_of (codes "tracks") u) _ _ (ban_translated d (codes "tracks") refl t u h) (λ a f ha.
    agrees_bind Same Same (ban_of (codes "vias") t) (ban_of (codes "vias") u) _ _ (ban_translated d (codes "vias") refl t u h) (λ b g hb.
    agrees_bind Same Same (ban_of (codes "pads") t) (ban_of (codes "pads") u) _ _ (ban_translated d (codes "pads") refl t u h) (λ c k hc.
    agrees_bind Same Same (ban_of (codes "footprints") t) (ban_of (codes "footprints") u) _ _ (ban_translated d (codes "footprints") refl t u h) (λ e l he.
    bans_same a b c e f g k l ha hb hc he))))

-- ---- polygons

-- the corners in a list whose parts are equal up to translation
pub corners_in_parts : (d : Option Shift) (t u : Tree) → TranslatedParts d t u → Agrees (AreCorners d) (corners_of t) (corners_of u)
corners_in_parts d t u h = by_found (element (codes "pts") t) (element (codes "pts") u) (element_in d (codes "pts") t u h)
  where
    by_found : (o p : Option Tree) → FoundTranslated d (has_head (codes "pts")) o p → Agrees (AreCorners d) (in_needed corners_in t o) (in_needed corners_in u p)
    by_found None None k = tt
    by_found None (Some y) k = absurd k
    by_found (Some x) None k = absurd k
    by_found (Some x) (Some y) k = corners_in_translated d x y (inside_by_head d x y (codes "pts") k.0 k.1 refl)

pub polygon_translated : (d : Option Shift) (i j : Forest) (s r : Span) → Translated d i j → Agrees (AreCorners d) (polygon_of (branch s i)) (polygon_of (branch r j))
unfolding polygon_of
polygon_translated d i j s r h =
    needed_translated (AreCorners d) d (codes "polygon") corners_of corners_of (branch s i) (branch r j) i j s r h (λ x y k e. corners_in_parts d x y (inside_by_head d x y (codes "polygon") k e refl))

all_stand : (o : Option Shift) (ss ts : List RawPoint) → AllZip (IsMovedRawPoint o) ss ts → AllZip (StandsMoved (shift_of o) as_it_is as_it_is) ss ts
all_stand o [] [] h = tt
all_stand o [] (t ∷ ts) h = absurd h
all_stand o (s ∷ ss) [] h = absurd h
all_stand o (s ∷ ss) (t ∷ ts) h = ((as_they_are o).stands s t h.0, all_stand o ss ts h.1)

-- the polygon of the moved corners is the polygon, moved
pub area_carried : (o : Option Shift) (ss ts : List RawPoint) (shape other : Shape) → AllZip (IsMovedRawPoint o) ss ts → area_of ss ≡ Some shape → IsShiftedShape (pos 2 *ℤ (shift_of o).dx) (pos 2 *ℤ (shift_of o).dy) shape other → area_of ts ≡ Some other
area_carried o ss ts shape other h some m =
    let k = map_some area_with (points_stood as_it_is ss) shape some in
    by_core k.0 k.1 other.core refl (subst (λ (s : Shape). IsShiftedShape (pos 2 *ℤ (shift_of o).dx) (pos 2 *ℤ (shift_of o).dy) s other) k.2 m)
  where
    by_core : (ps : List Point) → points_stood as_it_is ss ≡ Some ps → (core : Core) → other.core ≡ core → IsShiftedShape (pos 2 *ℤ (shift_of o).dx) (pos 2 *ℤ (shift_of o).dy) (area_with ps) other → area_of ts ≡ Some other
    by_core ps e (LineCore s) is m = absurd (subst (λ (c : Core). IsShiftedCore (pos 2 *ℤ (shift_of o).dx) (pos 2 *ℤ (shift_of o).dy) (AreaCore ps) c) is m.core)
    by_core ps e (AreaCore qs) is m =
        let moved = subst (λ (c : Core). IsShiftedCore (pos 2 *ℤ (shift_of o).dx) (pos 2 *ℤ (shift_of o).dy) (AreaCore ps) c) is m.core in
        ap (option_map area_with) (points_carried (shift_of o) as_it_is as_it_is ss ts ps qs (all_stand o ss ts h) e moved)
        ∙ ap (λ (s : Shape). let z : Option Shape = Some s in z) (sym (one_shape other (area_with qs) is m.radius))

-- ---- room

-- there is room for these after so many, and the unit has a number
abbrev pub FitsAfter : PlainBoard → ℕ → ℕ → List Item → Type 0
FitsAfter board unit found [] = Unit {0}
FitsAfter board unit found (item ∷ items) = (found + length (item ∷ items) ≤ capacity_of board) × (nat_lt unit 4294967295 ≡ true)

below : (a b : ℕ) → a < b → nat_lt a b ≡ true
below a b h = grind (arith, nat_tests, h)

capacity_after : (board : PlainBoard) (unit found : ℕ) (item : Item) (items : List Item) → FitsAfter board unit found (item ∷ items) → has_capacity_after found board unit ≡ true
capacity_after board unit found item items h =
    let few = h.0 in
    two_pass (nat_lt found (capacity_of board)) (nat_lt unit 4294967295) (below found (capacity_of board) (omega (arith, few))) h.1

fits_next : (board : PlainBoard) (unit found : ℕ) (item : Item) (items : List Item) → FitsAfter board unit found (item ∷ items) → FitsAfter board unit (suc found) items
fits_next board unit found item [] h = tt
fits_next board unit found item (next ∷ items) h = let few = h.0 in (omega (arith, few), h.1)

pub fits_capacity : (board : PlainBoard) (unit : ℕ) (items : List Item) → has_capacity board unit items ≡ true → FitsAfter board unit 0 items
fits_capacity board unit [] h = tt
fits_capacity board unit (item ∷ items) h = let few = leb-true (length (item ∷ items)) (capacity_of board) (front _ _ h) in (omega (arith, few), back _ _ h)

-- ---- thin fills

thin_translated : (d : Option Shift) (i j : Forest) (s r : Span) → Translated d i j → is_thin (branch r j) ≡ is_thin (branch s i)
unfolding is_thin
thin_translated d i j s r h = by_found (element (codes "filled_areas_thickness") (branch s i)) (element (codes "filled_areas_thickness") (branch r j)) (element_translated d (codes "filled_areas_thickness") s r i j h)
  where
    by_found : (o p : Option Tree) → FoundTranslated d (has_head (codes "filled_areas_thickness")) o p → is_thin_by p ≡ is_thin_by o
    by_found None None k = refl
    by_found None (Some y) k = absurd k
    by_found (Some x) None k = absurd k
    by_found (Some x) (Some y) k = by_atoms (atom_of 1 x) refl (atom_of 1 y) refl (atom_translated d 1 x y (inside_by_head d x y (codes "filled_areas_thickness") k.0 k.1 refl))
      where
        by_atoms : (a : Result Tree BoardError) → atom_of 1 x ≡ a → (b : Result Tree BoardError) → atom_of 1 y ≡ b → BothAgree SameAtom a b → is_thin_by (Some y) ≡ is_thin_by (Some x)
        by_atoms (Ok p) e (Ok q) f m = rw (e, f) (text_same p q (codes "no") m)
        by_atoms (Ok p) e (Err g) f m = absurd m
        by_atoms (Err g) e (Ok q) f m = absurd m
        by_atoms (Err g) e (Err c) f m = rw (e, f) refl

fill_layer_translated : (d : Option Shift) (copper : LayerSet) (t u : Tree) → TranslatedParts d t u → Agrees Same (fill_layer copper t) (fill_layer copper u)
unfolding fill_layer
fill_layer_translated d copper t u h = by_found (element (codes "layer") t) (element (codes "layer") u) (element_in d (codes "layer") t u h)
  where
    by_found : (o p : Option Tree) → FoundTranslated d (has_head (codes "layer")) o p
        → Agrees Same (needed (Missing (place t)) o >>= λ layer. (atom_of 1 layer >>= λ atom. layer_in copper atom)) (needed (Missing (place u)) p >>= λ layer. (atom_of 1 layer >>= λ atom. layer_in copper atom))
    by_found None None k = tt
    by_found None (Some y) k = absurd k
    by_found (Some x) None k = absurd k
    by_found (Some x) (Some y) k =
        agrees_bind SameAtom Same (atom_of 1 x) (atom_of 1 y) _ _ (agrees_both SameAtom (atom_of 1 x) (atom_of 1 y) (atom_translated d 1 x y (inside_by_head d x y (codes "layer") k.0 k.1 refl)))
        (λ a b m. layer_in_translated copper a b m)

-- ---- one item of a zone

no_hole : (dx dy : ℤ) (hole : Option Hole) → HoleIsShifted dx dy None hole → hole ≡ None
no_hole dx dy None h = refl
no_hole dx dy (Some x) h = absurd h

first_corner : (o : Option Shift) (ss ts : List RawPoint) → AreCorners o ss ts → IsMovedRawPoint o (first_of ss) (first_of ts)
first_corner o [] ts h = let k = h.enough in absurd cc
first_corner o (s ∷ ss) [] h = absurd h.each
first_corner o (s ∷ ss) (t ∷ ts) h = h.each.0

carried_by : (d : Shift) (i c : Item) → is_note i.what ≡ false → Becomes d i c → IsCarried d i c × (is_on_board c ≡ true)
carried_by d i c e h = subst (λ (b : Bool). MatchBool b (c ≡ i) (IsCarried d i c × (is_on_board c ≡ true))) e h

in_unit : (own : ℕ) (d : Shift) (i c : Item) → IsCarried d i c → IsCarried d i (record c { unit = own })
in_unit own d i c h = record { name = h.name; net = h.net; x = h.x; y = h.y; copper = h.copper; hole = h.hole; local = h.local; what = h.what }

-- where the item is said to be
corner_at : (o : Option Shift) (ss ts : List RawPoint) (moved : Item) → AreCorners o ss ts → moved.x ≡ (first_of ss).x +ℤ (shift_of o).dx → moved.y ≡ (first_of ss).y +ℤ (shift_of o).dy → is_on_board moved ≡ true
    → (moved.x ≡ (first_of ts).x) × (moved.y ≡ (first_of ts).y)
corner_at o ss ts moved h x y there =
    let at = settled o (first_of ss) (first_of ts) (first_corner o ss ts h) (subst (λ (z : ℤ). is_near z ≡ true) x (front _ _ there)) (subst (λ (z : ℤ). is_near z ≡ true) y (back _ _ there)) in
    (x ∙ ap (λ (z : RawPoint). z.x) (sym at), y ∙ ap (λ (z : RawPoint). z.y) (sym at))

module _ (o : Option Shift) (board other : PlainBoard) (unit own : ℕ) (i j : Forest) (s r : Span) (translated : Translated o i j) where
  abbrev d : Shift
  d = shift_of o

  abbrev one : Tree
  one = branch s i

  abbrev two : Tree
  two = branch r j

  one_part : (layers : LayerSet) (shape : Shape) (parts : List Part) → AreShifted (pos 2 *ℤ d.dx) (pos 2 *ℤ d.dy) (record { layers = layers; shape = shape } ∷ []) parts
      → (new : Shape) × IsShiftedShape (pos 2 *ℤ d.dx) (pos 2 *ℤ d.dy) shape new × (parts ≡ record { layers = layers; shape = new } ∷ [])
  one_part layers shape [] h = absurd h
  one_part layers shape (p ∷ q ∷ ps) h = absurd h.1
  one_part layers shape (p ∷ []) h = (p.shape, h.0.shape, ap (λ (l : LayerSet). (let x : Part = record { layers = l; shape = p.shape } in x) ∷ []) h.0.layers)

  -- a fill, wherever it is carried
  fill_carried : (net layer : ℕ) (t u : Tree) → TranslatedParts o t u → IfAccepted (ReadsCarried d own) (fill_on unit net one layer t) (fill_on own net two layer u)
  unfolding fill_on
  fill_carried net layer t u h =
      leads_bind (AreCorners o) (ReadsCarried d own) (corners_of t) (corners_of u) _ _ (corners_in_parts o t u h) (λ ss ts corners.
      leads_needed (ReadsCarried d own) (OutOfBoard (place t)) (area_of ss) _ _ (λ shape some. (
        refl,
        λ moved c there of.
            let k = one_part (single_layer layer) shape moved.copper c.copper in
            let area : area_of ts ≡ Some k.0 = area_carried o ss ts shape k.0 corners.each some k.1 in
            let at = corner_at o ss ts moved corners c.x c.y there in
            ap (λ (z : Option Shape). needed (OutOfBoard (place u)) z >>= λ shape. Ok (plain_item (name_in two) own net (first_of ts) (record { layers = single_layer layer; shape = shape } ∷ []) Fill refl)) area
            ∙ ap (λ (z : Item). let a : Result Item BoardError = Ok z in a)
            (sym (one_item moved _ (c.name ∙ name_translated o i j s r translated) of c.net at.0 at.1 k.2 (no_hole (pos 2 *ℤ d.dx) (pos 2 *ℤ d.dy) moved.hole c.hole) c.local c.what)),
      )))

  -- ---- fills in room

  abbrev Fills : ℕ → List Item → Result (List Item) BoardError → Type 0
  Fills found items answer = (now : List Item) → AllZip (Becomes d) items now → FitsAfter other own found now → answer ≡ Ok (of_unit own now)

  abbrev with_more : Result Item BoardError → Result (List Item) BoardError → Result (List Item) BoardError
  with_more fill more = fill >>= λ item. (more >>= λ items. Ok (item ∷ items))

  abbrev roomy : BoardError → Bool → Result Item BoardError → Result Item BoardError
  roomy e capacity fill = fill >>= λ item. (check e capacity >>= λ r. Ok item)

  abbrev thinly : BoardError → Bool → Result Item BoardError → Result Item BoardError
  thinly e thin fill = check e thin >>= λ t. fill

  fill_read : (found : ℕ) (e g : BoardError) (item : Item) (again : Result Item BoardError) (items : List Item) (others : Result (List Item) BoardError) → ReadsCarried d own item again → Fills (suc found) items others
      → Fills found (item ∷ items) (with_more (roomy g (has_capacity_after found other own) again) others)
  fill_read found e g item again items others h k [] become fits = absurd become
  fill_read found e g item again items others h k (c ∷ now) become fits =
      let m = carried_by d item c h.0 become.0 in
      let first : again ≡ Ok (record c { unit = own }) = h.1 (record c { unit = own }) (in_unit own d item c m.0) m.1 refl in
      let rest : others ≡ Ok (of_unit own now) = k now become.1 (fits_next other own found c now fits) in
      ap (λ (a : Result Item BoardError). with_more (roomy g (has_capacity_after found other own) a) others) first
      ∙ ap (λ (b : Bool). with_more (roomy g b (Ok (record c { unit = own }))) others) (capacity_after other own found c now fits)
      ∙ ap (λ (a : Result (List Item) BoardError). with_more (Ok (record c { unit = own })) a) rest

  one_fill : (found : ℕ) (e g p q : BoardError) (thin also : Bool) (fill again : Result Item BoardError) (more others : Result (List Item) BoardError) → also ≡ thin → IfAccepted (ReadsCarried d own) fill again → IfAccepted (Fills (suc found)) more others
      → IfAccepted (Fills found) (with_more (thinly p thin (roomy e (has_capacity_after found board unit) fill)) more) (with_more (thinly q also (roomy g (has_capacity_after found other own) again)) others)
  one_fill found e g p q false also fill again more others same h k = tt
  one_fill found e g p q true false fill again more others same h k = absurd cc
  one_fill found e g p q true true (Err f) again more others same h k = tt
  one_fill found e g p q true true (Ok item) again more others same h k = by_capacity (has_capacity_after found board unit) more k
    where
      by_capacity : (b : Bool) (more : Result (List Item) BoardError) → IfAccepted (Fills (suc found)) more others
          → IfAccepted (Fills found) (with_more (roomy e b (Ok item)) more) (with_more (roomy g (has_capacity_after found other own) again) others)
      by_capacity false more k = tt
      by_capacity true (Err f) k = tt
      by_capacity true (Ok items) k = fill_read found e g item again items others h k

  module _ (ground : board.copper ≡ other.copper) (net : ℕ) where
    abbrev fills_by : ℕ → Bool → Tree → List Tree → Result (List Item) BoardError
    fills_by found b t ts =
        cond b (fill_layer board.copper t >>= with_fill found board unit net one t (fills_after found board unit net one ts) (fills_after (suc found) board unit net one ts)) (fills_after found board unit net one ts)

    abbrev others_by : ℕ → Bool → Tree → List Tree → Result (List Item) BoardError
    others_by found b t ts =
        cond b (fill_layer other.copper t >>= with_fill found other own net two t (fills_after found other own net two ts) (fills_after (suc found) other own net two ts)) (fills_after found other own net two ts)

    one_list : (found : ℕ) (t u : Tree) (f g : Forest) (b : Bool) → TranslatedTrees o t u → has_head (codes "filled_polygon") t ≡ b
        → IfAccepted (Fills found) (fills_after found board unit net one (trees f)) (fills_after found other own net two (trees g))
        → IfAccepted (Fills (suc found)) (fills_after (suc found) board unit net one (trees f)) (fills_after (suc found) other own net two (trees g))
        → IfAccepted (Fills found) (fills_by found b t (trees f)) (others_by found b u (trees g))
    unfolding fill_in_capacity
    one_list found t u f g false h e passed more = passed
    one_list found t u f g true h e passed more =
        let inner = inside_by_head o t u (codes "filled_polygon") h e refl in
        leads_bind Same (Fills found) (fill_layer board.copper t) (fill_layer other.copper u) _ _
        (subst (λ (l : LayerSet). Agrees Same (fill_layer board.copper t) (fill_layer l u)) ground (fill_layer_translated o board.copper t u inner))
        (λ v w same. subst (λ (z : Option ℕ). IfAccepted (Fills found) (with_fill found board unit net one t (fills_after found board unit net one (trees f)) (fills_after (suc found) board unit net one (trees f)) v) (with_fill found other own net two u (fills_after found other own net two (trees g)) (fills_after (suc found) other own net two (trees g)) z)) (sym same) (by_layer v inner))
      where
        by_layer : (v : Option ℕ) → TranslatedParts o t u
            → IfAccepted (Fills found) (with_fill found board unit net one t (fills_after found board unit net one (trees f)) (fills_after (suc found) board unit net one (trees f)) v) (with_fill found other own net two u (fills_after found other own net two (trees g)) (fills_after (suc found) other own net two (trees g)) v)
        by_layer None inner = passed
        by_layer (Some layer) inner =
            one_fill found (TooMany (place t)) (TooMany (place u)) (ThickFill (place one)) (ThickFill (place two)) (is_thin one) (is_thin two) (fill_on unit net one layer t) (fill_on own net two layer u)
            (fills_after (suc found) board unit net one (trees f)) (fills_after (suc found) other own net two (trees g)) (thin_translated o i j s r translated) (fill_carried net layer t u inner) more

    fills_carried : (f g : Forest) (found : ℕ) → Translated o f g → IfAccepted (Fills found) (fills_after found board unit net one (trees f)) (fills_after found other own net two (trees g))
    unfolding has_head
    fills_carried none none found h = no_more
      where
        no_more : Fills found [] (Ok [])
        no_more [] become fits = refl
        no_more (c ∷ now) become fits = absurd become
    fills_carried none (atom t q c rest) found h = absurd h
    fills_carried none (list t within rest) found h = absurd h
    fills_carried (atom p q c back) none found h = absurd h
    fills_carried (atom p q c back) (list t within rest) found h = absurd h
    fills_carried (list p inside back) none found h = absurd h
    fills_carried (list p inside back) (atom t q c rest) found h = absurd h
    fills_carried (atom p q c back) (atom t v e rest) found h = fills_carried back rest found h.2
    fills_carried (list p inside back) (list t within rest) found h =
        subst (λ (b : Bool). IfAccepted (Fills found) (fills_by found (has_head (codes "filled_polygon") (branch p inside)) (branch p inside) (trees back)) (others_by found b (branch t within) (trees rest)))
        (heads_translated o (branch p inside) (branch t within) (codes "filled_polygon") h.0)
        (one_list found (branch p inside) (branch t within) back rest (has_head (codes "filled_polygon") (branch p inside)) h.0 refl (fills_carried back rest found h.1) (fills_carried back rest (suc found) h.1))

    -- ---- rule areas

    abbrev area_item : ℕ → Tree → List RawPoint → LayerSet → List ℕ → Bans → Shape → Item
    area_item unit tree corners layers title bans shape = plain_item (name_in tree) unit net (first_of corners) [] (Area title bans (record { layers = layers; shape = shape })) refl

    abbrev area_by : BoardError → BoardError → Bool → Option Shape → (Shape → Item) → Result (List Item) BoardError
    area_by e g capacity shape make = ((needed e shape >>= λ found. (check g capacity >>= λ r. Ok found)) >>= λ found. Ok (make found)) >>= λ item. Ok (item ∷ [])

    no_copper : (parts : List Part) → AreShifted (pos 2 *ℤ d.dx) (pos 2 *ℤ d.dy) [] parts → parts ≡ []
    no_copper [] h = refl
    no_copper (p ∷ ps) h = absurd h

    part_same : (layers : LayerSet) (part : Part) → part.layers ≡ layers → part ≡ record { layers = layers; shape = part.shape }
    part_same layers part e = ap (λ (l : LayerSet). let x : Part = record { layers = l; shape = part.shape } in x) e

    area_step : (ss ts : List RawPoint) (layers : LayerSet) (title : List ℕ) (bans : Bans) → AreCorners o ss ts → (e g p q : BoardError) (b : Bool) (shape : Option Shape) → area_of ss ≡ shape
        → IfAccepted (Fills 0) (area_by e g b shape (area_item unit one ss layers title bans)) (area_by p q (has_capacity_after 0 other own) (area_of ts) (area_item own two ts layers title bans))
    area_step ss ts layers title bans corners e g p q b None some = tt
    area_step ss ts layers title bans corners e g p q false (Some shape) some = tt
    area_step ss ts layers title bans corners e g p q true (Some shape) some = by_now
      where
        by_now : Fills 0 (area_item unit one ss layers title bans shape ∷ []) (area_by p q (has_capacity_after 0 other own) (area_of ts) (area_item own two ts layers title bans))
        by_now [] become fits = absurd become
        by_now (c ∷ m ∷ now) become fits = absurd become.1
        by_now (c ∷ []) become fits =
            let k = become.0.0 in
            let w = k.what in
            let area : area_of ts ≡ Some w.0.shape = area_carried o ss ts shape w.0.shape corners.each some w.2.shape in
            let at = corner_at o ss ts c corners k.x k.y become.0.1 in
            let kind = w.1 ∙ ap (λ (z : Part). Area title bans z) (part_same layers w.0 w.2.layers) in
            let same : record c { unit = own } ≡ area_item own two ts layers title bans w.0.shape =
            one_item (record c { unit = own }) (area_item own two ts layers title bans w.0.shape) (k.name ∙ name_translated o i j s r translated) refl k.net at.0 at.1 (no_copper c.copper k.copper)
            (no_hole (pos 2 *ℤ d.dx) (pos 2 *ℤ d.dy) c.hole k.hole) k.local kind in
            ap (λ (z : Option Shape). area_by p q (has_capacity_after 0 other own) z (area_item own two ts layers title bans)) area
            ∙ ap (λ (z : Bool). area_by p q z (Some w.0.shape) (area_item own two ts layers title bans)) (capacity_after other own 0 c [] fits)
            ∙ ap (λ (z : Item). let a : Result (List Item) BoardError = Ok (z ∷ []) in a) (sym same)

    area_is_carried : (layers : LayerSet) (title : List ℕ) (t u : Tree) → TranslatedParts o t u
        → IfAccepted (Fills 0) (rule_area board unit one net layers title t >>= λ item. Ok (item ∷ [])) (rule_area other own two net layers title u >>= λ item. Ok (item ∷ []))
    unfolding rule_area area_in_capacity
    area_is_carried layers title t u h = by_corners (polygon_of one) (polygon_of two) (polygon_translated o i j s r translated)
      where
        by_bans : (ss ts : List RawPoint) → AreCorners o ss ts → (a b : Result Bans BoardError) → Agrees Same a b
            → IfAccepted (Fills 0)
            ((a >>= λ bans. ((needed (OutOfBoard (place one)) (area_of ss) >>= λ shape. (check (TooMany (place one)) (has_capacity_after 0 board unit) >>= λ capacity. Ok shape)) >>= λ shape. Ok (area_item unit one ss layers title bans shape))) >>= λ item. Ok (item ∷ []))
            ((b >>= λ bans. ((needed (OutOfBoard (place two)) (area_of ts) >>= λ shape. (check (TooMany (place two)) (has_capacity_after 0 other own) >>= λ capacity. Ok shape)) >>= λ shape. Ok (area_item own two ts layers title bans shape))) >>= λ item. Ok (item ∷ []))
        by_bans ss ts corners (Err e) b k = tt
        by_bans ss ts corners (Ok bans) (Err e) k = absurd k
        by_bans ss ts corners (Ok bans) (Ok also) k =
            subst (λ (z : Bans). IfAccepted (Fills 0) (area_by (OutOfBoard (place one)) (TooMany (place one)) (has_capacity_after 0 board unit) (area_of ss) (area_item unit one ss layers title bans)) (area_by (OutOfBoard (place two)) (TooMany (place two)) (has_capacity_after 0 other own) (area_of ts) (area_item own two ts layers title z))) (sym k)
            (area_step ss ts layers title bans corners (OutOfBoard (place one)) (TooMany (place one)) (OutOfBoard (place two)) (TooMany (place two)) (has_capacity_after 0 board unit) (area_of ss) refl)

        by_corners : (a b : Result (List RawPoint) BoardError) → Agrees (AreCorners o) a b
            → IfAccepted (Fills 0)
            ((a >>= λ ss. (bans_in t >>= λ bans. ((needed (OutOfBoard (place one)) (area_of ss) >>= λ shape. (check (TooMany (place one)) (has_capacity_after 0 board unit) >>= λ capacity. Ok shape)) >>= λ shape. Ok (area_item unit one ss layers title bans shape)))) >>= λ item. Ok (item ∷ []))
            ((b >>= λ ts. (bans_in u >>= λ bans. ((needed (OutOfBoard (place two)) (area_of ts) >>= λ shape. (check (TooMany (place two)) (has_capacity_after 0 other own) >>= λ capacity. Ok shape)) >>= λ shape. Ok (area_item own two ts layers title bans shape)))) >>= λ item. Ok (item ∷ []))
        by_corners (Err e) b k = tt
        by_corners (Ok ss) (Err e) k = absurd k
        by_corners (Ok ss) (Ok ts) k = by_bans ss ts k (bans_in t) (bans_in u) (bans_translated o t u h)

  zones : board.copper ≡ other.copper → ((n : ℕ) → name_of board n ≡ name_of other n) → IfAccepted (Fills 0) (zone_of board unit one) (zone_of other own two)
  unfolding zone_of
  zones ground nets =
      leads_bind Same (Fills 0) (net_of board one) (net_of other two) _ _ (net_translated o board other nets i j s r translated) (λ n m en.
      leads_bind Same (Fills 0) (zone_layers board.copper one) (zone_layers other.copper two) _ _
      (subst (λ (l : LayerSet). Agrees Same (zone_layers board.copper one) (zone_layers l two)) ground (zone_layers_translated o board.copper i j s r translated)) (λ l k el.
      leads_bind Same (Fills 0) (title_of one) (title_of two) _ _ (title_translated o i j s r translated) (λ t u et.
      subst (λ (z : ℕ). IfAccepted (Fills 0) (zone_by board unit one n l t (element (codes "keepout") one)) (zone_by other own two z k u (element (codes "keepout") two))) (sym en)
      (subst (λ (z : LayerSet). IfAccepted (Fills 0) (zone_by board unit one n l t (element (codes "keepout") one)) (zone_by other own two n z u (element (codes "keepout") two))) (sym el)
      (subst (λ (z : List ℕ). IfAccepted (Fills 0) (zone_by board unit one n l t (element (codes "keepout") one)) (zone_by other own two n l z (element (codes "keepout") two))) (sym et)
      (by_keepout n l t (element (codes "keepout") one) (element (codes "keepout") two) (element_translated o (codes "keepout") s r i j translated)))))))
    where
      by_keepout : (n : ℕ) (l : LayerSet) (t : List ℕ) (m p : Option Tree) → FoundTranslated o (has_head (codes "keepout")) m p → IfAccepted (Fills 0) (zone_by board unit one n l t m) (zone_by other own two n l t p)
      by_keepout n l t None None h = fills_carried ground n i j 0 translated
      by_keepout n l t None (Some y) h = absurd h
      by_keepout n l t (Some x) None h = absurd h
      by_keepout n l t (Some x) (Some y) h = area_is_carried ground n l t x y (inside_by_head o x y (codes "keepout") h.0 h.1 refl)

-- ---- zones

pub zone_carried : (o : Option Shift) (board other : PlainBoard) (unit own : ℕ) (i j : Forest) (s r : Span) (items now : List Item) → board.copper ≡ other.copper → ((n : ℕ) → name_of board n ≡ name_of other n) → Translated o i j
    → AllZip (Becomes (shift_of o)) items now → has_capacity other own (of_unit own now) ≡ true → zone_of board unit (branch s i) ≡ Ok items → zone_of other own (branch r j) ≡ Ok (of_unit own now)
zone_carried o board other unit own i j s r items now ground nets translated become capacity says =
    subst (λ (a : Result (List Item) BoardError). IfAccepted (Fills o board other unit own i j s r translated 0) a (zone_of other own (branch r j))) says (zones o board other unit own i j s r translated ground nets) now become (fits_now (of_unit own now) now refl (fits_capacity other own (of_unit own now) capacity))
  where
    as_long : (now : List Item) → length (of_unit own now) ≡ length now
    as_long [] = refl
    as_long (c ∷ now) = ap suc (as_long now)

    fits_now : (units now : List Item) → units ≡ of_unit own now → FitsAfter other own 0 units → FitsAfter other own 0 now
    fits_now units [] e h = tt
    fits_now units (c ∷ now) e h =
        let k : FitsAfter other own 0 (of_unit own (c ∷ now)) = subst (FitsAfter other own 0) e h in
        let few = k.0 in
        let long = as_long (c ∷ now) in
        (omega (arith, few, long), k.1)
