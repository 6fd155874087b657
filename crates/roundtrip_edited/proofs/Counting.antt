-- A board that was read has at most 200,000 items, and so it has after commands.
use Rattle.std.proofs.Common.{◌≡◌, ◌∙◌, refl, sym, ap, subst, ℕ, suc, ◌+◌, ◌≤◌, ℤ, arith, leb, ltb, Bool, true, false, cond, not, List, [], ◌∷◌, length, filter, codes, Option, None, Some, Result, Ok, inl, inr}
use Rattle.std.specs.Prelude.{nat_eq}
use Rattle.std.specs.List.{AllZip}
use Rattle.std.proofs.lemmas.Bool.{leb-true, ltb-true}
use Rattle.int_algebra.proofs.Tested.{front as first_holds}
use Rattle.sexpr_read.specs.Tree.{Tree, parts}
use Rattle.board_errors.specs.declared.errors.BoardError.{BoardError}
use Rattle.board_errors.specs.declared.errors.BoardError.TheVariants.{OutOfBoard, ThickFill, TooMany}
use Rattle.copper_layers.specs.declared.set.LayerSet.{LayerSet}
use Rattle.one_item.specs.declared.item.Item.{Item}
use Rattle.board_items.specs.Boards.{PlainBoard}
use Rattle.board_items.specs.UnitMoves.{IsMovedEntry}
use Rattle.board_items.specs.ItemRefusals.{capacity_of}
use Rattle.part_read.specs.declared.graphics.LayerRole.{LayerRole}
use Rattle.part_read.specs.declared.graphics.LayerRole.TheVariants.{Copper, Outlines, Front, Back, Elsewhere}
use Rattle.list_read.specs.FirstRefusals.{◌>>=◌, needed, check}
use Rattle.list_read.specs.ListHeads.{place, has_head}
use Rattle.list_read.specs.NamedElements.{element}
use Rattle.part_read.specs.NetsOf.{net_of}
use Rattle.part_read.specs.Graphics.{layer_role_of, one_item, graphic_by, curve_by, text_by}
use Rattle.part_read.specs.Capacity.{has_capacity_after}
use Rattle.part_read.proofs.Reach.{both_ok}
use Rattle.zone_read.specs.ZoneOf.{as_it_is, zone_layers, title_of, area_of, bans_in, polygon_of, area_in_capacity, rule_area, is_thin, fill_layer, fill_on, fill_in_capacity, with_fill, fills_after, zone_by, zone_of}
use Rattle.roundtrip_lists.proofs.Placed.{same_ok}
use Rattle.roundtrip_footprints.proofs.Feet.{foot_few}
use Rattle.pcb_read.specs.declared.sorts.Sort.{Sort}
use Rattle.pcb_read.specs.declared.sorts.Sort.TheVariants.{Track, Via, Arc, Graphic, Curve, Text, Zone, Footprint}
use Rattle.pcb_read.specs.Sorts.{sort_of}
use Rattle.pcb_read.specs.Tracks.{track_of, via_of}
use Rattle.pcb_read.specs.ItemsOf.{SaysItems, has_capacity, in_capacity, by_layer_role}
use Rattle.pcb_read.specs.ItemText.{SaysBy}
use Rattle.pcb_read.specs.BoardOf.{Reading, with_items, SaysPartBy, SaysParts}
use Rattle.roundtrip_boards.specs.TextChanges.{Change, unchanged, takes_out, shifts, appends, Changes, ChangeAll}
use Rattle.roundtrip_boards.proofs.Roots.{count_with}
use Rattle.roundtrip_edited.proofs.Parts.{other_keeps}

-- ---- there is room for the items of a list

has_few : (board : PlainBoard) (unit : ℕ) (items : List Item) → has_capacity board unit items ≡ true → length items ≤ capacity_of board
has_few board unit [] h = omega arith
has_few board unit (i ∷ items) h = leb-true (length (i ∷ items)) (capacity_of board) (first_holds (leb (length (i ∷ items)) (capacity_of board)) (ltb unit 4294967295) h)

check_holds : (e : BoardError) (b : Bool) (u : Unit {0}) → check e b ≡ Ok u → b ≡ true
check_holds e true u h = refl
check_holds e false u h = absurd cc

in_few : (board : PlainBoard) (unit : ℕ) (t : Tree) (answer : Result (List Item) BoardError) (items : List Item) → Ok items ≡ in_capacity board unit t answer → length items ≤ capacity_of board
in_few board unit t answer items h =
    let a = both_ok answer _ items (sym h) in
    let b = both_ok (check (TooMany (place t)) (has_capacity board unit a.0)) _ items a.1.1 in
    subst (λ (is : List Item). length is ≤ capacity_of board) (same_ok b.1.1) (has_few board unit a.0 (check_holds (TooMany (place t)) (has_capacity board unit a.0) b.0 b.1.0))

curve_few : (board : PlainBoard) (t : Tree) (lies : LayerRole) (items : List Item) → curve_by t lies ≡ Ok items → length items ≤ capacity_of board
curve_few board t (Copper layer) items h = absurd cc
curve_few board t Outlines items h = absurd cc
curve_few board t Front items h = subst (λ (is : List Item). length is ≤ capacity_of board) (same_ok h) (omega arith)
curve_few board t Back items h = subst (λ (is : List Item). length is ≤ capacity_of board) (same_ok h) (omega arith)
curve_few board t Elsewhere items h = subst (λ (is : List Item). length is ≤ capacity_of board) (same_ok h) (omega arith)

-- ---- zones

after_few : (found : ℕ) (board : PlainBoard) (unit : ℕ) → has_capacity_after found board unit ≡ true → suc found ≤ capacity_of board
after_few found board unit h = let less = ltb-true found (capacity_of board) (first_holds (ltb found (capacity_of board)) (ltb unit 4294967295) h) in omega (arith, less)

area_few : (board : PlainBoard) (unit : ℕ) (tree : Tree) (net : ℕ) (layers : LayerSet) (title : List ℕ) (keepout : Tree) (item : Item) → rule_area board unit tree net layers title keepout ≡ Ok item → 1 ≤ capacity_of board
unfolding rule_area area_in_capacity
area_few board unit tree net layers title keepout item h =
    let a = both_ok (polygon_of tree) _ item h in
    let b = both_ok (bans_in keepout) _ item a.1.1 in
    let c = both_ok (area_in_capacity board unit tree a.0) _ item b.1.1 in
    let e = both_ok (needed (OutOfBoard (place tree)) (area_of a.0)) _ c.0 c.1.0 in
    let f = both_ok (check (TooMany (place tree)) (has_capacity_after 0 board unit)) _ c.0 e.1.1 in
    after_few 0 board unit (check_holds (TooMany (place tree)) (has_capacity_after 0 board unit) f.0 f.1.0)

fill_few : (found : ℕ) (board : PlainBoard) (unit net : ℕ) (tree list : Tree) (layer : ℕ) (item : Item) → fill_in_capacity found board unit net tree list layer ≡ Ok item → suc found ≤ capacity_of board
unfolding fill_in_capacity
fill_few found board unit net tree list layer item h =
    let a = both_ok (check (ThickFill (place tree)) (is_thin tree)) _ item h in
    let b = both_ok (fill_on unit net tree layer list) _ item a.1.1 in
    let c = both_ok (check (TooMany (place list)) (has_capacity_after found board unit)) _ item b.1.1 in
    after_few found board unit (check_holds (TooMany (place list)) (has_capacity_after found board unit) c.0 c.1.0)

with_few : (found : ℕ) (board : PlainBoard) (unit net : ℕ) (tree list : Tree) (passed_over more : Result (List Item) BoardError) (o : Option ℕ) (items : List Item)
    → ((xs : List Item) → passed_over ≡ Ok xs → found + length xs ≤ capacity_of board) → ((xs : List Item) → suc found ≤ capacity_of board → more ≡ Ok xs → suc found + length xs ≤ capacity_of board)
    → with_fill found board unit net tree list passed_over more o ≡ Ok items → found + length items ≤ capacity_of board
with_few found board unit net tree list passed_over more None items h k e = h items e
with_few found board unit net tree list passed_over more (Some layer) items h k e =
    let a = both_ok (fill_in_capacity found board unit net tree list layer) _ items e in
    let b = both_ok more _ items a.1.1 in
    let few = k b.0 (fill_few found board unit net tree list layer a.0 a.1.0) b.1.0 in
    subst (λ (is : List Item). found + length is ≤ capacity_of board) (same_ok b.1.1) (omega (arith, few))

fills_few : (board : PlainBoard) (unit net : ℕ) (tree : Tree) (ts : List Tree) (found : ℕ) (items : List Item) → found ≤ capacity_of board → fills_after found board unit net tree ts ≡ Ok items → found + length items ≤ capacity_of board
fills_few board unit net tree [] found items low h = subst (λ (is : List Item). found + length is ≤ capacity_of board) (same_ok h) (omega (arith, low))
fills_few board unit net tree (t ∷ ts) found items low h = by_head (has_head (codes "filled_polygon") t) h (λ xs e. fills_few board unit net tree ts found xs low e) (λ xs less e. fills_few board unit net tree ts (suc found) xs less e)
  where
    by_head : (b : Bool)
        → cond b (fill_layer board.copper t >>= with_fill found board unit net tree t (fills_after found board unit net tree ts) (fills_after (suc found) board unit net tree ts)) (fills_after found board unit net tree ts) ≡ Ok items
        → ((xs : List Item) → fills_after found board unit net tree ts ≡ Ok xs → found + length xs ≤ capacity_of board)
        → ((xs : List Item) → suc found ≤ capacity_of board → fills_after (suc found) board unit net tree ts ≡ Ok xs → suc found + length xs ≤ capacity_of board) → found + length items ≤ capacity_of board
    by_head false e passed more = passed items e
    by_head true e passed more =
        let a = both_ok (fill_layer board.copper t) _ items e in
        with_few found board unit net tree t (fills_after found board unit net tree ts) (fills_after (suc found) board unit net tree ts) a.0 items passed more a.1.1

zone_by_few : (board : PlainBoard) (unit : ℕ) (tree : Tree) (net : ℕ) (layers : LayerSet) (title : List ℕ) (o : Option Tree) (items : List Item) → zone_by board unit tree net layers title o ≡ Ok items → length items ≤ capacity_of board
zone_by_few board unit tree net layers title None items h = let few = fills_few board unit net tree (parts tree) 0 items (omega arith) h in omega (arith, few)
zone_by_few board unit tree net layers title (Some keepout) items h =
    let a = both_ok (rule_area board unit tree net layers title keepout) _ items h in
    let few = area_few board unit tree net layers title keepout a.0 a.1.0 in
    subst (λ (is : List Item). length is ≤ capacity_of board) (same_ok a.1.1) (omega (arith, few))

zone_few : (board : PlainBoard) (unit : ℕ) (tree : Tree) (items : List Item) → zone_of board unit tree ≡ Ok items → length items ≤ capacity_of board
unfolding zone_of
zone_few board unit tree items h =
    let a = both_ok (net_of board tree) _ items h in
    let b = both_ok (zone_layers board.copper tree) _ items a.1.1 in
    let c = both_ok (title_of tree) _ items b.1.1 in
    zone_by_few board unit tree a.0 b.0 c.0 (element (codes "keepout") tree) items c.1.1

-- ---- lists of each sort

list_few : (board : PlainBoard) (unit : ℕ) (t : Tree) (sort : Sort) (items : List Item) → SaysItems board unit t sort (Ok items) → length items ≤ capacity_of board
list_few board unit t Track items h = in_few board unit t (one_item (track_of board unit t)) items h
list_few board unit t Via items h = in_few board unit t (one_item (via_of board unit t)) items h
list_few board unit t Arc items h = absurd cc
list_few board unit t (Graphic kind) items h = in_few board unit t (by_layer_role board t (graphic_by board unit as_it_is kind t)) items h
list_few board unit t Curve items h = let a = both_ok (layer_role_of board.copper t) (curve_by t) items (sym h) in curve_few board t a.0 items a.1.1
list_few board unit t (Text about) items h = in_few board unit t (by_layer_role board t (text_by unit about t)) items h
list_few board unit t Zone items h = zone_few board unit t items (sym h)
list_few board unit t Footprint items h = foot_few board unit t items h

-- ---- the board stays small

abbrev pub IsSmall : PlainBoard → Type 0
IsSmall board = length board.items ≤ 200000

with_small : (board : PlainBoard) (items : List Item) → IsSmall board → length items ≤ capacity_of board → IsSmall (with_items board items)
with_small board items small few = let n = count_with board items in omega (arith, n, small, few)

ok_same : {x y : Reading} → (let r : Result Reading BoardError = Ok x in r) ≡ Ok y → x ≡ y
ok_same h = cc

part_small : (a next : Reading) (t : Tree) (o : Option Sort) → IsSmall a.board → SaysPartBy a t o (Ok next) → IsSmall next.board
part_small a next t None small says = let k = other_keeps a next t (sym says) in subst (λ (l : List (ℕ × Item)). length l ≤ 200000) (sym k.0) small
part_small a next t (Some sort) small (board, (items, says, with), is) =
    let b = both_ok board _ next (sym is) in
    let c = both_ok items _ b.0 (sym with ∙ b.1.0) in
    let said : SaysItems a.board a.board.next_unit t sort (Ok c.0) = subst (SaysItems a.board a.board.next_unit t sort) c.1.0 says in
    let small_board : IsSmall b.0 = subst IsSmall (board_same c.1.1) (with_small a.board c.0 small (list_few a.board a.board.next_unit t sort c.0 said)) in
    subst (λ (r : Reading). IsSmall r.board) (ok_same b.1.1) small_board
  where
    board_same : {x y : PlainBoard} → (let r : Result PlainBoard BoardError = Ok x in r) ≡ Ok y → x ≡ y
    board_same h = cc

pub parts_small : (ts : List Tree) (a z : Reading) → IsSmall a.board → SaysParts a ts (Ok z) → IsSmall z.board
parts_small [] a z small says = subst (λ (r : Reading). IsSmall r.board) (sym (ok_same says)) small
parts_small (t ∷ ts) a z small (inl (next, says, more)) = parts_small ts next z (part_small a next t (sort_of t) small says) more
parts_small (t ∷ ts) a z small (inr (e, says, is)) = absurd cc

filter_few : (p : ℕ × Item → Bool) (xs : List (ℕ × Item)) → length (filter p xs) ≤ length xs
filter_few p [] = omega arith
filter_few p (x ∷ xs) = by_test (p x) (filter_few p xs)
  where
    by_test : (b : Bool) → length (filter p xs) ≤ length xs → length (cond b (x ∷ filter p xs) (filter p xs)) ≤ length (x ∷ xs)
    by_test true h = omega (arith, h)
    by_test false h = omega (arith, h)

zip_long : (unit : ℕ) (dx dy : ℤ) (xs ys : List (ℕ × Item)) → AllZip (IsMovedEntry unit dx dy) xs ys → length ys ≡ length xs
zip_long unit dx dy [] [] h = refl
zip_long unit dx dy [] (y ∷ ys) h = absurd h
zip_long unit dx dy (x ∷ xs) [] h = absurd h
zip_long unit dx dy (x ∷ xs) (y ∷ ys) h = ap suc (zip_long unit dx dy xs ys h.1)

added_few : (board : PlainBoard) (unit : ℕ) (t : Tree) (o : Option Sort) (items : List Item) → SaysBy board unit t o (Ok items) → length items ≤ capacity_of board
added_few board unit t None items h = absurd cc
added_few board unit t (Some sort) items h = list_few board unit t sort items h

change_small : (board new : PlainBoard) (change : Change) → IsSmall board → Changes board change new → IsSmall new
change_small board new unchanged small e = subst IsSmall (sym e) small
change_small board new (takes_out u) small (named, e) =
    subst IsSmall (sym e) (let few = filter_few (λ (entry : ℕ × Item). not (nat_eq entry.1.unit u)) board.items in omega (arith, few, small))
change_small board new (shifts u by) small (named, stay, m) = let long = zip_long u by.dx by.dy board.items new.items m.items in omega (arith, long, small)
change_small board new (appends t items) small ((text, is, says), e) =
    subst IsSmall (sym e) (with_small board items small (added_few board board.next_unit t (sort_of t) items says))

pub changes_small : (changes : List Change) (board last : PlainBoard) → IsSmall board → ChangeAll board changes last → IsSmall last
changes_small [] board last small e = subst IsSmall (sym e) small
changes_small (change ∷ changes) board last small (new, one, rest) = changes_small changes new last (change_small board new change small one) rest
