-- The items of a footprint may stand on the board.
use Rattle.std.proofs.Common.{◌≡◌, ◌∙◌, refl, ap, sym, subst, ℕ, zero, suc, ◌+◌, ◌≤◌, ◌<◌, arith, List, [], ◌∷◌, ◌++◌, length, drop, All, Bool, true, false, ◌&&◌, cond, is_some, Result, Ok, Err, codes}
use Rattle.std.specs.List.{list_all}
use Rattle.std.proofs.lemmas.Bool.{and_from, and_parts}
use Rattle.std.proofs.lemmas.List.Elements.{All-nil, All-cons, All-head, All-tail, All-append}
use Rattle.sexpr_read.specs.Tree.{Tree}
use Rattle.board_errors.specs.declared.errors.BoardError.{BoardError}
use Rattle.board_errors.specs.declared.errors.BoardError.TheVariants.{TooMany}
use Rattle.copper_layers.specs.declared.set.LayerSet.{LayerSet}
use Rattle.one_item.specs.declared.parts.Part.{Part}
use Rattle.one_item.specs.declared.item.About.TheVariants.{Courtyard}
use Rattle.one_item.specs.declared.item.Item.{Item}
use Rattle.copper_layers.specs.Layers.{is_within}
use Rattle.board_items.specs.Boards.{PlainBoard, name_of}
use Rattle.board_items.specs.ItemRefusals.{capacity_of}
use Rattle.part_read.specs.declared.numbers.RawPoint.{RawPoint}
use Rattle.list_read.specs.FirstRefusals.{◌>>=◌}
use Rattle.list_read.specs.ListHeads.{place}
use Rattle.part_read.specs.ElementResults.{name_in}
use Rattle.part_read.specs.OnBoard.{fits_board}
use Rattle.part_read.specs.Placements.{IsReadRawPoint, IsPlacementRawPoint}
use Rattle.part_read.specs.Ready.{IsReady, AreReady}
use Rattle.part_read.specs.Capacity.{has_capacity_after}
use Rattle.part_read.proofs.Layering.{none_within}
use Rattle.part_read.proofs.Graphical.{note_ready}
use Rattle.part_read.proofs.Capacities.{capacity_by}
use Rattle.pad_read.specs.declared.head.Head.{Head}
use Rattle.footprint_read.specs.declared.contents.Given.{Given}
use Rattle.footprint_read.specs.declared.courts.Court.{Court}
use Rattle.footprint_read.specs.declared.courts.Court.TheVariants.{Unchecked, Parts, Off}
use Rattle.footprint_read.specs.Bare.{AreBare}
use Rattle.footprint_read.proofs.Bared.{IsBare}
use Rattle.footprint_read.specs.Courtyards.{parts_in, lies_on_board}
use Rattle.footprint_read.specs.FootprintOf.{given_at, items_of, is_placed, body_of, court_notes, all_given, with_reserved, in_capacity}

-- ---- parts on no layer

within_by : (copper : LayerSet) (part : Part) → IsBare part → is_within part.layers copper ≡ true
within_by copper part h = subst (λ (n : ℕ). let set : LayerSet = record { bits = n } in is_within set copper ≡ true) (sym h) (none_within copper)

bare_all : (copper : LayerSet) (parts : List Part) → AreBare parts → list_all (λ part. is_within part.layers copper) parts ≡ true
bare_all copper [] h = refl
bare_all copper (p ∷ ps) h = and_from _ _ (within_by copper p (All-head IsBare p ps h)) (bare_all copper ps (All-tail IsBare p ps h))

bare_within : (copper : LayerSet) (parts more : List Part) → AreBare parts → AreBare more → list_all (λ part. is_within part.layers copper) (parts ++ more) ≡ true
bare_within copper parts more h k = bare_all copper (parts ++ more) (All-append IsBare parts more h k)

-- ---- the body, and notes

body_ready : (board : PlainBoard) (unit : ℕ) (head : Head) (tree : Tree) (front back : Court) → is_some (name_of board 0) ≡ true → fits_board head.placement.at ≡ true → AreBare (parts_in front) → AreBare (parts_in back)
    → IsReady board unit (body_of unit head tree front back)
body_ready board unit head tree front back net fits hf hb = record {
  admitted = and_from _ _ (and_from _ _ fits net) (bare_within board.copper (parts_in front) (parts_in back) hf hb);
  of_unit = refl;
}

notes_ready : (board : PlainBoard) (unit : ℕ) (tree : Tree) (layer : List ℕ) (court : Court) → is_some (name_of board 0) ≡ true → All (IsReady board unit) (court_notes unit tree layer court)
notes_ready board unit tree layer Unchecked net =
    All-cons (IsReady board unit) _ [] (note_ready board unit (name_in tree) Courtyard layer net) (All-nil (IsReady board unit))
notes_ready board unit tree layer (Parts parts) net = All-nil (IsReady board unit)
notes_ready board unit tree layer Off net = All-nil (IsReady board unit)

-- ---- items with the lists that give them

pub one_ready : (board : PlainBoard) (unit : ℕ) (item : Item) → IsReady board unit item → All (IsReady board unit) (item ∷ [])
one_ready board unit item h = All-cons (IsReady board unit) item [] h (All-nil (IsReady board unit))

pub items_given : (place : ℕ) (items : List Item) → items_of (given_at place items) ≡ items
items_given place [] = refl
items_given place (i ∷ is) = ap (λ (xs : List Item). i ∷ xs) (items_given place is)

pub items_append : (xs ys : List Given) → items_of (xs ++ ys) ≡ items_of xs ++ items_of ys
items_append [] ys = refl
items_append (x ∷ xs) ys = ap (λ (zs : List Item). x.item ∷ zs) (items_append xs ys)

append_ready : (board : PlainBoard) (unit : ℕ) (xs ys : List Given) → All (IsReady board unit) (items_of xs) → All (IsReady board unit) (items_of ys) → All (IsReady board unit) (items_of (xs ++ ys))
append_ready board unit xs ys h k =
    subst (λ (zs : List Item). All (IsReady board unit) zs) (sym (items_append xs ys)) (All-append (IsReady board unit) (items_of xs) (items_of ys) h k)

given_ready : (board : PlainBoard) (unit place : ℕ) (items : List Item) → All (IsReady board unit) items → All (IsReady board unit) (items_of (given_at place items))
given_ready board unit place items h = subst (λ (zs : List Item). All (IsReady board unit) zs) (sym (items_given place items)) h

pub with_ready : (board : PlainBoard) (unit place : ℕ) (xs : List Given) (items : List Item) → All (IsReady board unit) (items_of xs) → All (IsReady board unit) items → All (IsReady board unit) (items_of (xs ++ given_at place items))
with_ready board unit place xs items h k = append_ready board unit xs (given_at place items) h (given_ready board unit place items k)

pub all_ready : (board : PlainBoard) (unit : ℕ) (head : Head) (tree : Tree) (given : List Given) (front back : Court) → is_some (name_of board 0) ≡ true → fits_board head.placement.at ≡ true
    → AreBare (parts_in front) → AreBare (parts_in back) → All (IsReady board unit) (items_of given) → All (IsReady board unit) (items_of (all_given unit head tree given front back))
all_ready board unit head tree given front back net fits hf hb h =
    let P = IsReady board unit in
    let at = place tree in
    let one = body_of unit head tree front back in
    let body = given_at at (one ∷ []) in
    let front_notes = court_notes unit tree (codes "F.CrtYd") front in
    let back_notes = court_notes unit tree (codes "B.CrtYd") back in
    let first = one_ready board unit one (body_ready board unit head tree front back net fits hf hb) in
    with_ready board unit at ((body ++ given) ++ given_at at front_notes) back_notes
    (with_ready board unit at (body ++ given) front_notes (append_ready board unit body given (given_ready board unit at (one ∷ []) first) h) (notes_ready board unit tree (codes "F.CrtYd") front net))
    (notes_ready board unit tree (codes "B.CrtYd") back net)

pub none_ready : (board : PlainBoard) (unit : ℕ) → All (IsReady board unit) (items_of [])
none_ready board unit = All-nil (IsReady board unit)

pub wider : (s : RawPoint) → IsReadRawPoint s → IsPlacementRawPoint s
wider s h =
    let x = h.x in
    let y = h.y in
    record { x = omega (arith, x); y = omega (arith, y) }

-- ---- room

record HasCapacity (board : PlainBoard) (unit before : ℕ) (given : List Given) : Type 0 where
  capacity : before + length given ≤ capacity_of board
  numbered : 0 < length given → unit < 4294967295

capacity_with : (board : PlainBoard) (unit before : ℕ) (g : Given) (gs : List Given) → (suc before ≤ capacity_of board → with_reserved board unit (suc before) gs ≡ Ok tt → HasCapacity board unit (suc before) gs)
    → with_reserved board unit before (g ∷ gs) ≡ Ok tt → HasCapacity board unit before (g ∷ gs)
capacity_with board unit before g gs rest h = by (has_capacity_after before board unit) refl h
  where
    by : (b : Bool) → has_capacity_after before board unit ≡ b → cond b (with_reserved board unit (suc before) gs) (Err (TooMany g.place)) ≡ Ok tt → HasCapacity board unit before (g ∷ gs)
    by false l e = absurd cc
    by true l e =
        let here = capacity_by before board unit l in
        let less : suc before ≤ capacity_of board = omega (arith, here.0) in
        let more = rest less e in
        record { capacity = omega (arith, more.capacity); numbered = λ m. here.1 }

capacity_holds : (board : PlainBoard) (unit before : ℕ) (given : List Given) → before ≤ capacity_of board → with_reserved board unit before given ≡ Ok tt → HasCapacity board unit before given
capacity_holds board unit before [] n h = record { capacity = omega (arith, n); numbered = λ m. absurd (omega (arith, m)) }
capacity_holds board unit before (g ∷ gs) n h = capacity_with board unit before g gs (λ l e. capacity_holds board unit (suc before) gs l e) h

items_long : (given : List Given) → length (items_of given) ≡ length given
items_long [] = refl
items_long (g ∷ gs) = ap (λ (n : ℕ). suc n) (items_long gs)

pub ready_in_capacity : (board : PlainBoard) (unit : ℕ) (given : List Given) (items : List Item) → All (IsReady board unit) (items_of given) → in_capacity board unit given ≡ Ok items → AreReady board unit items
ready_in_capacity board unit given items h e = by (with_reserved board unit 0 given) refl e
  where
    by : (r : Result (Unit {0}) BoardError) → with_reserved board unit 0 given ≡ r → (r >>= λ capacity. Ok (items_of given)) ≡ Ok items → AreReady board unit items
    by (Err x) l k = absurd cc
    by (Ok u) l k =
        let same : items_of given ≡ items = cc in
        let capacity = capacity_holds board unit 0 given (omega arith) l in
        let long = items_long given in
        subst (λ (is : List Item). AreReady board unit is) same
        (record { each = h; capacity = omega (arith, capacity.capacity, long); numbered = λ n. capacity.numbered (omega (arith, n, long)) })

-- with room for the next one, what comes after it decides
pub capacity_step : (board : PlainBoard) (unit before i : ℕ) (all : List Given) → i < length all → has_capacity_after before board unit ≡ true → with_reserved board unit before (drop i all) ≡ with_reserved board unit (before + 1) (drop (i + 1) all)
capacity_step board unit before i [] n h = absurd (omega (arith, n))
capacity_step board unit before zero (g ∷ gs) n h =
    let e : suc before ≡ before + 1 = omega arith in
    ap (λ (b : Bool). cond {A = Result (Unit {0}) BoardError} b (with_reserved board unit (suc before) gs) (Err (TooMany g.place))) h
    ∙ ap (λ (m : ℕ). with_reserved board unit m gs) e
capacity_step board unit before (suc i) (g ∷ gs) n h =
    let e : suc (i + 1) ≡ suc i + 1 = omega arith in
    let less : i < length gs = omega (arith, n) in
    capacity_step board unit before i gs less h ∙ ap (λ (m : ℕ). with_reserved board unit (before + 1) (drop m (g ∷ gs))) e

pub placed_fits : (head : Head) (front back : Court) → is_placed head front back ≡ true → fits_board head.placement.at ≡ true
placed_fits head front back h = (and_parts (fits_board head.placement.at) (lies_on_board front && lies_on_board back) h).0
