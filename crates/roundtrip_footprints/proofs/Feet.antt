-- What the list of a footprint says, taken apart; and that what it gives is of its unit and lies on the board.
use Rattle.std.proofs.Common.{◌≡◌, ◌∙◌, refl, sym, ap, subst, ℕ, suc, ◌+◌, ◌≤◌, arith, ltb, length, Bool, true, false, cond, List, [], ◌∷◌, ◌++◌, codes, Option, None, Some, Result, Ok, Err}
use Rattle.std.specs.Prelude.{⊤, if◌then◌else◌}
use Rattle.std.proofs.lemmas.Bool.{ltb-true}
use Rattle.std.proofs.lemmas.List.{length-map}
use Rattle.int_algebra.proofs.Tested.{front as first_holds}
use Rattle.sexpr_read.specs.Tree.{Tree, parts}
use Rattle.board_errors.specs.declared.errors.BoardError.{BoardError}
use Rattle.board_errors.specs.declared.errors.BoardError.TheVariants.{OutOfBoard, TooMany}
use Rattle.one_item.specs.declared.item.About.TheVariants.{Text, Courtyard, FootZone}
use Rattle.one_item.specs.declared.item.Item.{Item}
use Rattle.board_items.specs.Boards.{PlainBoard}
use Rattle.board_items.specs.ItemRefusals.{capacity_of}
use Rattle.part_read.specs.declared.drawings.GraphicKind.{GraphicKind}
use Rattle.part_read.specs.declared.graphics.LayerRole.{LayerRole}
use Rattle.part_read.specs.declared.graphics.LayerRole.TheVariants.{Copper, Outlines, Front, Back, Elsewhere}
use Rattle.list_read.specs.FirstRefusals.{◌>>=◌, check}
use Rattle.list_read.specs.ListHeads.{place, has_head}
use Rattle.part_read.specs.ElementResults.{name_in}
use Rattle.part_read.specs.Graphics.{layer_role_of, one_item, graphic_by, curve_by, text_by, note_of}
use Rattle.part_read.specs.Capacity.{has_capacity_after}
use Rattle.part_read.proofs.Reach.{both_ok}
use Rattle.pad_read.specs.declared.head.Head.{Head}
use Rattle.pad_read.specs.PadOf.{pad_of}
use Rattle.footprint_read.specs.declared.sides.CourtSide.{CourtSide}
use Rattle.footprint_read.specs.declared.contents.Contents.{Contents}
use Rattle.footprint_read.specs.declared.courts.Court.{Court}
use Rattle.footprint_read.specs.declared.courts.Court.TheVariants.{Unchecked, Parts, Off}
use Rattle.footprint_read.specs.Courtyards.{graphic_side, IsCourt}
use Rattle.footprint_read.specs.FootHead.{head_of}
use Rattle.footprint_read.specs.declared.contents.Given.{Given}
use Rattle.footprint_read.specs.FootprintOf.{empty, given_at, giving, at_front, at_back, drawn_gives, arc_gives, drawn_kind, is_curve, is_writing, other_gives, kind_gives, child_gives, contents_then, children_give, body_of, court_notes, all_given, items_of, with_reserved, is_placed, finished, contents_of, SaysInside, SaysWithHead, FootprintSays}
use Rattle.footprint_read.proofs.Standing.{items_given, items_append, placed_fits}
use Rattle.roundtrip_lists.specs.Carried.{ItemsOf}
use Rattle.roundtrip_lists.proofs.Placed.{same_ok, one_item_of, graphic_of, note_stands, text_of_unit, curve_of_unit}
use Rattle.roundtrip_footprints.proofs.Pads.{pad_stands}

-- ---- what it says

pub record FootSays (board : PlainBoard) (unit : ℕ) (tree : Tree) (items : List Item) : Type 0 where
  pub head : Head
  pub contents : Contents
  pub front : Court
  pub back : Court
  pub has_head : head_of board.copper tree ≡ Ok head
  pub has_contents : contents_of board unit head tree ≡ Ok contents
  pub of_front : IsCourt head.placement contents.front front
  pub of_back : IsCourt head.placement contents.back back
  pub placed : is_placed head front back ≡ true
  pub capacity : with_reserved board unit 0 (all_given unit head tree contents.given front back) ≡ Ok tt
  pub are : items_of (all_given unit head tree contents.given front back) ≡ items

no_items : {e : BoardError} {items : List Item} → (let r : Result (List Item) BoardError = Ok items in r) ≡ Err e → ⊥
no_items h = let c = h in cc

check_holds : (e : BoardError) (b : Bool) (u : Unit {0}) → check e b ≡ Ok u → b ≡ true
check_holds e true u h = refl
check_holds e false u h = absurd cc

finished_says : (board : PlainBoard) (unit : ℕ) (tree : Tree) (head : Head) (contents : Contents) (front back : Court) (items : List Item) → head_of board.copper tree ≡ Ok head → contents_of board unit head tree ≡ Ok contents
    → IsCourt head.placement contents.front front → IsCourt head.placement contents.back back → finished board unit head tree contents.given front back ≡ Ok items → FootSays board unit tree items
unfolding finished
finished_says board unit tree head contents front back items eh ec of_front of_back h =
    let a = both_ok (check (OutOfBoard (place tree)) (is_placed head front back)) _ items h in
    let b = both_ok (with_reserved board unit 0 (all_given unit head tree contents.given front back)) _ items a.1.1 in
    record {
      head = head;
      contents = contents;
      front = front;
      back = back;
      has_head = eh;
      has_contents = ec;
      of_front = of_front;
      of_back = of_back;
      placed = check_holds (OutOfBoard (place tree)) (is_placed head front back) a.0 a.1.0;
      capacity = b.1.0;
      are = same_ok b.1.1;
    }

inside_says : (board : PlainBoard) (unit : ℕ) (tree : Tree) (head : Head) (r : Result Contents BoardError) (items : List Item) → head_of board.copper tree ≡ Ok head → contents_of board unit head tree ≡ r
    → SaysInside board unit head tree r (Ok items) → FootSays board unit tree items
inside_says board unit tree head (Err e) items eh ec says = absurd (no_items says)
inside_says board unit tree head (Ok contents) items eh ec says = finished_says board unit tree head contents says.front says.back items eh ec says.of_front says.of_back (sym says.same)

with_says : (board : PlainBoard) (unit : ℕ) (tree : Tree) (r : Result Head BoardError) (items : List Item) → head_of board.copper tree ≡ r → SaysWithHead board unit tree r (Ok items) → FootSays board unit tree items
with_says board unit tree (Err e) items eh says = absurd (no_items says)
with_says board unit tree (Ok head) items eh says = inside_says board unit tree head (contents_of board unit head tree) items eh refl says

pub foot_says : (board : PlainBoard) (unit : ℕ) (tree : Tree) (items : List Item) → FootprintSays board unit tree (Ok items) → FootSays board unit tree items
foot_says board unit tree items says = with_says board unit tree (head_of board.copper tree) items refl says

-- ---- its items

-- the body, what the children gave, and the notes of both courtyards
pub all_items : (unit : ℕ) (head : Head) (tree : Tree) (given : List Given) (front back : Court)
    → items_of (all_given unit head tree given front back) ≡ (((body_of unit head tree front back ∷ []) ++ items_of given) ++ court_notes unit tree (codes "F.CrtYd") front) ++ court_notes unit tree (codes "B.CrtYd") back
all_items unit head tree given front back =
    let body = body_of unit head tree front back ∷ [] in
    let f = court_notes unit tree (codes "F.CrtYd") front in
    let b = court_notes unit tree (codes "B.CrtYd") back in
    let at = place tree in
    items_append ((given_at at body ++ given) ++ given_at at f) (given_at at b)
    ∙ ap (λ (l : List Item). l ++ items_of (given_at at b)) (items_append (given_at at body ++ given) (given_at at f) ∙ ap (λ (l : List Item). l ++ items_of (given_at at f)) (items_append (given_at at body) given))
    ∙ ap (λ (l : List Item). ((l ++ items_of given) ++ items_of (given_at at f)) ++ items_of (given_at at b)) (items_given at body)
    ∙ ap (λ (l : List Item). ((body ++ items_of given) ++ l) ++ items_of (given_at at b)) (items_given at f)
    ∙ ap (λ (l : List Item). ((body ++ items_of given) ++ f) ++ l) (items_given at b)

-- ---- they are of the unit, and lie on the board

pub both_stand : (unit : ℕ) (xs ys : List Item) → ItemsOf unit xs → ItemsOf unit ys → ItemsOf unit (xs ++ ys)
both_stand unit [] ys h k = k
both_stand unit (x ∷ xs) ys h k = (h.0, h.1, both_stand unit xs ys h.2 k)

module _ (unit : ℕ) where
  -- an answer that gives what stands so
  abbrev Stand : Result Contents BoardError → Type 0
  Stand (Err e) = ⊤
  Stand (Ok z) = ItemsOf unit (items_of z.given)

  giving_stands : (t : Tree) (answer : Result (List Item) BoardError) → ((items : List Item) → answer ≡ Ok items → ItemsOf unit items) → Stand (giving t answer)
  giving_stands t (Err e) law = tt
  giving_stands t (Ok items) law = subst (λ (l : List Item). ItemsOf unit l) (sym (items_given (place t) items)) (law items refl)

  front_stands : (answer : Result CourtSide BoardError) → Stand (at_front answer)
  front_stands (Err e) = tt
  front_stands (Ok side) = tt

  back_stands : (answer : Result CourtSide BoardError) → Stand (at_back answer)
  back_stands (Err e) = tt
  back_stands (Ok side) = tt

  layer_role_stands : (a : Result LayerRole BoardError) (f : LayerRole → Result Contents BoardError) → ((lies : LayerRole) → Stand (f lies)) → Stand (a >>= f)
  layer_role_stands (Err e) f h = tt
  layer_role_stands (Ok lies) f h = h lies

  then_stands : (a b : Result Contents BoardError) → Stand a → Stand b → Stand (a >>= λ first. b >>= λ more. Ok (contents_then first more))
  then_stands (Err e) b h k = tt
  then_stands (Ok x) (Err e) h k = tt
  then_stands (Ok x) (Ok y) h k = subst (λ (l : List Item). ItemsOf unit l) (sym (items_append x.given y.given)) (both_stand unit (items_of x.given) (items_of y.given) h k)

  module _ (board : PlainBoard) (head : Head) where
    drawn_stands : (kind : GraphicKind) (t : Tree) (lies : LayerRole) → Stand (drawn_gives board unit head kind t lies)
    drawn_stands kind t Front = front_stands (graphic_side head.placement kind t)
    drawn_stands kind t Back = back_stands (graphic_side head.placement kind t)
    drawn_stands kind t (Copper layer) = giving_stands t (graphic_by board unit head.placement kind t (Copper layer)) (λ items e. graphic_of board unit head.placement kind t (Copper layer) items e)
    drawn_stands kind t Outlines = giving_stands t (graphic_by board unit head.placement kind t Outlines) (λ items e. graphic_of board unit head.placement kind t Outlines items e)
    drawn_stands kind t Elsewhere = giving_stands t (graphic_by board unit head.placement kind t Elsewhere) (λ items e. graphic_of board unit head.placement kind t Elsewhere items e)

    arc_stands : (t : Tree) (lies : LayerRole) → Stand (arc_gives t lies)
    arc_stands t Front = tt
    arc_stands t Back = tt
    arc_stands t (Copper layer) = giving_stands t (curve_by t (Copper layer)) (λ items e. curve_of_unit unit t (Copper layer) items e)
    arc_stands t Outlines = giving_stands t (curve_by t Outlines) (λ items e. curve_of_unit unit t Outlines items e)
    arc_stands t Elsewhere = giving_stands t (curve_by t Elsewhere) (λ items e. curve_of_unit unit t Elsewhere items e)

    other_stands : (t : Tree) → Stand (other_gives board unit t)
    other_stands t = by_heads (is_curve t) (is_writing t) (has_head (codes "zone") t)
      where
        by_heads : (curve writing zone : Bool)
            → Stand (if curve then (layer_role_of board.copper t >>= arc_gives t) else if writing then (layer_role_of board.copper t >>= λ lies. giving t (text_by unit Text t lies)) else if zone then giving t (Ok (note_of (name_in t) unit FootZone [] ∷ [])) else Ok empty)
        by_heads true writing zone = layer_role_stands (layer_role_of board.copper t) (arc_gives t) (arc_stands t)
        by_heads false true zone =
            layer_role_stands (layer_role_of board.copper t) (λ lies. giving t (text_by unit Text t lies)) (λ lies. giving_stands t (text_by unit Text t lies) (λ items e. text_of_unit unit Text t lies items e))
        by_heads false false true =
            giving_stands t (Ok (note_of (name_in t) unit FootZone [] ∷ [])) (λ items e. subst (λ (is : List Item). ItemsOf unit is) (same_ok e) (note_stands unit (name_in t) FootZone []))
        by_heads false false false = tt

    kind_stands : (t : Tree) (o : Option GraphicKind) → Stand (kind_gives board unit head t o)
    kind_stands t None = other_stands t
    kind_stands t (Some kind) = layer_role_stands (layer_role_of board.copper t) (drawn_gives board unit head kind t) (drawn_stands kind t)

    child_stands : (t : Tree) → Stand (child_gives board unit head t)
    unfolding child_gives
    child_stands t = by_pad (has_head (codes "pad") t)
      where
        by_pad : (b : Bool) → Stand (if b then giving t (pad_of board unit head t >>= λ pad. Ok (pad ∷ [])) else kind_gives board unit head t (drawn_kind t))
        by_pad true = giving_stands t (one_item (pad_of board unit head t)) (λ items e. one_item_of unit (pad_of board unit head t) items (λ item k. pad_stands board unit head t item k) e)
        by_pad false = kind_stands t (drawn_kind t)

    children_stand : (ts : List Tree) → Stand (children_give board unit head ts)
    children_stand [] = tt
    children_stand (t ∷ ts) = then_stands (child_gives board unit head t) (children_give board unit head ts) (child_stands t) (children_stand ts)

notes_stand : (unit : ℕ) (tree : Tree) (layer : List ℕ) (court : Court) → ItemsOf unit (court_notes unit tree layer court)
notes_stand unit tree layer Unchecked = note_stands unit (name_in tree) Courtyard layer
notes_stand unit tree layer (Parts parts) = tt
notes_stand unit tree layer Off = tt

pub foot_stands : (board : PlainBoard) (unit : ℕ) (tree : Tree) (items : List Item) → FootprintSays board unit tree (Ok items) → ItemsOf unit items
foot_stands board unit tree items says =
    let k = foot_says board unit tree items says in
    let given : ItemsOf unit (items_of k.contents.given) = subst (λ (a : Result Contents BoardError). Stand unit a) k.has_contents (children_stand unit board k.head (parts tree)) in
    let body : ItemsOf unit (body_of unit k.head tree k.front k.back ∷ []) = (refl, placed_fits k.head k.front k.back k.placed, tt) in
    subst (λ (is : List Item). ItemsOf unit is) (sym (all_items unit k.head tree k.contents.given k.front k.back) ∙ k.are)
    (both_stand unit (((body_of unit k.head tree k.front k.back ∷ []) ++ items_of k.contents.given) ++ court_notes unit tree (codes "F.CrtYd") k.front) (court_notes unit tree (codes "B.CrtYd") k.back)
    (both_stand unit ((body_of unit k.head tree k.front k.back ∷ []) ++ items_of k.contents.given) (court_notes unit tree (codes "F.CrtYd") k.front)
    (both_stand unit (body_of unit k.head tree k.front k.back ∷ []) (items_of k.contents.given) body given) (notes_stand unit tree (codes "F.CrtYd") k.front)) (notes_stand unit tree (codes "B.CrtYd") k.back))

-- there is always a body
pub foot_some : (board : PlainBoard) (unit : ℕ) (tree : Tree) (items : List Item) → FootprintSays board unit tree (Ok items) → 1 ≤ length items
foot_some board unit tree items says =
    let k = foot_says board unit tree items says in
    subst (λ (is : List Item). 1 ≤ length is) (sym (all_items unit k.head tree k.contents.given k.front k.back) ∙ k.are) (omega arith)

-- ---- there is room for them

with_few : (board : PlainBoard) (unit : ℕ) (gs : List Given) (before : ℕ) → before ≤ capacity_of board → with_reserved board unit before gs ≡ Ok tt → before + length gs ≤ capacity_of board
with_few board unit [] before low h = omega (arith, low)
with_few board unit (g ∷ gs) before low h = by_capacity (has_capacity_after before board unit) refl h (λ k e. with_few board unit gs (suc before) k e)
  where
    by_capacity : (b : Bool) → has_capacity_after before board unit ≡ b → cond {A = Result (Unit {0}) BoardError} b (with_reserved board unit (suc before) gs) (Err (TooMany g.place)) ≡ Ok tt
        → (suc before ≤ capacity_of board → with_reserved board unit (suc before) gs ≡ Ok tt → suc before + length gs ≤ capacity_of board) → before + length (g ∷ gs) ≤ capacity_of board
    by_capacity false e h more = absurd cc
    by_capacity true e h more =
        let less = ltb-true before (capacity_of board) (first_holds (ltb before (capacity_of board)) (ltb unit 4294967295) e) in
        let k = more (omega (arith, less)) h in
        omega (arith, k)

pub foot_few : (board : PlainBoard) (unit : ℕ) (tree : Tree) (items : List Item) → FootprintSays board unit tree (Ok items) → length items ≤ capacity_of board
foot_few board unit tree items says =
    let k = foot_says board unit tree items says in
    let all = all_given unit k.head tree k.contents.given k.front k.back in
    let long : length all ≡ length items = sym (length-map all (λ (g : Given). g.item)) ∙ ap length k.are in
    let few = with_few board unit all 0 (omega arith) k.capacity in
    omega (arith, long, few)
