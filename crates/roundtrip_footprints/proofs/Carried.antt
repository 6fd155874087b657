-- The list of a footprint that is moved gives its items, carried.
use Rattle.std.proofs.Common.{◌≡◌, ◌∙◌, refl, sym, ap, subst, ℕ, suc, ◌+◌, ◌<◌, ◌≤◌, arith, ltb, ℤ, pos, ◌+ℤ◌, ◌*ℤ◌, Bool, true, ◌&&◌, cond, List, [], ◌∷◌, ◌++◌, map, length, codes, Some, Result, Ok, Err}
use Rattle.std.specs.List.{AllZip}
use Rattle.std.proofs.lemmas.Bool.{lt-ltb}
use Rattle.std.proofs.lemmas.List.{map-append, length-map}
use Rattle.int_algebra.proofs.Tested.{front as first_holds, back as second_holds}
use Rattle.sexpr_read.specs.declared.place.Span.{Span}
use Rattle.sexpr_read.specs.Tree.{Forest, Tree, branch, parts}
use Rattle.board_errors.specs.declared.errors.BoardError.{BoardError}
use Rattle.board_errors.specs.declared.errors.BoardError.TheVariants.{OutOfBoard, TooMany}
use Rattle.copper_layers.specs.declared.set.LayerSet.{LayerSet}
use Rattle.one_item.specs.declared.parts.Part.{Part}
use Rattle.one_item.specs.declared.item.About.TheVariants.{Courtyard}
use Rattle.one_item.specs.declared.item.What.TheVariants.{Body}
use Rattle.one_item.specs.declared.item.Item.{Item}
use Rattle.one_item.specs.Positions.{is_near}
use Rattle.board_items.specs.Boards.{PlainBoard, name_of}
use Rattle.one_item.specs.ItemMoves.{AreShifted}
use Rattle.board_items.specs.ItemRefusals.{capacity_of}
use Rattle.part_read.specs.declared.numbers.RawPoint.{RawPoint}
use Rattle.list_read.specs.FirstRefusals.{◌>>=◌, check}
use Rattle.list_read.specs.ListHeads.{place}
use Rattle.part_read.specs.ElementResults.{name_in}
use Rattle.part_read.specs.OnBoard.{fits_board}
use Rattle.pad_read.specs.declared.head.Head.{Head}
use Rattle.footprint_read.specs.declared.sides.CourtSide.{CourtSide}
use Rattle.footprint_read.specs.declared.contents.Contents.{Contents}
use Rattle.footprint_read.specs.declared.contents.Given.{Given}
use Rattle.footprint_read.specs.declared.courts.Court.{Court}
use Rattle.footprint_read.specs.declared.courts.Court.TheVariants.{Unchecked, Parts, Off}
use Rattle.footprint_read.specs.Courtyards.{IsCourt, parts_in, lies_on_board}
use Rattle.footprint_read.specs.FootHead.{head_of}
use Rattle.footprint_read.specs.FootprintOf.{body_of, court_notes, all_given, items_of, with_reserved, in_capacity, is_placed, finished, contents_of, SaysInside, SaysWithHead, FootprintSays}
use Rattle.roundtrip_lists.specs.Translated.{Shift}
use Rattle.roundtrip_lists.specs.Agreeing.{Agrees}
use Rattle.roundtrip_lists.specs.Carried.{IsCarried, Becomes, of_unit}
use Rattle.roundtrip_lists.specs.Moved.{moved_raw_point}
use Rattle.roundtrip_lists.proofs.Shapes.{one_item, settled, two_pass}
use Rattle.roundtrip_lists.proofs.Graphics.{no_parts, no_hole, note_read}
use Rattle.roundtrip_lists.proofs.Placed.{same_ok}
use Rattle.roundtrip_footprints.specs.MovedHeads.{moved_placement, moved_head}
use Rattle.roundtrip_footprints.specs.FootprintPlaces.{AtMoved}
use Rattle.roundtrip_footprints.proofs.Finding.{name_again}
use Rattle.roundtrip_footprints.proofs.Heading.{HeadAgain, head_again}
use Rattle.roundtrip_footprints.proofs.Courts.{court_with, CourtAgain, court_again}
use Rattle.roundtrip_footprints.proofs.Children.{Become, split_now, Reached, Follows, all_steps}
use Rattle.roundtrip_footprints.proofs.Feet.{foot_says, all_items}

-- ---- room

capacity_again : (board : PlainBoard) (unit : ℕ) (gs : List Given) (before : ℕ) → before + length gs ≤ capacity_of board → unit < 4294967295 → with_reserved board unit before gs ≡ Ok tt
capacity_again board unit [] before few low = refl
capacity_again board unit (g ∷ gs) before few low =
    ap (λ (b : Bool). cond {A = Result (Unit {0}) BoardError} b (with_reserved board unit (suc before) gs) (Err (TooMany g.place)))
    (two_pass (ltb before (capacity_of board)) (ltb unit 4294967295) (lt-ltb before (capacity_of board) (omega (arith, few))) (lt-ltb unit 4294967295 low))
    ∙ capacity_again board unit gs (suc before) (omega (arith, few)) low

-- where there is room, and all lies on the board, it is finished
finished_again : (board : PlainBoard) (unit : ℕ) (head : Head) (tree : Tree) (given : List Given) (front back : Court) (items : List Item) → is_placed head front back ≡ true → items_of (all_given unit head tree given front back) ≡ items
    → length items ≤ capacity_of board → unit < 4294967295 → Ok items ≡ finished board unit head tree given front back
unfolding finished
finished_again board unit head tree given front back items placed are few low =
    let all = all_given unit head tree given front back in
    let long : length all ≡ length items = sym (length-map all (λ (g : Given). g.item)) ∙ ap length are in
    let capacity : with_reserved board unit 0 all ≡ Ok tt = capacity_again board unit all 0 (omega (arith, long, few)) low in
    sym
    (ap (λ (b : Bool). check (OutOfBoard (place tree)) b >>= λ on_board. in_capacity board unit all) placed
    ∙ ap (λ (r : Result (Unit {0}) BoardError). r >>= λ capacity. Ok (items_of all)) capacity
    ∙ ap (λ (l : List Item). let r : Result (List Item) BoardError = Ok l in r) are)

module _ (d : Shift) (board other : PlainBoard) (copper : other.copper ≡ board.copper) (nets : (n : ℕ) → name_of board n ≡ name_of other n) (unit own : ℕ) (i j : Forest) (s r : Span) (h : AtMoved d i j) where
  abbrev one : Tree
  one = branch s i

  abbrev two : Tree
  two = branch r j

  -- ---- the head

  head_there : (head : Head) → head_of board.copper one ≡ Ok head → is_near (head.placement.at.x +ℤ d.dx) ≡ true → is_near (head.placement.at.y +ℤ d.dy) ≡ true → head_of other.copper two ≡ Ok (moved_head d head)
  head_there head e near_x near_y =
      ap (λ (l : LayerSet). head_of l two) copper
      ∙ by_answer (head_of board.copper two) refl (subst (λ (a : Result Head BoardError). Agrees (HeadAgain d board.copper i j s r h) a (head_of board.copper two)) e (head_again d board.copper i j s r h))
    where
      by_answer : (a : Result Head BoardError) → head_of board.copper two ≡ a → Agrees (HeadAgain d board.copper i j s r h) (Ok head) a → head_of board.copper two ≡ Ok (moved_head d head)
      by_answer (Err e) k again = absurd again
      by_answer (Ok y) k again =
          let at : again.raw_point ≡ moved_raw_point d head.placement.at = settled (Some d) head.placement.at again.raw_point again.moved near_x near_y in
          k ∙ ap (λ (z : Head). let a : Result Head BoardError = Ok z in a) (again.is ∙ ap (λ (z : RawPoint). record head { placement = record { quarter = head.placement.quarter; at = z } }) at)

  -- ---- what the children give

  abbrev ContentsAgain : Head → Contents → List Item → Type 0
  ContentsAgain head contents now = Reached d own contents (contents_of other own (moved_head d head) two) now

  contents_again : (head : Head) (contents : Contents) (now : List Item) → contents_of board unit head one ≡ Ok contents → Become d own (items_of contents.given) now → ContentsAgain head contents now
  contents_again head contents now e become =
      let all : Follows d own (Ok contents) (contents_of other own (moved_head d head) two) =
      subst (λ (a : Result Contents BoardError). Follows d own a (contents_of other own (moved_head d head) two)) e (all_steps d own board other copper nets unit head i j h) in
      all now become

  -- ---- notes of courtyards

  notes_again : (layer : List ℕ) (court : Court) (others : List Part) (now : List Item) → Become d own (court_notes unit one layer court) now → court_notes own two layer (court_with d court others) ≡ of_unit own now
  notes_again layer Unchecked others now become = same_ok (note_read d own unit Courtyard (name_in one) layer (name_in two) layer (sym (name_again d i j s r h)) refl now become)
  notes_again layer (Parts parts) others [] become = refl
  notes_again layer (Parts parts) others (n ∷ now) become = absurd become
  notes_again layer Off others [] become = refl
  notes_again layer Off others (n ∷ now) become = absurd become

  -- ---- the body

  record OneNow (item : Item) (now : List Item) : Type 0 where
    moved : Item
    is : now ≡ moved ∷ []
    becomes : Becomes d item moved

  one_now : (item : Item) (now : List Item) → Become d own (item ∷ []) now → OneNow item now
  one_now item [] k = absurd k
  one_now item (n ∷ m ∷ now) k = absurd k.1
  one_now item (n ∷ []) k = record { moved = n; is = refl; becomes = k.0 }

  -- the courtyards with which the body was carried
  record BodyCarried (head : Head) (front back : Court) (moved : Item) : Type 0 where
    fronts : List Part
    backs : List Part
    what : moved.what ≡ Body head.reference fronts backs head.on_back
    shifted_fronts : AreShifted (pos 2 *ℤ d.dx) (pos 2 *ℤ d.dy) (parts_in front) fronts
    shifted_backs : AreShifted (pos 2 *ℤ d.dx) (pos 2 *ℤ d.dy) (parts_in back) backs
    near_x : is_near (head.placement.at.x +ℤ d.dx) ≡ true
    near_y : is_near (head.placement.at.y +ℤ d.dy) ≡ true
    carried : IsCarried d (body_of unit head one front back) moved

  body_carried : (head : Head) (front back : Court) (moved : Item) → Becomes d (body_of unit head one front back) moved → BodyCarried head front back moved
  body_carried head front back moved becomes =
      let c = becomes.0 in
      let w = c.what in
      record {
        fronts = w.0;
        backs = w.1;
        what = w.2;
        shifted_fronts = w.3;
        shifted_backs = w.4;
        near_x = subst (λ (z : ℤ). is_near z ≡ true) c.x (first_holds (is_near moved.x) (is_near moved.y) becomes.1);
        near_y = subst (λ (z : ℤ). is_near z ≡ true) c.y (second_holds (is_near moved.x) (is_near moved.y) becomes.1);
        carried = c;
      }

  body_again : (head : Head) (front back new_front new_back : Court) (moved : Item) (b : BodyCarried head front back moved) → parts_in new_front ≡ b.fronts → parts_in new_back ≡ b.backs
      → body_of own (moved_head d head) two new_front new_back ≡ record moved { unit = own }
  body_again head front back new_front new_back moved b of_front of_back =
      let c = b.carried in
      let what : moved.what ≡ Body head.reference (parts_in new_front) (parts_in new_back) head.on_back =
      b.what ∙ ap (λ (l : List Part). Body head.reference l b.backs head.on_back) (sym of_front) ∙ ap (λ (l : List Part). Body head.reference (parts_in new_front) l head.on_back) (sym of_back) in
      sym
      (one_item (record moved { unit = own }) (body_of own (moved_head d head) two new_front new_back) (c.name ∙ name_again d i j s r h) refl c.net c.x c.y (no_parts (pos 2 *ℤ d.dx) (pos 2 *ℤ d.dy) moved.copper c.copper)
      (no_hole (pos 2 *ℤ d.dx) (pos 2 *ℤ d.dy) moved.hole c.hole) c.local what)

  -- ---- all items

  record AllNow (head : Head) (contents : Contents) (front back : Court) (now : List Item) : Type 0 where
    moved : Item
    given : List Item
    front_notes : List Item
    back_notes : List Item
    are : now ≡ (((moved ∷ []) ++ given) ++ front_notes) ++ back_notes
    body : Becomes d (body_of unit head one front back) moved
    of_given : Become d own (items_of contents.given) given
    of_front : Become d own (court_notes unit one (codes "F.CrtYd") front) front_notes
    of_back : Become d own (court_notes unit one (codes "B.CrtYd") back) back_notes

  all_now : (head : Head) (contents : Contents) (front back : Court) (now : List Item)
      → Become d own ((((body_of unit head one front back ∷ []) ++ items_of contents.given) ++ court_notes unit one (codes "F.CrtYd") front) ++ court_notes unit one (codes "B.CrtYd") back) now → AllNow head contents front back now
  all_now head contents front back now become =
      let body = body_of unit head one front back ∷ [] in
      let given = items_of contents.given in
      let f = court_notes unit one (codes "F.CrtYd") front in
      let a = split_now d own ((body ++ given) ++ f) (court_notes unit one (codes "B.CrtYd") back) now become in
      let b = split_now d own (body ++ given) f a.first a.first_become in
      let c = split_now d own body given b.first b.first_become in
      let m = one_now (body_of unit head one front back) c.first c.first_become in
      record {
        moved = m.moved;
        given = c.rest;
        front_notes = b.rest;
        back_notes = a.rest;
        are = a.are ∙ ap (λ (l : List Item). l ++ a.rest) (b.are ∙ ap (λ (l : List Item). l ++ b.rest) (c.are ∙ ap (λ (l : List Item). l ++ c.rest) m.is));
        body = m.becomes;
        of_given = c.rest_become;
        of_front = b.rest_become;
        of_back = a.rest_become;
      }

  of_all : (moved : Item) (given front_notes back_notes : List Item)
      → of_unit own ((((moved ∷ []) ++ given) ++ front_notes) ++ back_notes) ≡ ((((record moved { unit = own } ∷ []) ++ of_unit own given) ++ of_unit own front_notes) ++ of_unit own back_notes)
  of_all moved given front_notes back_notes =
      let f : Item → Item = λ (x : Item). record x { unit = own } in
      map-append f (((moved ∷ []) ++ given) ++ front_notes) back_notes
      ∙ ap (λ (l : List Item). l ++ map f back_notes) (map-append f ((moved ∷ []) ++ given) front_notes)

  items_again : (head : Head) (contents : Contents) (front back new_front new_back : Court) (now : List Item) (a : AllNow head contents front back now) (c : ContentsAgain head contents a.given)
      → body_of own (moved_head d head) two new_front new_back ≡ record a.moved { unit = own }
      → court_notes own two (codes "F.CrtYd") new_front ≡ of_unit own a.front_notes → court_notes own two (codes "B.CrtYd") new_back ≡ of_unit own a.back_notes
      → items_of (all_given own (moved_head d head) two c.contents.given new_front new_back) ≡ of_unit own now
  items_again head contents front back new_front new_back now a c body of_front of_back =
      let f = court_notes own two (codes "F.CrtYd") new_front in
      let b = court_notes own two (codes "B.CrtYd") new_back in
      all_items own (moved_head d head) two c.contents.given new_front new_back
      ∙ ap (λ (x : Item). (((x ∷ []) ++ items_of c.contents.given) ++ f) ++ b) body
      ∙ ap (λ (l : List Item). (((record a.moved { unit = own } ∷ []) ++ l) ++ f) ++ b) c.items
      ∙ ap (λ (l : List Item). (((record a.moved { unit = own } ∷ []) ++ of_unit own a.given) ++ l) ++ b) of_front
      ∙ ap (λ (l : List Item). (((record a.moved { unit = own } ∷ []) ++ of_unit own a.given) ++ of_unit own a.front_notes) ++ l) of_back
      ∙ sym (of_all a.moved a.given a.front_notes a.back_notes)
      ∙ ap (of_unit own) (sym a.are)

  -- ---- the whole

  says_again : (head : Head) (new : Contents) (front back : Court) (items : List Item) → head_of other.copper two ≡ Ok head → contents_of other own head two ≡ Ok new → IsCourt head.placement new.front front → IsCourt head.placement new.back back
      → is_placed head front back ≡ true → items_of (all_given own head two new.given front back) ≡ items → length items ≤ capacity_of other → own < 4294967295 → FootprintSays other own two (Ok items)
  says_again head new front back items eh ec of_front of_back placed are few low =
      subst (λ (a : Result Head BoardError). SaysWithHead other own two a (Ok items)) (sym eh)
      (subst (λ (a : Result Contents BoardError). SaysInside other own head two a (Ok items)) (sym ec)
      (record { front = front; back = back; of_front = of_front; of_back = of_back; same = finished_again other own head two new.given front back items placed are few low }))

  with_courts : (head : Head) (contents : Contents) (front back : Court) (now : List Item) → head_of board.copper one ≡ Ok head → contents_of board unit head one ≡ Ok contents → (a : AllNow head contents front back now)
      → (b : BodyCarried head front back a.moved) → CourtAgain d head.placement contents.front front b.fronts → CourtAgain d head.placement contents.back back b.backs → length now ≤ capacity_of other → own < 4294967295 → FootprintSays other own two (Ok (of_unit own now))
  with_courts head contents front back now eh ec a b f k few low =
      let c = contents_again head contents a.given ec a.of_given in
      let new_front = court_with d front b.fronts in
      let new_back = court_with d back b.backs in
      let body = body_again head front back new_front new_back a.moved b f.parts k.parts in
      let items = items_again head contents front back new_front new_back now a c body (notes_again (codes "F.CrtYd") front b.fronts a.front_notes a.of_front) (notes_again (codes "B.CrtYd") back b.backs a.back_notes a.of_back) in
      let of_front : IsCourt (moved_placement d head.placement) c.contents.front new_front = subst (λ (x : CourtSide). IsCourt (moved_placement d head.placement) x new_front) (sym c.front) f.is in
      let of_back : IsCourt (moved_placement d head.placement) c.contents.back new_back = subst (λ (x : CourtSide). IsCourt (moved_placement d head.placement) x new_back) (sym c.back) k.is in
      let placed : is_placed (moved_head d head) new_front new_back ≡ true =
      two_pass (fits_board (moved_raw_point d head.placement.at)) (lies_on_board new_front && lies_on_board new_back) (two_pass (is_near (head.placement.at.x +ℤ d.dx)) (is_near (head.placement.at.y +ℤ d.dy)) b.near_x b.near_y)
      (two_pass (lies_on_board new_front) (lies_on_board new_back) f.lies k.lies) in
      let long : length (of_unit own now) ≡ length now = length-map now (λ (x : Item). record x { unit = own }) in
      says_again (moved_head d head) c.contents new_front new_back (of_unit own now) (head_there head eh b.near_x b.near_y) c.is of_front of_back placed items (omega (arith, long, few)) low

  pub foot_carried : (items now : List Item) → AllZip (Becomes d) items now → FootprintSays board unit one (Ok items) → length now ≤ capacity_of other → own < 4294967295 → FootprintSays other own two (Ok (of_unit own now))
  foot_carried items now become says few low =
      let k = foot_says board unit one items says in
      let all = sym (all_items unit k.head one k.contents.given k.front k.back) ∙ k.are in
      let a = all_now k.head k.contents k.front k.back now (subst (λ (l : List Item). Become d own l now) (sym all) become) in
      let b = body_carried k.head k.front k.back a.moved a.body in
      let lies = second_holds (fits_board k.head.placement.at) (lies_on_board k.front && lies_on_board k.back) k.placed in
      let front = court_again d k.head.placement k.contents.front k.front b.fronts k.of_front (first_holds (lies_on_board k.front) (lies_on_board k.back) lies) b.shifted_fronts in
      let back = court_again d k.head.placement k.contents.back k.back b.backs k.of_back (second_holds (lies_on_board k.front) (lies_on_board k.back) lies) b.shifted_backs in
      with_courts k.head k.contents k.front k.back now k.has_head k.has_contents a b front back few low
