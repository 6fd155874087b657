-- The children of footprints that are the same but for spans, and for where they are.
use Rattle.std.proofs.Common.{◌≡◌, ◌∙◌, refl, sym, ap, subst, ℕ, Bool, true, false, ◌||◌, List, [], ◌∷◌, ◌++◌, codes, Option, None, Some, Result, Ok, Err, inl, inr}
use Rattle.std.specs.Prelude.{⊤, if◌then◌else◌}
use Rattle.std.specs.List.{AllZip}
use Rattle.std.proofs.lemmas.List.{map-append}
use Rattle.sexpr_read.specs.declared.place.Span.{Span}
use Rattle.sexpr_read.specs.Tree.{Forest, none, atom, list, Tree, leaf, branch, trees}
use Rattle.board_errors.specs.declared.errors.BoardError.{BoardError}
use Rattle.one_item.specs.declared.item.About.TheVariants.{Text, FootZone}
use Rattle.one_item.specs.declared.item.Item.{Item}
use Rattle.board_items.specs.Boards.{PlainBoard, name_of}
use Rattle.part_read.specs.declared.drawings.GraphicKind.{GraphicKind}
use Rattle.part_read.specs.declared.drawings.GraphicKind.TheVariants.{Line, Rect, Circle, Outline}
use Rattle.part_read.specs.declared.graphics.LayerRole.{LayerRole}
use Rattle.part_read.specs.declared.graphics.LayerRole.TheVariants.{Copper, Outlines, Front, Back, Elsewhere}
use Rattle.list_read.specs.FirstRefusals.{◌>>=◌}
use Rattle.list_read.specs.ListHeads.{place, first_is, has_head}
use Rattle.part_read.specs.ElementResults.{name_in}
use Rattle.part_read.specs.Graphics.{layer_role_of, one_item, graphic_by, curve_by, text_by, note_of}
use Rattle.pad_read.specs.declared.head.Head.{Head}
use Rattle.pad_read.specs.PadOf.{pad_of}
use Rattle.footprint_read.specs.declared.sides.CourtSide.{CourtSide}
use Rattle.footprint_read.specs.declared.contents.Contents.{Contents}
use Rattle.footprint_read.specs.Courtyards.{curve_side, graphic_side}
use Rattle.footprint_read.specs.FootprintOf.{empty, given_at, giving, at_front, at_back, drawn_gives, arc_gives, drawn_kind, is_curve, is_writing, other_gives, kind_gives, child_gives, contents_then, children_give, items_of}
use Rattle.footprint_read.proofs.Standing.{items_given, items_append}
use Rattle.roundtrip_lists.specs.Translated.{Shift, Translated}
use Rattle.roundtrip_lists.specs.Agreeing.{Agrees, Same}
use Rattle.roundtrip_lists.specs.Carried.{Becomes, of_unit, IfAccepted, ReadsItems}
use Rattle.roundtrip_lists.proofs.Elements.{heads_translated}
use Rattle.roundtrip_lists.proofs.Numbers.{name_translated}
use Rattle.roundtrip_lists.proofs.Graphics.{layer_role_translated, one_read, note_read, graphic_carried, curve_carried, text_carried}
use Rattle.roundtrip_footprints.specs.MovedHeads.{moved_head}
use Rattle.roundtrip_footprints.specs.FootprintPlaces.{AtMoved}
use Rattle.roundtrip_footprints.proofs.Standing.{moved_placements}
use Rattle.roundtrip_footprints.proofs.Pads.{pad_carried}
use Rattle.roundtrip_footprints.proofs.Finding.{other_head}
use Rattle.roundtrip_footprints.proofs.Siding.{moved_side, SideMoved, graphic_moved, sides_moved}

module _ (d : Shift) (own : ℕ) where
  abbrev pub Become : List Item → List Item → Type 0
  Become items now = AllZip (Becomes d) items now

  pub record Split (xs ys now : List Item) : Type 0 where
    pub first : List Item
    pub rest : List Item
    pub are : now ≡ first ++ rest
    pub first_become : Become xs first
    pub rest_become : Become ys rest

  pub split_now : (xs ys now : List Item) → Become (xs ++ ys) now → Split xs ys now
  split_now [] ys now h = record { first = []; rest = now; are = refl; first_become = tt; rest_become = h }
  split_now (x ∷ xs) ys [] h = absurd h
  split_now (x ∷ xs) ys (n ∷ now) h =
      let k = split_now xs ys now h.1 in
      record { first = n ∷ k.first; rest = k.rest; are = ap (λ (l : List Item). n ∷ l) k.are; first_become = (h.0, k.first_become); rest_become = k.rest_become }

  -- ---- what is given in both

  -- the other answer gives what the items become, and the moved sides
  pub record Reached (c : Contents) (answer : Result Contents BoardError) (now : List Item) : Type 0 where
    pub contents : Contents
    pub is : answer ≡ Ok contents
    pub items : items_of contents.given ≡ of_unit own now
    pub front : contents.front ≡ moved_side d c.front
    pub back : contents.back ≡ moved_side d c.back

  -- where the one is accepted, whatever its items become
  abbrev pub Follows : Result Contents BoardError → Result Contents BoardError → Type 0
  Follows (Err e) answer = ⊤
  Follows (Ok c) answer = (now : List Item) → Become (items_of c.given) now → Reached c answer now

  none_now : (now : List Item) → Become [] now → [] ≡ of_unit own now
  none_now [] h = refl
  none_now (n ∷ now) h = absurd h

  nothing : Follows (Ok empty) (Ok empty)
  nothing now become = record { contents = empty; is = refl; items = none_now now become; front = refl; back = refl }

  both_follow : (a b more others : Result Contents BoardError) → Follows a b → Follows more others → Follows (a >>= λ x. more >>= λ y. Ok (contents_then x y)) (b >>= λ x. others >>= λ y. Ok (contents_then x y))
  both_follow (Err e) b more others h k = tt
  both_follow (Ok x) b (Err e) others h k = tt
  both_follow (Ok x) b (Ok y) others h k = λ now become.
      let s = split_now (items_of x.given) (items_of y.given) now (subst (λ (l : List Item). Become l now) (items_append x.given y.given) become) in
      let one = h s.first s.first_become in
      let two = k s.rest s.rest_become in
      record {
        contents = contents_then one.contents two.contents;
        is = ap (λ (r : Result Contents BoardError). r >>= λ x. others >>= λ y. Ok (contents_then x y)) one.is ∙ ap (λ (r : Result Contents BoardError). r >>= λ y. Ok (contents_then one.contents y)) two.is;
        items =
            items_append one.contents.given two.contents.given
            ∙ ap (λ (l : List Item). l ++ items_of two.contents.given) one.items
            ∙ ap (λ (l : List Item). of_unit own s.first ++ l) two.items
            ∙ sym (map-append (λ (i : Item). record i { unit = own }) s.first s.rest)
            ∙ ap (of_unit own) (sym s.are);
        front = sides_moved d x.front y.front one.contents.front two.contents.front one.front two.front;
        back = sides_moved d x.back y.back one.contents.back two.contents.back one.back two.back;
      }

  -- by what is the same in both
  same_follow : {A : Type 0} (a b : Result A BoardError) (f g : A → Result Contents BoardError) → Agrees Same a b → ((v : A) → Follows (f v) (g v)) → Follows (a >>= f) (b >>= g)
  same_follow (Err e) b f g h k = tt
  same_follow (Ok v) (Err e) f g h k = absurd h
  same_follow (Ok v) (Ok w) f g h k = subst (λ (z : _). Follows (f v) (g z)) (sym h) (k v)

  items_follow : (t u : Tree) (answer other : Result (List Item) BoardError) → IfAccepted (ReadsItems d own) answer other → Follows (giving t answer) (giving u other)
  items_follow t u (Err e) other h = tt
  items_follow t u (Ok items) other h = λ now become. record {
    contents = record empty { given = given_at (place u) (of_unit own now) };
    is = ap (giving u) (h now (subst (λ (l : List Item). Become l now) (items_given (place t) items) become));
    items = items_given (place u) (of_unit own now);
    front = refl;
    back = refl;
  }

  fronts : (answer other : Result CourtSide BoardError) → Agrees (SideMoved d) answer other → Follows (at_front answer) (at_front other)
  fronts (Err e) other h = tt
  fronts (Ok side) (Err e) h = absurd h
  fronts (Ok side) (Ok new) h = λ now become. record { contents = record empty { front = new }; is = refl; items = none_now now become; front = h; back = refl }

  backs : (answer other : Result CourtSide BoardError) → Agrees (SideMoved d) answer other → Follows (at_back answer) (at_back other)
  backs (Err e) other h = tt
  backs (Ok side) (Err e) h = absurd h
  backs (Ok side) (Ok new) h = λ now become. record { contents = record empty { back = new }; is = refl; items = none_now now become; front = refl; back = h }

  -- ---- one child

  module _ (board other : PlainBoard) (copper : other.copper ≡ board.copper) (nets : (n : ℕ) → name_of board n ≡ name_of other n) (unit : ℕ) (head : Head) where
    abbrev new_head : Head
    new_head = moved_head d head

    module _ (i j : Forest) (s r : Span) (h : Translated None i j) where
      abbrev one : Tree
      one = branch s i

      abbrev two : Tree
      two = branch r j

      same_ground : Agrees Same (layer_role_of board.copper one) (layer_role_of other.copper two)
      same_ground = subst (λ c. Agrees Same (layer_role_of board.copper one) (layer_role_of c two)) (sym copper) (layer_role_translated None board.copper i j s r h)

      graphics : (lies : LayerRole) (kind : GraphicKind) → Follows (giving one (graphic_by board unit head.placement kind one lies)) (giving two (graphic_by other own new_head.placement kind two lies))
      graphics lies kind =
          items_follow one two (graphic_by board unit head.placement kind one lies) (graphic_by other own new_head.placement kind two lies)
          (graphic_carried None d head.placement new_head.placement (moved_placements d head.placement) board other nets unit own kind i j s r h lies)

      drawn_step : (kind : GraphicKind) (lies : LayerRole) → Follows (drawn_gives board unit head kind one lies) (drawn_gives other own new_head kind two lies)
      drawn_step kind Front = fronts (graphic_side head.placement kind one) (graphic_side new_head.placement kind two) (graphic_moved d head.placement kind one two h)
      drawn_step kind Back = backs (graphic_side head.placement kind one) (graphic_side new_head.placement kind two) (graphic_moved d head.placement kind one two h)
      drawn_step kind (Copper layer) = graphics (Copper layer) kind
      drawn_step kind Outlines = graphics Outlines kind
      drawn_step kind Elsewhere = graphics Elsewhere kind

      arc_step : (lies : LayerRole) → Follows (arc_gives one lies) (arc_gives two lies)
      arc_step Front = fronts (Ok curve_side) (Ok curve_side) refl
      arc_step Back = backs (Ok curve_side) (Ok curve_side) refl
      arc_step (Copper layer) = items_follow one two (curve_by one (Copper layer)) (curve_by two (Copper layer)) (curve_carried d own one two (Copper layer))
      arc_step Outlines = items_follow one two (curve_by one Outlines) (curve_by two Outlines) (curve_carried d own one two Outlines)
      arc_step Elsewhere = items_follow one two (curve_by one Elsewhere) (curve_by two Elsewhere) (curve_carried d own one two Elsewhere)

      head_same : (word : List ℕ) → has_head word two ≡ has_head word one
      head_same word = sym (heads_translated None one two word h)

      zone_note : IfAccepted (ReadsItems d own) (Ok (note_of (name_in one) unit FootZone [] ∷ [])) (Ok (note_of (name_in two) own FootZone [] ∷ []))
      zone_note = note_read d own unit FootZone (name_in one) [] (name_in two) [] (sym (name_translated None i j s r h)) refl

      abbrev other_by : PlainBoard → ℕ → Bool → Bool → Bool → Tree → Result Contents BoardError
      other_by board unit curve writing zone t =
          if curve then (layer_role_of board.copper t >>= arc_gives t)
          else if writing then (layer_role_of board.copper t >>= λ lies. giving t (text_by unit Text t lies))
          else if zone then giving t (Ok (note_of (name_in t) unit FootZone [] ∷ []))
          else Ok empty

      by_heads : (curve writing zone : Bool) → Follows (other_by board unit curve writing zone one) (other_by other own curve writing zone two)
      by_heads true writing zone = same_follow (layer_role_of board.copper one) (layer_role_of other.copper two) (arc_gives one) (arc_gives two) same_ground arc_step
      by_heads false true zone =
          same_follow (layer_role_of board.copper one) (layer_role_of other.copper two) (λ lies. giving one (text_by unit Text one lies)) (λ lies. giving two (text_by own Text two lies)) same_ground
          (λ lies. items_follow one two (text_by unit Text one lies) (text_by own Text two lies) (text_carried None d own unit Text i j s r lies h))
      by_heads false false true = items_follow one two (Ok (note_of (name_in one) unit FootZone [] ∷ [])) (Ok (note_of (name_in two) own FootZone [] ∷ [])) zone_note
      by_heads false false false = nothing

      curve_same : is_curve two ≡ is_curve one
      curve_same = ap (λ (b : Bool). b || has_head (codes "fp_curve") two) (head_same (codes "fp_arc")) ∙ ap (λ (b : Bool). has_head (codes "fp_arc") one || b) (head_same (codes "fp_curve"))

      writing_same : is_writing two ≡ is_writing one
      writing_same =
          ap (λ (b : Bool). b || has_head (codes "fp_text_box") two || has_head (codes "property") two) (head_same (codes "fp_text"))
          ∙ ap (λ (b : Bool). has_head (codes "fp_text") one || b || has_head (codes "property") two) (head_same (codes "fp_text_box"))
          ∙ ap (λ (b : Bool). has_head (codes "fp_text") one || has_head (codes "fp_text_box") one || b) (head_same (codes "property"))

      other_step : Follows (other_gives board unit one) (other_gives other own two)
      other_step =
          subst (λ (b : Bool). Follows (other_gives board unit one) (other_by other own b (is_writing two) (has_head (codes "zone") two) two)) (sym curve_same)
          (subst (λ (b : Bool). Follows (other_gives board unit one) (other_by other own (is_curve one) b (has_head (codes "zone") two) two)) (sym writing_same)
          (subst (λ (b : Bool). Follows (other_gives board unit one) (other_by other own (is_curve one) (is_writing one) b two)) (sym (head_same (codes "zone")))
          (by_heads (is_curve one) (is_writing one) (has_head (codes "zone") one))))

      kind_step : (o : Option GraphicKind) → Follows (kind_gives board unit head one o) (kind_gives other own new_head two o)
      kind_step None = other_step
      kind_step (Some kind) = same_follow (layer_role_of board.copper one) (layer_role_of other.copper two) (drawn_gives board unit head kind one) (drawn_gives other own new_head kind two) same_ground (drawn_step kind)

      kind_same : drawn_kind two ≡ drawn_kind one
      kind_same =
          ap (λ (b : Bool). by_kinds b (has_head (codes "fp_rect") two) (has_head (codes "fp_circle") two) (has_head (codes "fp_poly") two)) (head_same (codes "fp_line"))
          ∙ ap (λ (b : Bool). by_kinds (has_head (codes "fp_line") one) b (has_head (codes "fp_circle") two) (has_head (codes "fp_poly") two)) (head_same (codes "fp_rect"))
          ∙ ap (λ (b : Bool). by_kinds (has_head (codes "fp_line") one) (has_head (codes "fp_rect") one) b (has_head (codes "fp_poly") two)) (head_same (codes "fp_circle"))
          ∙ ap (λ (b : Bool). by_kinds (has_head (codes "fp_line") one) (has_head (codes "fp_rect") one) (has_head (codes "fp_circle") one) b) (head_same (codes "fp_poly"))
        where
          by_kinds : Bool → Bool → Bool → Bool → Option GraphicKind
          by_kinds line rect circle outline =
              if line then Some Line
              else if rect then Some Rect
              else if circle then Some Circle
              else if outline then Some Outline
              else None

      abbrev child_by : PlainBoard → ℕ → Head → Bool → Option GraphicKind → Tree → Result Contents BoardError
      child_by board unit head pad kind t = if pad then giving t (pad_of board unit head t >>= λ pad. Ok (pad ∷ [])) else kind_gives board unit head t kind

      by_pad : (pad : Bool) → Follows (child_by board unit head pad (drawn_kind one) one) (child_by other own new_head pad (drawn_kind one) two)
      by_pad true =
          items_follow one two (one_item (pad_of board unit head one)) (one_item (pad_of other own new_head two))
          (one_read d own (pad_of board unit head one) (pad_of other own new_head two) (pad_carried d board other copper nets unit own head i j s r h))
      by_pad false = kind_step (drawn_kind one)

      list_step : Follows (child_gives board unit head one) (child_gives other own new_head two)
      unfolding child_gives
      list_step =
          subst (λ (b : Bool). Follows (child_by board unit head (has_head (codes "pad") one) (drawn_kind one) one) (child_by other own new_head b (drawn_kind two) two)) (sym (head_same (codes "pad")))
          (subst (λ (o : Option GraphicKind). Follows (child_by board unit head (has_head (codes "pad") one) (drawn_kind one) one) (child_by other own new_head (has_head (codes "pad") one) o two)) (sym kind_same) (by_pad (has_head (codes "pad") one)))

    -- an atom gives nothing
    atom_step : (s r : Span) (q p : Bool) (x y : List ℕ) → Follows (child_gives board unit head (leaf s q x)) (child_gives other own new_head (leaf r p y))
    unfolding child_gives has_head
    atom_step s r q p x y = nothing

    -- nor does the list that says where the footprint is
    place_gives : (any : PlainBoard) (n : ℕ) (head : Head) (s : Span) (f : Forest) → first_is (trees f) (codes "at") ≡ true → child_gives any n head (branch s f) ≡ Ok empty
    unfolding child_gives
    place_gives any n head s f first =
        rw (
          other_head s f (codes "pad") first refl,
          other_head s f (codes "fp_line") first refl,
          other_head s f (codes "fp_rect") first refl,
          other_head s f (codes "fp_circle") first refl,
          other_head s f (codes "fp_poly") first refl,
          other_head s f (codes "fp_arc") first refl,
          other_head s f (codes "fp_curve") first refl,
          other_head s f (codes "fp_text") first refl,
          other_head s f (codes "fp_text_box") first refl,
          other_head s f (codes "property") first refl,
          other_head s f (codes "zone") first refl,
        ) refl

    place_step : (s r : Span) (f g : Forest) → first_is (trees f) (codes "at") ≡ true → first_is (trees g) (codes "at") ≡ true → Follows (child_gives board unit head (branch s f)) (child_gives other own new_head (branch r g))
    place_step s r f g one two =
        subst (λ (a : Result Contents BoardError). Follows a (child_gives other own new_head (branch r g))) (sym (place_gives board unit head s f one))
        (subst (λ (b : Result Contents BoardError). Follows (Ok empty) b) (sym (place_gives other own new_head r g two)) nothing)

    -- ---- all of them

    first_and : (t u : Tree) (ts us : List Tree) → Follows (child_gives board unit head t) (child_gives other own new_head u) → Follows (children_give board unit head ts) (children_give other own new_head us)
        → Follows (children_give board unit head (t ∷ ts)) (children_give other own new_head (u ∷ us))
    first_and t u ts us h k = both_follow (child_gives board unit head t) (child_gives other own new_head u) (children_give board unit head ts) (children_give other own new_head us) h k

    plain_steps : (f g : Forest) → Translated None f g → Follows (children_give board unit head (trees f)) (children_give other own new_head (trees g))
    plain_steps none none h = nothing
    plain_steps none (atom t r e rest) h = absurd h
    plain_steps none (list t within rest) h = absurd h
    plain_steps (atom s q x others) none h = absurd h
    plain_steps (atom s q x others) (list t within rest) h = absurd h
    plain_steps (list s i others) none h = absurd h
    plain_steps (list s i others) (atom t r e rest) h = absurd h
    plain_steps (atom s q x others) (atom t r e rest) h = first_and (leaf s q x) (leaf t r e) (trees others) (trees rest) (atom_step s t q r x e) (plain_steps others rest h.2)
    plain_steps (list s i others) (list t j rest) h = first_and (branch s i) (branch t j) (trees others) (trees rest) (list_step i j s t h.0) (plain_steps others rest h.1)

    pub all_steps : (f g : Forest) → AtMoved d f g → Follows (children_give board unit head (trees f)) (children_give other own new_head (trees g))
    all_steps none none h = nothing
    all_steps none (atom t r e rest) h = absurd h
    all_steps none (list t within rest) h = absurd h
    all_steps (atom s q x others) none h = absurd h
    all_steps (atom s q x others) (list t within rest) h = absurd h
    all_steps (list s i others) none h = absurd h
    all_steps (list s i others) (atom t r e rest) h = absurd h
    all_steps (atom s q x others) (atom t r e rest) h = first_and (leaf s q x) (leaf t r e) (trees others) (trees rest) (atom_step s t q r x e) (all_steps others rest h.2)
    all_steps (list s i others) (list t j rest) (inl (place, more)) = first_and (branch s i) (branch t j) (trees others) (trees rest) (place_step s t i j place.first place.second) (plain_steps others rest more)
    all_steps (list s i others) (list t j rest) (inr (plain, translated, more)) = first_and (branch s i) (branch t j) (trees others) (trees rest) (list_step i j s t translated) (all_steps others rest more)
