-- Items that touch, and item boxes of items.
use Rattle.std.proofs.Common.{◌≡◌, ◌≢◌, ℕ, ◌+◌, ◌-◌, ◌<◌, ◌∷◌, ◌++◌, length, All, List, [], None, Some, inl, inr, refl, sym, subst, ap, ◌∙◌}
use Rattle.geo_seg.specs.declared.boxes.Bounds.{Bounds}
use Rattle.geo_seg.specs.Boxes.{FitsWithin}
use Rattle.std.proofs.Common.{pos, get_or, arith}
use Rattle.std.proofs.lemmas.Int.{ints}
use Rattle.std.proofs.lemmas.Bool.{cases_lt}
use Rattle.std.proofs.lemmas.List.{get_or_append_left, get_or-append_right, length_push}
use Rattle.std.proofs.lemmas.List.Elements.{All-push}
use Rattle.one_item.specs.declared.item.Item.{Item}
use Rattle.board_items.specs.Boards.{PlainBoard, item_at}
use Rattle.one_item.specs.ItemParts.{parts_of}
use Rattle.one_item.specs.Extents.{AreBoundsOf}
use Rattle.item_copper.proofs.ItemBoxes.{boxes_meet}
use Rattle.item_copper.proofs.Symmetry.{copper_meets_back}
use Rattle.net_groups.specs.Touching.{Touching, TouchOn}
use Rattle.box_index.specs.declared.entry.Entry.{Entry}
use Rattle.net_groups.specs.ItemBoxes.{IsItemBox, IsCopperItemBox, IsItemBoxAt, AreItemBoxes}
use Rattle.net_groups.proofs.Covers.{has_parts}

some_same : (a b : Item) → Some a ≡ Some b → a ≡ b
some_same a b e = cc

pub item_box_is : (board : PlainBoard) (id : ℕ) (item : Item) (item_box : Bounds) → item_at board.items id ≡ Some item → (parts_of item ≢ [] → AreBoundsOf (parts_of item) (Some item_box)) → IsItemBox board id item_box
item_box_is board id item item_box found own other at some =
    let same : item ≡ other = some_same item other (sym found ∙ at) in
    subst (λ (i : Item). AreBoundsOf (parts_of i) (Some item_box)) same (own (subst (λ (i : Item). parts_of i ≢ []) (sym same) some))

pub no_item : (board : PlainBoard) (id : ℕ) (item_box : Bounds) → item_at board.items id ≡ None → IsItemBox board id item_box
no_item board id item_box none other at some = absurd (cc)

-- an item box fits an index
looser : (b : Bounds) → FitsWithin (pos 1500000000) b → FitsWithin (pos 2000000000) b
looser b f = record { wide = f.wide; high = f.high; left = omega (arith, ints); top = omega (arith, ints); right = omega (arith, ints); bottom = omega (arith, ints) }

-- a touch of two items that are known
pub touching_at : (board : PlainBoard) (i j : ℕ) (a b : Item) → item_at board.items i ≡ Some a → item_at board.items j ≡ Some b → TouchOn board i j → Touching a b
touching_at board i j a b f g t =
    subst (λ (x : Item). Touching x b) (some_same t.a a (sym t.first ∙ f)) (subst (λ (y : Item). Touching t.a y) (some_same t.b b (sym t.second ∙ g)) t.touch)

-- ---- item boxes of ids
-- each of the ids has its item box
pub record AreItemBoxesOf (board : PlainBoard) (ids : List ℕ) (item_boxes : List Bounds) : Type 0 where
  pub many : length item_boxes ≡ length ids
  pub fit : All (λ item_box. FitsWithin (pos 1500000000) item_box) item_boxes
  pub each : (k : ℕ) (d : Bounds) → k < length ids → IsItemBox board (get_or ids k 0) (get_or item_boxes k d)

pub item_boxes_none : (board : PlainBoard) → AreItemBoxesOf board [] []
item_boxes_none board = record { many = refl; fit = λ k d lt. absurd (omega arith); each = λ k d lt. absurd (omega arith) }

last_at : {A : Type 0} (xs : List A) (x d : A) (k : ℕ) → k ≡ length xs → get_or (xs ++ x ∷ []) k d ≡ x
last_at xs x d k e =
    let zero : k - length xs ≡ 0 = omega (arith, e) in
    get_or-append_right xs (x ∷ []) (length xs) k d refl (omega (arith, e)) ∙ ap (λ n. get_or (x ∷ []) n d) zero

pub item_boxes_more : (board : PlainBoard) (ids : List ℕ) (item_boxes : List Bounds) (id : ℕ) (item_box : Bounds) → AreItemBoxesOf board ids item_boxes → IsCopperItemBox board id item_box → AreItemBoxesOf board (ids ++ id ∷ []) (item_boxes ++ item_box ∷ [])
item_boxes_more board ids item_boxes id item_box so_far own = record {
  many = length_push item_boxes item_box ∙ ap (λ n. n + 1) so_far.many ∙ sym (length_push ids id);
  fit = All-push (λ item_box. FitsWithin (pos 1500000000) item_box) item_boxes item_box so_far.fit own.fits;
  each = λ k d lt. elim (cases_lt k (length ids)) [
    | inl less ↦
        subst (λ (i : ℕ). IsItemBox board i (get_or (item_boxes ++ item_box ∷ []) k d)) (sym (get_or_append_left ids (id ∷ []) 0 k less))
        (subst (IsItemBox board (get_or ids k 0)) (sym (get_or_append_left item_boxes (item_box ∷ []) d k (omega (arith, less, so_far.many)))) (so_far.each k d less))
    | inr last ↦
        let here : k ≡ length ids = omega (arith, lt, length_push ids id) in
        subst (λ (i : ℕ). IsItemBox board i (get_or (item_boxes ++ item_box ∷ []) k d)) (sym (last_at ids id 0 k here))
        (subst (IsItemBox board id) (sym (last_at item_boxes item_box d k (here ∙ sym so_far.many))) own.is)
  ];
}

-- where two touch their item boxes meet
pub item_boxes_tell : (board : PlainBoard) (ids : List ℕ) (item_boxes : List Bounds) → AreItemBoxesOf board ids item_boxes → AreItemBoxes (TouchOn board) ids item_boxes
item_boxes_tell board ids item_boxes all = record {
  many = all.many;
  fit = all.fit;
  meet = λ i j d hi hj t.
      boxes_meet t.a t.b (get_or item_boxes i d) (get_or item_boxes j d) (all.each i d hi t.a t.first (has_parts t.a t.b t.touch.meet))
      (all.each j d hj t.b t.second (has_parts t.b t.a (copper_meets_back t.a t.b t.touch.meet))) t.touch.meet;
}

-- the entry of a place fits an index
pub item_box_fits : (item_boxes : List Bounds) (own : Entry) → All (λ item_box. FitsWithin (pos 1500000000) item_box) item_boxes → IsItemBoxAt item_boxes own → FitsWithin (pos 2000000000) own.bounds
item_box_fits item_boxes own fit o = looser own.bounds (subst (FitsWithin (pos 1500000000)) (o.is own.bounds) (fit own.id own.bounds o.inside))
