-- Each pair that touches is asked for in a tile that the items meet.
use Rattle.std.proofs.Common.{◌≡◌, ◌≢◌, ◌⊎◌, ℕ, ◌<◌, ◌==◌, ℤ, pos, ◌+ℤ◌, ◌-ℤ◌, ◌≤ℤ◌, Bool, true, false, cond, ◌&&◌, nat_lt, List, [], ◌++◌, length, Contains, get_or, inr, refl, sym, subst, ap, ◌∙◌, arith, eq-eqb}
use Rattle.std.proofs.Common.{int_le}
use Rattle.std.proofs.lemmas.Int.{ints}
use Rattle.std.proofs.lemmas.List.{length-append}
use Rattle.std.proofs.lemmas.List.Elements.{All-contains, filter_passes}
use Rattle.std.proofs.lemmas.Bool.{and_from}
use Rattle.geo_seg.specs.declared.boxes.Bounds.{Bounds}
use Rattle.geo_seg.specs.Boxes.{widened}
use Rattle.one_item.specs.declared.item.Item.{Item}
use Rattle.board_items.specs.Boards.{PlainBoard}
use Rattle.one_item.specs.ItemParts.{parts_of, hole_parts, kind_parts}
use Rattle.one_item.specs.CopperPairs.{CopperMeets}
use Rattle.geo_seg.specs.Boxes.{BoxesMeet}
use Rattle.item_copper.proofs.Meeting.{copper_to}
use Rattle.item_copper.proofs.Symmetry.{copper_meets_back}
use Rattle.box_index.specs.declared.entry.Entry.{Entry}
use Rattle.geo_seg.specs.Boxes.{are_near}
use Rattle.box_index.specs.Tiles.{PlainIndex, IsSoundIndex, margin, near_of, is_in, meets_tile, owner_of}
use Rattle.box_index.proofs.Buckets.{complete}
use Rattle.net_groups.specs.Touching.{TouchOn}
use Rattle.geo_seg.specs.Boxes.{do_boxes_meet}
use Rattle.net_groups.specs.Asking.{tile_for, asked_in}
use Rattle.net_groups.specs.ItemBoxes.{AreItemBoxes, HoldsItemBoxes, IsItemBoxAt}
use Rattle.net_groups.proofs.Asked.{asked_contains}

-- ---- touches go both ways
pub touch_back : (board : PlainBoard) (i j : ℕ) → TouchOn board i j → TouchOn board j i
touch_back board i j t = record {
  a = t.b;
  b = t.a;
  first = t.second;
  second = t.first;
  touch = record {
    same_net = sym t.touch.same_net;
    some_net = λ e. t.touch.some_net (t.touch.same_net ∙ e);
    meet = copper_meets_back t.a t.b t.touch.meet;
  };
}

-- ---- an item that touches has parts
pub has_parts : (a b : Item) → CopperMeets a b → parts_of a ≢ []
has_parts a b c none =
    let some = copper_to a b c in
    let lt = some.2 in
    let empty = ap length none in
    absurd (omega (arith, length-append a.copper (hole_parts a.hole ++ kind_parts a.what)))

-- ---- boxes that meet
int_le_true : (x y : ℤ) → x ≤ℤ y → int_le x y ≡ true
int_le_true x y h = grind (arith, ints)

pub meet_true : (b c : Bounds) → BoxesMeet b c → do_boxes_meet b c ≡ true
meet_true b c m =
    and_from (int_le b.left c.right && int_le c.left b.right) (int_le b.top c.bottom && int_le c.top b.bottom)
    (and_from (int_le b.left c.right) (int_le c.left b.right) (int_le_true b.left c.right m.left) (int_le_true c.left b.right m.right))
    (and_from (int_le b.top c.bottom) (int_le c.top b.bottom) (int_le_true b.top c.bottom m.top) (int_le_true c.top b.bottom m.bottom))

near_true : (reach : ℤ) (b c : Bounds) → pos 0 ≤ℤ reach → BoxesMeet b c → are_near reach b c ≡ true
near_true reach b c r m =
    and_from (int_le (b.left -ℤ reach) c.right && int_le c.left (b.right +ℤ reach)) (int_le (b.top -ℤ reach) c.bottom && int_le c.top (b.bottom +ℤ reach))
    (and_from (int_le (b.left -ℤ reach) c.right) (int_le c.left (b.right +ℤ reach)) (int_le_true (b.left -ℤ reach) c.right (less b.left c.right m.left)) (int_le_true c.left (b.right +ℤ reach) (more c.left b.right m.right)))
    (and_from (int_le (b.top -ℤ reach) c.bottom) (int_le c.top (b.bottom +ℤ reach)) (int_le_true (b.top -ℤ reach) c.bottom (less b.top c.bottom m.top)) (int_le_true c.top (b.bottom +ℤ reach) (more c.top b.bottom m.bottom)))
  where
    less : (x y : ℤ) → x ≤ℤ y → (x -ℤ reach) ≤ℤ y
    less x y h = omega (arith, ints)

    more : (x y : ℤ) → x ≤ℤ y → x ≤ℤ (y +ℤ reach)
    more x y h = omega (arith, ints)

boxes_back : (b c : Bounds) → BoxesMeet b c → BoxesMeet c b
boxes_back b c m = record { left = m.right; right = m.left; top = m.bottom; bottom = m.top }

-- ---- the tile that answers for a pair lends both
module _ (index : PlainIndex) (sound : IsSoundIndex index) where
  wide : pos 0 ≤ℤ margin index
  wide = let from = sound.reach_from in omega (arith, ints)

  pub answered : (own other : Entry) → Contains index.entries own → Contains index.entries other → BoxesMeet own.bounds other.bounds
      → Contains (near_of index (tile_for (margin index) own other)) own × Contains (near_of index (tile_for (margin index) own other)) other
  answered own other h k m = by_order (nat_lt own.id other.id)
    where
      by_order : (b : Bool) → Contains (near_of index (cond b (owner_of (margin index) own.bounds other.bounds) (owner_of (margin index) other.bounds own.bounds))) own
          × Contains (near_of index (cond b (owner_of (margin index) own.bounds other.bounds) (owner_of (margin index) other.bounds own.bounds))) other
      by_order true = complete index sound own other h k (near_true (margin index) own.bounds other.bounds wide m)
      by_order false = let both = complete index sound other own k h (near_true (margin index) other.bounds own.bounds wide (boxes_back own.bounds other.bounds m)) in (both.1, both.0)

  -- what a tile lends meets it
  pub lent_meets : (tile : ℕ) (own : Entry) → Contains (near_of index tile) own → meets_tile (widened own.bounds (margin index)) tile ≡ true
  lent_meets tile own c = All-contains (λ (e : Entry). is_in index tile e ≡ true) (near_of index tile) own (filter_passes (is_in index tile) index.entries) c

-- ---- all that a place touches
module _ (Step : ℕ → ℕ → Type 0) (ids : List ℕ) (item_boxes : List Bounds) (index : PlainIndex) (are : AreItemBoxes Step ids item_boxes) (holds : HoldsItemBoxes item_boxes index) (sound : IsSoundIndex index) (own : Entry) (o : IsItemBoxAt item_boxes own) where
  pub asked_somewhere : (j : ℕ) → j < length ids → Step (get_or ids own.id 0) (get_or ids j 0)
      → (tile : ℕ) × (meets_tile (widened own.bounds (margin index)) tile ≡ true) × Contains (asked_in ids index tile own) (get_or ids j 0)
  asked_somewhere j lt s =
      let inside : own.id < length ids = omega (arith, are.many, o.inside) in
      let other : Entry = record { id = j; bounds = get_or item_boxes j own.bounds } in
      let meets : BoxesMeet own.bounds other.bounds = subst (λ (b : Bounds). BoxesMeet b (get_or item_boxes j own.bounds)) (o.is own.bounds) (are.meet own.id j own.bounds inside lt s) in
      let mine : Contains index.entries own = subst (λ (b : Bounds). Contains index.entries (record { id = own.id; bounds = b })) (o.is own.bounds) (holds.each own.id own.bounds o.inside) in
      let theirs : Contains index.entries other = holds.each j own.bounds (omega (arith, are.many, lt)) in
      let tile = tile_for (margin index) own other in
      let both = answered index sound own other mine theirs meets in
      let asked = and_from (do_boxes_meet own.bounds other.bounds) (tile_for (margin index) own other == tile) (meet_true own.bounds other.bounds meets) (eq-eqb tile tile refl) in
      (tile, lent_meets index sound tile own both.0, asked_contains ids (margin index) tile own (near_of index tile) other both.1.0 both.1.1 both.1.2 asked)

  pub covers : (others : List ℕ) → ((tile : ℕ) → meets_tile (widened own.bounds (margin index)) tile ≡ true → (a : ℕ) → Contains (asked_in ids index tile own) a → Contains others a)
      → (j : ℕ) → j < length ids → Step (get_or ids own.id 0) (get_or ids j 0) → (j ≡ own.id) ⊎ Contains others (get_or ids j 0)
  covers others each j lt s =
      let w = asked_somewhere j lt s in
      inr (each w.0 w.1 (get_or ids j 0) w.2)
