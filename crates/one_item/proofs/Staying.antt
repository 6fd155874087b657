-- An item on the board that stays there where it is moved: the numbers of its move are small, and all its parts stay.
use Rattle.std.proofs.Common.{◌≡◌, ◌≤◌, ℤ, pos, neg_ℤ, ◌+ℤ◌, ◌*ℤ◌, unsigned_abs, Bool, true, false, ◌&&◌, List, [], ◌∷◌, ◌++◌, refl, arith}
use Rattle.std.proofs.lemmas.Int.{ints}
use Rattle.std.proofs.lemmas.Bool.{and_from, and_parts}
use Rattle.std.specs.Int.Signed.{le_z}
use Rattle.std.specs.List.{list_all}
use Rattle.int_algebra.proofs.Scalars.{passed}
use Rattle.geo_seg.specs.Shifts.{core_stays}
use Rattle.one_item.specs.declared.item.Item.{Item}
use Rattle.one_item.specs.ItemParts.{parts_of}
use Rattle.one_item.specs.Positions.{is_near, is_on_board}
use Rattle.one_item.specs.ItemMoves.{item_stays}

-- ---- numbers
near_range : (z : ℤ) → is_near z ≡ true → unsigned_abs z ≤ 500000000
near_range z h = by (le_z (neg_ℤ (pos 500000000)) z) (le_z z (pos 500000000)) refl refl h
  where
    by : (a b : Bool) → le_z (neg_ℤ (pos 500000000)) z ≡ a → le_z z (pos 500000000) ≡ b → a && b ≡ true → unsigned_abs z ≤ 500000000
    by true true k l e = omega (arith, ints, k, l)
    by true false k l e = absurd cc
    by false b k l e = absurd cc

-- between two places on the board
pub step_range : (z d : ℤ) → is_near z ≡ true → is_near (z +ℤ d) ≡ true → unsigned_abs d ≤ 1000000000
step_range z d h k = small (near_range z h) (near_range (z +ℤ d) k)
  where
    small : unsigned_abs z ≤ 500000000 → unsigned_abs (z +ℤ d) ≤ 500000000 → unsigned_abs d ≤ 1000000000
    small l m = omega (arith, ints)

pub sum_near : (z d : ℤ) → is_near z ≡ true → is_near (z +ℤ d) ≡ true → passed (passed z +ℤ passed d) ≡ z +ℤ d
sum_near z d h k = small (near_range z h) (near_range (z +ℤ d) k)
  where
    small : unsigned_abs z ≤ 500000000 → unsigned_abs (z +ℤ d) ≤ 500000000 → passed (passed z +ℤ passed d) ≡ z +ℤ d
    small l m = omega (arith, ints)

pub item_small : (dx dy : ℤ) (item : Item) → is_on_board item ≡ true → is_near (item.x +ℤ dx) && is_near (item.y +ℤ dy) ≡ true → (unsigned_abs dx ≤ 1000000000) × (unsigned_abs dy ≤ 1000000000)
item_small dx dy item h k =
    let here = and_parts (is_near item.x) (is_near item.y) h in
    let there = and_parts (is_near (item.x +ℤ dx)) (is_near (item.y +ℤ dy)) k in
    (step_range item.x dx here.0 there.0, step_range item.y dy here.1 there.1)

-- ---- an item that stays
module _ (dx dy : ℤ) (item : Item) (here : is_on_board item ≡ true) (stays : item_stays dx dy item ≡ true) where
  places : (is_near item.x ≡ true) × (is_near item.y ≡ true)
  places = and_parts (is_near item.x) (is_near item.y) here

  halves : (is_near (item.x +ℤ dx) && is_near (item.y +ℤ dy) ≡ true) × (list_all (λ part. core_stays (pos 2 *ℤ dx) (pos 2 *ℤ dy) part.shape.core) (parts_of item) ≡ true)
  halves = and_parts (is_near (item.x +ℤ dx) && is_near (item.y +ℤ dy)) (list_all (λ part. core_stays (pos 2 *ℤ dx) (pos 2 *ℤ dy) part.shape.core) (parts_of item)) stays

  ends : (is_near (item.x +ℤ dx) ≡ true) × (is_near (item.y +ℤ dy) ≡ true)
  ends = and_parts (is_near (item.x +ℤ dx)) (is_near (item.y +ℤ dy)) halves.0

  pub small_dx : unsigned_abs dx ≤ 1000000000
  small_dx = step_range item.x dx places.0 ends.0

  pub small_dy : unsigned_abs dy ≤ 1000000000
  small_dy = step_range item.y dy places.1 ends.1

  pub new_x : passed (passed item.x +ℤ passed dx) ≡ item.x +ℤ dx
  new_x = sum_near item.x dx places.0 ends.0

  pub new_y : passed (passed item.y +ℤ passed dy) ≡ item.y +ℤ dy
  new_y = sum_near item.y dy places.1 ends.1

  pub all_parts : list_all (λ part. core_stays (pos 2 *ℤ dx) (pos 2 *ℤ dy) part.shape.core) (parts_of item) ≡ true
  all_parts = halves.1

pub list_all_prefix : {X : Type 0} (test : X → Bool) (xs ys : List X) → list_all test (xs ++ ys) ≡ true → list_all test xs ≡ true
list_all_prefix test [] ys h = refl
list_all_prefix test (x ∷ xs) ys h =
    let both = and_parts (test x) (list_all test (xs ++ ys)) h in and_from _ _ both.0 (list_all_prefix test xs ys both.1)

pub list_all_back : {X : Type 0} (test : X → Bool) (xs ys : List X) → list_all test (xs ++ ys) ≡ true → list_all test ys ≡ true
list_all_back test [] ys h = h
list_all_back test (x ∷ xs) ys h = list_all_back test xs ys (and_parts (test x) (list_all test (xs ++ ys)) h).1
