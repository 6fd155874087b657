-- How far an item is moved from one place on the board to another.
use Rattle.std.proofs.Common.{◌≡◌, refl, ℤ, Bool, true, false, ◌&&◌, pos, ◌+ℤ◌, neg_ℤ, unsigned_abs, ◌≤◌, arith}
use Rattle.std.specs.Int.Signed.{le_z}
use Rattle.std.proofs.lemmas.Bool.{and_parts}
use Rattle.std.proofs.lemmas.Int.{ints}
use Rattle.one_item.specs.declared.item.Item.{Item}
use Rattle.one_item.specs.Positions.{is_near, is_on_board}

near_range : (z : ℤ) → is_near z ≡ true → unsigned_abs z ≤ 500000000
near_range z h = by (le_z (neg_ℤ (pos 500000000)) z) (le_z z (pos 500000000)) refl refl h
  where
    by : (a b : Bool) → le_z (neg_ℤ (pos 500000000)) z ≡ a → le_z z (pos 500000000) ≡ b → (a && b) ≡ true → unsigned_abs z ≤ 500000000
    by true true k l e = omega (arith, ints, k, l)
    by true false k l e = absurd cc
    by false b k l e = absurd cc

step_range : (z d : ℤ) → is_near z ≡ true → is_near (z +ℤ d) ≡ true → unsigned_abs d ≤ 1000000000
step_range z d h k = small (near_range z h) (near_range (z +ℤ d) k)
  where
    small : unsigned_abs z ≤ 500000000 → unsigned_abs (z +ℤ d) ≤ 500000000 → unsigned_abs d ≤ 1000000000
    small l m = omega (arith, ints)

pub item_small : (dx dy : ℤ) (item : Item) → is_on_board item ≡ true → (is_near (item.x +ℤ dx) && is_near (item.y +ℤ dy)) ≡ true → (unsigned_abs dx ≤ 1000000000) × (unsigned_abs dy ≤ 1000000000)
item_small dx dy item h k =
    let here = and_parts (is_near item.x) (is_near item.y) h in
    let there = and_parts (is_near (item.x +ℤ dx)) (is_near (item.y +ℤ dy)) k in
    (step_range item.x dx here.0 there.0, step_range item.y dy here.1 there.1)
