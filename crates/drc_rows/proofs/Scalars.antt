-- Lengths that can be written, and items whose places can be.
use Rattle.std.proofs.Common.{ℕ, List, ◌++◌, ◌≡◌, ◌≤◌, ◌≤ℤ◌, ℤ, pos, negsuc, neg_ℤ, Bool, true, false, ◌&&◌, is_some, refl, arith}
use Rattle.std.proofs.lemmas.Int.{ints}
use Rattle.std.specs.Int.Signed.{le_z}
use Rattle.std.specs.Prelude.{unsigned_abs}
use Rattle.int_algebra.proofs.Scalars.{passed}
use Rattle.exact_dec.specs.MillimetreText.{mm_text}
use Rattle.plain_types.specs.Lengths.{IsLength}
use Rattle.one_item.specs.declared.item.Item.{Item}
use Rattle.one_item.specs.Positions.{is_near, is_on_board}
use Rattle.board_items.specs.Boards.{PlainBoard, is_admitted, name_of, has_layers_of}
use Rattle.kind_subjects.specs.LimitedLengths.{IsNearZero}

-- a length, as it is passed to a call
pub length_far : {v : ℤ} → IsLength v → unsigned_abs (passed v) ≤ 1000000000000
length_far {v} l = let from = l.from in let to = l.to in far v from to
  where
    far : (z : ℤ) → pos 0 ≤ℤ z → z ≤ℤ pos 500000000 → unsigned_abs (passed z) ≤ 1000000000000
    far (pos n) h k = omega (arith, ints)
    far (negsuc n) h k = absurd (omega (arith, ints))

pub length_as : {v : ℤ} → IsLength v → passed v ≡ v
length_as {v} l = let from = l.from in let to = l.to in omega (arith, ints)

-- a length within 500 mm of 0, as it is passed to a call
pub within_far : {v : ℤ} → IsNearZero v → unsigned_abs (passed v) ≤ 1000000000000
within_far {v} l = let from = l.from in let to = l.to in far v from to
  where
    far : (z : ℤ) → neg_ℤ (pos 500000000) ≤ℤ z → z ≤ℤ pos 500000000 → unsigned_abs (passed z) ≤ 1000000000000
    far (pos n) h k = omega (arith, ints)
    far (negsuc n) h k = omega (arith, ints)

pub within_as : {v : ℤ} → IsNearZero v → passed v ≡ v
within_as {v} l = let from = l.from in let to = l.to in omega (arith, ints)

near : (z : ℤ) → is_near z ≡ true → unsigned_abs z ≤ 1000000000000
near z h = by (le_z (neg_ℤ (pos 500000000)) z) (le_z z (pos 500000000)) refl refl h
  where
    by : (a b : Bool) → le_z (neg_ℤ (pos 500000000)) z ≡ a → le_z z (pos 500000000) ≡ b → a && b ≡ true → unsigned_abs z ≤ 1000000000000
    by true true k l h = omega (arith, ints, k, l)
    by true false k l h = absurd cc
    by false b k l h = absurd cc

both : (a b : Bool) → a && b ≡ true → (a ≡ true) × (b ≡ true)
both true true h = (refl, refl)
both true false h = absurd cc
both false b h = absurd cc

-- the place of an item on the board
pub x_near : (item : Item) → is_on_board item ≡ true → unsigned_abs item.x ≤ 1000000000000
x_near item h = near item.x (both (is_near item.x) (is_near item.y) h).0

pub y_near : (item : Item) → is_on_board item ≡ true → unsigned_abs item.y ≤ 1000000000000
y_near item h = near item.y (both (is_near item.x) (is_near item.y) h).1

pub on_board : (board : PlainBoard) (item : Item) → is_admitted board item ≡ true → is_on_board item ≡ true
on_board board item h =
    let has = is_some (name_of board item.net) in
    (both (is_on_board item) has (both (is_on_board item && has) (has_layers_of board item) h).0).0

-- two lengths, as they are passed to a call
pub both_as : (before between : List ℕ) (v w x y : ℤ) → v ≡ x → w ≡ y → before ++ mm_text v ++ between ++ mm_text w ≡ before ++ mm_text x ++ between ++ mm_text y
both_as before between v w x y e f = rw (e, f)
