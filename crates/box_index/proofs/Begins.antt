-- What the corner of the entries of a tile says of the pairs that the tile answers for.
use Rattle.std.proofs.Common.{◌≡◌, refl, sym, subst, ℕ, ℤ, pos, ◌-ℤ◌, ◌≤ℤ◌, ◌≤◌, ◌<◌, ◌+◌, ◌*◌, ◌/◌, ◌%◌, Bool, true, false, int_le, nat_le, nat_lt, List, ◌∷◌, filter, All, Contains, arith}
use Rattle.std.proofs.lemmas.Int.{ints, clamps}
use Rattle.std.proofs.lemmas.Bool.Decides.{nat_tests}
use Rattle.std.specs.Bool.{IsTrue}
use Rattle.std.specs.Int.{int_max}
use Rattle.geo_seg.specs.Boxes.{are_near}
use Rattle.std.proofs.lemmas.List.Elements.{All-append, All-cons, All-contains, All-filter, All-weaker}
use Rattle.box_index.specs.declared.corners.Corner.{Corner}
use Rattle.box_index.specs.declared.entry.Entry.{Entry}
use Rattle.box_index.specs.EntryOrigins.{BeginsBy}
use Rattle.box_index.specs.Tiles.{PlainIndex, IsSoundIndex, IsComplete, AnswersForNone, margin, lane, near_of, owner_of, placed}
use Rattle.box_index.proofs.Buckets.{wide_from}
use Rattle.box_index.proofs.TileLemmas.{lane-mono, lane-within}

-- ---- one entry more
later : (old new : Corner) (e : Entry) → old.column ≤ new.column → old.row ≤ new.row → BeginsBy old e → BeginsBy new e
later old new e c r b = let l = b.left in let t = b.top in record { left = omega (arith, l, c); top = omega (arith, t, r) }

pub begun_placed : (e : Entry) (xs ys : List Entry) (old new : Corner) → ys ≡ placed e xs → old.column ≤ new.column → old.row ≤ new.row → BeginsBy new e → All (BeginsBy old) xs → All (BeginsBy new) ys
begun_placed e xs ys old new is c r own all =
    let low = λ (x : Entry). nat_lt x.id e.id in
    let high = λ (x : Entry). nat_lt e.id x.id in
    let further = All-weaker (BeginsBy old) (BeginsBy new) (λ x b. later old new x c r b) xs all in
    subst (All (BeginsBy new)) (sym is)
    (All-append (BeginsBy new) (filter low xs) (e ∷ filter high xs) (All-filter low (BeginsBy new) xs further) (All-cons (BeginsBy new) e (filter high xs) own (All-filter high (BeginsBy new) xs further)))

-- ---- the pairs of a tile
at_most : (a b : ℤ) → int_le a b ≡ true → a ≤ℤ b
at_most a b h = grind (arith, ints)

at_least : (a b : ℤ) → int_le a b ≡ false → b ≤ℤ a
at_least a b h = grind (arith, ints)

trans : (i j k : ℕ) → i ≤ j → j ≤ k → i ≤ k
trans i j k h l = omega arith

-- the greater of two begins no later than both
lane_of_max : (a b m : ℤ) (n : ℕ) → pos 0 ≤ℤ m → lane a ≤ n → lane b ≤ n → lane (int_max (a -ℤ m) b) ≤ n
lane_of_max a b m n from la lb = by_case (int_le a b) refl
  where
    by_case : (t : Bool) → int_le a b ≡ t → lane (int_max (a -ℤ m) b) ≤ n
    by_case true h =
        let k = at_most a b h in
        let less : int_max (a -ℤ m) b ≤ℤ b = omega (arith, ints, clamps) in
        let l = lane-mono (int_max (a -ℤ m) b) b less in trans _ _ _ l lb
    by_case false h =
        let k = at_least a b h in
        let less : int_max (a -ℤ m) b ≤ℤ a = omega (arith, ints, clamps) in
        let l = lane-mono (int_max (a -ℤ m) b) a less in trans _ _ _ l la

column_of : (row column tile : ℕ) → column ≤ 124 → row * 125 + column ≡ tile → tile % 125 ≡ column
column_of row column tile w e = omega arith

row_of : (row column tile : ℕ) → column ≤ 124 → row * 125 + column ≡ tile → tile / 125 ≡ row
row_of row column tile w e = omega arith

leb_false : (a b : ℕ) → nat_le a b ≡ false → b < a
leb_false a b h = grind (arith, nat_tests)

module _ (index : PlainIndex) (sound : IsSoundIndex index) (whole : IsComplete index) (tile : ℕ) (last : Corner) (begun : All (BeginsBy last) (near_of index tile)) where
  module _ (a b : Entry) (ca : Contains index.entries a) (cb : Contains index.entries b) (near : IsTrue (are_near (margin index) a.bounds b.bounds)) (is : owner_of (margin index) a.bounds b.bounds ≡ tile) where
    abbrev x : ℤ
    x = int_max (a.bounds.left -ℤ margin index) b.bounds.left

    abbrev y : ℤ
    y = int_max (a.bounds.top -ℤ margin index) b.bounds.top

    one : BeginsBy last a
    one = All-contains (BeginsBy last) (near_of index tile) a begun (subst (λ (t : ℕ). Contains (near_of index t) a) is (whole a b ca cb near).0)

    other : BeginsBy last b
    other = All-contains (BeginsBy last) (near_of index tile) b begun (subst (λ (t : ℕ). Contains (near_of index t) b) is (whole a b ca cb near).1)

    from : pos 0 ≤ℤ margin index
    from = wide_from index.reach sound.reach_from

    in_column : tile % 125 ≤ last.column
    in_column =
        let c = column_of (lane y) (lane x) tile (lane-within x) is in
        let l = lane_of_max a.bounds.left b.bounds.left (margin index) last.column from one.left other.left in omega (arith, c, l)

    in_row : tile / 125 ≤ last.row
    in_row =
        let r = row_of (lane y) (lane x) tile (lane-within x) is in
        let l = lane_of_max a.bounds.top b.bounds.top (margin index) last.row from one.top other.top in omega (arith, r, l)

  pub none_in_column : nat_le (tile % 125) last.column ≡ false → AnswersForNone index tile
  none_in_column test a b ca cb near is = let h = in_column a b ca cb near is in let k = leb_false (tile % 125) last.column test in absurd (omega (arith, h, k))

  pub none_in_row : nat_le (tile / 125) last.row ≡ false → AnswersForNone index tile
  none_in_row test a b ca cb near is = let h = in_row a b ca cb near is in let k = leb_false (tile / 125) last.row test in absurd (omega (arith, h, k))
