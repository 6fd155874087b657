-- The rows of tiles, put end to end.
use Rattle.std.proofs.Common.{◌≡◌, refl, ap, subst, sym, ◌∙◌, ℕ, zero, suc, ◌+◌, ◌<◌, ◌≤◌, ◌⊎◌, inl, inr, List, [], ◌∷◌, ◌++◌, take, length, get_or, arith}
use Rattle.std.specs.List.{AllZip, Contains, flat_map}
use Rattle.std.specs.List.Sorted.{IsPermutation, IsStrictlyIncreasing}
use Rattle.std.proofs.lemmas.List.{take_more, take_all, flat_map_more}
use Rattle.box_index.specs.Tiles.{PlainIndex, IsSoundIndex}
use Rattle.pair_check.specs.PlainRow.{PlainRow}
use Rattle.pair_check.specs.Rows.{Checked, IsRowOfOne, AreRows}
use Rattle.row_check.specs.RowsOfTile.{IsIndexOf, AreRowsOfTile}
use Rattle.row_check.specs.EntryWalks.{HasAddedRows}
use Rattle.row_check.specs.Whole.{AreEnough, AreInOrder, AreOnceWhere, AreSingles, IsOfTiles, IsOfChanged, ids_of}
use Rattle.board_index.proofs.OneList.{nothing}
use Rattle.row_check.proofs.RowLists.{no_rows}
use Rattle.row_check.proofs.Sorting.{apart_from, once_from_rows, once_permutation, rows_from_once}
use Rattle.row_check.proofs.WholeRows.{every_row, once_append, one_tile_more}

module _ (c : Checked) (index : PlainIndex) (sound : IsSoundIndex index) (is : IsIndexOf c index) (tiles changed : List ℕ) (up : IsStrictlyIncreasing tiles) (batches : List (List PlainRow))
    (each : AllZip (λ tile batch. AreRowsOfTile c index tile changed batch) tiles batches) where
  joined_to : ℕ → List PlainRow
  joined_to k = flat_map (λ (batch : List PlainRow). batch) (take k batches)

  long : length tiles ≡ length batches
  long = length_both tiles batches each
    where
      length_both : (xs : List ℕ) (ys : List (List PlainRow)) → AllZip (λ tile batch. AreRowsOfTile c index tile changed batch) xs ys → length xs ≡ length ys
      length_both [] [] h = refl
      length_both [] (y ∷ ys) h = absurd h
      length_both (x ∷ xs) [] h = absurd h
      length_both (x ∷ xs) (y ∷ ys) h = let e = length_both xs ys h.1 in omega arith

  at : (xs : List ℕ) (ys : List (List PlainRow)) → AllZip (λ tile batch. AreRowsOfTile c index tile changed batch) xs ys → (k : ℕ) → k < length xs → AreRowsOfTile c index (get_or xs k 0) changed (get_or ys k [])
  at [] ys h k l = absurd (omega arith)
  at (x ∷ xs) [] h k l = absurd h
  at (x ∷ xs) (y ∷ ys) h zero l = h.0
  at (x ∷ xs) (y ∷ ys) h (suc k) l = at xs ys h.1 k (omega arith)

  first_tiles : (k : ℕ) → k ≤ length tiles → AreOnceWhere (IsOfTiles c index (take k tiles) changed) (joined_to k)
  unfolding joined_to
  first_tiles zero l = once_from_rows (IsOfTiles c index [] changed) [] (no_rows (IsOfTiles c index [] changed) (λ row h. nothing h.1.tile h.1.among))
  first_tiles (suc k) l =
      let lt : k < length tiles = omega arith in
      let lb : k < length batches = omega (arith, long) in
      let e : take (k + 1) batches ≡ take k batches ++ get_or batches k [] ∷ [] = take_more batches k [] lb in
      let is_more : joined_to (k + 1) ≡ joined_to k ++ get_or batches k [] = ap (flat_map (λ (batch : List PlainRow). batch)) e ∙ sym (flat_map_more (λ (batch : List PlainRow). batch) [] (take k batches) (get_or batches k [])) in
      let more : HasAddedRows (AreRowsOfTile c index (get_or tiles k 0) changed) (joined_to k) (joined_to (k + 1)) = record { more = get_or batches k []; is = is_more; pass = at tiles batches each k lt } in
      let next : (k + 1) ≡ suc k = omega arith in
      subst (λ (n : ℕ). AreOnceWhere (IsOfTiles c index (take n tiles) changed) (joined_to n)) next
      (one_tile_more c index sound is tiles changed up k lt (joined_to k) (joined_to (k + 1)) more (first_tiles k (omega arith)))

  pub batches_once : AreOnceWhere (IsOfTiles c index tiles changed) (flat_map (λ (batch : List PlainRow). batch) batches)
  unfolding joined_to
  batches_once =
      subst (λ (ts : List ℕ). AreOnceWhere (IsOfTiles c index ts changed) (flat_map (λ (batch : List PlainRow). batch) batches)) (take_all (length tiles) tiles (omega arith))
      (subst (λ (bs : List (List PlainRow)). AreOnceWhere (IsOfTiles c index (take (length tiles) tiles) changed) (flat_map (λ (batch : List PlainRow). batch) bs)) (take_all (length tiles) batches (omega (arith, long))) (first_tiles (length tiles) (omega arith)))

  abbrev Single : PlainRow → Type 0
  Single row = IsRowOfOne c row × Contains changed row.first

  -- the rows of single items with those of the tiles
  singles_and_batches : (singles : List PlainRow) → AreSingles c changed singles → AreOnceWhere (IsOfChanged c index tiles changed) (singles ++ flat_map (λ (batch : List PlainRow). batch) batches)
  singles_and_batches singles s =
      once_append Single (IsOfTiles c index tiles changed) (IsOfChanged c index tiles changed) singles (flat_map (λ (batch : List PlainRow). batch) batches)
      (λ r s one two. apart_from r s (λ e f. let same = one.0.same in let less = two.0.ordered in omega arith)) (λ row h. inr h) (λ row h. inl h) turned (once_from_rows Single singles s) batches_once
    where
      turned : (row : PlainRow) → IsOfChanged c index tiles changed row → Single row ⊎ IsOfTiles c index tiles changed row
      turned row (inl h) = inr h
      turned row (inr h) = inl h

  -- where all items changed and the tiles are enough, they are all rows once they are put in order
  pub all_in_order : AreEnough index changed tiles → changed ≡ ids_of c.board → (singles after : List PlainRow) → AreSingles c changed singles
      → IsPermutation (singles ++ flat_map (λ (batch : List PlainRow). batch) batches) after → AreInOrder after → AreRows c after
  all_in_order enough same singles after s put order =
      every_row c index sound is tiles changed after enough same
      (rows_from_once (IsOfChanged c index tiles changed) after order
      (once_permutation (IsOfChanged c index tiles changed) (singles ++ flat_map (λ (batch : List PlainRow). batch) batches) after put (singles_and_batches singles s)))
