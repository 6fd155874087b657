-- The rows after a change are those that it left, and those of what is tested again.
use Rattle.std.proofs.Common.{◌≡◌, ◌⊎◌, ℕ, List, ◌++◌, Bool, true, false, not, ◌||◌, get_or, inl, inr, refl, sym, subst, ap, ◌∙◌, arith, true≢false}
use Rattle.std.specs.List.{Contains, filter}
use Rattle.std.specs.List.Sorted.{IsPermutation}
use Rattle.std.proofs.lemmas.List.Elements.{All-filter, filter_passes}
use Rattle.std.proofs.lemmas.List.Kept.{AllPairs-filter}
use Rattle.box_index.specs.Tiles.{PlainIndex, IsSoundIndex}
use Rattle.box_index.proofs.Buckets.{contains_filter}
use Rattle.pair_check.specs.PlainRow.{PlainRow}
use Rattle.pair_check.specs.Pairs.{Breaks}
use Rattle.pair_check.specs.Singles.{BreaksAlone}
use Rattle.pair_check.specs.Rows.{Checked, IsRow, IsRowOfOne, AreRows, Before}
use Rattle.row_check.specs.RowsOfTile.{IsIndexOf, is_changed}
use Rattle.row_check.specs.Whole.{StandApart, AreOnceWhere, AreInOrder, AreEnough, AreSingles, IsOfTiles}
use Rattle.row_check.proofs.WholeRows.{asked, once_append}
use Rattle.row_check.proofs.Sorting.{apart_or_same, Same, once_from_rows, once_permutation, rows_from_once}
use Rattle.row_check.proofs.TileRows.{changed_in, in_changed}
use Rattle.kept_rows.specs.CheckChanges.{IsCheckChange, is_touched}

-- ---- rows that the change left
or_first : (a b : Bool) → (a || b) ≡ false → a ≡ false
or_first true b h = h
or_first false b h = refl

or_second : (a b : Bool) → (a || b) ≡ false → b ≡ false
or_second true b h = absurd (true≢false h)
or_second false b h = h

not_true : (b : Bool) → not b ≡ true → b ≡ false
not_true true h = absurd (true≢false (sym h))
not_true false h = refl

unchanged : (changed : List ℕ) (id : ℕ) → is_changed changed id ≡ false → ¬ (Contains changed id)
unchanged changed id h c = true≢false (sym (in_changed changed id c) ∙ h)

-- the row is one, and none of its items changed
pub record IsLeft (c : Checked) (changed : List ℕ) (row : PlainRow) : Type 0 where
  pub is : IsRow c row
  pub untouched : is_touched changed row ≡ false

module _ (old new : Checked) (changed : List ℕ) (step : IsCheckChange old new changed) where
  free_first : (row : PlainRow) → is_touched changed row ≡ false → ¬ (Contains changed row.first)
  free_first row h = unchanged changed row.first (or_first (is_changed changed row.first) (is_changed changed row.second) h)

  free_second : (row : PlainRow) → is_touched changed row ≡ false → ¬ (Contains changed row.second)
  free_second row h = unchanged changed row.second (or_second (is_changed changed row.first) (is_changed changed row.second) h)

  stays : (row : PlainRow) → is_touched changed row ≡ false → IsRow old row → IsRow new row
  stays row h (inl two) = inl (record {
    pair = two.pair;
    first = step.stays row.first (free_first row h) two.pair.a two.pair.facts_a two.first;
    second = step.stays row.second (free_second row h) two.pair.b two.pair.facts_b two.second;
    ordered = two.ordered;
    broken = subst (λ d. Breaks d row.kind two.pair row) (sym step.same) two.broken;
  })
  stays row h (inr one) = inr (record {
    item = one.item;
    facts = one.facts;
    first = step.stays row.first (free_first row h) one.item one.facts one.first;
    same = one.same;
    broken = subst (λ d. BreaksAlone d row.kind one.item one.facts row) (sym step.same) one.broken;
  })

  stayed : (row : PlainRow) → is_touched changed row ≡ false → IsRow new row → IsRow old row
  stayed row h (inl two) = inl (record {
    pair = two.pair;
    first = step.stayed row.first (free_first row h) two.pair.a two.pair.facts_a two.first;
    second = step.stayed row.second (free_second row h) two.pair.b two.pair.facts_b two.second;
    ordered = two.ordered;
    broken = subst (λ d. Breaks d row.kind two.pair row) step.same two.broken;
  })
  stayed row h (inr one) = inr (record {
    item = one.item;
    facts = one.facts;
    first = step.stayed row.first (free_first row h) one.item one.facts one.first;
    same = one.same;
    broken = subst (λ d. BreaksAlone d row.kind one.item one.facts row) step.same one.broken;
  })

  left_once : (rows : List PlainRow) → AreRows old rows → AreOnceWhere (IsLeft new changed) (filter (λ row. not (is_touched changed row)) rows)
  left_once rows r = once_from_rows (IsLeft new changed) (filter (λ row. not (is_touched changed row)) rows) (record {
    ordered = AllPairs-filter Before (λ row. not (is_touched changed row)) rows r.ordered;
    only = λ k d lt.
        let here = get_or (filter (λ row. not (is_touched changed row)) rows) k d in
        let free = not_true (is_touched changed here) (filter_passes (λ row. not (is_touched changed row)) rows k d lt) in
        record { is = stays here free (All-filter (λ row. not (is_touched changed row)) (IsRow old) rows r.only k d lt); untouched = free };
    all = λ row k. contains_filter (λ row. not (is_touched changed row)) rows row (r.all row (stayed row k.untouched k.is)) (ap not k.untouched);
  })

-- ---- all rows
module _ (old new : Checked) (index : PlainIndex) (sound : IsSoundIndex index) (is : IsIndexOf new index) (changed tiles : List ℕ) (step : IsCheckChange old new changed) (enough : AreEnough index changed tiles) where
  abbrev Left : PlainRow → Type 0
  Left row = IsLeft new changed row

  abbrev Single : PlainRow → Type 0
  Single row = IsRowOfOne new row × Contains changed row.first

  abbrev Paired : PlainRow → Type 0
  Paired row = IsOfTiles new index tiles changed row

  touched_alike : (p q : PlainRow) → Same p q → is_touched changed p ≡ is_touched changed q
  touched_alike p q same = ap (λ i. is_changed changed i || is_changed changed p.second) same.first ∙ ap (λ j. is_changed changed q.first || is_changed changed j) same.second

  or_left : (a b : Bool) → a ≡ true → (a || b) ≡ true
  or_left true b h = refl
  or_left false b h = absurd (true≢false (sym h))

  or_right : (a b : Bool) → b ≡ true → (a || b) ≡ true
  or_right true b h = refl
  or_right false b h = h

  single_touched : (row : PlainRow) → Single row → is_touched changed row ≡ true
  single_touched row s = or_left (is_changed changed row.first) (is_changed changed row.second) (in_changed changed row.first s.1)

  paired_touched : (row : PlainRow) → Paired row → is_touched changed row ≡ true
  paired_touched row p = by_item p.1.asked.touched
    where
      by_item : Contains changed row.first ⊎ Contains changed row.second → is_touched changed row ≡ true
      by_item (inl c) = or_left (is_changed changed row.first) (is_changed changed row.second) (in_changed changed row.first c)
      by_item (inr c) = or_right (is_changed changed row.first) (is_changed changed row.second) (in_changed changed row.second c)

  unless_same : (p q : PlainRow) → (Same p q → ⊥) → StandApart p q
  unless_same p q differ = by_case (apart_or_same p q)
    where
      by_case : StandApart p q ⊎ Same p q → StandApart p q
      by_case (inl apart) = apart
      by_case (inr same) = absurd (differ same)

  left_single : (r s : PlainRow) → Left r → Single s → StandApart r s
  left_single r s h k = unless_same r s (λ same. true≢false (sym (single_touched s k) ∙ (sym (touched_alike r s same) ∙ h.untouched)))

  first_paired : (r s : PlainRow) → Left r ⊎ Single r → Paired s → StandApart r s
  first_paired r s (inl h) k = unless_same r s (λ same. true≢false (sym (paired_touched s k) ∙ (sym (touched_alike r s same) ∙ h.untouched)))
  first_paired r s (inr h) k = unless_same r s (λ same. let one = h.0.same in let two = k.0.ordered in let e = same.first in let f = same.second in omega arith)

  on : (row : PlainRow) → Left row ⊎ Single row → IsRow new row
  on row (inl h) = h.is
  on row (inr h) = inr h.0

  back : (row : PlainRow) → IsRow new row → (Left row ⊎ Single row) ⊎ Paired row
  back row h = by_touch (is_touched changed row) refl
    where
      changed_one : (a b : Bool) → is_changed changed row.first ≡ a → is_changed changed row.second ≡ b → (a || b) ≡ true → Contains changed row.first ⊎ Contains changed row.second
      changed_one true b e f t = inl (changed_in changed row.first e)
      changed_one false true e f t = inr (changed_in changed row.second f)
      changed_one false false e f t = absurd (true≢false (sym t))

      itself : row.second ≡ row.first → Contains changed row.first ⊎ Contains changed row.second → Contains changed row.first
      itself e (inl c) = c
      itself e (inr c) = subst (Contains changed) e c

      by_kind : Contains changed row.first ⊎ Contains changed row.second → IsRow new row → (Left row ⊎ Single row) ⊎ Paired row
      by_kind c (inl two) = inr (two, asked new index sound is changed tiles enough row two c)
      by_kind c (inr one) = inl (inr (one, itself one.same c))

      by_touch : (b : Bool) → is_touched changed row ≡ b → (Left row ⊎ Single row) ⊎ Paired row
      by_touch false e = inl (inl (record { is = h; untouched = e }))
      by_touch true e = by_kind (changed_one (is_changed changed row.first) (is_changed changed row.second) refl refl e) h

  -- the law of kept rows: those that are left, those of single items that changed, and those of the tiles are the rows after the change
  pub updated : (rows singles pairs : List PlainRow) → AreRows old rows → AreSingles new changed singles → AreOnceWhere (IsOfTiles new index tiles changed) pairs
      → AreOnceWhere (IsRow new) ((filter (λ row. not (is_touched changed row)) rows ++ singles) ++ pairs)
  updated rows singles pairs r s p =
      once_append (λ row. Left row ⊎ Single row) Paired (IsRow new) (filter (λ row. not (is_touched changed row)) rows ++ singles) pairs first_paired on (λ row h. inl h.0) back
      (once_append Left Single (λ row. Left row ⊎ Single row) (filter (λ row. not (is_touched changed row)) rows) singles left_single (λ row h. inl h) (λ row h. inr h) (λ row h. h) (left_once old new changed step rows r) (once_from_rows Single singles s)) p

  pub rows_updated : (rows singles pairs after : List PlainRow) → AreRows old rows → AreSingles new changed singles → AreOnceWhere (IsOfTiles new index tiles changed) pairs
      → IsPermutation ((filter (λ row. not (is_touched changed row)) rows ++ singles) ++ pairs) after → AreInOrder after → AreRows new after
  rows_updated rows singles pairs after r s p same order = rows_from_once (IsRow new) after order (once_permutation (IsRow new) ((filter (λ row. not (is_touched changed row)) rows ++ singles) ++ pairs) after same (updated rows singles pairs r s p))
