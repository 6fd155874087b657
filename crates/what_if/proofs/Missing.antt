-- Rows of one list that do not stand in another.
use Rattle.std.proofs.Common.{◌≡◌, ◌≢◌, ◌⊎◌, ℕ, ◌+◌, ◌<◌, ◌≤◌, List, [], ◌∷◌, ◌++◌, length, get_or, Bool, true, false, not, cond, Some, take, append-nil, inl, inr, refl, sym, subst, ap, ◌∙◌, arith, rules, true≢false, IsTrue}
use Rattle.std.specs.List.{AllPairs, list_any, slice_get, filter}
use Rattle.std.proofs.lemmas.Bool.{cases_order, not-true, not_from_false}
use Rattle.std.proofs.lemmas.List.{get_or_default}
use Rattle.std.proofs.lemmas.List.Elements.{All-filter, filter_passes, filter_more}
use Rattle.std.proofs.lemmas.List.Folds.{list_any_none, list_any_at}
use Rattle.std.proofs.lemmas.List.Kept.{AllPairs-filter}
use Rattle.std.proofs.lemmas.Option.{slice_get-get_or, slice_get_within, get_or_from_slice_get}
use Rattle.box_index.proofs.Buckets.{contains_filter}
use Rattle.pair_check.specs.PlainRow.{PlainRow}
use Rattle.pair_check.specs.Rows.{Before, IsRow, AreRows, AreRowsWhere}
use Rattle.pair_check.specs.SameRows.{same_rows}
use Rattle.pair_check.proofs.SameRow.{same_is}
use Rattle.drc_state.specs.States.{State, checked_in}
use Rattle.what_if.specs.Trials.{AreRowsOnlyIn, rows_not_in}

-- ---- the order of rows

pub before_trans : (a b c : PlainRow) → Before a b → Before b c → Before a c
before_trans a b c (inl h) (inl k) = inl (omega arith)
before_trans a b c (inl h) (inr (inl k)) = let p = k.0 in inl (omega arith)
before_trans a b c (inl h) (inr (inr k)) = let p = k.0 in inl (omega arith)
before_trans a b c (inr (inl h)) (inl k) = let p = h.0 in inl (omega arith)
before_trans a b c (inr (inl h)) (inr (inl k)) = let p = h.1 in let q = k.1 in inr (inl (h.0 ∙ k.0, omega arith))
before_trans a b c (inr (inl h)) (inr (inr k)) = let p = h.1 in let q = k.1 in inr (inl (h.0 ∙ k.0, omega arith))
before_trans a b c (inr (inr h)) (inl k) = let p = h.0 in inl (omega arith)
before_trans a b c (inr (inr h)) (inr (inl k)) = let p = h.1 in let q = k.1 in inr (inl (h.0 ∙ k.0, omega arith))
before_trans a b c (inr (inr h)) (inr (inr k)) = let p = h.2 in let q = k.2 in inr (inr (h.0 ∙ k.0, h.1 ∙ k.1, omega arith))

not_itself : (row : PlainRow) → Before row row → ⊥
not_itself row (inl h) = omega arith
not_itself row (inr (inl h)) = let p = h.1 in omega arith
not_itself row (inr (inr h)) = let p = h.2 in omega arith

-- ---- whether a row stands among others

holds : (b : Bool) → b ≡ true → IsTrue b
holds b e = rw e

truth : (b : Bool) → IsTrue b → b ≡ true
truth b h = search (rules, h)

untrue : (b : Bool) → (b ≡ true → ⊥) → b ≡ false
untrue true h = absurd (h refl)
untrue false h = refl

same_to : (p q : PlainRow) → same_rows p q ≡ true → p ≡ q
same_to p q e = (same_is p q).0 (holds (same_rows p q) e)

to_same : (p q : PlainRow) → p ≡ q → same_rows p q ≡ true
to_same p q e = truth (same_rows p q) ((same_is p q).1 e)

among_at : (others : List PlainRow) (row : PlainRow) (k : ℕ) → k < length others → get_or others k row ≡ row → list_any (λ other. same_rows other row) others ≡ true
among_at others row k lt e = list_any_at (λ other. same_rows other row) others k row lt (to_same (get_or others k row) row e)

among_none : (others : List PlainRow) (row : PlainRow) → ((k : ℕ) (d : PlainRow) → k < length others → get_or others k d ≡ row → ⊥) → list_any (λ other. same_rows other row) others ≡ false
among_none others row none = list_any_none (λ other. same_rows other row) others (λ k d lt. untrue (same_rows (get_or others k d) row) (λ e. none k d lt (same_to (get_or others k d) row e)))

-- the row stands at this place
pub found : (others : List PlainRow) (row : PlainRow) (at : ℕ) → slice_get others at ≡ Some row → rows_not_in others (row ∷ []) ≡ []
found others row at e = ap (λ b. cond (not b) (row ∷ []) []) (among_at others row at (slice_get_within others at row e) (get_or_from_slice_get others at row row e))

-- it does not stand at the first place that is not before it, so it stands nowhere
pub absent : (others : List PlainRow) (row : PlainRow) (at : ℕ) → AllPairs Before others → ((k : ℕ) (d : PlainRow) → k < at → Before (get_or others k d) row) → ((d : PlainRow) → at < length others → Before (get_or others at d) row → ⊥) → slice_get others at ≢ Some row
    → rows_not_in others (row ∷ []) ≡ row ∷ []
absent others row at ordered before stops missing = ap (λ b. cond (not b) (row ∷ []) []) (among_none others row nowhere)
  where
    by_place : (k : ℕ) (d : PlainRow) → k < length others → get_or others k d ≡ row → (k ≡ at) ⊎ ((k < at) ⊎ (at < k)) → ⊥
    by_place k d lt e (inl same) = missing (subst (λ (j : ℕ). slice_get others j ≡ Some row) same (slice_get-get_or others k d lt ∙ ap (λ r. Some r) e))
    by_place k d lt e (inr (inl less)) = not_itself row (subst (λ (r : PlainRow). Before r row) e (before k d less))
    by_place k d lt e (inr (inr more)) = stops d (omega arith) (subst (λ (r : PlainRow). Before (get_or others at d) r) e (ordered at k d more lt))

    nowhere : (k : ℕ) (d : PlainRow) → k < length others → get_or others k d ≡ row → ⊥
    nowhere k d lt e = by_place k d lt e (cases_order k at)

-- ---- those that pass the one and not the other

-- the rows of the one list that do not stand in the other are those that pass P and not Q
pub only_rows : (P Q : PlainRow → Type 0) (rows others : List PlainRow) → AreRowsWhere P rows → AreRowsWhere Q others → AreRowsWhere (λ row. P row × ¬ (Q row)) (rows_not_in others rows)
only_rows P Q rows others p q = record {
  ordered = AllPairs-filter Before (λ row. not (list_any (λ other. same_rows other row) others)) rows p.ordered;
  only = λ k d lt. (All-filter (λ row. not (list_any (λ other. same_rows other row) others)) P rows p.only k d lt, not_of (get_or (rows_not_in others rows) k d) (filter_passes (λ row. not (list_any (λ other. same_rows other row) others)) rows k d lt));
  all = λ row h. contains_filter (λ row. not (list_any (λ other. same_rows other row) others)) rows row (p.all row h.0) (not_from_false (list_any (λ other. same_rows other row) others) (among_none others row (λ k d lt e. h.1 (subst Q e (q.only k d lt)))));
}
  where
    not_of : (row : PlainRow) → not (list_any (λ other. same_rows other row) others) ≡ true → Q row → ⊥
    not_of row passes is =
        let c = q.all row is in
        true≢false (sym (among_at others row c.0 c.1 c.2) ∙ not-true (list_any (λ other. same_rows other row) others) passes)

-- ---- steps of walks

-- the row at one more place comes before
pub before_more : (others : List PlainRow) (row : PlainRow) (from at : ℕ) → ((k : ℕ) (d : PlainRow) → from ≤ k → k < at → Before (get_or others k d) row) → ((d : PlainRow) → Before (get_or others at d) row) → (k : ℕ) (d : PlainRow) → from ≤ k → k < at + 1 → Before (get_or others k d) row
before_more others row from at below here k d low lt = by_place (cases_order k at)
  where
    by_place : (k ≡ at) ⊎ ((k < at) ⊎ (at < k)) → Before (get_or others k d) row
    by_place (inl e) = subst (λ (j : ℕ). Before (get_or others j d) row) (sym e) (here d)
    by_place (inr (inl less)) = below k d low less
    by_place (inr (inr more)) = absurd (omega arith)

-- a row that stands there adds nothing
pub found_more : (made others : List PlainRow) (row : PlainRow) (at : ℕ) → slice_get others at ≡ Some row → made ≡ made ++ rows_not_in others (row ∷ [])
found_more made others row at e = sym (ap (λ (xs : List PlainRow). made ++ xs) (found others row at e) ∙ append-nil made)

module _ (others rows : List PlainRow) (i old at : ℕ) (row : PlainRow) (lt : i < length rows) (is : row ≡ get_or rows i row) (ordered : AllPairs Before rows)
    (kept : (k j : ℕ) (d : PlainRow) → k < old → i ≤ j → j < length rows → Before (get_or others k d) (get_or rows j d))
    (past : (k : ℕ) (d : PlainRow) → old ≤ k → k < at → Before (get_or others k d) row) where
  at_place : (d : PlainRow) → get_or rows i d ≡ row
  at_place d = get_or_default rows i d row lt ∙ sym is

  -- all that was passed comes before the row
  pub all_before : (k : ℕ) (d : PlainRow) → k < at → Before (get_or others k d) row
  all_before k d less = by_side (cases_order k old)
    where
      by_side : (k ≡ old) ⊎ ((k < old) ⊎ (old < k)) → Before (get_or others k d) row
      by_side (inr (inl h)) = subst (λ (r : PlainRow). Before (get_or others k d) r) (at_place d) (kept k i d h (omega arith) lt)
      by_side (inl e) = past k d (omega arith) less
      by_side (inr (inr h)) = past k d (omega arith) less

  -- and so before each later row
  pub later_before : (k j : ℕ) (d : PlainRow) → k < at → i + 1 ≤ j → j < length rows → Before (get_or others k d) (get_or rows j d)
  later_before k j d less from to = before_trans (get_or others k d) row (get_or rows j d) (all_before k d less) (subst (λ (r : PlainRow). Before r (get_or rows j d)) (at_place d) (ordered i j d (omega arith) to))

-- one more row
pub rows_more : (others rows : List PlainRow) (i : ℕ) (row : PlainRow) (made new : List PlainRow) → i < length rows → row ≡ get_or rows i row → made ≡ rows_not_in others (take i rows) → new ≡ made ++ rows_not_in others (row ∷ []) → new ≡ rows_not_in others (take (i + 1) rows)
rows_more others rows i row made new lt is before added =
    let p : PlainRow → Bool = λ r. not (list_any (λ other. same_rows other r) others) in
    let e : filter p (take (i + 1) rows) ≡ filter p (take i rows) ++ cond (p (get_or rows i row)) (get_or rows i row ∷ []) [] = filter_more p rows i row lt in
    let f : cond (p (get_or rows i row)) (get_or rows i row ∷ []) [] ≡ cond (p row) (row ∷ []) [] = ap (λ (r : PlainRow). cond (p r) (r ∷ []) []) (sym is) in
    added ∙ (ap (λ (xs : List PlainRow). xs ++ rows_not_in others (row ∷ [])) before ∙ sym (e ∙ ap (λ (xs : List PlainRow). filter p (take i rows) ++ xs) f))

-- what holds of the element that was read holds at its place
pub same_at : (rows : List PlainRow) (i : ℕ) (row : PlainRow) (P : PlainRow → Type 0) → i < length rows → row ≡ get_or rows i row → P row → (d : PlainRow) → P (get_or rows i d)
same_at rows i row P lt is holds d = subst P (is ∙ get_or_default rows i row d lt) holds

-- ---- rows of states

pub only_in : (s other : State) (rows others only : List PlainRow) → AreRows (checked_in s) rows → AreRows (checked_in other) others → only ≡ rows_not_in others rows → AreRowsOnlyIn s other only
only_in s other rows others only p q e = subst (λ (xs : List PlainRow). AreRowsOnlyIn s other xs) (sym e) (only_rows (IsRow (checked_in s)) (IsRow (checked_in other)) rows others p q)
