-- Lists of rows in order: put end to end, and told by their rows.
use Rattle.std.proofs.Common.{◌≡◌, ◌⊎◌, List, [], ◌∷◌, ◌++◌, get_or, inl, inr, subst, arith}
use Rattle.std.specs.List.{All, AllPairs, Contains}
use Rattle.std.proofs.lemmas.List.Elements.{All-nil, All-head, All-tail, All-append, All-weaker, All-contains, Contains-get_or, Contains-append_left, Contains-append_right}
use Rattle.std.proofs.lemmas.List.Kept.{AllPairs-cons}
use Rattle.box_index.proofs.EntryLists.{pairs_first, pairs_rest}
use Rattle.board_index.proofs.OneList.{nothing, cons_case}
use Rattle.pair_check.specs.PlainRow.{PlainRow}
use Rattle.pair_check.specs.Rows.{Before, AreRowsWhere}

-- ---- lists
module _ {X : Type 0} where
  pub pairs_append : (R : X → X → Type 0) (xs ys : List X) → AllPairs R xs → AllPairs R ys → All (λ x. All (R x) ys) xs → AllPairs R (xs ++ ys)
  pairs_append R [] ys h g k = g
  pairs_append R (x ∷ xs) ys h g k =
      AllPairs-cons R x (xs ++ ys) (All-append (R x) xs ys (pairs_first R x xs h) (All-head (λ z. All (R z) ys) x xs k))
      (pairs_append R xs ys (pairs_rest R x xs h) g (All-tail (λ z. All (R z) ys) x xs k))

  pub pairs_prefix : (R : X → X → Type 0) (xs ys : List X) → AllPairs R (xs ++ ys) → AllPairs R xs
  pairs_prefix R [] ys h = λ i j d l m. absurd (omega arith)
  pairs_prefix R (x ∷ xs) ys h =
      let first = pairs_first R x (xs ++ ys) h in
      AllPairs-cons R x xs (λ k d l. All-contains (R x) (xs ++ ys) (get_or xs k d) first (Contains-append_left xs ys (get_or xs k d) (Contains-get_or xs k d l))) (pairs_prefix R xs ys (pairs_rest R x (xs ++ ys) h))

  -- what stands in the prefix with what stands behind it
  pub across : (R : X → X → Type 0) (xs ys : List X) → AllPairs R (xs ++ ys) → (x y : X) → Contains xs x → Contains ys y → R x y
  across R [] ys h x y cx cy = absurd (nothing x cx)
  across R (z ∷ xs) ys h x y cx cy = by_case (λ k. across R xs ys (pairs_rest R z (xs ++ ys) h) x y k cy) (cons_case z x xs cx)
    where
      by_case : (Contains xs x → R x y) → (z ≡ x) ⊎ Contains xs x → R x y
      by_case again (inl e) = subst (λ w. R w y) e (All-contains (R z) (xs ++ ys) y (pairs_first R z (xs ++ ys) h) (Contains-append_right xs ys y cy))
      by_case again (inr k) = again k

-- ---- rows
pub no_rows : (P : PlainRow → Type 0) → ((row : PlainRow) → P row → ⊥) → AreRowsWhere P []
no_rows P none = record { ordered = λ i j d l m. absurd (omega arith); only = All-nil P; all = λ row h. absurd (none row h) }

pub alike : (P Q : PlainRow → Type 0) (rows : List PlainRow) → ((row : PlainRow) → P row → Q row) → ((row : PlainRow) → Q row → P row) → AreRowsWhere P rows → AreRowsWhere Q rows
alike P Q rows on back r = record { ordered = r.ordered; only = All-weaker P Q on rows r.only; all = λ row h. r.all row (back row h) }

pub joined : (P Q R : PlainRow → Type 0) (xs ys : List PlainRow) → ((r s : PlainRow) → P r → Q s → Before r s) → ((row : PlainRow) → P row → R row) → ((row : PlainRow) → Q row → R row) → ((row : PlainRow) → R row → P row ⊎ Q row)
    → AreRowsWhere P xs → AreRowsWhere Q ys → AreRowsWhere R (xs ++ ys)
joined P Q R xs ys before on_p on_q back p q = record {
  ordered = pairs_append Before xs ys p.ordered q.ordered (All-weaker P (λ r. All (Before r) ys) (λ r h. All-weaker Q (Before r) (λ s k. before r s h k) ys q.only) xs p.only);
  only = All-append R xs ys (All-weaker P R on_p xs p.only) (All-weaker Q R on_q ys q.only);
  all = λ row h. by_side row (back row h);
}
  where
    by_side : (row : PlainRow) → P row ⊎ Q row → Contains (xs ++ ys) row
    by_side row (inl h) = Contains-append_left xs ys row (p.all row h)
    by_side row (inr h) = Contains-append_right xs ys row (q.all row h)
