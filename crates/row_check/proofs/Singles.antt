-- Rows of single items, put end to end.
use Rattle.std.proofs.Common.{◌≡◌, ◌⊎◌, inl, inr, sym, ap, subst, ◌∙◌, ℕ, ◌+◌, ◌<◌, ◌≤◌, List, [], ◌∷◌, ◌++◌, take, length, get_or, None, Some}
use Rattle.std.specs.List.{Contains}
use Rattle.std.specs.List.Sorted.{IsStrictlyIncreasing}
use Rattle.std.proofs.lemmas.List.{take_more, take_all, append_assoc, append-nil}
use Rattle.std.proofs.lemmas.List.Elements.{Contains-append_left, Contains-push, Contains-push_cases}
use Rattle.one_item.specs.declared.item.Item.{Item}
use Rattle.board_items.specs.Boards.{item_at}
use Rattle.pair_check.specs.PlainRow.{PlainRow}
use Rattle.pair_check.specs.Alone.{BreaksNothing}
use Rattle.pair_check.specs.Singles.{BreaksAlone}
use Rattle.pair_check.specs.Rows.{Checked, deciders, IsRowOfOne, AreRowsOfItem}
use Rattle.row_check.specs.EntryWalks.{HasAddedRows}
use Rattle.row_check.specs.Whole.{AreSingles}
use Rattle.board_index.proofs.OneList.{nothing}
use Rattle.row_check.proofs.RowLists.{no_rows, joined}
use Rattle.row_check.proofs.WholeRows.{below_next}

pub nothing_more : (P : List PlainRow → Type 0) (rows : List PlainRow) → P [] → HasAddedRows P rows rows
nothing_more P rows p = record { more = []; is = sym (append-nil rows); pass = p }

missing : (item : Item) → None ≡ Some item → ⊥
missing item e = cc

-- an id without an item has no rows
pub no_single : (c : Checked) (id : ℕ) → item_at c.board.items id ≡ None → AreRowsOfItem c id []
no_single c id e = no_rows (λ row. IsRowOfOne c row × (row.first ≡ id)) (λ row h. missing h.0.item (sym e ∙ (sym (ap (item_at c.board.items) h.1) ∙ h.0.first.item_is)))

same_item : (item other : Item) → Some item ≡ Some other → item ≡ other
same_item item other e = cc

-- neither has one that breaks nothing
pub no_broken : (c : Checked) (id : ℕ) (item : Item) → item_at c.board.items id ≡ Some item → BreaksNothing (deciders c) item → AreRowsOfItem c id []
no_broken c id item e nothing = no_rows (λ row. IsRowOfOne c row × (row.first ≡ id)) not_broken
  where
    not_broken : (row : PlainRow) → IsRowOfOne c row × (row.first ≡ id) → ⊥
    not_broken row h =
        let same = same_item h.0.item item (sym h.0.first.item_is ∙ (ap (item_at c.board.items) h.1 ∙ e)) in
        nothing.none h.0.facts row.kind row (subst (λ (i : Item). BreaksAlone (deciders c) row.kind i h.0.facts row) same h.0.broken)

module _ (c : Checked) (ids : List ℕ) (up : IsStrictlyIncreasing ids) where
  pub no_singles : AreSingles c [] []
  no_singles = no_rows (λ row. IsRowOfOne c row × Contains [] row.first) (λ row h. nothing row.first h.1)

  module _ (k : ℕ) (l : k < length ids) where
    singles_on : (xs ys : List PlainRow) → AreSingles c (take k ids) xs → AreRowsOfItem c (get_or ids k 0) ys → AreSingles c (take (k + 1) ids) (xs ++ ys)
    singles_on xs ys p q =
        subst (λ ns. AreSingles c ns (xs ++ ys)) (sym (take_more ids k 0 l))
        (joined (λ row. IsRowOfOne c row × Contains (take k ids) row.first) (λ row. IsRowOfOne c row × (row.first ≡ get_or ids k 0)) (λ row. IsRowOfOne c row × Contains (take k ids ++ get_or ids k 0 ∷ []) row.first) xs ys
        (λ r s h g. let less = below_next ids k up l r.first h.1 in inl (subst (λ n. r.first < n) (sym g.1) less))
        (λ row h. (h.0, Contains-append_left (take k ids) (get_or ids k 0 ∷ []) row.first h.1))
        (λ row h. (h.0, subst (Contains (take k ids ++ get_or ids k 0 ∷ [])) (sym h.1) (Contains-push (take k ids) (get_or ids k 0))))
        (λ row h. by row h.0 (Contains-push_cases (take k ids) (get_or ids k 0) row.first h.1)) p q)
      where
        by : (row : PlainRow) → IsRowOfOne c row → Contains (take k ids) row.first ⊎ (get_or ids k 0 ≡ row.first) → (IsRowOfOne c row × Contains (take k ids) row.first) ⊎ (IsRowOfOne c row × (row.first ≡ get_or ids k 0))
        by row one (inl m) = inl (one, m)
        by row one (inr e) = inr (one, sym e)

    pub one_single_more : (old rows now : List PlainRow) → HasAddedRows (AreRowsOfItem c (get_or ids k 0)) rows now → HasAddedRows (AreSingles c (take k ids)) old rows → HasAddedRows (AreSingles c (take (k + 1) ids)) old now
    one_single_more old rows now more so_far = record {
      more = so_far.more ++ more.more;
      is = more.is ∙ (ap (λ rs. rs ++ more.more) so_far.is ∙ append_assoc old so_far.more more.more);
      pass = singles_on so_far.more more.more so_far.pass more.pass;
    }

  pub all_singles : (k : ℕ) (old rows : List PlainRow) → length ids ≤ k → HasAddedRows (AreSingles c (take k ids)) old rows → HasAddedRows (AreSingles c ids) old rows
  all_singles k old rows l h = record { more = h.more; is = h.is; pass = subst (λ ns. AreSingles c ns h.more) (take_all k ids l) h.pass }
