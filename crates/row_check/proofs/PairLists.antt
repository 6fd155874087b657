-- The rows of lists of pairs that rise.
use Rattle.std.proofs.Common.{◌≡◌, ◌∙◌, ap, sym, subst, refl, ℕ, ◌<◌, ◌⊎◌, inl, inr, List, [], ◌∷◌, ◌++◌, map, take, length, get_or, arith}
use Rattle.std.specs.List.{filter, All, AllPairs, Contains}
use Rattle.std.proofs.lemmas.List.{get_or-take, length-take}
use Rattle.std.proofs.lemmas.List.Elements.{All-nil, All-head, All-tail, All-append, All-map, All-weaker, Contains-append_left, Contains-append_right, Contains-append_cases}
use Rattle.std.proofs.lemmas.List.Kept.{AllPairs-cons, AllPairs-filter}
use Rattle.box_index.specs.declared.entry.Entry.{Entry}
use Rattle.box_index.specs.Tiles.{PlainIndex, IsRising}
use Rattle.box_index.proofs.EntryLists.{pairs_first, pairs_rest}
use Rattle.pair_check.specs.PlainRow.{PlainRow}
use Rattle.pair_check.specs.Rows.{Checked, IsRowOfTwo, Before, AreRowsOfPair}
use Rattle.row_check.specs.RowsOfTile.{pairs_of}
use Rattle.row_check.specs.EntryWalks.{is_owned, pairs_with, IsOfOne, AreRowsOfPairs}
use Rattle.board_index.proofs.OneList.{here, nothing, cons_case}
use Rattle.row_check.proofs.RowLists.{pairs_append, across, no_rows, alike, joined}

abbrev pub Pair : Type 0
Pair = Entry × Entry

-- one pair comes before another
abbrev pub Comes : Pair → Pair → Type 0
Comes p q = (p.0.id < q.0.id) ⊎ ((p.0.id ≡ q.0.id) × (p.1.id < q.1.id))

pairs_map : {X Y : Type 0} (R : Y → Y → Type 0) (f : X → Y) (xs : List X) → AllPairs (λ a b. R (f a) (f b)) xs → AllPairs R (map f xs)
pairs_map {X} R f [] h = λ i j d l m. absurd (omega arith)
pairs_map {X} R f (x ∷ xs) h =
    AllPairs-cons R (f x) (map f xs) (All-map (R (f x)) f xs (pairs_first (λ a b. R (f a) (f b)) x xs h)) (pairs_map R f xs (pairs_rest (λ a b. R (f a) (f b)) x xs h))

-- those of one entry rise where the others do
pub with_rise : (index : PlainIndex) (tile : ℕ) (first : Entry) (others : List Entry) → IsRising (first ∷ others) → AllPairs Comes (pairs_with index tile first others)
with_rise index tile first others r =
    let R : Entry → Entry → Type 0 = λ a b. a.id < b.id in
    let f : Entry → Pair = λ b. (first, b) in
    let kept = AllPairs-filter R (is_owned index tile first) others (pairs_rest R first others r) in
    pairs_map Comes f (filter (is_owned index tile first) others) (λ i j d l m. inr (refl, kept i j d l m))

pub pairs_take : {X : Type 0} (R : X → X → Type 0) (k : ℕ) (xs : List X) → AllPairs R xs → AllPairs R (take k xs)
pairs_take R k xs h = λ i j d l m.
    let lt : j < k = omega (arith, length-take k xs) in
    let le : j < length xs = omega (arith, length-take k xs) in
    subst (λ x. R x (get_or (take k xs) j d)) (sym (get_or-take k xs i d (omega arith))) (subst (λ y. R (get_or xs i d) y) (sym (get_or-take k xs j d lt)) (h i j d l le))

-- the pairs of a list rise where its ids do
abbrev firsts_from : Entry → Pair → Type 0
firsts_from x p = x.id < p.0.id

later_firsts : (x : Entry) (xs : List Entry) → All (λ (y : Entry). x.id < y.id) xs → All (firsts_from x) (pairs_of xs)
later_firsts x [] h = All-nil (firsts_from x)
later_firsts x (y ∷ xs) h =
    let P : Entry → Type 0 = λ z. x.id < z.id in
    let f : Entry → Pair = λ z. (y, z) in
    All-append (firsts_from x) (map f xs) (pairs_of xs) (All-map (firsts_from x) f xs (λ k d l. All-head P y xs h)) (later_firsts x xs (All-tail P y xs h))

pub pairs_rise : (xs : List Entry) → IsRising xs → AllPairs Comes (pairs_of xs)
pairs_rise [] r = λ i j d l m. absurd (omega arith)
pairs_rise (x ∷ xs) r =
    let R : Entry → Entry → Type 0 = λ a b. a.id < b.id in
    let f : Entry → Pair = λ y. (x, y) in
    let rest = pairs_rest R x xs r in
    pairs_append Comes (map f xs) (pairs_of xs)
    (pairs_map Comes f xs (λ i j d l m. inr (refl, rest i j d l m)))
    (pairs_rise xs rest)
    (All-map (λ p. All (Comes p) (pairs_of xs)) f xs (λ k e l. All-weaker (firsts_from x) (Comes (x, get_or xs k e)) (λ p h. inl h) (pairs_of xs) (later_firsts x xs (pairs_first R x xs r))))

-- ---- rows
rows_rise : (p q : Pair) (r s : PlainRow) → Comes p q → r.first ≡ p.0.id → r.second ≡ p.1.id → s.first ≡ q.0.id → s.second ≡ q.1.id → Before r s
rows_rise p q r s (inl l) a b c d = inl (omega (arith, a, c))
rows_rise p q r s (inr l) a b c d = inr (inl (a ∙ l.0 ∙ sym c, omega (arith, l.1, b, d)))

module _ (c : Checked) where
  abbrev pub Passes : List Pair → PlainRow → Type 0
  Passes ps row = IsRowOfTwo c row × IsOfOne ps row

  pub no_pairs : AreRowsOfPairs c [] []
  no_pairs = no_rows (Passes []) (λ row h. nothing h.1.pair h.1.among)

  pub join_pairs : (ps qs : List Pair) (xs ys : List PlainRow) → AllPairs Comes (ps ++ qs) → AreRowsOfPairs c ps xs → AreRowsOfPairs c qs ys → AreRowsOfPairs c (ps ++ qs) (xs ++ ys)
  join_pairs ps qs xs ys rise p q = joined (Passes ps) (Passes qs) (Passes (ps ++ qs)) xs ys before on_p on_q back p q
    where
      before : (r s : PlainRow) → Passes ps r → Passes qs s → Before r s
      before r s h k = rows_rise h.1.pair k.1.pair r s (across Comes ps qs rise h.1.pair k.1.pair h.1.among k.1.among) h.1.first h.1.second k.1.first k.1.second

      on_p : (row : PlainRow) → Passes ps row → Passes (ps ++ qs) row
      on_p row h = (h.0, record { pair = h.1.pair; among = Contains-append_left ps qs h.1.pair h.1.among; first = h.1.first; second = h.1.second })

      on_q : (row : PlainRow) → Passes qs row → Passes (ps ++ qs) row
      on_q row h = (h.0, record { pair = h.1.pair; among = Contains-append_right ps qs h.1.pair h.1.among; first = h.1.first; second = h.1.second })

      back : (row : PlainRow) → Passes (ps ++ qs) row → Passes ps row ⊎ Passes qs row
      back row h = by_case (Contains-append_cases ps qs h.1.pair h.1.among)
        where
          by_case : Contains ps h.1.pair ⊎ Contains qs h.1.pair → Passes ps row ⊎ Passes qs row
          by_case (inl k) = inl (h.0, record { pair = h.1.pair; among = k; first = h.1.first; second = h.1.second })
          by_case (inr k) = inr (h.0, record { pair = h.1.pair; among = k; first = h.1.first; second = h.1.second })

  pub one_pair : (a b : Entry) (rows : List PlainRow) → AreRowsOfPair c a.id b.id rows → AreRowsOfPairs c ((a, b) ∷ []) rows
  one_pair a b rows r = alike (λ row. IsRowOfTwo c row × (row.first ≡ a.id) × (row.second ≡ b.id)) (Passes ((a, b) ∷ [])) rows on back r
    where
      p : Pair
      p = (a, b)

      on : (row : PlainRow) → IsRowOfTwo c row × (row.first ≡ a.id) × (row.second ≡ b.id) → Passes (p ∷ []) row
      on row h = (h.0, record { pair = p; among = here p []; first = h.1; second = h.2 })

      back : (row : PlainRow) → Passes (p ∷ []) row → IsRowOfTwo c row × (row.first ≡ a.id) × (row.second ≡ b.id)
      back row h = by_case (cons_case p h.1.pair [] h.1.among)
        where
          by_case : (p ≡ h.1.pair) ⊎ Contains [] h.1.pair → IsRowOfTwo c row × (row.first ≡ a.id) × (row.second ≡ b.id)
          by_case (inl e) = (h.0, h.1.first ∙ sym (ap (λ (q : Pair). q.0.id) e), h.1.second ∙ sym (ap (λ (q : Pair). q.1.id) e))
          by_case (inr k) = absurd (nothing h.1.pair k)
