-- Rows in any order, and what a sort makes of them.
use Rattle.std.proofs.Common.{◌≡◌, ◌≢◌, ◌⊎◌, ℕ, ◌<◌, List, true, length, get_or, inl, inr, refl, sym, subst, ap, ◌∙◌, arith, true≢false}
use Rattle.std.specs.List.{AllPairs, swap}
use Rattle.std.specs.List.Sorted.{IsPermutation, IsSortedByKey}
use Rattle.std.specs.Ordering.{is_lt, nat_cmp, ordering_then}
use Rattle.std.specs.declared.cmp.Ordering.{Ordering}
use Rattle.std.proofs.lemmas.Bool.{cases_order}
use Rattle.std.proofs.lemmas.List.Edits.{Swapped, swapped_from_swap, length-swap}
use Rattle.std.proofs.lemmas.List.Sorted.{IsPermutation-keeps, All-permutation, Contains-permutation, sorted_far, ranks_by}
use Rattle.std.specs.Cmp.{IsTotalOrder}
use Rattle.std.proofs.lemmas.Bool.Decides.{nat_tests}
use Rattle.std.proofs.lemmas.Cmp.{nat_cmp_total, then_total, on_total}
use Rattle.cond_lang.specs.CheckKinds.{kind_number}
use Rattle.pair_check.specs.PlainRow.{PlainRow}
use Rattle.pair_check.specs.Rows.{Before, AreRowsWhere}
use Rattle.row_check.specs.declared.order.Place.{Place}
use Rattle.row_check.specs.Whole.{StandApart, AreOnceWhere, AreInOrder, place_of}

-- two rows stand at one place
pub record Same (r s : PlainRow) : Type 0 where
  pub first : r.first ≡ s.first
  pub second : r.second ≡ s.second
  pub kind : kind_number r.kind ≡ kind_number s.kind

pub apart_or_same : (r s : PlainRow) → StandApart r s ⊎ Same r s
apart_or_same r s = by_first (cases_order r.first s.first)
  where
    by_kind : r.first ≡ s.first → r.second ≡ s.second → (kind_number r.kind ≡ kind_number s.kind) ⊎ ((kind_number r.kind < kind_number s.kind) ⊎ (kind_number s.kind < kind_number r.kind)) → StandApart r s ⊎ Same r s
    by_kind e f (inl g) = inr (record { first = e; second = f; kind = g })
    by_kind e f (inr (inl h)) = inl (inl (inr (inr (e, f, h))))
    by_kind e f (inr (inr h)) = inl (inr (inr (inr (sym e, sym f, h))))

    by_second : r.first ≡ s.first → (r.second ≡ s.second) ⊎ ((r.second < s.second) ⊎ (s.second < r.second)) → StandApart r s ⊎ Same r s
    by_second e (inl f) = by_kind e f (cases_order (kind_number r.kind) (kind_number s.kind))
    by_second e (inr (inl h)) = inl (inl (inr (inl (e, h))))
    by_second e (inr (inr h)) = inl (inr (inr (inl (sym e, h))))

    by_first : (r.first ≡ s.first) ⊎ ((r.first < s.first) ⊎ (s.first < r.first)) → StandApart r s ⊎ Same r s
    by_first (inl e) = by_second e (cases_order r.second s.second)
    by_first (inr (inl h)) = inl (inl (inl h))
    by_first (inr (inr h)) = inl (inr (inl h))

-- rows that are not at one place
pub apart_from : (r s : PlainRow) → (r.first ≡ s.first → r.second ≡ s.second → ⊥) → StandApart r s
apart_from r s differ = by_case (apart_or_same r s)
  where
    by_case : StandApart r s ⊎ Same r s → StandApart r s
    by_case (inl h) = h
    by_case (inr h) = absurd (differ h.first h.second)

apart_back : (r s : PlainRow) → StandApart r s → StandApart s r
apart_back r s (inl h) = inr h
apart_back r s (inr h) = inl h

pub once_from_rows : (P : PlainRow → Type 0) (rows : List PlainRow) → AreRowsWhere P rows → AreOnceWhere P rows
once_from_rows P rows r = record { apart = λ i j d lt long. inl (r.ordered i j d lt long); only = r.only; all = r.all }

pub rows_from_once : (P : PlainRow → Type 0) (rows : List PlainRow) → AreInOrder rows → AreOnceWhere P rows → AreRowsWhere P rows
rows_from_once P rows order r = record { ordered = λ i j d lt long. by_side (get_or rows i d) (get_or rows j d) (order i j d lt long) (r.apart i j d lt long); only = r.only; all = r.all }
  where
    by_side : (a b : PlainRow) → ¬ (Before b a) → StandApart a b → Before a b
    by_side a b not_back (inl h) = h
    by_side a b not_back (inr h) = absurd (not_back h)

pub once_like : (P Q : PlainRow → Type 0) (rows : List PlainRow) → ((row : PlainRow) → P row → Q row) → ((row : PlainRow) → Q row → P row) → AreOnceWhere P rows → AreOnceWhere Q rows
once_like P Q rows on back r = record { apart = r.apart; only = λ k d lt. on (get_or rows k d) (r.only k d lt); all = λ row q. r.all row (back row q) }

abbrev pub place_cmp : Place → Place → Ordering
place_cmp p q = ordering_then (nat_cmp p.first q.first) (ordering_then (nat_cmp p.second q.second) (nat_cmp p.kind q.kind))

place_total : IsTotalOrder place_cmp
place_total = then_total (on_total (λ (p : Place). p.first) nat_cmp_total) (then_total (on_total (λ (p : Place). p.second) nat_cmp_total) (on_total (λ (p : Place). p.kind) nat_cmp_total))

before_less : (r s : PlainRow) → Before r s → is_lt (place_cmp (place_of r) (place_of s)) ≡ true
before_less r s (inl h) = grind (arith, nat_tests)
before_less r s (inr (inl h)) = grind (arith, nat_tests)
before_less r s (inr (inr h)) = grind (arith, nat_tests)

pub in_order_from_sorted : (rows : List PlainRow) → IsSortedByKey place_of place_cmp rows → AreInOrder rows
in_order_from_sorted rows up i j d lt long h =
    let less = before_less (get_or rows j d) (get_or rows i d) h in
    let not_less = sorted_far (λ x y. is_lt (place_cmp (place_of x) (place_of y))) (ranks_by place_total place_of) rows up i j d (omega arith) long in
    true≢false (sym less ∙ not_less)

-- ---- a list in another order

-- where a place went when a and b changed places
moved_place : {K : Type 0} (f g : ℕ → K) (a b n : ℕ) → Swapped f g a b → a < n → b < n → (p : ℕ) → p < n → (s : ℕ) × (s < n) × (g p ≡ f s) × (p ≡ a → s ≡ b) × (p ≡ b → s ≡ a) × ((p ≡ a → ⊥) → (p ≡ b → ⊥) → s ≡ p)
moved_place f g a b n sw la lb p lp = by_a (eq_or p a)
  where
    eq_or : (m k : ℕ) → (m ≡ k) ⊎ (m ≢ k)
    eq_or m k = grind arith

    by_b : p ≢ a → (p ≡ b) ⊎ (p ≢ b) → (s : ℕ) × (s < n) × (g p ≡ f s) × (p ≡ a → s ≡ b) × (p ≡ b → s ≡ a) × ((p ≡ a → ⊥) → (p ≡ b → ⊥) → s ≡ p)
    by_b na (inl eb) = (a, la, ap g eb ∙ sw.1, (λ e. absurd (na e)), (λ _. refl), (λ u v. absurd (v eb)))
    by_b na (inr nb) = (p, lp, sw.2 p na nb, (λ e. absurd (na e)), (λ e. absurd (nb e)), (λ u v. refl))

    by_a : (p ≡ a) ⊎ (p ≢ a) → (s : ℕ) × (s < n) × (g p ≡ f s) × (p ≡ a → s ≡ b) × (p ≡ b → s ≡ a) × ((p ≡ a → ⊥) → (p ≡ b → ⊥) → s ≡ p)
    by_a (inl ea) = (b, lb, ap g ea ∙ sw.0, (λ _. refl), (λ eb. omega arith), (λ u v. absurd (u ea)))
    by_a (inr na) = by_b na (eq_or p b)

-- two places go to two places
images_differ : (a b i j s t : ℕ) → (i ≡ j → ⊥) → (i ≡ a → s ≡ b) → (i ≡ b → s ≡ a) → ((i ≡ a → ⊥) → (i ≡ b → ⊥) → s ≡ i) → (j ≡ a → t ≡ b) → (j ≡ b → t ≡ a) → ((j ≡ a → ⊥) → (j ≡ b → ⊥) → t ≡ j) → s ≡ t → ⊥
images_differ a b i j s t ne p q r x y z e = grind arith

apart_either : (rows : List PlainRow) (s t : ℕ) (d : PlainRow) → AllPairs StandApart rows → (s ≡ t → ⊥) → s < length rows → t < length rows → StandApart (get_or rows s d) (get_or rows t d)
apart_either rows s t d h ne ls lt = by_order (cases_order s t)
  where
    by_order : (s ≡ t) ⊎ ((s < t) ⊎ (t < s)) → StandApart (get_or rows s d) (get_or rows t d)
    by_order (inl e) = absurd (ne e)
    by_order (inr (inl l)) = h s t d l lt
    by_order (inr (inr l)) = apart_back (get_or rows t d) (get_or rows s d) (h t s d l ls)

apart_swap : (rows : List PlainRow) (a b : ℕ) → a < length rows → b < length rows → AllPairs StandApart rows → AllPairs StandApart (swap rows a b)
apart_swap rows a b la lb h i j d ij lj =
    let n = length rows in
    let long = length-swap rows a b in
    let sw = swapped_from_swap rows (swap rows a b) a b d la lb refl in
    let u = moved_place (λ k. get_or rows k d) (λ k. get_or (swap rows a b) k d) a b n sw la lb i (omega arith) in
    let v = moved_place (λ k. get_or rows k d) (λ k. get_or (swap rows a b) k d) a b n sw la lb j (omega arith) in
    let apart = apart_either rows u.0 v.0 d h (images_differ a b i j u.0 v.0 (λ e. omega arith) u.3 u.4 u.5 v.3 v.4 v.5) u.1 v.1 in
    subst (λ (x : PlainRow). StandApart x (get_or (swap rows a b) j d)) (sym u.2) (subst (λ (y : PlainRow). StandApart (get_or rows u.0 d) y) (sym v.2) apart)

pub once_permutation : (P : PlainRow → Type 0) (xs ys : List PlainRow) → IsPermutation xs ys → AreOnceWhere P xs → AreOnceWhere P ys
once_permutation P xs ys p r = record {
  apart = IsPermutation-keeps xs (AllPairs StandApart) r.apart (λ l a b la lb h. apart_swap l a b la lb h) ys p;
  only = All-permutation P xs ys p r.only;
  all = λ row h. Contains-permutation xs ys row p (r.all row h);
}
