-- Ids that rise.
use Rattle.std.proofs.Common.{◌≡◌, ap, sym, subst, ◌∙◌, ℕ, suc, ◌+◌, ◌<◌, ◌≤◌, true, false, Bool, cond, nat_eq, List, [], ◌∷◌, map, filter, Contains, Some, refl, arith}
use Rattle.std.specs.List.{AllPairs}
use Rattle.std.specs.List.Sorted.{IsStrictlyIncreasing}
use Rattle.std.proofs.lemmas.Bool.{eqb-true}
use Rattle.std.proofs.lemmas.List.Kept.{AllPairs-from_increasing}
use Rattle.one_item.specs.declared.item.Item.{Item}
use Rattle.board_items.specs.Boards.{Rise, item_at, ids_where}
use Rattle.item_facts.specs.NearItems.{DoRise}

pub both_ways : (b : Bool) → b ≡ true → b ≡ false → ⊥
both_ways b e f = cc

-- ---- ids that rise

abbrev Pairs : List ℕ → Type 0
Pairs xs = AllPairs (λ (a b : ℕ). a < b) xs

tail : (x : ℕ) (xs : List ℕ) → Pairs (x ∷ xs) → Pairs xs
tail x xs p i j d h k = p (suc i) (suc j) d (omega arith) (omega arith)

from_low : (low : ℕ) (xs : List ℕ) → Pairs xs → ((y : ℕ) → Contains xs y → low ≤ y) → DoRise low xs
from_low low [] p h = tt
from_low low (x ∷ xs) p h = (
  h x (0, omega arith, refl),
  from_low (x + 1) xs (tail x xs p) (λ y c. let l = subst (λ (z : ℕ). x < z) c.2 (p 0 (suc c.0) y (omega arith) (omega (arith, c.1))) in omega arith),
)

pub do_rise : (xs : List ℕ) → IsStrictlyIncreasing xs → DoRise 0 xs
do_rise xs h = from_low 0 xs (AllPairs-from_increasing xs h) (λ y c. omega arith)

pub lower : (low high : ℕ) (ids : List ℕ) → low ≤ high → DoRise high ids → DoRise low ids
lower low high [] le h = tt
lower low high (x ∷ ids) le h = let first = h.0 in (omega arith, h.1)

-- ---- ids of the items that pass a test

module _ (test : Item → Bool) where
  abbrev ids_if : Bool → ℕ × Item → List (ℕ × Item) → List ℕ
  ids_if b e es = map (λ (x : ℕ × Item). x.0) (cond b (e ∷ filter (λ (x : ℕ × Item). test x.1) es) (filter (λ (x : ℕ × Item). test x.1) es))

  pub ids_rise : (low high : ℕ) (es : List (ℕ × Item)) → Rise low high es → DoRise low (ids_where test es)
  ids_rise low high [] rise = tt
  ids_rise low high (e ∷ es) rise = by (test e.1) (ids_rise (e.0 + 1) high es rise.1)
    where
      by : (b : Bool) → DoRise (e.0 + 1) (ids_where test es) → DoRise low (ids_if b e es)
      by true more = (rise.0, more)
      by false more = lower low (e.0 + 1) (ids_where test es) (omega (arith, rise.0)) more

  pub ids_has : (es : List (ℕ × Item)) (id : ℕ) (item : Item) → item_at es id ≡ Some item → test item ≡ true → Contains (ids_where test es) id
  ids_has [] id item found is = absurd cc
  ids_has (e ∷ es) id item found is = by_id (nat_eq id e.0) refl found (ids_has es id item)
    where
      by_id : (b : Bool) → nat_eq id e.0 ≡ b → cond b (Some e.1) (item_at es id) ≡ Some item → (item_at es id ≡ Some item → test item ≡ true → Contains (ids_where test es) id) → Contains (ids_if (test e.1) e es) id
      by_id true same f on =
          let one : e.1 ≡ item = cc in
          let its : test e.1 ≡ true = ap test one ∙ is in
          subst (λ (b : Bool). Contains (ids_if b e es) id) (sym its) (0, omega arith, sym (eqb-true id e.0 same))
      by_id false other f on = by_test (test e.1) (on f is)
        where
          by_test : (b : Bool) → Contains (ids_where test es) id → Contains (ids_if b e es) id
          by_test true c = let lt = c.1 in (suc c.0, omega arith, c.2)
          by_test false c = c
