-- Lists of items whose ids rise.
use Rattle.std.proofs.Common.{◌≡◌, ◌≢◌, ℕ, ◌+◌, ◌<◌, ◌≤◌, Bool, true, false, cond, List, [], ◌∷◌, ◌++◌, None, Some, nat_eq, map, filter, refl, ◌∙◌, ap, subst, arith, eq-eqb}
use Rattle.std.proofs.lemmas.Bool.{eqb-true}
use Rattle.one_item.specs.declared.item.Item.{Item}
use Rattle.one_item.specs.ItemKinds.{is_mark}
use Rattle.board_items.specs.Boards.{Rise, IsRising, UnitsBelow, item_at, marks_of, ids_where}

pub rise_ends : (low high : ℕ) (xs : List (ℕ × Item)) → Rise low high xs → low ≤ high
rise_ends low high [] h = h
rise_ends low high (e ∷ es) h = let k = rise_ends (e.0 + 1) high es h.1 in omega (arith, h.0)

pub rise_added : (low high : ℕ) (xs : List (ℕ × Item)) (item : Item) → Rise low high xs → Rise low (high + 1) (xs ++ (high, item) ∷ [])
rise_added low high [] item h = (h, omega arith)
rise_added low high (e ∷ es) item h = (h.0, rise_added (e.0 + 1) high es item h.1)

pub units_added : (high more id : ℕ) (xs : List (ℕ × Item)) (item : Item) → UnitsBelow high xs → high ≤ more → item.unit < more → UnitsBelow more (xs ++ (id, item) ∷ [])
units_added high more id [] item h le lt = (lt, tt)
units_added high more id (e ∷ es) item h le lt = (omega (arith, h.0), units_added high more id es item h.1 le lt)

-- the ids of two lists one after the other
pub ids_where-append : (test : Item → Bool) (xs ys : List (ℕ × Item)) → ids_where test (xs ++ ys) ≡ ids_where test xs ++ ids_where test ys
ids_where-append test [] ys = refl
ids_where-append test (e ∷ es) ys = by (test e.1) (filter (λ x. test x.1) es) (filter (λ x. test x.1) ys) (filter (λ x. test x.1) (es ++ ys)) (ids_where-append test es ys)
  where
    by : (b : Bool) (front back all : List (ℕ × Item)) → map (λ x. x.0) all ≡ map (λ x. x.0) front ++ map (λ x. x.0) back
        → map (λ x. x.0) (cond b (e ∷ all) all) ≡ map (λ x. x.0) (cond b (e ∷ front) front) ++ map (λ x. x.0) back
    by true front back all h = ap (λ ids. e.0 ∷ ids) h
    by false front back all h = h

pub marks-append : (xs ys : List (ℕ × Item)) → marks_of (xs ++ ys) ≡ marks_of xs ++ marks_of ys
marks-append xs ys = ids_where-append (λ item. is_mark item.what) xs ys

-- ---- before and behind an item
pub rise_prefix : (low high : ℕ) (xs : List (ℕ × Item)) (e : ℕ × Item) (ys : List (ℕ × Item)) → Rise low high (xs ++ e ∷ ys) → Rise low e.0 xs
rise_prefix low high [] e ys h = h.0
rise_prefix low high (x ∷ xs) e ys h = (h.0, rise_prefix (x.0 + 1) high xs e ys h.1)

pub rise_back : (low high : ℕ) (xs : List (ℕ × Item)) (e : ℕ × Item) (ys : List (ℕ × Item)) → Rise low high (xs ++ e ∷ ys) → Rise (e.0 + 1) high ys
rise_back low high [] e ys h = h.1
rise_back low high (x ∷ xs) e ys h = rise_back (x.0 + 1) high xs e ys h.1

other_id : (a b : ℕ) → a ≢ b → nat_eq a b ≡ false
other_id a b h = by (nat_eq a b) refl
  where
    by : (t : Bool) → nat_eq a b ≡ t → t ≡ false
    by true e = absurd (h (eqb-true a b e))
    by false e = refl

-- the first entry has another id
pub passed_over : (id : ℕ) (e : ℕ × Item) (xs : List (ℕ × Item)) → id ≢ e.0 → item_at (e ∷ xs) id ≡ item_at xs id
passed_over id e xs h = ap (λ b. cond b (Some e.1) (item_at xs id)) (other_id id e.0 h)

not_below : (low high id : ℕ) (xs : List (ℕ × Item)) → Rise low high xs → id < low → item_at xs id ≡ None
not_below low high id [] h lt = refl
not_below low high id (x ∷ xs) h lt = passed_over id x xs (λ e. omega (arith, h.0, e)) ∙ not_below (x.0 + 1) high id xs h.1 (omega (arith, h.0))

-- an id below that of the entry is sought before it, and one above it behind it
pub item_at-front : (low high id : ℕ) (xs : List (ℕ × Item)) (e : ℕ × Item) (ys : List (ℕ × Item)) → Rise low high (xs ++ e ∷ ys) → id < e.0 → item_at (xs ++ e ∷ ys) id ≡ item_at xs id
item_at-front low high id [] e ys h lt = passed_over id e ys (λ k. omega (arith, k)) ∙ not_below (e.0 + 1) high id ys h.1 (omega arith)
item_at-front low high id (x ∷ xs) e ys h lt = ap (λ rest. cond (nat_eq id x.0) (Some x.1) rest) (item_at-front (x.0 + 1) high id xs e ys h.1 lt)

pub item_at-back : (low high id : ℕ) (xs : List (ℕ × Item)) (e : ℕ × Item) (ys : List (ℕ × Item)) → Rise low high (xs ++ e ∷ ys) → e.0 < id → item_at (xs ++ e ∷ ys) id ≡ item_at ys id
item_at-back low high id [] e ys h lt = passed_over id e ys (λ k. omega (arith, k))
item_at-back low high id (x ∷ xs) e ys h lt =
    let before = rise_ends (x.0 + 1) e.0 xs (rise_prefix (x.0 + 1) high xs e ys h.1) in
    passed_over id x (xs ++ e ∷ ys) (λ k. omega (arith, before, k)) ∙ item_at-back (x.0 + 1) high id xs e ys h.1 lt

pub item_at-middle : (low high : ℕ) (xs : List (ℕ × Item)) (e : ℕ × Item) (ys : List (ℕ × Item)) → Rise low high (xs ++ e ∷ ys) → item_at (xs ++ e ∷ ys) e.0 ≡ Some e.1
item_at-middle low high [] e ys h = ap (λ b. cond b (Some e.1) (item_at ys e.0)) (eq-eqb e.0 e.0 refl)
item_at-middle low high (x ∷ xs) e ys h =
    let before = rise_ends (x.0 + 1) e.0 xs (rise_prefix (x.0 + 1) high xs e ys h.1) in
    passed_over e.0 x (xs ++ e ∷ ys) (λ k. omega (arith, before, k)) ∙ item_at-middle (x.0 + 1) high xs e ys h.1

-- ---- a list that was cut in two
module _ (all front back : List (ℕ × Item)) (middle : ℕ × Item) (after : List (ℕ × Item)) (cut : all ≡ front ++ back) (first : back ≡ middle ∷ after) (rising : IsRising all) where
  whole : all ≡ front ++ middle ∷ after
  whole = cut ∙ ap (λ b. front ++ b) first

  rise : Rise rising.low rising.high (front ++ middle ∷ after)
  rise = subst (λ (xs : List (ℕ × Item)). Rise rising.low rising.high xs) whole rising.rise

  pub rising_prefix : IsRising front
  rising_prefix = record { low = rising.low; high = middle.0; rise = rise_prefix rising.low rising.high front middle after rise }

  pub rising_back : IsRising after
  rising_back = record { low = middle.0 + 1; high = rising.high; rise = rise_back rising.low rising.high front middle after rise }

  pub found_middle : (id : ℕ) → id ≡ middle.0 → item_at all id ≡ Some middle.1
  found_middle id e = ap (λ n. item_at all n) e ∙ ap (λ xs. item_at xs middle.0) whole ∙ item_at-middle rising.low rising.high front middle after rise

  pub found_prefix : (id : ℕ) → id < middle.0 → item_at all id ≡ item_at front id
  found_prefix id lt = ap (λ xs. item_at xs id) whole ∙ item_at-front rising.low rising.high id front middle after rise lt

  pub found_back : (id : ℕ) → middle.0 < id → item_at all id ≡ item_at after id
  found_back id lt = ap (λ xs. item_at xs id) whole ∙ item_at-back rising.low rising.high id front middle after rise lt
