-- Items that come back one after another, the last first: all of them together, and how they are taken out again.
use Rattle.std.proofs.Common.{◌≡◌, ◌≢◌, ◌⊎◌, inl, inr, ◌∙◌, ap, sym, subst, refl, ℕ, ◌+◌, ◌<◌, ◌≤◌, zero, suc, Bool, true, false, cond, not, nat_eq, nat_lt, List, [], ◌∷◌, ◌++◌, length, filter, map, None, Some, arith, eq-eqb, length-append}
use Rattle.std.specs.List.{All, AllPairs, Contains}
use Rattle.std.proofs.lemmas.Bool.{eqb-true, ne_eqb}
use Rattle.std.proofs.lemmas.List.Elements.{All-nil, All-cons, All-head, All-tail, All-weaker, All-contains, All-contains_itself}
use Rattle.std.proofs.lemmas.List.Kept.{AllPairs-cons}
use Rattle.board_items.specs.declared.back.Kept.{Kept}
use Rattle.one_item.specs.declared.item.Item.{Item}
use Rattle.board_items.specs.Boards.{PlainBoard, Rise, item_at, is_admitted}
use Rattle.board_items.specs.Units.{without_unit}
use Rattle.board_items.specs.Back.{placed, all_placed, kept_entry, entries_of, AreMerged, IsPutBack, FitsBack, FitsOne}
use Rattle.std.proofs.lemmas.List.{map-append}
use Rattle.std.proofs.lemmas.List.Elements.{Contains-append_right}
use Rattle.board_items.proofs.Rising.{rise_ends, rise_back, passed_over}
use Rattle.board_items.proofs.Placed.{longer, rise_placed}

abbrev pub Entry : Type 0
Entry = ℕ × Item

Under : Entry → Entry → Type 0
Under e f = e.0 < f.0

-- ---- what stands there
here : (x : Entry) (xs : List Entry) → Contains (x ∷ xs) x
here x xs = (0, omega arith, refl)

later : (x y : Entry) (xs : List Entry) → Contains xs y → Contains (x ∷ xs) y
later x y xs c = (suc c.0, omega (arith, c.1), c.2)

split : (x y : Entry) (xs : List Entry) → Contains (x ∷ xs) y → (x ≡ y) ⊎ Contains xs y
split x y xs (zero, lt, e) = inl e
split x y xs (suc k, lt, e) = inr (k, omega arith, e)

placed_there : (e : Entry) (xs : List Entry) → Contains (placed e xs) e
placed_there e [] = here e []
placed_there e (x ∷ xs) = by (placed_there e xs) (nat_lt e.0 x.0)
  where
    by : Contains (placed e xs) e → (t : Bool) → Contains (cond t (e ∷ x ∷ xs) (x ∷ placed e xs)) e
    by again true = here e (x ∷ xs)
    by again false = later x e (placed e xs) again

still_there : (e : Entry) (xs : List Entry) (y : Entry) → Contains xs y → Contains (placed e xs) y
still_there e [] y c = absurd (omega (arith, c.1))
still_there e (x ∷ xs) y c = by (λ k. still_there e xs y k) (nat_lt e.0 x.0) (split x y xs c)
  where
    by : (Contains xs y → Contains (placed e xs) y) → (t : Bool) → (x ≡ y) ⊎ Contains xs y → Contains (cond t (e ∷ x ∷ xs) (x ∷ placed e xs)) y
    by again true p = later e y (x ∷ xs) c
    by again false (inl s) = subst (Contains (x ∷ placed e xs)) s (here x (placed e xs))
    by again false (inr k) = later x y (placed e xs) (again k)

was_there : (e : Entry) (xs : List Entry) (y : Entry) → Contains (placed e xs) y → (e ≡ y) ⊎ Contains xs y
was_there e [] y c = split e y [] c
was_there e (x ∷ xs) y c = by (λ m. was_there e xs y m) (nat_lt e.0 x.0) c
  where
    up : (e ≡ y) ⊎ Contains xs y → (e ≡ y) ⊎ Contains (x ∷ xs) y
    up (inl s) = inl s
    up (inr n) = inr (later x y xs n)

    on : (Contains (placed e xs) y → (e ≡ y) ⊎ Contains xs y) → (x ≡ y) ⊎ Contains (placed e xs) y → (e ≡ y) ⊎ Contains (x ∷ xs) y
    on again (inl s) = inr (subst (Contains (x ∷ xs)) s (here x xs))
    on again (inr m) = up (again m)

    by : (Contains (placed e xs) y → (e ≡ y) ⊎ Contains xs y) → (t : Bool) → Contains (cond t (e ∷ x ∷ xs) (x ∷ placed e xs)) y → (e ≡ y) ⊎ Contains (x ∷ xs) y
    by again true k = split e y (x ∷ xs) k
    by again false k = on again (split x y (placed e xs) k)

pub all_still : (es xs : List Entry) (y : Entry) → Contains xs y → Contains (all_placed es xs) y
all_still [] xs y c = c
all_still (e ∷ es) xs y c = still_there e (all_placed es xs) y (all_still es xs y c)

pub all_there : (es xs : List Entry) (y : Entry) → Contains es y → Contains (all_placed es xs) y
all_there [] xs y c = absurd (omega (arith, c.1))
all_there (e ∷ es) xs y c = by (λ k. all_there es xs y k) (split e y es c)
  where
    by : (Contains es y → Contains (all_placed es xs) y) → (e ≡ y) ⊎ Contains es y → Contains (all_placed (e ∷ es) xs) y
    by again (inl s) = subst (Contains (all_placed (e ∷ es) xs)) s (placed_there e (all_placed es xs))
    by again (inr k) = still_there e (all_placed es xs) y (again k)

pub all_from : (es xs : List Entry) (y : Entry) → Contains (all_placed es xs) y → Contains xs y ⊎ Contains es y
all_from [] xs y c = inl c
all_from (e ∷ es) xs y c = by (λ k. all_from es xs y k) (was_there e (all_placed es xs) y c)
  where
    on : Contains xs y ⊎ Contains es y → Contains xs y ⊎ Contains (e ∷ es) y
    on (inl m) = inl m
    on (inr m) = inr (later e y es m)

    by : (Contains (all_placed es xs) y → Contains xs y ⊎ Contains es y) → (e ≡ y) ⊎ Contains (all_placed es xs) y → Contains xs y ⊎ Contains (e ∷ es) y
    by again (inl s) = inr (subst (Contains (e ∷ es)) s (here e es))
    by again (inr k) = on (again k)

-- ---- the ids rise
high_ids : (low high : ℕ) (es : List Entry) → Rise low high es → All (λ (e : Entry). low ≤ e.0) es
high_ids low high [] h = All-nil (λ (e : Entry). low ≤ e.0)
high_ids low high (e ∷ es) h = All-cons (λ (f : Entry). low ≤ f.0) e es h.0 (All-weaker (λ (f : Entry). (e.0 + 1) ≤ f.0) (λ (f : Entry). low ≤ f.0) (λ f l. let g = h.0 in omega arith) es (high_ids (e.0 + 1) high es h.1))

pub rises : (low high : ℕ) (es : List Entry) → Rise low high es → AllPairs (λ (e f : Entry). e.0 < f.0) es
rises low high [] h = λ i j d l m. absurd (omega arith)
rises low high (e ∷ es) h = AllPairs-cons (λ (e f : Entry). e.0 < f.0) e es (All-weaker (λ (f : Entry). (e.0 + 1) ≤ f.0) (λ (f : Entry). e.0 < f.0) (λ f l. omega arith) es (high_ids (e.0 + 1) high es h.1)) (rises (e.0 + 1) high es h.1)

-- all of them together
pub merged : (es xs : List Entry) (high : ℕ) → Rise 0 high (all_placed es xs) → AreMerged xs es (all_placed es xs)
merged es xs high r = record {
  rises = rises 0 high (all_placed es xs) r;
  kept = All-weaker (Contains xs) (Contains (all_placed es xs)) (λ y c. all_still es xs y c) xs (All-contains_itself xs);
  back = All-weaker (Contains es) (Contains (all_placed es xs)) (λ y c. all_there es xs y c) es (All-contains_itself es);
  only = All-weaker (Contains (all_placed es xs)) (λ y. Contains xs y ⊎ Contains es y) (λ y c. all_from es xs y c) (all_placed es xs) (All-contains_itself (all_placed es xs));
}

-- ---- they are taken out again
module _ (unit : ℕ) where
  abbrev own : Entry → Bool
  own x = nat_eq x.1.unit unit

  others_same : (e : Entry) (xs : List Entry) → own e ≡ true → filter (λ x. not (own x)) (placed e xs) ≡ filter (λ x. not (own x)) xs
  others_same e [] o = ap (λ b. cond (not b) (e ∷ []) []) o
  others_same e (x ∷ xs) o = by (others_same e xs o) (nat_lt e.0 x.0)
    where
      by : filter (λ y. not (own y)) (placed e xs) ≡ filter (λ y. not (own y)) xs → (t : Bool) → filter (λ y. not (own y)) (cond t (e ∷ x ∷ xs) (x ∷ placed e xs)) ≡ filter (λ y. not (own y)) (x ∷ xs)
      by again true = ap (λ b. cond (not b) (e ∷ filter (λ y. not (own y)) (x ∷ xs)) (filter (λ y. not (own y)) (x ∷ xs))) o
      by again false = ap (λ ys. cond (not (own x)) (x ∷ ys) ys) again

  -- the entry is below all of the unit
  own_first : (e : Entry) (xs : List Entry) → own e ≡ true → All (λ x. own x ≡ true → e.0 < x.0) xs → entries_of unit (placed e xs) ≡ e ∷ entries_of unit xs
  own_first e [] o h = ap (λ b. cond b (e ∷ []) []) o
  own_first e (x ∷ xs) o h = by (own_first e xs o (All-tail (λ y. own y ≡ true → e.0 < y.0) x xs h)) (nat_lt e.0 x.0) refl
    where
      not_above : e.0 < x.0 → nat_lt e.0 x.0 ≡ false → ⊥
      not_above lt k = let yes : nat_lt e.0 x.0 ≡ true = grind (arith, lt) in absurd cc

      on : entries_of unit (placed e xs) ≡ e ∷ entries_of unit xs → nat_lt e.0 x.0 ≡ false → (s : Bool) → own x ≡ s → cond s (x ∷ entries_of unit (placed e xs)) (entries_of unit (placed e xs)) ≡ e ∷ cond s (x ∷ entries_of unit xs) (entries_of unit xs)
      on again k true m = absurd (not_above (All-head (λ y. own y ≡ true → e.0 < y.0) x xs h m) k)
      on again k false m = again

      by : entries_of unit (placed e xs) ≡ e ∷ entries_of unit xs → (t : Bool) → nat_lt e.0 x.0 ≡ t → entries_of unit (cond t (e ∷ x ∷ xs) (x ∷ placed e xs)) ≡ e ∷ entries_of unit (x ∷ xs)
      by again true k = ap (λ b. cond b (e ∷ entries_of unit (x ∷ xs)) (entries_of unit (x ∷ xs))) o
      by again false k = on again k (own x) refl

  none_own : (xs : List Entry) → All (λ x. x.1.unit ≢ unit) xs → (entries_of unit xs ≡ []) × (filter (λ x. not (own x)) xs ≡ xs)
  none_own [] h = (refl, refl)
  none_own (x ∷ xs) h =
      let other : own x ≡ false = ne_eqb x.1.unit unit (All-head (λ (y : Entry). y.1.unit ≢ unit) x xs h) in
      let rest = none_own xs (All-tail (λ (y : Entry). y.1.unit ≢ unit) x xs h) in (
        ap (λ b. cond b (x ∷ entries_of unit xs) (entries_of unit xs)) other ∙ rest.0,
        ap (λ b. cond (not b) (x ∷ filter (λ y. not (own y)) xs) (filter (λ y. not (own y)) xs)) other ∙ ap (λ ys. x ∷ ys) rest.1,
      )

  left_again : (es xs : List Entry) → All (λ x. x.1.unit ≡ unit) es → filter (λ x. not (own x)) (all_placed es xs) ≡ filter (λ x. not (own x)) xs
  left_again [] xs h = refl
  left_again (e ∷ es) xs h =
      others_same e (all_placed es xs) (eq-eqb e.1.unit unit (All-head (λ (y : Entry). y.1.unit ≡ unit) e es h)) ∙ left_again es xs (All-tail (λ (y : Entry). y.1.unit ≡ unit) e es h)

  taken_again : (low high : ℕ) (es xs : List Entry) → Rise low high es → All (λ x. x.1.unit ≡ unit) es → All (λ x. x.1.unit ≢ unit) xs → entries_of unit (all_placed es xs) ≡ es
  taken_again low high [] xs r h g = (none_own xs g).0
  taken_again low high (e ∷ es) xs r h g =
      own_first e (all_placed es xs) (eq-eqb e.1.unit unit (All-head (λ (y : Entry). y.1.unit ≡ unit) e es h))
      (All-weaker (Contains (all_placed es xs)) (λ y. own y ≡ true → e.0 < y.0) (λ y c m. by y m (all_from es xs y c)) (all_placed es xs) (All-contains_itself (all_placed es xs)))
      ∙ ap (λ ys. e ∷ ys) (taken_again (e.0 + 1) high es xs r.1 (All-tail (λ (y : Entry). y.1.unit ≡ unit) e es h) g)
    where
      by : (y : Entry) → own y ≡ true → Contains xs y ⊎ Contains es y → e.0 < y.0
      by y m (inl c) = absurd (All-contains (λ (z : Entry). z.1.unit ≢ unit) xs y g c (eqb-true y.1.unit unit m))
      by y m (inr c) = let le = All-contains (λ (z : Entry). (e.0 + 1) ≤ z.0) es y (high_ids (e.0 + 1) high es r.1) c in omega (arith, le)

-- ---- by id
placed_other : (f : Entry) (id : ℕ) (xs : List Entry) → id ≢ f.0 → item_at (placed f xs) id ≡ item_at xs id
placed_other f id [] ne = passed_over id f [] ne
placed_other f id (x ∷ xs) ne = by (placed_other f id xs ne) (nat_lt f.0 x.0)
  where
    by : item_at (placed f xs) id ≡ item_at xs id → (t : Bool) → item_at (cond t (f ∷ x ∷ xs) (x ∷ placed f xs)) id ≡ item_at (x ∷ xs) id
    by again true = passed_over id f (x ∷ xs) ne
    by again false = ap (λ o. cond (nat_eq id x.0) (Some x.1) o) again

all_other : (low high id : ℕ) (es xs : List Entry) → Rise low high es → id < low → item_at (all_placed es xs) id ≡ item_at xs id
all_other low high id [] xs r lt = refl
all_other low high id (e ∷ es) xs r lt = placed_other e id (all_placed es xs) (λ s. omega (arith, s, r.0)) ∙ all_other (e.0 + 1) high id es xs r.1 (omega (arith, r.0))

all_longer : (es xs : List Entry) → length (all_placed es xs) ≡ length es + length xs
all_longer [] xs = omega arith
all_longer (e ∷ es) xs = let one = longer e (all_placed es xs) in let rest = all_longer es xs in omega (arith, one, rest)

pub all_rise : (low high : ℕ) (es xs : List Entry) → Rise low high es → Rise 0 high xs → All (λ e. item_at xs e.0 ≡ None) es → Rise 0 high (all_placed es xs)
all_rise low high [] xs r s h = s
all_rise low high (e ∷ es) xs r s h =
    rise_placed e 0 high (all_placed es xs) (all_rise (e.0 + 1) high es xs r.1 s (All-tail (λ (y : Entry). item_at xs y.0 ≡ None) e es h)) (omega arith) (let end = rise_ends (e.0 + 1) high es r.1 in omega (arith, end))
    (all_other (e.0 + 1) high e.0 es xs r.1 (omega arith) ∙ All-head (λ (y : Entry). item_at xs y.0 ≡ None) e es h)

pub put_back : (b : PlainBoard) (es : List Entry) → Rise 0 b.next_id b.items → FitsBack b es → IsPutBack es b (record b { items = all_placed es b.items })
put_back b es r fit = record { merged = merged es b.items b.next_id (all_rise 0 b.next_id es b.items fit.ids r fit.free); others = refl }

all_right : (P : Entry → Type 0) (xs ys : List Entry) → All P (xs ++ ys) → All P ys
all_right P [] ys h = h
all_right P (x ∷ xs) ys h = all_right P xs ys (All-tail P x (xs ++ ys) h)

-- ---- what was kept
pub as_many : (xs : List Kept) → length (map kept_entry xs) ≡ length xs
as_many [] = refl
as_many (x ∷ xs) = let rest = as_many xs in omega (arith, rest)

pub empty_of : (xs : List Kept) → length xs ≡ 0 → xs ≡ []
empty_of [] e = refl
empty_of (x ∷ xs) e = absurd (omega (arith, e))

pub same_kept : (xs ys : List Kept) → map kept_entry xs ≡ map kept_entry ys → xs ≡ ys
same_kept [] [] e = refl
same_kept [] (y ∷ ys) e = absurd cc
same_kept (x ∷ xs) [] e = absurd cc
same_kept (x ∷ xs) (y ∷ ys) e =
    let first : kept_entry x ≡ kept_entry y = cc in
    let rest : map kept_entry xs ≡ map kept_entry ys = cc in
    ap (λ (f : Entry). record { id = f.0; item = f.1 } ∷ xs) first ∙ ap (λ (zs : List Kept). y ∷ zs) (same_kept xs ys rest)

module _ (b : PlainBoard) (all front rest : List Kept) (k : Kept) (cut : all ≡ front ++ k ∷ rest) (fit : FitsBack b (map kept_entry all)) where
  abbrev es : List Entry
  es = map kept_entry rest

  whole : map kept_entry all ≡ map kept_entry front ++ kept_entry k ∷ es
  whole = ap (map kept_entry) cut ∙ map-append kept_entry front (k ∷ rest)

  rise : Rise 0 b.next_id (map kept_entry front ++ kept_entry k ∷ es)
  rise = subst (Rise 0 b.next_id) whole fit.ids

  behind : Rise (k.id + 1) b.next_id es
  behind = rise_back 0 b.next_id (map kept_entry front) (kept_entry k) es rise

  among : (P : Entry → Type 0) → All P (map kept_entry all) → P (kept_entry k)
  among P h = All-contains P (map kept_entry front ++ kept_entry k ∷ es) (kept_entry k) (subst (All P) whole h) (Contains-append_right (map kept_entry front) (kept_entry k ∷ es) (kept_entry k) (here (kept_entry k) es))

  those : (P : Entry → Type 0) → All P (map kept_entry all) → All P es
  those P h = All-tail P (kept_entry k) es (all_right P (map kept_entry front) (kept_entry k ∷ es) (subst (All P) whole h))

  pub one_fits : FitsOne (record b { items = all_placed es b.items }) (kept_entry k)
  one_fits = record {
    id = let end = rise_ends (k.id + 1) b.next_id es behind in omega (arith, end);
    free = all_other (k.id + 1) b.next_id k.id es b.items behind (omega arith) ∙ among (λ e. item_at b.items e.0 ≡ None) fit.free;
    unit = among (λ e. e.1.unit < b.next_unit) fit.given;
    admitted = among (λ e. is_admitted b e.1 ≡ true) fit.admitted;
    few = let long = all_longer es b.items in let all_long = ap length whole ∙ length-append (map kept_entry front) (kept_entry k ∷ es) in let few = fit.few in omega (arith, long, all_long, few);
  }

  own_unit : All (λ (e : Entry). e.1.unit ≡ k.item.unit) es
  own_unit = All-weaker (λ (e : Entry). e.1.unit ≡ fit.unit) (λ (e : Entry). e.1.unit ≡ k.item.unit) (λ e h. h ∙ sym (among (λ e. e.1.unit ≡ fit.unit) fit.own)) es (those (λ e. e.1.unit ≡ fit.unit) fit.own)

  no_unit : All (λ (e : Entry). e.1.unit ≢ k.item.unit) b.items
  no_unit = All-weaker (λ (e : Entry). e.1.unit ≢ fit.unit) (λ (e : Entry). e.1.unit ≢ k.item.unit) (λ e h s. h (s ∙ among (λ e. e.1.unit ≡ fit.unit) fit.own)) b.items fit.gone

  pub rest_taken : entries_of k.item.unit (all_placed es b.items) ≡ es
  rest_taken = taken_again k.item.unit (k.id + 1) b.next_id es b.items behind own_unit no_unit

  pub rest_left : without_unit (record b { items = all_placed es b.items }) k.item.unit ≡ b
  rest_left = ap (λ (xs : List Entry). record b { items = xs }) (left_again k.item.unit es b.items own_unit ∙ (none_own k.item.unit b.items no_unit).1)
