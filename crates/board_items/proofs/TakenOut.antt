-- The items of a unit, as they are taken out one after another.
use Rattle.std.proofs.Common.{◌≡◌, ◌≢◌, ◌∙◌, ap, sym, refl, ℕ, ◌+◌, ◌<◌, ◌≤◌, Bool, true, false, cond, not, ◌&&◌, nat_eq, nat_lt, List, [], ◌∷◌, ◌++◌, length, filter, None, Some, arith, eq-eqb}
use Rattle.std.proofs.lemmas.Bool.{eqb-true, ne_eqb}
use Rattle.one_item.specs.declared.item.Item.{Item}
use Rattle.board_items.specs.Boards.{Rise, item_at}
use Rattle.board_items.specs.ItemSlots.{without_id}
use Rattle.board_items.specs.Back.{entries_of, own_at}
use Rattle.board_items.proofs.SlotLists.{without_part, passed_unit}

is_lt : (a b : ℕ) → a < b → nat_lt a b ≡ true
is_lt a b h = grind (arith, h)

not_lt : (a b : ℕ) → b ≤ a → nat_lt a b ≡ false
not_lt a b h = grind (arith, h)

-- ---- the item of an id
own_above : (unit id low high : ℕ) (xs : List (ℕ × Item)) → Rise low high xs → id < low → (own_at id unit xs ≡ []) × (without_id id xs ≡ xs) × (without_part id unit xs ≡ xs)
own_above unit id low high [] r lt = (refl, refl, refl)
own_above unit id low high (x ∷ xs) r lt =
    let rest = own_above unit id (x.0 + 1) high xs r.1 (omega (arith, r.0)) in
    let other : nat_eq x.0 id ≡ false = ne_eqb x.0 id (λ e. omega (arith, e, r.0)) in (
      ap (λ b. cond (b && nat_eq x.1.unit unit) (x ∷ own_at id unit xs) (own_at id unit xs)) other ∙ rest.0,
      ap (λ b. cond (not b) (x ∷ without_id id xs) (without_id id xs)) other ∙ ap (λ es. x ∷ es) rest.1,
      ap (λ b. cond (not (b && nat_eq x.1.unit unit)) (x ∷ without_part id unit xs) (without_part id unit xs)) other ∙ ap (λ es. x ∷ es) rest.2,
    )

-- it is of the unit
pub own_is : (unit id low high : ℕ) (xs : List (ℕ × Item)) (item : Item) → Rise low high xs → item_at xs id ≡ Some item → item.unit ≡ unit → (own_at id unit xs ≡ (id, item) ∷ []) × (without_id id xs ≡ without_part id unit xs)
own_is unit id low high [] item r e u = absurd cc
own_is unit id low high (x ∷ xs) item r e u = by (λ h. own_is unit id (x.0 + 1) high xs item r.1 h u) (nat_eq id x.0) refl e
  where
    by : (item_at xs id ≡ Some item → (own_at id unit xs ≡ (id, item) ∷ []) × (without_id id xs ≡ without_part id unit xs)) → (t : Bool) → nat_eq id x.0 ≡ t → cond t (Some x.1) (item_at xs id) ≡ Some item
        → (own_at id unit (x ∷ xs) ≡ (id, item) ∷ []) × (without_id id (x ∷ xs) ≡ without_part id unit (x ∷ xs))
    by again true k h =
        let same : id ≡ x.0 = eqb-true id x.0 k in
        let own : x.1 ≡ item = cc in
        let here : nat_eq x.0 id ≡ true = eq-eqb x.0 id (sym same) in
        let of : nat_eq x.1.unit unit ≡ true = eq-eqb x.1.unit unit (ap (λ (i : Item). i.unit) own ∙ u) in
        let rest = own_above unit id (x.0 + 1) high xs r.1 (omega (arith, same)) in (
          ap (λ b. cond (b && nat_eq x.1.unit unit) (x ∷ own_at id unit xs) (own_at id unit xs)) here ∙ ap (λ b. cond b (x ∷ own_at id unit xs) (own_at id unit xs)) of
              ∙ ap (λ es. x ∷ es) rest.0 ∙ ap (λ (n : ℕ). (n, x.1) ∷ []) (sym same) ∙ ap (λ (i : Item). (id, i) ∷ []) own,
          ap (λ b. cond (not b) (x ∷ without_id id xs) (without_id id xs)) here ∙ rest.1 ∙ sym rest.2
              ∙ sym (ap (λ b. cond (not (b && nat_eq x.1.unit unit)) (x ∷ without_part id unit xs) (without_part id unit xs)) here ∙ ap (λ b. cond (not b) (x ∷ without_part id unit xs) (without_part id unit xs)) of),
        )
    by again false k h =
        let there : nat_eq x.0 id ≡ false = ne_eqb x.0 id (λ s. absurd (let t = eq-eqb id x.0 (sym s) in cc)) in
        let rest = again h in (
          ap (λ b. cond (b && nat_eq x.1.unit unit) (x ∷ own_at id unit xs) (own_at id unit xs)) there ∙ rest.0,
          ap (λ b. cond (not b) (x ∷ without_id id xs) (without_id id xs)) there ∙ ap (λ es. x ∷ es) rest.1
              ∙ sym (ap (λ b. cond (not (b && nat_eq x.1.unit unit)) (x ∷ without_part id unit xs) (without_part id unit xs)) there),
        )

-- none is of the id and the unit
pub own_none : (unit id : ℕ) (xs : List (ℕ × Item)) (low high : ℕ) → Rise low high xs → ((item : Item) → item_at xs id ≡ Some item → item.unit ≢ unit) → (own_at id unit xs ≡ []) × (without_part id unit xs ≡ xs)
own_none unit id [] low high r free = (refl, refl)
own_none unit id (x ∷ xs) low high r free = by (λ other. own_none unit id xs (x.0 + 1) high r.1 other) (nat_eq id x.0) refl
  where
    by : (((item : Item) → item_at xs id ≡ Some item → item.unit ≢ unit) → (own_at id unit xs ≡ []) × (without_part id unit xs ≡ xs)) → (t : Bool) → nat_eq id x.0 ≡ t
        → (own_at id unit (x ∷ xs) ≡ []) × (without_part id unit (x ∷ xs) ≡ x ∷ xs)
    by again true k =
        let same : id ≡ x.0 = eqb-true id x.0 k in
        let here : nat_eq x.0 id ≡ true = eq-eqb x.0 id (sym same) in
        let other : nat_eq x.1.unit unit ≡ false = ne_eqb x.1.unit unit (free x.1 (ap (λ b. cond b (Some x.1) (item_at xs id)) k)) in
        let rest = own_above unit id (x.0 + 1) high xs r.1 (omega (arith, same)) in (
          ap (λ b. cond (b && nat_eq x.1.unit unit) (x ∷ own_at id unit xs) (own_at id unit xs)) here ∙ ap (λ b. cond b (x ∷ own_at id unit xs) (own_at id unit xs)) other ∙ rest.0,
          ap (λ b. cond (not (b && nat_eq x.1.unit unit)) (x ∷ without_part id unit xs) (without_part id unit xs)) here ∙ ap (λ b. cond (not b) (x ∷ without_part id unit xs) (without_part id unit xs)) other
              ∙ ap (λ es. x ∷ es) rest.2,
        )
    by again false k =
        let there : nat_eq x.0 id ≡ false = ne_eqb x.0 id (λ s. absurd (let t = eq-eqb id x.0 (sym s) in cc)) in
        let rest = again (λ item h. free item (ap (λ b. cond b (Some x.1) (item_at xs id)) k ∙ h)) in (
          ap (λ b. cond (b && nat_eq x.1.unit unit) (x ∷ own_at id unit xs) (own_at id unit xs)) there ∙ rest.0,
          ap (λ b. cond (not (b && nat_eq x.1.unit unit)) (x ∷ without_part id unit xs) (without_part id unit xs)) there ∙ ap (λ es. x ∷ es) rest.1,
        )

-- ---- the items of the unit whose ids are below one
abbrev pub taken_to : ℕ → ℕ → List (ℕ × Item) → List (ℕ × Item)
taken_to unit k items = filter (λ entry. nat_eq entry.1.unit unit && nat_lt entry.0 k) items

none_from : (unit k low high : ℕ) (items : List (ℕ × Item)) → k ≤ low → Rise low high items → taken_to unit k items ≡ []
none_from unit k low high [] le r = refl
none_from unit k low high (e ∷ es) le r = by (none_from unit k (e.0 + 1) high es (omega (arith, r.0)) r.1) (nat_eq e.1.unit unit)
  where
    by : taken_to unit k es ≡ [] → (t : Bool) → cond (t && nat_lt e.0 k) (e ∷ taken_to unit k es) (taken_to unit k es) ≡ []
    by again true = ap (λ l. cond l (e ∷ taken_to unit k es) (taken_to unit k es)) (not_lt e.0 k (omega (arith, r.0))) ∙ again
    by again false = again

-- the next id gives the item that is its own
pub one_taken : (unit k low high : ℕ) (items : List (ℕ × Item)) → Rise low high items → taken_to unit (k + 1) items ≡ taken_to unit k items ++ own_at k unit items
one_taken unit k low high [] r = refl
one_taken unit k low high (e ∷ es) r = by (one_taken unit k (e.0 + 1) high es r.1) (nat_eq e.1.unit unit) refl (nat_lt e.0 k) refl
  where
    last : taken_to unit (k + 1) es ≡ taken_to unit k es ++ own_at k unit es → nat_eq e.1.unit unit ≡ true → nat_lt e.0 k ≡ false → (m : Bool) → nat_eq e.0 k ≡ m
        → cond (nat_lt e.0 (k + 1)) (e ∷ taken_to unit (k + 1) es) (taken_to unit (k + 1) es) ≡ taken_to unit k es ++ cond (m && true) (e ∷ own_at k unit es) (own_at k unit es)
    last again u l true m =
        let same = eqb-true e.0 k m in
        let none = none_from unit k (e.0 + 1) high es (omega (arith, same)) r.1 in
        ap (λ a. cond a (e ∷ taken_to unit (k + 1) es) (taken_to unit (k + 1) es)) (is_lt e.0 (k + 1) (omega (arith, same))) ∙ ap (λ xs. e ∷ xs) (again ∙ ap (λ xs. xs ++ own_at k unit es) none)
        ∙ sym (ap (λ xs. xs ++ e ∷ own_at k unit es) none)
    last again u l false m = ap (λ a. cond a (e ∷ taken_to unit (k + 1) es) (taken_to unit (k + 1) es)) (not_lt e.0 (k + 1) (grind (arith, l, m))) ∙ again

    by : taken_to unit (k + 1) es ≡ taken_to unit k es ++ own_at k unit es → (t : Bool) → nat_eq e.1.unit unit ≡ t → (b : Bool) → nat_lt e.0 k ≡ b
        → cond (t && nat_lt e.0 (k + 1)) (e ∷ taken_to unit (k + 1) es) (taken_to unit (k + 1) es) ≡ cond (t && b) (e ∷ taken_to unit k es) (taken_to unit k es) ++ cond (nat_eq e.0 k && t) (e ∷ own_at k unit es) (own_at k unit es)
    by again true u true b =
        ap (λ a. cond a (e ∷ taken_to unit (k + 1) es) (taken_to unit (k + 1) es)) (is_lt e.0 (k + 1) (grind (arith, b))) ∙ ap (λ xs. e ∷ xs) again
        ∙ sym (ap (λ a. e ∷ (taken_to unit k es ++ cond (a && true) (e ∷ own_at k unit es) (own_at k unit es))) (ne_eqb e.0 k (grind (arith, b))))
    by again true u false b = last again u b (nat_eq e.0 k) refl
    by again false u b l = again ∙ ap (λ xs. taken_to unit k es ++ xs) (sym (off (nat_eq e.0 k)))
      where
        off : (m : Bool) → cond (m && false) (e ∷ own_at k unit es) (own_at k unit es) ≡ own_at k unit es
        off true = refl
        off false = refl

-- what was passed over does not have it
pub own_left : (unit k : ℕ) (items : List (ℕ × Item)) → own_at k unit (passed_unit unit k items) ≡ own_at k unit items
own_left unit k [] = refl
own_left unit k (e ∷ es) = by (own_left unit k es) (nat_eq e.1.unit unit) refl (nat_lt e.0 k) refl
  where
    by : own_at k unit (passed_unit unit k es) ≡ own_at k unit es → (t : Bool) → nat_eq e.1.unit unit ≡ t → (b : Bool) → nat_lt e.0 k ≡ b
        → own_at k unit (cond (not (t && b)) (e ∷ passed_unit unit k es) (passed_unit unit k es)) ≡ cond (nat_eq e.0 k && t) (e ∷ own_at k unit es) (own_at k unit es)
    by again true u true b = again ∙ sym (ap (λ a. cond (a && true) (e ∷ own_at k unit es) (own_at k unit es)) (ne_eqb e.0 k (grind (arith, b))))
    by again true u false b = ap (λ a. cond (nat_eq e.0 k && a) (e ∷ own_at k unit (passed_unit unit k es)) (own_at k unit (passed_unit unit k es))) u ∙ ap (λ xs. cond (nat_eq e.0 k && true) (e ∷ xs) xs) again
    by again false u b l = ap (λ a. cond (nat_eq e.0 k && a) (e ∷ own_at k unit (passed_unit unit k es)) (own_at k unit (passed_unit unit k es))) u ∙ ap (λ xs. cond (nat_eq e.0 k && false) (e ∷ xs) xs) again

pub no_more : (unit k : ℕ) (items : List (ℕ × Item)) → length (taken_to unit k items) ≤ length (entries_of unit items)
no_more unit k [] = omega arith
no_more unit k (e ∷ es) = by (no_more unit k es) (nat_eq e.1.unit unit) (nat_lt e.0 k)
  where
    by : length (taken_to unit k es) ≤ length (entries_of unit es) → (t b : Bool) → length (cond (t && b) (e ∷ taken_to unit k es) (taken_to unit k es)) ≤ length (cond t (e ∷ entries_of unit es) (entries_of unit es))
    by again true true = omega arith
    by again true false = omega arith
    by again false b = again

pub id_none : (id : ℕ) (xs : List (ℕ × Item)) → item_at xs id ≡ None → without_id id xs ≡ xs
id_none id [] e = refl
id_none id (x ∷ xs) e = by (λ k. id_none id xs k) (nat_eq id x.0) refl e
  where
    by : (item_at xs id ≡ None → without_id id xs ≡ xs) → (t : Bool) → nat_eq id x.0 ≡ t → cond t (Some x.1) (item_at xs id) ≡ None → without_id id (x ∷ xs) ≡ x ∷ xs
    by again true k h = absurd cc
    by again false k h =
        ap (λ b. cond (not b) (x ∷ without_id id xs) (without_id id xs)) (ne_eqb x.0 id (λ s. absurd (let t = eq-eqb id x.0 (sym s) in cc)))
        ∙ ap (λ es. x ∷ es) (again h)

pub no_item : (xs : List (ℕ × Item)) (id unit : ℕ) (item : Item) → item_at xs id ≡ None → item_at xs id ≡ Some item → item.unit ≢ unit
no_item xs id unit item none some = absurd cc

pub few_of : (unit : ℕ) (items : List (ℕ × Item)) → length (entries_of unit items) ≤ length items
few_of unit [] = omega arith
few_of unit (e ∷ es) = by (few_of unit es) (nat_eq e.1.unit unit)
  where
    by : length (entries_of unit es) ≤ length es → (t : Bool) → length (cond t (e ∷ entries_of unit es) (entries_of unit es)) ≤ length (e ∷ es)
    by again true = omega arith
    by again false = omega arith
