-- The last body before a note, sought backwards along the slots.
use Rattle.std.proofs.Common.{◌≡◌, ◌≢◌, ◌∙◌, ap, sym, subst, refl, ℕ, ◌+◌, ◌<◌, ◌≤◌, zero, suc, Bool, true, false, cond, ◌&&◌, nat_lt, List, [], ◌∷◌, ◌++◌, length, get_or, take, filter, Option, None, Some, option_map, slice_get, nat_le, ◌-◌, arith}
use Rattle.std.specs.List.{last_or}
use Rattle.std.proofs.lemmas.Bool.{ne_eqb}
use Rattle.one_item.specs.declared.item.Item.{Item}
use Rattle.one_item.specs.ItemKinds.{is_body}
use Rattle.board_items.specs.ItemSlots.{present, IsUnitIn, AreUnitsIn, UnitsRise}
use Rattle.board_items.specs.ItemNotes.{is_body_of, body_before, only_body}

is_lt : (a b : ℕ) → a < b → nat_lt a b ≡ true
is_lt a b h = grind (arith, h)

not_lt : (a b : ℕ) → b ≤ a → nat_lt a b ≡ false
not_lt a b h = grind (arith, h)

-- ---- the front of a row
abbrev pub bodies : ℕ → List (ℕ × Item) → List (ℕ × Item)
bodies unit items = filter (λ entry. is_body_of unit entry.1) items

abbrev pub last_of : List (ℕ × Item) → Option Item
last_of items = option_map (λ entry. entry.1) (last_or None items)

one_more : (k n : ℕ) (slots : List (Option Item)) (d : Option Item) → n < length slots → present k (take (suc n) slots) ≡ present k (take n slots) ++ present (k + n) (get_or slots n d ∷ [])
one_more k n [] d lt = absurd (omega arith)
one_more k zero (s ∷ ss) d lt = ap (λ (m : ℕ). present m (s ∷ [])) (omega arith)
one_more k (suc n) (None ∷ ss) d lt = one_more (k + 1) n ss d (omega arith) ∙ ap (λ (m : ℕ). present (k + 1) (take n ss) ++ present m (get_or ss n d ∷ [])) (omega arith)
one_more k (suc n) (Some x ∷ ss) d lt =
    ap (λ es. (k, x) ∷ es) (one_more (k + 1) n ss d (omega arith) ∙ ap (λ (m : ℕ). present (k + 1) (take n ss) ++ present m (get_or ss n d ∷ [])) (omega arith))

bodies_on : (unit : ℕ) (xs ys : List (ℕ × Item)) → bodies unit (xs ++ ys) ≡ bodies unit xs ++ bodies unit ys
bodies_on unit [] ys = refl
bodies_on unit (x ∷ xs) ys = by (is_body_of unit x.1) (bodies_on unit xs ys)
  where
    by : (b : Bool) → bodies unit (xs ++ ys) ≡ bodies unit xs ++ bodies unit ys → cond b (x ∷ bodies unit (xs ++ ys)) (bodies unit (xs ++ ys)) ≡ cond b (x ∷ bodies unit xs) (bodies unit xs) ++ bodies unit ys
    by true h = ap (λ es. x ∷ es) h
    by false h = h

last_on : (o : Option (ℕ × Item)) (xs : List (ℕ × Item)) (e : ℕ × Item) → last_or o (xs ++ e ∷ []) ≡ Some e
last_on o [] e = refl
last_on o (x ∷ xs) e = last_on (Some x) xs e

nil_on : (xs : List (ℕ × Item)) → xs ++ [] ≡ xs
nil_on [] = refl
nil_on (x ∷ xs) = ap (λ es. x ∷ es) (nil_on xs)

-- the slot behind the front holds a body of the unit
pub met : (unit n : ℕ) (slots : List (Option Item)) (d : Option Item) (x : Item) → n < length slots → only_body unit (get_or slots n d) ≡ Some x → last_of (bodies unit (present 0 (take (suc n) slots))) ≡ Some x
met unit n slots d x lt e =
    ap (λ es. last_of (bodies unit es)) (one_more 0 n slots d lt) ∙ ap last_of (bodies_on unit (present 0 (take n slots)) (present (0 + n) (get_or slots n d ∷ []))) ∙ by (get_or slots n d) e
  where
    by : (s : Option Item) → only_body unit s ≡ Some x → last_of (bodies unit (present 0 (take n slots)) ++ bodies unit (present (0 + n) (s ∷ []))) ≡ Some x
    by None h = absurd cc
    by (Some y) h = on (is_body_of unit y) h
      where
        on : (b : Bool) → cond b (Some y) None ≡ Some x → last_of (bodies unit (present 0 (take n slots)) ++ cond b ((0 + n, y) ∷ []) []) ≡ Some x
        on true k = ap (option_map (λ entry. entry.1)) (last_on None (bodies unit (present 0 (take n slots))) (0 + n, y)) ∙ k
        on false k = absurd cc

-- it holds none
pub not_met : (unit n : ℕ) (slots : List (Option Item)) (d : Option Item) → n < length slots → only_body unit (get_or slots n d) ≡ None → bodies unit (present 0 (take (suc n) slots)) ≡ bodies unit (present 0 (take n slots))
not_met unit n slots d lt e =
    ap (bodies unit) (one_more 0 n slots d lt) ∙ bodies_on unit (present 0 (take n slots)) (present (0 + n) (get_or slots n d ∷ [])) ∙ by (get_or slots n d) e
  where
    by : (s : Option Item) → only_body unit s ≡ None → bodies unit (present 0 (take n slots)) ++ bodies unit (present (0 + n) (s ∷ [])) ≡ bodies unit (present 0 (take n slots))
    by None h = nil_on (bodies unit (present 0 (take n slots)))
    by (Some y) h = on (is_body_of unit y) h
      where
        on : (b : Bool) → cond b (Some y) None ≡ None → bodies unit (present 0 (take n slots)) ++ cond b ((0 + n, y) ∷ []) [] ≡ bodies unit (present 0 (take n slots))
        on true k = absurd cc
        on false k = nil_on (bodies unit (present 0 (take n slots)))

-- ---- the bodies before an id are those of a front
abbrev under : ℕ → ℕ → List (ℕ × Item) → List (ℕ × Item)
under unit id items = filter (λ entry. nat_lt entry.0 id && is_body_of unit entry.1) items

none_under : (unit k id : ℕ) (slots : List (Option Item)) → id ≤ k → under unit id (present k slots) ≡ []
none_under unit k id [] le = refl
none_under unit k id (None ∷ ss) le = none_under unit (k + 1) id ss (omega arith)
none_under unit k id (Some x ∷ ss) le =
    ap (λ b. cond (b && is_body_of unit x) ((k, x) ∷ under unit id (present (k + 1) ss)) (under unit id (present (k + 1) ss))) (not_lt k id le) ∙ none_under unit (k + 1) id ss (omega arith)

front_of : (unit k n : ℕ) (slots : List (Option Item)) → under unit (k + n) (present k slots) ≡ bodies unit (present k (take n slots))
front_of unit k zero slots = none_under unit k (k + 0) slots (omega arith)
front_of unit k (suc n) [] = refl
front_of unit k (suc n) (None ∷ ss) = subst (λ (i : ℕ). under unit i (present (k + 1) ss) ≡ bodies unit (present (k + 1) (take n ss))) (omega arith) (front_of unit (k + 1) n ss)
front_of unit k (suc n) (Some x ∷ ss) =
    ap (λ b. cond (b && is_body_of unit x) ((k, x) ∷ under unit (k + suc n) (present (k + 1) ss)) (under unit (k + suc n) (present (k + 1) ss))) (is_lt k (k + suc n) (omega arith))
    ∙ ap (λ es. cond (is_body_of unit x) ((k, x) ∷ es) es) (subst (λ (i : ℕ). under unit i (present (k + 1) ss) ≡ bodies unit (present (k + 1) (take n ss))) (omega arith) (front_of unit (k + 1) n ss))

pub begun : (unit id : ℕ) (slots : List (Option Item)) → body_before unit id (present 0 slots) ≡ last_of (bodies unit (present 0 (take id slots)))
begun unit id slots = ap last_of (subst (λ (i : ℕ). under unit i (present 0 slots) ≡ bodies unit (present 0 (take id slots))) (omega arith) (front_of unit 0 id slots))

-- ---- units that rise
first_le : (low : ℕ) (units : List ℕ) (n : ℕ) → UnitsRise low units → n < length units → low ≤ get_or units n 0
first_le low [] n r lt = absurd (omega arith)
first_le low (u ∷ us) zero r lt = r.0
first_le low (u ∷ us) (suc n) r lt = let rest = first_le u us n r.1 (omega arith) in omega (arith, rest, r.0)

pub later : (low : ℕ) (units : List ℕ) (i j : ℕ) → UnitsRise low units → i ≤ j → j < length units → get_or units i 0 ≤ get_or units j 0
later low [] i j r le lt = absurd (omega arith)
later low (u ∷ us) zero zero r le lt = omega arith
later low (u ∷ us) zero (suc j) r le lt = first_le u us j r.1 (omega arith)
later low (u ∷ us) (suc i) zero r le lt = absurd (omega arith)
later low (u ∷ us) (suc i) (suc j) r le lt = later u us i j r.1 (omega arith) (omega arith)

no_body : (unit own k : ℕ) (s : Option Item) (es : List (ℕ × Item)) (ss : List (Option Item)) → IsUnitIn s own → own ≢ unit → bodies unit (present (k + 1) ss) ≡ es → bodies unit (present k (s ∷ ss)) ≡ es
no_body unit own k None es ss h ne e = e
no_body unit own k (Some x) es ss h ne e =
    ap (λ b. cond (b && is_body x.what) ((k, x) ∷ bodies unit (present (k + 1) ss)) (bodies unit (present (k + 1) ss))) (ne_eqb x.unit unit (λ s. ne (sym h ∙ s))) ∙ e

-- no item of the unit stands before a lesser one
none_before : (unit k low n : ℕ) (slots : List (Option Item)) (units : List ℕ) → UnitsRise low units → AreUnitsIn slots units → n < length units → get_or units n 0 < unit → bodies unit (present k (take (suc n) slots)) ≡ []
none_before unit k low n [] units r h lt less = refl
none_before unit k low n (s ∷ ss) [] r h lt less = absurd h
none_before unit k low zero (s ∷ ss) (u ∷ us) r h lt less = no_body unit u k s [] [] h.0 (λ e. omega (arith, e, less)) refl
none_before unit k low (suc n) (s ∷ ss) (u ∷ us) r h lt less =
    let before = first_le u us n r.1 (omega arith) in
    no_body unit u k s [] (take (suc n) ss) h.0 (λ e. omega (arith, e, less, before)) (none_before unit (k + 1) u n ss us r.1 h.1 (omega arith) less)

pub stopped : (unit id n : ℕ) (slots : List (Option Item)) (units : List ℕ) → UnitsRise 0 units → AreUnitsIn slots units → n < id → id < length units → get_or units id 0 ≡ unit → get_or units n 0 ≢ unit
    → last_of (bodies unit (present 0 (take (suc n) slots))) ≡ None
stopped unit id n slots units r h lt within own other =
    let le = later 0 units n id r (omega arith) within in
    ap last_of (none_before unit 0 0 n slots units r h (omega arith) (grind (arith, le, own, other)))

-- ---- one more unit
pub rises_on : (low : ℕ) (units : List ℕ) (unit : ℕ) → UnitsRise low units → low ≤ unit → ((n : ℕ) → n < length units → get_or units n 0 ≤ unit) → UnitsRise low (units ++ unit ∷ [])
rises_on low [] unit r le h = (le, tt)
rises_on low (u ∷ us) unit r le h = (r.0, rises_on u us unit r.1 (h 0 (omega arith)) (λ n lt. h (suc n) (omega arith)))

got : (xs : List ℕ) (n x : ℕ) → slice_get xs n ≡ Some x → (n < length xs) × (get_or xs n 0 ≡ x)
got [] n x e = absurd cc
got (y ∷ ys) zero x e = let same : y ≡ x = cc in (omega arith, same)
got (y ∷ ys) (suc n) x e = let r = got ys n x e in (omega (arith, r.0), r.1)

pub le_from : (a b : ℕ) → nat_le a b ≡ true → a ≤ b
le_from a b h = grind (arith, h)

pub goes_on : (units : List ℕ) (last unit : ℕ) → UnitsRise 0 units → slice_get units (length units - 1) ≡ Some last → last ≤ unit → UnitsRise 0 (units ++ unit ∷ [])
goes_on units last unit rise e le = rises_on 0 units unit rise (omega arith) below
  where
    below : (n : ℕ) → n < length units → get_or units n 0 ≤ unit
    below n lt =
        let at = got units (length units - 1) last e in
        let before = later 0 units n (length units - 1) rise (omega (arith, lt)) at.0 in
        omega (arith, before, at.1, le)
