-- The places among which the slots of a unit are.
use Rattle.std.proofs.Common.{◌≡◌, ◌≢◌, ◌∙◌, ap, sym, subst, refl, ℕ, ◌+◌, ◌-◌, ◌<◌, ◌≤◌, zero, suc, ℤ, Bool, true, false, cond, not, ◌&&◌, nat_eq, nat_le, nat_lt, List, [], ◌∷◌, length, get_or, take, drop, filter, Option, None, Some, arith}
use Rattle.std.proofs.lemmas.Bool.{eqb-true, ne_eqb, and_from}
use Rattle.std.proofs.lemmas.List.Sorted.{IsNonDecreasingBy-from_default}
use Rattle.std.specs.List.{AllZip, list_all}
use Rattle.std.specs.List.Sorted.{IsNonDecreasingBy}
use Rattle.geo_seg.proofs.Rewritten.{Rewritten}
use Rattle.one_item.specs.declared.item.Item.{Item}
use Rattle.board_items.specs.Back.{entries_of}
use Rattle.board_items.specs.ItemSlots.{present, unit_items, IsUnitIn, AreUnitsIn, are_units_in, UnitsRise, ArePlacesOf, HaveIdsIn, slot_stays, IsMovedSlot}
use Rattle.board_items.proofs.SlotLists.{passed_unit}
use Rattle.board_items.proofs.TakenOut.{taken_to}
use Rattle.board_items.proofs.NoteWalks.{later}
use Rattle.board_items.proofs.UnitRows.{own_moves_not, all_shown}

is_lt : (a b : ℕ) → a < b → nat_lt a b ≡ true
is_lt a b h = grind (arith, h)

not_lt : (a b : ℕ) → b ≤ a → nat_lt a b ≡ false
not_lt a b h = grind (arith, h)

pub ge_from : (a b : ℕ) → nat_lt a b ≡ false → b ≤ a
ge_from a b h = grind (arith, h)

pub gt_from : (a b : ℕ) → nat_le a b ≡ false → b < a
gt_from a b h = grind (arith, h)

-- ---- a row that rises
pub rising : (units : List ℕ) → UnitsRise 0 units → IsNonDecreasingBy (λ n. n) units
rising units r = IsNonDecreasingBy-from_default (λ n. n) units 0 (λ i j le lt. later 0 units i j r le lt)

-- ---- the items
module _ (unit : ℕ) where
  -- the places, and those of a row whose first slot is for the id k
  ids_from : (k from end : ℕ) (slots : List (Option Item)) (units : List ℕ) → AreUnitsIn slots units
      → ((n : ℕ) → n < length units → get_or units n 0 ≡ unit → (from ≤ k + n) × (k + n < end)) → HaveIdsIn unit from end (present k slots)
  ids_from k from end [] units h all = tt
  ids_from k from end (s ∷ ss) [] h all = absurd h
  ids_from k from end (s ∷ ss) (u ∷ us) h all =
      by (ids_from (k + 1) from end ss us h.1 (λ n lt e. let both = all (suc n) (omega arith) e in (omega (arith, both.0), omega (arith, both.1)))) s h.0
    where
      by : HaveIdsIn unit from end (present (k + 1) ss) → (s : Option Item) → IsUnitIn s u → HaveIdsIn unit from end (present k (s ∷ ss))
      by rest None own = rest
      by rest (Some x) own = (λ e. let both = all zero (omega arith) (sym own ∙ e) in (omega (arith, both.0), omega (arith, both.1)), rest)

  pub ids_in : (from end : ℕ) (slots : List (Option Item)) (units : List ℕ) → AreUnitsIn slots units → ArePlacesOf unit units from end → HaveIdsIn unit from end (present 0 slots)
  ids_in from end slots units h p = ids_from 0 from end slots units h (λ n lt e. let both = p.all n lt e in (omega (arith, both.0), omega (arith, both.1)))

  pub passed_before : (from end : ℕ) (items : List (ℕ × Item)) → HaveIdsIn unit from end items → passed_unit unit from items ≡ items
  passed_before from end [] h = refl
  passed_before from end (e ∷ es) h = by (passed_before from end es h.1) (nat_eq e.1.unit unit) refl
    where
      by : passed_unit unit from es ≡ es → (t : Bool) → nat_eq e.1.unit unit ≡ t → cond (not (t && nat_lt e.0 from)) (e ∷ passed_unit unit from es) (passed_unit unit from es) ≡ e ∷ es
      by rest true k = ap (λ l. cond (not l) (e ∷ passed_unit unit from es) (passed_unit unit from es)) (not_lt e.0 from (h.0 (eqb-true e.1.unit unit k)).0) ∙ ap (λ xs. e ∷ xs) rest
      by rest false k = ap (λ xs. e ∷ xs) rest

  pub passed_behind : (from end k : ℕ) (items : List (ℕ × Item)) → HaveIdsIn unit from end items → end ≤ k → passed_unit unit k items ≡ filter (λ entry. not (nat_eq entry.1.unit unit)) items
  passed_behind from end k [] h le = refl
  passed_behind from end k (e ∷ es) h le = by (passed_behind from end k es h.1 le) (nat_eq e.1.unit unit) refl
    where
      by : passed_unit unit k es ≡ filter (λ entry. not (nat_eq entry.1.unit unit)) es → (t : Bool) → nat_eq e.1.unit unit ≡ t → cond (not (t && nat_lt e.0 k)) (e ∷ passed_unit unit k es) (passed_unit unit k es)
          ≡ cond (not t) (e ∷ filter (λ entry. not (nat_eq entry.1.unit unit)) es) (filter (λ entry. not (nat_eq entry.1.unit unit)) es)
      by rest true own =
          let lt = (h.0 (eqb-true e.1.unit unit own)).1 in
          ap (λ l. cond (not l) (e ∷ passed_unit unit k es) (passed_unit unit k es)) (is_lt e.0 k (omega (arith, lt, le))) ∙ rest
      by rest false own = ap (λ xs. e ∷ xs) rest

  pub taken_before : (from end : ℕ) (items : List (ℕ × Item)) → HaveIdsIn unit from end items → taken_to unit from items ≡ []
  taken_before from end [] h = refl
  taken_before from end (e ∷ es) h = by (taken_before from end es h.1) (nat_eq e.1.unit unit) refl
    where
      by : taken_to unit from es ≡ [] → (t : Bool) → nat_eq e.1.unit unit ≡ t → cond (t && nat_lt e.0 from) (e ∷ taken_to unit from es) (taken_to unit from es) ≡ []
      by rest true k = ap (λ l. cond l (e ∷ taken_to unit from es) (taken_to unit from es)) (not_lt e.0 from (h.0 (eqb-true e.1.unit unit k)).0) ∙ rest
      by rest false k = rest

  pub taken_behind : (from end k : ℕ) (items : List (ℕ × Item)) → HaveIdsIn unit from end items → end ≤ k → taken_to unit k items ≡ entries_of unit items
  taken_behind from end k [] h le = refl
  taken_behind from end k (e ∷ es) h le = by (taken_behind from end k es h.1 le) (nat_eq e.1.unit unit) refl
    where
      by : taken_to unit k es ≡ entries_of unit es → (t : Bool) → nat_eq e.1.unit unit ≡ t → cond (t && nat_lt e.0 k) (e ∷ taken_to unit k es) (taken_to unit k es) ≡ cond t (e ∷ entries_of unit es) (entries_of unit es)
      by rest true own =
          let lt = (h.0 (eqb-true e.1.unit unit own)).1 in
          ap (λ l. cond l (e ∷ taken_to unit k es) (taken_to unit k es)) (is_lt e.0 k (omega (arith, lt, le))) ∙ ap (λ xs. e ∷ xs) rest
      by rest false own = rest

  -- ---- a row of slots without those before and behind the places
  other_slot : (k : ℕ) (s : Option Item) (u : ℕ) (ss : List (Option Item)) → IsUnitIn s u → u ≢ unit → unit_items unit k (s ∷ ss) ≡ unit_items unit (k + 1) ss
  other_slot k None u ss own ne = refl
  other_slot k (Some x) u ss own ne =
      ap (λ b. cond b ((k, x) ∷ unit_items unit (k + 1) ss) (unit_items unit (k + 1) ss)) (ne_eqb x.unit unit (λ e. ne (sym own ∙ e)))

  same_slot : (k : ℕ) (s : Option Item) (ss os : List (Option Item)) → unit_items unit (k + 1) ss ≡ unit_items unit (k + 1) os → unit_items unit k (s ∷ ss) ≡ unit_items unit k (s ∷ os)
  same_slot k None ss os e = e
  same_slot k (Some x) ss os e = ap (λ es. cond (nat_eq x.unit unit) ((k, x) ∷ es) es) e

  none_items : (k : ℕ) (slots : List (Option Item)) (units : List ℕ) → AreUnitsIn slots units → ((n : ℕ) → n < length units → get_or units n 0 ≢ unit) → unit_items unit k slots ≡ []
  none_items k [] units h none = refl
  none_items k (s ∷ ss) [] h none = absurd h
  none_items k (s ∷ ss) (u ∷ us) h none =
      other_slot k s u ss h.0 (none zero (omega arith)) ∙ none_items (k + 1) ss us h.1 (λ n lt. none (suc n) (omega arith))

  pub items_prefix : (k long : ℕ) (slots : List (Option Item)) (units : List ℕ) → AreUnitsIn slots units → ((n : ℕ) → n < length units → long ≤ n → get_or units n 0 ≢ unit)
      → unit_items unit k (take long slots) ≡ unit_items unit k slots
  items_prefix k zero slots units h none = sym (none_items k slots units h (λ n lt. none n lt (omega arith)))
  items_prefix k (suc long) [] units h none = refl
  items_prefix k (suc long) (s ∷ ss) [] h none = absurd h
  items_prefix k (suc long) (s ∷ ss) (u ∷ us) h none =
      same_slot k s (take long ss) ss (items_prefix (k + 1) long ss us h.1 (λ n lt le. none (suc n) (omega arith) (omega arith)))

  pub items_behind : (k from : ℕ) (slots : List (Option Item)) (units : List ℕ) → AreUnitsIn slots units → ((n : ℕ) → n < from → n < length units → get_or units n 0 ≢ unit)
      → unit_items unit (k + from) (drop from slots) ≡ unit_items unit k slots
  items_behind k zero slots units h none = ap (λ (i : ℕ). unit_items unit i slots) (omega arith)
  items_behind k (suc from) [] units h none = refl
  items_behind k (suc from) (s ∷ ss) [] h none = absurd h
  items_behind k (suc from) (s ∷ ss) (u ∷ us) h none =
      ap (λ (i : ℕ). unit_items unit i (drop from ss)) (omega arith) ∙ items_behind (k + 1) from ss us h.1 (λ n lt in_row. none (suc n) (omega arith) (omega arith))
      ∙ sym (other_slot k s u ss h.0 (none zero (omega arith) (omega arith)))

  -- ---- moves
  module _ (dx dy : ℤ) where
    pub stays_before : (from : ℕ) (slots : List (Option Item)) (units : List ℕ) → AreUnitsIn slots units → ((n : ℕ) → n < from → n < length units → get_or units n 0 ≢ unit)
        → list_all (λ slot. slot_stays unit dx dy slot) slots ≡ list_all (λ slot. slot_stays unit dx dy slot) (drop from slots)
    stays_before zero slots units h none = refl
    stays_before (suc from) [] units h none = refl
    stays_before (suc from) (s ∷ ss) [] h none = absurd h
    stays_before (suc from) (s ∷ ss) (u ∷ us) h none =
        ap (λ b. b && list_all (λ slot. slot_stays unit dx dy slot) ss) (own_moves_not unit u dx dy s h.0 (ne_eqb u unit (none zero (omega arith) (omega arith)))).0
        ∙ stays_before from ss us h.1 (λ n lt in_row. none (suc n) (omega arith) (omega arith))

    pub stays_behind : (end : ℕ) (slots : List (Option Item)) (units : List ℕ) → AreUnitsIn slots units → ((n : ℕ) → n < length units → end ≤ n → get_or units n 0 ≢ unit)
        → list_all (λ slot. slot_stays unit dx dy slot) (drop end slots) ≡ true
    stays_behind zero [] units h none = refl
    stays_behind zero (s ∷ ss) [] h none = absurd h
    stays_behind zero (s ∷ ss) (u ∷ us) h none =
        and_from _ _ (own_moves_not unit u dx dy s h.0 (ne_eqb u unit (none zero (omega arith) (omega arith)))).0 (stays_behind zero ss us h.1 (λ n lt le. none (suc n) (omega arith) (omega arith)))
    stays_behind (suc end) [] units h none = refl
    stays_behind (suc end) (s ∷ ss) [] h none = absurd h
    stays_behind (suc end) (s ∷ ss) (u ∷ us) h none = stays_behind end ss us h.1 (λ n lt le. none (suc n) (omega arith) (omega arith))

    pub moved_before : (from : ℕ) (slots : List (Option Item)) (units : List ℕ) → AreUnitsIn slots units → ((n : ℕ) → n < from → n < length units → get_or units n 0 ≢ unit)
        → Rewritten (IsMovedSlot unit dx dy) from slots slots
    moved_before zero slots units h none = refl
    moved_before (suc from) [] units h none = refl
    moved_before (suc from) (s ∷ ss) [] h none = absurd h
    moved_before (suc from) (s ∷ ss) (u ∷ us) h none = (
      (own_moves_not unit u dx dy s h.0 (ne_eqb u unit (none zero (omega arith) (omega arith)))).1,
      moved_before from ss us h.1 (λ n lt in_row. none (suc n) (omega arith) (omega arith)),
    )

    still : (slots : List (Option Item)) (units : List ℕ) → AreUnitsIn slots units → ((n : ℕ) → n < length units → get_or units n 0 ≢ unit) → AllZip (IsMovedSlot unit dx dy) slots slots
    still [] units h none = tt
    still (s ∷ ss) [] h none = absurd h
    still (s ∷ ss) (u ∷ us) h none = (
      (own_moves_not unit u dx dy s h.0 (ne_eqb u unit (none zero (omega arith)))).1,
      still ss us h.1 (λ n lt. none (suc n) (omega arith)),
    )

    pub moved_behind : (end : ℕ) (old new : List (Option Item)) (units : List ℕ) → AreUnitsIn old units → ((n : ℕ) → n < length units → end ≤ n → get_or units n 0 ≢ unit)
        → Rewritten (IsMovedSlot unit dx dy) end old new → AllZip (IsMovedSlot unit dx dy) old new
    moved_behind zero old new units h none r =
        subst (λ (xs : List (Option Item)). AllZip (IsMovedSlot unit dx dy) old xs) r (still old units h (λ n lt. none n lt (omega arith)))
    moved_behind (suc end) [] [] units h none r = tt
    moved_behind (suc end) [] (n ∷ ns) units h none r = absurd cc
    moved_behind (suc end) (o ∷ os) [] units h none r = absurd r
    moved_behind (suc end) (o ∷ os) (n ∷ ns) [] h none r = absurd h
    moved_behind (suc end) (o ∷ os) (n ∷ ns) (u ∷ us) h none r = (r.0, moved_behind end os ns us h.1 (λ k lt le. none (suc k) (omega arith) (omega arith)) r.1)

-- ---- what stands before and behind the places is of other units
pub others_before : (unit : ℕ) (units : List ℕ) (from end : ℕ) → ArePlacesOf unit units from end → (n : ℕ) → n < from → n < length units → get_or units n 0 ≢ unit
others_before unit units from end p n before lt e = let both = p.all n lt e in omega (arith, before, both.0)

pub others_behind : (unit : ℕ) (units : List ℕ) (from end : ℕ) → ArePlacesOf unit units from end → (n : ℕ) → n < length units → end ≤ n → get_or units n 0 ≢ unit
others_behind unit units from end p n lt behind e = let both = p.all n lt e in omega (arith, behind, both.1)

-- ---- the part of the row
units_prefix : (n : ℕ) (slots : List (Option Item)) (units : List ℕ) → AreUnitsIn slots units → AreUnitsIn (take n slots) (take n units)
units_prefix zero slots units h = tt
units_prefix (suc n) [] [] h = tt
units_prefix (suc n) [] (u ∷ us) h = absurd h
units_prefix (suc n) (s ∷ ss) [] h = absurd h
units_prefix (suc n) (s ∷ ss) (u ∷ us) h = (h.0, units_prefix n ss us h.1)

units_behind : (n : ℕ) (slots : List (Option Item)) (units : List ℕ) → AreUnitsIn slots units → AreUnitsIn (drop n slots) (drop n units)
units_behind zero slots units h = h
units_behind (suc n) [] [] h = tt
units_behind (suc n) [] (u ∷ us) h = absurd h
units_behind (suc n) (s ∷ ss) [] h = absurd h
units_behind (suc n) (s ∷ ss) (u ∷ us) h = units_behind n ss us h.1

pub units_part : (from long : ℕ) (slots : List (Option Item)) (units : List ℕ) → AreUnitsIn slots units → are_units_in (take long (drop from slots)) (take long (drop from units)) ≡ true
units_part from long slots units h =
    all_shown (take long (drop from slots)) (take long (drop from units)) (units_prefix long (drop from slots) (drop from units) (units_behind from slots units h))

pub part_short : {X : Type 0} (n : ℕ) (xs : List X) → length (take n xs) ≤ n
part_short zero xs = omega arith
part_short (suc n) [] = omega arith
part_short (suc n) (x ∷ xs) = let short = part_short n xs in omega (arith, short)

behind_at : (i n : ℕ) (xs : List ℕ) → get_or (drop i xs) n 0 ≡ get_or xs (i + n) 0
behind_at zero n xs = ap (λ (k : ℕ). get_or xs k 0) (omega arith)
behind_at (suc i) n [] = refl
behind_at (suc i) n (x ∷ xs) = behind_at i n xs ∙ ap (λ (k : ℕ). get_or (x ∷ xs) k 0) at
  where
    at : suc (i + n) ≡ suc i + n
    at = omega arith

behind_in : (i n : ℕ) (xs : List ℕ) → n < length (drop i xs) → i + n < length xs
behind_in zero n xs lt = omega arith
behind_in (suc i) n [] lt = absurd (omega arith)
behind_in (suc i) n (x ∷ xs) lt = let inside = behind_in i n xs lt in omega (arith, inside)

pub items_part : (unit from end : ℕ) (slots : List (Option Item)) (units : List ℕ) → AreUnitsIn slots units → ArePlacesOf unit units from end
    → unit_items unit from (take (end - from) (drop from slots)) ≡ unit_items unit 0 slots
items_part unit from end slots units h p =
    items_prefix unit from (end - from) (drop from slots) (drop from units) (units_behind from slots units h) others
    ∙ ap (λ (k : ℕ). unit_items unit k (drop from slots)) first ∙ items_behind unit 0 from slots units h (others_before unit units from end p)
  where
    first : from ≡ 0 + from
    first = omega arith

    others : (n : ℕ) → n < length (drop from units) → end - from ≤ n → get_or (drop from units) n 0 ≢ unit
    others n lt le e = others_behind unit units from end p (from + n) (behind_in from n units lt) (let ordered = p.ordered in omega (arith, le, ordered)) (sym (behind_at from n units) ∙ e)
