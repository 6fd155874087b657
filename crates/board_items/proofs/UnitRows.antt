-- The row of units beside the slots.
use Rattle.std.proofs.Common.{◌≡◌, ◌∙◌, ap, sym, subst, refl, ℕ, ◌+◌, ◌<◌, zero, suc, ℤ, Bool, true, false, cond, not, ◌&&◌, nat_eq, List, [], ◌∷◌, ◌++◌, length, get_or, set, drop, Option, None, Some, Vec, arith, eq-eqb}
use Rattle.std.proofs.lemmas.Bool.{and_from}
use Rattle.std.proofs.lemmas.List.{with_items_is}
use Rattle.std.specs.Prelude.{MatchBool}
use Rattle.std.specs.Vec.{with_items}
use Rattle.std.specs.List.{AllZip, list_all}
use Rattle.std.specs.declared.alloc.Global.{Global}
use Rattle.one_item.specs.declared.item.Item.{Item}
use Rattle.one_item.specs.ItemParts.{parts_of, FirstHasPoints}
use Rattle.one_item.specs.ItemMoves.{IsShiftedItem, item_stays}
use Rattle.one_item.specs.ItemKinds.{is_note}
use Rattle.board_items.specs.UnitMoves.{moves}
use Rattle.board_items.specs.ItemSlots.{present, unit_items, only_of, without_id, is_slot_of, IsUnitIn, AreUnitsIn, is_unit_in, are_units_in, slot_stays, IsMovedSlot}
use Rattle.board_items.proofs.MovedItems.{moved_item}
use Rattle.board_items.proofs.Walking.{left_at}
use Rattle.board_items.proofs.SlotLists.{part, without_part, empty_slot}

pub as_many : (slots : List (Option Item)) (units : List ℕ) → AreUnitsIn slots units → length units ≡ length slots
as_many [] [] h = refl
as_many [] (u ∷ us) h = absurd h
as_many (s ∷ ss) [] h = absurd h
as_many (s ∷ ss) (u ∷ us) h = let e = as_many ss us h.1 in omega (arith, e)

pub unit_in : (slots : List (Option Item)) (units : List ℕ) (k : ℕ) (d : Option Item) (e : ℕ) → AreUnitsIn slots units → k < length slots → IsUnitIn (get_or slots k d) (get_or units k e)
unit_in [] units k d e h lt = absurd (omega arith)
unit_in (s ∷ ss) [] k d e h lt = absurd h
unit_in (s ∷ ss) (u ∷ us) zero d e h lt = h.0
unit_in (s ∷ ss) (u ∷ us) (suc k) d e h lt = unit_in ss us k d e h.1 (omega arith)

-- ---- as the board changes
pub units_added : (slots more : List (Option Item)) (units others : List ℕ) (item : Item) → AreUnitsIn slots units → more ≡ slots ++ Some item ∷ [] → others ≡ units ++ item.unit ∷ [] → AreUnitsIn more others
units_added slots more units others item h e f =
    subst (λ (ss : List (Option Item)). AreUnitsIn ss others) (sym e) (subst (λ (us : List ℕ). AreUnitsIn (slots ++ Some item ∷ []) us) (sym f) (added slots units h))
  where
    added : (slots : List (Option Item)) (units : List ℕ) → AreUnitsIn slots units → AreUnitsIn (slots ++ Some item ∷ []) (units ++ item.unit ∷ [])
    added [] [] h = (refl, tt)
    added [] (u ∷ us) h = absurd h
    added (s ∷ ss) [] h = absurd h
    added (s ∷ ss) (u ∷ us) h = (h.0, added ss us h.1)

pub units_same : (slots more : List (Option Item)) (units others : List ℕ) → AreUnitsIn slots units → more ≡ slots → others ≡ units → AreUnitsIn more others
units_same slots more units others h e f = subst (λ (ss : List (Option Item)). AreUnitsIn ss others) (sym e) (subst (λ (us : List ℕ). AreUnitsIn slots us) (sym f) h)

pub units_emptied : (slots : List (Option Item)) (units : List ℕ) (n : ℕ) (s : Option Item) → AreUnitsIn slots units → s ≡ None → AreUnitsIn (set slots n s) units
units_emptied slots units n s h e = subst (λ (o : Option Item). AreUnitsIn (set slots n o) units) (sym e) (emptied slots units n h)
  where
    emptied : (slots : List (Option Item)) (units : List ℕ) (n : ℕ) → AreUnitsIn slots units → AreUnitsIn (set slots n None) units
    emptied [] units n h = h
    emptied (s ∷ ss) [] n h = absurd h
    emptied (s ∷ ss) (u ∷ us) zero h = (tt, h.1)
    emptied (s ∷ ss) (u ∷ us) (suc n) h = (h.0, emptied ss us n h.1)

kept_unit : (unit : ℕ) (dx dy : ℤ) (o n : Item) → MatchBool (moves unit o) (IsShiftedItem dx dy o n) (n ≡ o) → n.unit ≡ o.unit
kept_unit unit dx dy o n h = by (moves unit o) h
  where
    by : (b : Bool) → MatchBool b (IsShiftedItem dx dy o n) (n ≡ o) → n.unit ≡ o.unit
    by true k = k.unit
    by false k = ap (λ (i : Item). i.unit) k

pub units_moved : (unit : ℕ) (dx dy : ℤ) (v : Vec (Option Item) Global) (from ws : List (Option Item)) (units : List ℕ) → AreUnitsIn v.items units → from ≡ v.items → length ws ≡ v.len
    → AllZip (IsMovedSlot unit dx dy) from ws → AreUnitsIn (with_items v ws).items units
units_moved unit dx dy v from ws units h f long zip =
    subst (λ (ss : List (Option Item)). AreUnitsIn ss units) (sym (with_items_is v ws long))
    (moved v.items ws units h (subst (λ (zs : List (Option Item)). AllZip (IsMovedSlot unit dx dy) zs ws) f zip))
  where
    moved : (old new : List (Option Item)) (units : List ℕ) → AreUnitsIn old units → AllZip (IsMovedSlot unit dx dy) old new → AreUnitsIn new units
    moved [] [] units h z = h
    moved [] (n ∷ ns) units h z = absurd z
    moved (o ∷ os) [] units h z = absurd z
    moved (o ∷ os) (n ∷ ns) [] h z = absurd h
    moved (None ∷ os) (None ∷ ns) (u ∷ us) h z = (tt, moved os ns us h.1 z.1)
    moved (None ∷ os) (Some n ∷ ns) (u ∷ us) h z = absurd z.0
    moved (Some o ∷ os) (None ∷ ns) (u ∷ us) h z = absurd z.0
    moved (Some o ∷ os) (Some n ∷ ns) (u ∷ us) h z = (kept_unit unit dx dy o n (moved_item unit dx dy o n z.0) ∙ h.0, moved os ns us h.1 z.1)

-- ---- walks over slots
pub stays_on : {X : Type 0} (f : X → Bool) (xs : List X) (i : ℕ) (d : X) → list_all f xs ≡ list_all f (drop i xs) → i < length xs → list_all f xs ≡ f (get_or xs i d) && list_all f (drop (suc i) xs)
stays_on f xs i d h lt = h ∙ ap (list_all f) (left_at xs i d lt)

-- ---- a slot whose unit is known
slot_told : (unit own : ℕ) (s : Option Item) → IsUnitIn s own → nat_eq own unit ≡ false → is_slot_of unit s ≡ false
slot_told unit own None h e = refl
slot_told unit own (Some x) h e = ap (λ n. nat_eq n unit) h ∙ e

pub not_of : (unit n : ℕ) (slots : List (Option Item)) (units : List ℕ) (d : ℕ) → AreUnitsIn slots units → n < length slots → nat_eq (get_or units n d) unit ≡ false → without_part n unit (present 0 slots) ≡ present 0 slots
not_of unit n slots units d h lt e = part unit n slots None false lt (slot_told unit (get_or units n d) (get_or slots n None) (unit_in slots units n None d h lt) e)

pub all_of : (unit n : ℕ) (slots : List (Option Item)) (units : List ℕ) (d : ℕ) → AreUnitsIn slots units → n < length slots → nat_eq (get_or units n d) unit ≡ true
    → without_id n (present 0 slots) ≡ without_part n unit (present 0 slots)
all_of unit n slots units d h lt e = by (get_or slots n None) refl (unit_in slots units n None d h lt)
  where
    by : (s : Option Item) → get_or slots n None ≡ s → IsUnitIn s (get_or units n d) → without_id n (present 0 slots) ≡ without_part n unit (present 0 slots)
    by None k u = empty_slot n slots lt k ∙ sym (part unit n slots None false lt (ap (is_slot_of unit) k))
    by (Some x) k u = sym (part unit n slots None true lt (ap (is_slot_of unit) k ∙ ap (λ m. nat_eq m unit) u ∙ e))

-- ---- moves
pub own_moves_not : (unit own : ℕ) (dx dy : ℤ) (s : Option Item) → IsUnitIn s own → nat_eq own unit ≡ false → (slot_stays unit dx dy s ≡ true) × IsMovedSlot unit dx dy s s
own_moves_not unit own dx dy None h e = (refl, tt)
own_moves_not unit own dx dy (Some x) h e =
    let still : moves unit x ≡ false = ap (λ b. b && not (is_note x.what)) (ap (λ n. nat_eq n unit) h ∙ e) in
    (ap (λ b. cond b (item_stays dx dy x) true) still, subst (λ b. MatchBool b (IsShiftedItem dx dy x x × FirstHasPoints (parts_of x)) (x ≡ x)) (sym still) refl)

-- ---- the items of a unit
pub one_of : (unit k : ℕ) (s : Option Item) (ss : List (Option Item)) (x : Item) → only_of unit s ≡ Some x → unit_items unit k (s ∷ ss) ≡ (k, x) ∷ unit_items unit (k + 1) ss
one_of unit k None ss x e = absurd cc
one_of unit k (Some y) ss x e = by (nat_eq y.unit unit) e
  where
    by : (b : Bool) → cond b (Some y) None ≡ Some x → cond b ((k, y) ∷ unit_items unit (k + 1) ss) (unit_items unit (k + 1) ss) ≡ (k, x) ∷ unit_items unit (k + 1) ss
    by true h = let same : y ≡ x = cc in ap (λ (i : Item). (k, i) ∷ unit_items unit (k + 1) ss) same
    by false h = absurd cc

pub none_of : (unit k : ℕ) (s : Option Item) (ss : List (Option Item)) → only_of unit s ≡ None → unit_items unit k (s ∷ ss) ≡ unit_items unit (k + 1) ss
none_of unit k None ss e = refl
none_of unit k (Some y) ss e = by (nat_eq y.unit unit) e
  where
    by : (b : Bool) → cond b (Some y) None ≡ None → cond b ((k, y) ∷ unit_items unit (k + 1) ss) (unit_items unit (k + 1) ss) ≡ unit_items unit (k + 1) ss
    by true h = absurd cc
    by false h = refl

-- ---- the row of units as a test
shown_in : (s : Option Item) (u : ℕ) → IsUnitIn s u → is_unit_in s u ≡ true
shown_in None u h = refl
shown_in (Some x) u h = eq-eqb x.unit u h

pub all_shown : (slots : List (Option Item)) (units : List ℕ) → AreUnitsIn slots units → are_units_in slots units ≡ true
all_shown [] [] h = refl
all_shown [] (u ∷ us) h = absurd h
all_shown (s ∷ ss) [] h = absurd h
all_shown (s ∷ ss) (u ∷ us) h = and_from _ _ (shown_in s u h.0) (all_shown ss us h.1)
