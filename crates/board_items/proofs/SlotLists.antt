-- What a row of slots holds.
use Rattle.std.proofs.Common.{◌≡◌, ◌≢◌, ◌∙◌, ap, sym, subst, refl, ℕ, ◌+◌, ◌<◌, ◌≤◌, zero, suc, ℤ, Bool, true, false, cond, not, ◌&&◌, nat_eq, nat_lt, List, [], ◌∷◌, ◌++◌, length, get_or, set, filter, Option, None, Some, arith, eq-eqb}
use Rattle.std.specs.Prelude.{MatchBool}
use Rattle.std.specs.List.{AllZip, list_all, slice_get}
use Rattle.std.proofs.lemmas.List.Elements.{All-nil, All-cons}
use Rattle.std.proofs.lemmas.Bool.{eqb-true, ne_eqb}
use Rattle.one_item.specs.declared.item.Item.{Item}
use Rattle.board_items.specs.Boards.{PlainBoard, item_at}
use Rattle.one_item.specs.ItemParts.{parts_of, FirstHasPoints}
use Rattle.one_item.specs.ItemMoves.{IsShiftedItem, item_stays}
use Rattle.board_items.specs.UnitMoves.{IsMovedEntry, HaveFirstPoints, moves, unit_stays}
use Rattle.board_items.specs.ItemSlots.{present, at_slot, without_id, is_slot_of, slot_stays, IsMovedSlot}
use Rattle.board_items.proofs.MovedItems.{moved_item}

-- ---- numbers
is_lt : (a b : ℕ) → a < b → nat_lt a b ≡ true
is_lt a b h = grind (arith, h)

not_lt : (a b : ℕ) → b ≤ a → nat_lt a b ≡ false
not_lt a b h = grind (arith, h)

lt_from : (a b : ℕ) → nat_lt a b ≡ true → a < b
lt_from a b h = grind (arith, h)

ge_from : (a b : ℕ) → nat_lt a b ≡ false → b ≤ a
ge_from a b h = grind (arith, h)

differ : (a b : ℕ) → nat_eq a b ≡ false → a ≢ b
differ a b h e = let same = eq-eqb a b e in absurd cc

past : (a b : ℕ) → b ≤ a → a ≢ b → b + 1 ≤ a
past a b le other = grind (arith, le, other)

and_false : (a : Bool) → (a && false) ≡ false
and_false true = refl
and_false false = refl

-- ---- slots
below : (k id : ℕ) (slots : List (Option Item)) → id < k → item_at (present k slots) id ≡ None
below k id [] lt = refl
below k id (None ∷ ss) lt = below (k + 1) id ss (omega arith)
below k id (Some x ∷ ss) lt = ap (λ b. cond b (Some x) (item_at (present (k + 1) ss) id)) (ne_eqb id k (λ e. omega arith)) ∙ below (k + 1) id ss (omega arith)

pub found : (k n : ℕ) (slots : List (Option Item)) → item_at (present k slots) (k + n) ≡ at_slot (slice_get slots n)
found k n [] = refl
found k zero (None ∷ ss) = below (k + 1) (k + 0) ss (omega arith)
found k (suc n) (None ∷ ss) = subst (λ (i : ℕ). item_at (present (k + 1) ss) i ≡ at_slot (slice_get ss n)) (omega arith) (found (k + 1) n ss)
found k zero (Some x ∷ ss) = ap (λ b. cond b (Some x) (item_at (present (k + 1) ss) (k + 0))) (eq-eqb (k + 0) k (omega arith))
found k (suc n) (Some x ∷ ss) =
    ap (λ b. cond b (Some x) (item_at (present (k + 1) ss) (k + suc n))) (ne_eqb (k + suc n) k (λ e. omega arith))
    ∙ subst (λ (i : ℕ). item_at (present (k + 1) ss) i ≡ at_slot (slice_get ss n)) (omega arith) (found (k + 1) n ss)

pub from_zero : (id : ℕ) (slots : List (Option Item)) → item_at (present 0 slots) id ≡ at_slot (slice_get slots id)
from_zero id slots = subst (λ (i : ℕ). item_at (present 0 slots) i ≡ at_slot (slice_get slots id)) (omega arith) (found 0 id slots)

added_at : (k : ℕ) (slots : List (Option Item)) (item : Item) → present k (slots ++ Some item ∷ []) ≡ present k slots ++ (k + length slots, item) ∷ []
added_at k [] item = ap (λ (n : ℕ). (n, item) ∷ []) (omega arith)
added_at k (None ∷ ss) item = added_at (k + 1) ss item ∙ ap (λ (n : ℕ). present (k + 1) ss ++ (n, item) ∷ []) (omega arith)
added_at k (Some x ∷ ss) item = ap (λ es. (k, x) ∷ es) (added_at (k + 1) ss item ∙ ap (λ (n : ℕ). present (k + 1) ss ++ (n, item) ∷ []) (omega arith))

pub added : (slots more : List (Option Item)) (item : Item) → more ≡ slots ++ Some item ∷ [] → present 0 more ≡ present 0 slots ++ (length slots, item) ∷ []
added slots more item e = ap (present 0) e ∙ added_at 0 slots item ∙ ap (λ (n : ℕ). present 0 slots ++ (n, item) ∷ []) (omega arith)

-- ---- without an id
filter_above : (k id : ℕ) (slots : List (Option Item)) → id < k → without_id id (present k slots) ≡ present k slots
filter_above k id [] lt = refl
filter_above k id (None ∷ ss) lt = filter_above (k + 1) id ss (omega arith)
filter_above k id (Some x ∷ ss) lt =
    ap (λ b. cond (not b) ((k, x) ∷ without_id id (present (k + 1) ss)) (without_id id (present (k + 1) ss))) (ne_eqb k id (λ e. omega arith))
    ∙ ap (λ es. (k, x) ∷ es) (filter_above (k + 1) id ss (omega arith))

emptied_at : (k n : ℕ) (slots : List (Option Item)) → n < length slots → present k (set slots n None) ≡ without_id (k + n) (present k slots)
emptied_at k n [] lt = absurd (omega arith)
emptied_at k zero (None ∷ ss) lt = sym (filter_above (k + 1) (k + 0) ss (omega arith))
emptied_at k zero (Some x ∷ ss) lt =
    sym (ap (λ b. cond (not b) ((k, x) ∷ without_id (k + 0) (present (k + 1) ss)) (without_id (k + 0) (present (k + 1) ss))) (eq-eqb k (k + 0) (omega arith))
    ∙ filter_above (k + 1) (k + 0) ss (omega arith))
emptied_at k (suc n) (None ∷ ss) lt = subst (λ (i : ℕ). present (k + 1) (set ss n None) ≡ without_id i (present (k + 1) ss)) (omega arith) (emptied_at (k + 1) n ss (omega arith))
emptied_at k (suc n) (Some x ∷ ss) lt =
    ap (λ es. (k, x) ∷ es) (subst (λ (i : ℕ). present (k + 1) (set ss n None) ≡ without_id i (present (k + 1) ss)) (omega arith) (emptied_at (k + 1) n ss (omega arith)))
    ∙ sym (ap (λ b. cond (not b) ((k, x) ∷ without_id (k + suc n) (present (k + 1) ss)) (without_id (k + suc n) (present (k + 1) ss))) (ne_eqb k (k + suc n) (λ e. omega arith)))

pub emptied : (n : ℕ) (slots : List (Option Item)) → n < length slots → present 0 (set slots n None) ≡ without_id n (present 0 slots)
emptied n slots lt = subst (λ (i : ℕ). present 0 (set slots n None) ≡ without_id i (present 0 slots)) (omega arith) (emptied_at 0 n slots lt)

-- a slot that holds an item is one of the row
within : (n : ℕ) (slots : List (Option Item)) (item : Item) → at_slot (slice_get slots n) ≡ Some item → n < length slots
within n [] item e = absurd cc
within zero (s ∷ ss) item e = omega arith
within (suc n) (s ∷ ss) item e = let lt = within n ss item e in omega arith

pub absent : (n : ℕ) (slots : List (Option Item)) → item_at (present 0 slots) n ≡ None → without_id n (present 0 slots) ≡ present 0 slots
absent n slots e = no_entry n (present 0 slots) e
  where
    no_entry : (n : ℕ) (xs : List (ℕ × Item)) → item_at xs n ≡ None → without_id n xs ≡ xs
    no_entry n [] e = refl
    no_entry n (x ∷ xs) e = by (λ k. no_entry n xs k) (nat_eq n x.0) refl e
      where
        by : (item_at xs n ≡ None → without_id n xs ≡ xs) → (t : Bool) → nat_eq n x.0 ≡ t → cond t (Some x.1) (item_at xs n) ≡ None → without_id n (x ∷ xs) ≡ x ∷ xs
        by again true k h = absurd cc
        by again false k h =
            ap (λ b. cond (not b) (x ∷ without_id n xs) (without_id n xs)) (ne_eqb x.0 n (λ s. absurd (let t = eq-eqb n x.0 (sym s) in cc)))
            ∙ ap (λ es. x ∷ es) (again h)

pub in_row : (n : ℕ) (slots : List (Option Item)) (item : Item) → item_at (present 0 slots) n ≡ Some item → n < length slots
in_row n slots item e = within n slots item (sym (from_zero n slots) ∙ e)

slot_in : (n : ℕ) (slots : List (Option Item)) (d : Option Item) → n < length slots → get_or slots n d ≡ at_slot (slice_get slots n)
slot_in n [] d lt = absurd (omega arith)
slot_in zero (s ∷ ss) d lt = refl
slot_in (suc n) (s ∷ ss) d lt = slot_in n ss d (omega arith)

pub empty_slot : (n : ℕ) (slots : List (Option Item)) → n < length slots → get_or slots n None ≡ None → without_id n (present 0 slots) ≡ present 0 slots
empty_slot n slots lt e = absent n slots (from_zero n slots ∙ sym (slot_in n slots None lt) ∙ e)

pub slot_is : (n : ℕ) (slots : List (Option Item)) (d : Option Item) → n < length slots → get_or slots n d ≡ item_at (present 0 slots) n
slot_is n slots d lt = slot_in n slots d lt ∙ sym (from_zero n slots)

pub as_long : (n : ℕ) (slots : List (Option Item)) (s : Option Item) → length (set slots n s) ≡ length slots
as_long n [] s = refl
as_long zero (o ∷ os) s = refl
as_long (suc n) (o ∷ os) s = let e = as_long n os s in omega (arith, e)

-- the board after a slot was emptied
pub board_left : (b : PlainBoard) (n : ℕ) (slots : List (Option Item)) (s : Option Item) → n < length slots → s ≡ None
    → record b { items = present 0 (set slots n s); next_id = length (set slots n s) } ≡ record b { items = without_id n (present 0 slots); next_id = length slots }
board_left b n slots s lt e =
    ap (λ (es : List (ℕ × Item)). record b { items = es; next_id = length (set slots n s) }) (ap (λ (o : Option Item). present 0 (set slots n o)) e ∙ emptied n slots lt)
    ∙ ap (λ (k : ℕ). record b { items = without_id n (present 0 slots); next_id = k }) (as_long n slots s)

-- ---- an item that is taken out if it is of the unit
abbrev pub without_part : ℕ → ℕ → List (ℕ × Item) → List (ℕ × Item)
without_part id unit items = filter (λ entry. not (nat_eq entry.0 id && nat_eq entry.1.unit unit)) items

part_above : (unit k id : ℕ) (slots : List (Option Item)) → id < k → without_part id unit (present k slots) ≡ present k slots
part_above unit k id [] lt = refl
part_above unit k id (None ∷ ss) lt = part_above unit (k + 1) id ss (omega arith)
part_above unit k id (Some x ∷ ss) lt =
    ap (λ b. cond (not (b && nat_eq x.unit unit)) ((k, x) ∷ without_part id unit (present (k + 1) ss)) (without_part id unit (present (k + 1) ss))) (ne_eqb k id (λ e. omega arith))
    ∙ ap (λ es. (k, x) ∷ es) (part_above unit (k + 1) id ss (omega arith))

part_at : (unit k n : ℕ) (slots : List (Option Item)) (d : Option Item) (b : Bool) → n < length slots → is_slot_of unit (get_or slots n d) ≡ b
    → without_part (k + n) unit (present k slots) ≡ cond b (without_id (k + n) (present k slots)) (present k slots)
part_at unit k n [] d b lt e = absurd (omega arith)
part_at unit k zero (None ∷ ss) d b lt e =
    part_above unit (k + 1) (k + 0) ss (omega arith) ∙ sym (ap (λ t. cond t (without_id (k + 0) (present (k + 1) ss)) (present (k + 1) ss)) (sym e))
part_at unit k zero (Some x ∷ ss) d b lt e =
    ap (λ t. cond (not (t && nat_eq x.unit unit)) ((k, x) ∷ without_part (k + 0) unit (present (k + 1) ss)) (without_part (k + 0) unit (present (k + 1) ss))) (eq-eqb k (k + 0) (omega arith))
    ∙ ap (λ es. cond (not (nat_eq x.unit unit)) ((k, x) ∷ es) es) (part_above unit (k + 1) (k + 0) ss (omega arith))
    ∙ ap (λ t. cond (not t) ((k, x) ∷ present (k + 1) ss) (present (k + 1) ss)) e
    ∙ by b
  where
    taken : without_id (k + 0) ((k, x) ∷ present (k + 1) ss) ≡ present (k + 1) ss
    taken =
        ap (λ t. cond (not t) ((k, x) ∷ without_id (k + 0) (present (k + 1) ss)) (without_id (k + 0) (present (k + 1) ss))) (eq-eqb k (k + 0) (omega arith))
        ∙ filter_above (k + 1) (k + 0) ss (omega arith)

    by : (b : Bool) → cond (not b) ((k, x) ∷ present (k + 1) ss) (present (k + 1) ss) ≡ cond b (without_id (k + 0) ((k, x) ∷ present (k + 1) ss)) ((k, x) ∷ present (k + 1) ss)
    by true = sym taken
    by false = refl
part_at unit k (suc n) (None ∷ ss) d b lt e =
    subst (λ (i : ℕ). without_part i unit (present (k + 1) ss) ≡ cond b (without_id i (present (k + 1) ss)) (present (k + 1) ss)) (omega arith) (part_at unit (k + 1) n ss d b (omega arith) e)
part_at unit k (suc n) (Some x ∷ ss) d b lt e =
    ap (λ t. cond (not (t && nat_eq x.unit unit)) ((k, x) ∷ without_part (k + suc n) unit (present (k + 1) ss)) (without_part (k + suc n) unit (present (k + 1) ss))) (ne_eqb k (k + suc n) (λ e. omega arith))
    ∙ ap (λ es. (k, x) ∷ es) (subst (λ (i : ℕ). without_part i unit (present (k + 1) ss) ≡ cond b (without_id i (present (k + 1) ss)) (present (k + 1) ss)) (omega arith) (part_at unit (k + 1) n ss d b (omega arith) e))
    ∙ by b
  where
    by : (b : Bool) → (k, x) ∷ cond b (without_id (k + suc n) (present (k + 1) ss)) (present (k + 1) ss) ≡ cond b (without_id (k + suc n) ((k, x) ∷ present (k + 1) ss)) ((k, x) ∷ present (k + 1) ss)
    by true = sym (ap (λ t. cond (not t) ((k, x) ∷ without_id (k + suc n) (present (k + 1) ss)) (without_id (k + suc n) (present (k + 1) ss))) (ne_eqb k (k + suc n) (λ e. omega arith)))
    by false = refl

pub part : (unit n : ℕ) (slots : List (Option Item)) (d : Option Item) (b : Bool) → n < length slots → is_slot_of unit (get_or slots n d) ≡ b
    → without_part n unit (present 0 slots) ≡ cond b (without_id n (present 0 slots)) (present 0 slots)
part unit n slots d b lt e = subst (λ (i : ℕ). without_part i unit (present 0 slots) ≡ cond b (without_id i (present 0 slots)) (present 0 slots)) (omega arith) (part_at unit 0 n slots d b lt e)

-- ---- all items of the unit whose ids are below one
abbrev pub passed_unit : ℕ → ℕ → List (ℕ × Item) → List (ℕ × Item)
passed_unit unit k items = filter (λ entry. not (nat_eq entry.1.unit unit && nat_lt entry.0 k)) items

pub one_passed : (unit k : ℕ) (items : List (ℕ × Item)) → without_part k unit (passed_unit unit k items) ≡ passed_unit unit (k + 1) items
one_passed unit k [] = refl
one_passed unit k (e ∷ es) = by (one_passed unit k es) (nat_eq e.1.unit unit) refl (nat_lt e.0 k) refl
  where
    last : without_part k unit (passed_unit unit k es) ≡ passed_unit unit (k + 1) es → nat_eq e.1.unit unit ≡ true → nat_lt e.0 k ≡ false → (m : Bool) → nat_eq e.0 k ≡ m
        → without_part k unit (e ∷ passed_unit unit k es) ≡ cond (not (nat_lt e.0 (k + 1))) (e ∷ passed_unit unit (k + 1) es) (passed_unit unit (k + 1) es)
    last again u l true m =
        ap (λ a. cond (not (a && nat_eq e.1.unit unit)) (e ∷ without_part k unit (passed_unit unit k es)) (without_part k unit (passed_unit unit k es))) m
        ∙ ap (λ a. cond (not a) (e ∷ without_part k unit (passed_unit unit k es)) (without_part k unit (passed_unit unit k es))) u
        ∙ again ∙ sym (ap (λ a. cond (not a) (e ∷ passed_unit unit (k + 1) es) (passed_unit unit (k + 1) es)) (is_lt e.0 (k + 1) (let same = eqb-true e.0 k m in omega (arith, same))))
    last again u l false m =
        ap (λ a. cond (not (a && nat_eq e.1.unit unit)) (e ∷ without_part k unit (passed_unit unit k es)) (without_part k unit (passed_unit unit k es))) m
        ∙ ap (λ xs. e ∷ xs) again
        ∙ sym (ap (λ a. cond (not a) (e ∷ passed_unit unit (k + 1) es) (passed_unit unit (k + 1) es)) (not_lt e.0 (k + 1) (past e.0 k (ge_from e.0 k l) (differ e.0 k m))))

    by : without_part k unit (passed_unit unit k es) ≡ passed_unit unit (k + 1) es → (t : Bool) → nat_eq e.1.unit unit ≡ t → (l : Bool) → nat_lt e.0 k ≡ l
        → without_part k unit (cond (not (t && l)) (e ∷ passed_unit unit k es) (passed_unit unit k es)) ≡ cond (not (t && nat_lt e.0 (k + 1))) (e ∷ passed_unit unit (k + 1) es) (passed_unit unit (k + 1) es)
    by again true u true l =
        again ∙ sym (ap (λ m. cond (not m) (e ∷ passed_unit unit (k + 1) es) (passed_unit unit (k + 1) es)) (is_lt e.0 (k + 1) (let lt = lt_from e.0 k l in omega (arith, lt))))
    by again true u false l = last again u l (nat_eq e.0 k) refl
    by again false u l m =
        ap (λ a. cond (not a) (e ∷ without_part k unit (passed_unit unit k es)) (without_part k unit (passed_unit unit k es))) (ap (λ a. nat_eq e.0 k && a) u ∙ and_false (nat_eq e.0 k))
        ∙ ap (λ xs. e ∷ xs) again

-- ---- moves
pub stays_slots : (unit : ℕ) (dx dy : ℤ) (k : ℕ) (slots : List (Option Item)) → unit_stays unit dx dy (present k slots) ≡ list_all (λ slot. slot_stays unit dx dy slot) slots
stays_slots unit dx dy k [] = refl
stays_slots unit dx dy k (None ∷ ss) = stays_slots unit dx dy (k + 1) ss
stays_slots unit dx dy k (Some x ∷ ss) = ap (λ b. cond (moves unit x) (item_stays dx dy x) true && b) (stays_slots unit dx dy (k + 1) ss)

pub moved_slots : (unit : ℕ) (dx dy : ℤ) (k : ℕ) (old new : List (Option Item)) → AllZip (IsMovedSlot unit dx dy) old new → AllZip (IsMovedEntry unit dx dy) (present k old) (present k new)
moved_slots unit dx dy k [] [] h = tt
moved_slots unit dx dy k [] (n ∷ ns) h = absurd h
moved_slots unit dx dy k (o ∷ os) [] h = absurd h
moved_slots unit dx dy k (None ∷ os) (None ∷ ns) h = moved_slots unit dx dy (k + 1) os ns h.1
moved_slots unit dx dy k (None ∷ os) (Some n ∷ ns) h = absurd h.0
moved_slots unit dx dy k (Some o ∷ os) (None ∷ ns) h = absurd h.0
moved_slots unit dx dy k (Some o ∷ os) (Some n ∷ ns) h = (record { id = refl; item = moved_item unit dx dy o n h.0 }, moved_slots unit dx dy (k + 1) os ns h.1)

-- what moved starts with a part that has points
pub points_moved : (unit : ℕ) (dx dy : ℤ) (k : ℕ) (old new : List (Option Item)) → AllZip (IsMovedSlot unit dx dy) old new → HaveFirstPoints unit (present k old)
points_moved unit dx dy k [] new h = All-nil (λ (e : ℕ × Item). moves unit e.1 ≡ true → FirstHasPoints (parts_of e.1))
points_moved unit dx dy k (o ∷ os) [] h = absurd h
points_moved unit dx dy k (None ∷ os) (None ∷ ns) h = points_moved unit dx dy (k + 1) os ns h.1
points_moved unit dx dy k (None ∷ os) (Some n ∷ ns) h = absurd h.0
points_moved unit dx dy k (Some o ∷ os) (None ∷ ns) h = absurd h.0
points_moved unit dx dy k (Some o ∷ os) (Some n ∷ ns) h =
    All-cons (λ (e : ℕ × Item). moves unit e.1 ≡ true → FirstHasPoints (parts_of e.1)) (k, o) (present (k + 1) os)
    (λ m. (subst (λ (b : Bool). MatchBool b (IsShiftedItem dx dy o n × FirstHasPoints (parts_of o)) (n ≡ o)) m h.0).1) (points_moved unit dx dy (k + 1) os ns h.1)

pub same_row : {X : Type 0} (R : X → X → Type 0) (old new : List X) → AllZip R old new → length new ≡ length old
same_row R [] [] h = refl
same_row R [] (n ∷ ns) h = absurd h
same_row R (o ∷ os) [] h = absurd h
same_row R (o ∷ os) (n ∷ ns) h = let e = same_row R os ns h.1 in omega (arith, e)
