-- What is known of a unit that was moved.
use Rattle.std.proofs.Common.{◌≡◌, ◌≢◌, ◌⊎◌, inl, inr, refl, sym, ap, subst, ◌∙◌, ℕ, zero, suc, ℤ, pos, neg_ℤ, Bool, true, false, cond, ◌&&◌, List, [], ◌∷◌, filter, Some, MatchBool, is_some, unsigned_abs, ◌≤◌, ◌+ℤ◌, ◌*ℤ◌, FitsSigned, arith, true≢false}
use mir.Syntax.{w64}
use Rattle.int_algebra.proofs.Scalars.{passed, clean}
use Rattle.std.specs.List.{AllZip, Contains, list_all}
use Rattle.std.specs.List.Sorted.{IsStrictlyIncreasing}
use Rattle.std.specs.Ordering.{int_eq}
use Rattle.std.proofs.lemmas.Bool.{and_parts}
use Rattle.std.proofs.lemmas.Bool.Decides.{Decides-int_eq}
use Rattle.std.proofs.lemmas.List.Elements.{All-contains}
use Rattle.geo_seg.specs.Shifts.{core_stays}
use Rattle.one_item.specs.declared.parts.Part.{Part}
use Rattle.one_item.specs.declared.item.Item.{Item}
use Rattle.one_item.specs.Positions.{is_near, is_on_board}
use Rattle.board_items.specs.Boards.{PlainBoard, IsSound, AllAdmitted, item_at, name_of, has_layers_of}
use Rattle.one_item.specs.ItemParts.{parts_of, FirstHasPoints}
use Rattle.one_item.specs.ItemMoves.{item_stays, IsShiftedItem}
use Rattle.board_items.specs.UnitMoves.{moves, unit_stays, IsMovedEntry, IsMoved, HaveFirstPoints}
use Rattle.board_laws.specs.Edits.{IsEdit, WasOrIs}
use Rattle.board_laws.proofs.Rest.{Entry, rises, found_at, contains_filter, source, passed as passed_test}
use Rattle.board_edits.specs.declared.making.Made.{Made}
use Rattle.board_edits.specs.Operations.{PlainOperation, nothing, shift}
use Rattle.board_edits.specs.Fitting.{plain_operation, returned_board, IsInverseOperation, AddsNone}
use Rattle.board_edits.specs.Making.{ids_of, shifted_back, IsMade}
use Rattle.board_edits.specs.TouchedItems.{ids_touched, ItemDiffers, reshaped, AreEdited, touched_before}
use Rattle.board_edits.proofs.EntryIds.{from_ids, to_ids, rise_filter, ids_rise}
use Rattle.board_edits.proofs.MovedFar.{item_small}
use Rattle.board_edits.proofs.Returned.{returned_same}
use Rattle.board_edits.proofs.ShiftedParts.{unit_stay}

some_once : {x y : Item} → Some x ≡ Some y → x ≡ y
some_once e = cc

-- ---- how far the items of a unit are moved that stay on the board
some_small : (board : PlainBoard) (unit : ℕ) (dx dy : ℤ) (es : List Entry) → AllAdmitted board es → unit_stays unit dx dy es ≡ true → ids_of (filter (λ (e : Entry). moves unit e.1) es) ≢ [] → (unsigned_abs dx ≤ 1000000000) × (unsigned_abs dy ≤ 1000000000)
some_small board unit dx dy [] on stays some = absurd (some refl)
some_small board unit dx dy (e ∷ es) on stays some = by (λ s n. some_small board unit dx dy es on.1 s n) (moves unit e.1) stays some
  where
    first : (is_on_board e.1 && is_some (name_of board e.1.net)) ≡ true
    first = (and_parts (is_on_board e.1 && is_some (name_of board e.1.net)) (has_layers_of board e.1) on.0).0

    here : is_on_board e.1 ≡ true
    here = (and_parts (is_on_board e.1) (is_some (name_of board e.1.net)) first).0

    by : (unit_stays unit dx dy es ≡ true → ids_of (filter (λ (x : Entry). moves unit x.1) es) ≢ [] → (unsigned_abs dx ≤ 1000000000) × (unsigned_abs dy ≤ 1000000000)) → (b : Bool) → (cond b (item_stays dx dy e.1) true && unit_stays unit dx dy es) ≡ true → ids_of (cond b (e ∷ filter (λ (x : Entry). moves unit x.1) es) (filter (λ (x : Entry). moves unit x.1) es)) ≢ []
        → (unsigned_abs dx ≤ 1000000000) × (unsigned_abs dy ≤ 1000000000)
    by rest true s n =
        let own = (and_parts (item_stays dx dy e.1) (unit_stays unit dx dy es) s).0 in
        item_small dx dy e.1 here (and_parts (is_near (e.1.x +ℤ dx) && is_near (e.1.y +ℤ dy)) (list_all (λ (part : Part). core_stays (pos 2 *ℤ dx) (pos 2 *ℤ dy) part.shape.core) (parts_of e.1)) own).0
    by rest false s n = rest s n

pub moved_small : (board : PlainBoard) (unit : ℕ) (dx dy : ℤ) (ids : List ℕ) → IsSound board → unit_stays unit dx dy board.items ≡ true → ids ≡ ids_touched board (shift unit dx dy) → ids ≢ [] → (unsigned_abs dx ≤ 1000000000) × (unsigned_abs dy ≤ 1000000000)
moved_small board unit dx dy ids sound stays given some = by (int_eq dx (pos 0) && int_eq dy (pos 0)) given
  where
    by : (b : Bool) → ids ≡ cond b [] (ids_of (filter (λ (e : Entry). moves unit e.1) board.items)) → (unsigned_abs dx ≤ 1000000000) × (unsigned_abs dy ≤ 1000000000)
    by true e = absurd (some e)
    by false e = some_small board unit dx dy board.items sound.admitted stays (λ n. some (e ∙ n))

-- the same of distances that were passed on
pub small_passed : (dx dy : ℤ) → FitsSigned w64 dx → FitsSigned w64 dy → (unsigned_abs dx ≤ 1000000000) × (unsigned_abs dy ≤ 1000000000) → (unsigned_abs (passed dx) ≤ 1000000000) × (unsigned_abs (passed dy) ≤ 1000000000)
small_passed dx dy fits_x fits_y small = (subst (λ (d : ℤ). unsigned_abs d ≤ 1000000000) (sym (clean dx fits_x)) small.0, subst (λ (d : ℤ). unsigned_abs d ≤ 1000000000) (sym (clean dy fits_y)) small.1)

pub back_passed : (unit : ℕ) (dx dy : ℤ) (ids given : List ℕ) → FitsSigned w64 dx → FitsSigned w64 dy → given ≡ ids → shifted_back unit (passed dx) (passed dy) given ≡ shifted_back unit dx dy ids
back_passed unit dx dy ids given fits_x fits_y same =
    ap (λ (d : ℤ). shifted_back unit d (passed dy) given) (clean dx fits_x) ∙ (ap (λ (d : ℤ). shifted_back unit dx d given) (clean dy fits_y) ∙ ap (λ (xs : List ℕ). shifted_back unit dx dy xs) same)

-- where it stands now
moved_to : (unit : ℕ) (dx dy : ℤ) (es fs : List Entry) → AllZip (IsMovedEntry unit dx dy) es fs → (e : Entry) → Contains es e → (f : Entry) × Contains fs f × IsMovedEntry unit dx dy e f
moved_to unit dx dy [] fs h e c = absurd (omega (arith, c.1))
moved_to unit dx dy (x ∷ xs) [] h e c = absurd h
moved_to unit dx dy (x ∷ xs) (y ∷ ys) h e (zero, lt, same) = (y, (0, omega arith, refl), subst (λ (z : Entry). IsMovedEntry unit dx dy z y) same h.0)
moved_to unit dx dy (x ∷ xs) (y ∷ ys) h e (suc k, lt, same) =
    let d = moved_to unit dx dy xs ys h.1 e (k, omega arith, same) in (d.0, (suc d.1.0, omega (arith, d.1.1), d.1.2), d.2)

-- ---- moved back
comes_back : (old new : PlainBoard) (unit : ℕ) (dx dy : ℤ) → IsMoved unit dx dy old new → returned_board old new ≡ old
comes_back old new unit dx dy moved = returned_same old new (ap (λ (b : PlainBoard). b.next_id) moved.others) (ap (λ (b : PlainBoard). b.next_unit) moved.others)

module _ (back_law : (unit : ℕ) (dx dy : ℤ) (old new : PlainBoard) → IsMoved unit dx dy old new → IsMoved unit (neg_ℤ dx) (neg_ℤ dy) new old) where
  is_inverse : (old new : PlainBoard) (unit : ℕ) (dx dy : ℤ) → IsSound old → IsMoved unit dx dy old new → IsInverseOperation (shift unit (neg_ℤ dx) (neg_ℤ dy)) new old
  is_inverse old new unit dx dy sound moved = record {
    fits = unit_stay unit (neg_ℤ dx) (neg_ℤ dy) old new.items old.items (back_law unit dx dy old new moved).items sound.admitted;
    leads = subst (λ (b : PlainBoard). IsMoved unit (neg_ℤ dx) (neg_ℤ dy) new b) (sym (comes_back old new unit dx dy moved)) (back_law unit dx dy old new moved);
  }

adds_none : (unit : ℕ) (dx dy : ℤ) (ids : List ℕ) → AddsNone (shifted_back unit dx dy ids)
adds_none unit dx dy [] = tt
adds_none unit dx dy (id ∷ ids) = tt

-- where no item moves, all stay
none_first : {x : ℕ} {xs : List ℕ} → [] ≡ x ∷ xs → ⊥
none_first e = cc

all_still : (unit : ℕ) (dx dy : ℤ) (es fs : List Entry) → AllZip (IsMovedEntry unit dx dy) es fs → [] ≡ ids_of (filter (λ (e : Entry). moves unit e.1) es) → fs ≡ es
all_still unit dx dy [] [] h none = refl
all_still unit dx dy [] (f ∷ fs) h none = absurd h
all_still unit dx dy (e ∷ es) [] h none = absurd h
all_still unit dx dy (e ∷ es) (f ∷ fs) h none = by (λ n. all_still unit dx dy es fs h.1 n) (moves unit e.1) h.0.item none
  where
    by : ([] ≡ ids_of (filter (λ (x : Entry). moves unit x.1) es) → fs ≡ es) → (b : Bool) → MatchBool b (IsShiftedItem dx dy e.1 f.1) (f.1 ≡ e.1) → [] ≡ ids_of (cond b (e ∷ filter (λ (x : Entry). moves unit x.1) es) (filter (λ (x : Entry). moves unit x.1) es)) → f ∷ fs ≡ e ∷ es
    by rest true s n = absurd (none_first n)
    by rest false s n =
        let first : f ≡ e = ap (λ (k : ℕ). (k, f.1)) h.0.id ∙ ap (λ (i : Item). (e.0, i)) s in
        ap (λ (x : Entry). x ∷ fs) first ∙ ap (λ (xs : List Entry). e ∷ xs) (rest n)

-- ---- the edit
module _ (edit_law : (unit : ℕ) (dx dy : ℤ) (old new : PlainBoard) (ids : List ℕ) → IsSound old → IsSound new → IsMoved unit dx dy old new → ((e : Entry) → Contains old.items e → moves unit e.1 ≡ true → Contains ids e.0) → IsEdit old new ids)
    (apart_law : (dx dy : ℤ) (a b : Item) → FirstHasPoints (parts_of a) → parts_of a ≢ [] → IsShiftedItem dx dy a b → parts_of a ≡ parts_of b → (dx ≡ pos 0) × (dy ≡ pos 0))
    (rest_law : (unit : ℕ) (old new : PlainBoard) → IsMoved unit (pos 0) (pos 0) old new → new ≡ old) where
  module _ (old new : PlainBoard) (unit : ℕ) (dx dy : ℤ) (ids : List ℕ) (sound : IsSound old) (still : IsSound new) (moved : IsMoved unit dx dy old new) where
    -- by nothing
    unmoved : dx ≡ pos 0 → dy ≡ pos 0 → new ≡ old
    unmoved x y = rest_law unit old new (subst (λ (d : ℤ). IsMoved unit (pos 0) d old new) y (subst (λ (d : ℤ). IsMoved unit d dy old new) x moved))

    edited_nowhere : dx ≡ pos 0 → dy ≡ pos 0 → ids ≡ [] → AreEdited old new ids
    edited_nowhere x y none = record {
      rise = subst IsStrictlyIncreasing (sym none) (λ k l. absurd (omega arith));
      edit = record {
        rises_before = sound.ids;
        rises_now = still.ids;
        copper = ap (λ (b : PlainBoard). b.copper) moved.others;
        nets = ap (λ (b : PlainBoard). b.nets) moved.others;
        rest = λ id out. ap (λ (b : PlainBoard). item_at b.items id) (unmoved x y);
      };
      differ = λ id item c w p. absurd (nothing_in id (subst (λ (xs : List ℕ). Contains xs id) none c));
    }
      where
        nothing_in : (id : ℕ) → Contains [] id → ⊥
        nothing_in id c = omega (arith, c.1)

    -- by something
    abbrev own : Entry → Bool
    own e = moves unit e.1

    module _ (far : (dx ≡ pos 0) × (dy ≡ pos 0) → ⊥) (first : HaveFirstPoints unit old.items) (given : ids ≡ ids_of (filter own old.items)) where
      listed : (e : Entry) → Contains old.items e → moves unit e.1 ≡ true → Contains ids e.0
      listed e c m = subst (λ (xs : List ℕ). Contains xs e.0) (sym given) (to_ids (filter own old.items) e (contains_filter own old.items e c m))

      first_of : (e : Entry) → Contains old.items e → moves unit e.1 ≡ true → FirstHasPoints (parts_of e.1)
      first_of e c m = All-contains (λ (x : Entry). moves unit x.1 ≡ true → FirstHasPoints (parts_of x.1)) old.items e first c m

      other_parts : (e f : Entry) → FirstHasPoints (parts_of e.1) → IsShiftedItem dx dy e.1 f.1 → parts_of e.1 ≢ [] → parts_of e.1 ≢ parts_of f.1
      other_parts e f has s some same = far (apart_law dx dy e.1 f.1 has some s same)

      -- the item that moved has parts, where the item before or now has
      apart : (e f : Entry) (item : Item) → FirstHasPoints (parts_of e.1) → IsShiftedItem dx dy e.1 f.1 → (item ≡ e.1) ⊎ (item ≡ f.1) → parts_of item ≢ [] → parts_of e.1 ≢ parts_of f.1
      apart e f item has s (inl q) some same = other_parts e f has s (subst (λ (i : Item). parts_of i ≢ []) q some) same
      apart e f item has s (inr q) some same = other_parts e f has s (λ none. some (ap parts_of q ∙ (sym same ∙ none))) same

      -- one that moved, before and now
      one_differs : (e f : Entry) → Contains old.items e → moves unit e.1 ≡ true → Contains new.items f → IsMovedEntry unit dx dy e f → (id : ℕ) → e.0 ≡ id → (item : Item) → WasOrIs old new id item → parts_of item ≢ [] → ItemDiffers old new id
      one_differs e f there m here h id same item w p = reshaped e.1 f.1 was is (apart e f item (first_of e there m) (subst (λ (b : Bool). MatchBool b (IsShiftedItem dx dy e.1 f.1) (f.1 ≡ e.1)) m h.item) (which w) p)
        where
          was : item_at old.items id ≡ Some e.1
          was = subst (λ (n : ℕ). item_at old.items n ≡ Some e.1) same (found_at old.items e (rises 0 old.next_id old.items sound.ids) there)

          is : item_at new.items id ≡ Some f.1
          is = subst (λ (n : ℕ). item_at new.items n ≡ Some f.1) (h.id ∙ same) (found_at new.items f (rises 0 new.next_id new.items still.ids) here)

          which : WasOrIs old new id item → (item ≡ e.1) ⊎ (item ≡ f.1)
          which (inl k) = inl (some_once (sym k ∙ was))
          which (inr k) = inr (some_once (sym k ∙ is))

      differ : (id : ℕ) (item : Item) → Contains ids id → WasOrIs old new id item → parts_of item ≢ [] → ItemDiffers old new id
      differ id item c w p =
          let found = from_ids (filter own old.items) id (subst (λ (xs : List ℕ). Contains xs id) given c) in
          let there = source own old.items found.0 found.1 in
          let now = moved_to unit dx dy old.items new.items moved.items found.0 there in
          one_differs found.0 now.0 there (passed_test own old.items found.0 found.1) now.1 now.2 id found.2 item w p

      edited_far : AreEdited old new ids
      edited_far = record {
        rise = subst IsStrictlyIncreasing (sym given) (ids_rise 0 old.next_id (filter own old.items) (rise_filter own 0 old.next_id old.items sound.ids));
        edit = edit_law unit dx dy old new ids sound still moved listed;
        differ = differ;
      }

    edited : HaveFirstPoints unit old.items → ids ≡ ids_touched old (shift unit dx dy) → AreEdited old new ids
    edited first given = by (int_eq dx (pos 0)) (int_eq dy (pos 0)) refl refl given
      where
        zero_x : int_eq dx (pos 0) ≡ true → dx ≡ pos 0
        zero_x h = (Decides-int_eq dx (pos 0)).0 h

        zero_y : int_eq dy (pos 0) ≡ true → dy ≡ pos 0
        zero_y h = (Decides-int_eq dy (pos 0)).0 h

        by : (a b : Bool) → int_eq dx (pos 0) ≡ a → int_eq dy (pos 0) ≡ b → ids ≡ cond (a && b) [] (ids_of (filter own old.items)) → AreEdited old new ids
        by true true x y g = edited_nowhere (zero_x x) (zero_y y) g
        by true false x y g = edited_far (λ both. true≢false (sym ((Decides-int_eq dy (pos 0)).1 both.1) ∙ y)) first g
        by false b x y g = edited_far (λ both. true≢false (sym ((Decides-int_eq dx (pos 0)).1 both.0) ∙ x)) first g

    -- by nothing, or none of its items moves
    none_moved : [] ≡ ids_touched old (shift unit dx dy) → new ≡ old
    none_moved given = by (int_eq dx (pos 0)) (int_eq dy (pos 0)) refl refl given
      where
        rests : [] ≡ ids_of (filter own old.items) → new ≡ old
        rests none = moved.others ∙ ap (λ (es : List Entry). record old { items = es }) (all_still unit dx dy old.items new.items moved.items none)

        by : (a b : Bool) → int_eq dx (pos 0) ≡ a → int_eq dy (pos 0) ≡ b → [] ≡ cond (a && b) [] (ids_of (filter own old.items)) → new ≡ old
        by true true x y g = unmoved ((Decides-int_eq dx (pos 0)).0 x) ((Decides-int_eq dy (pos 0)).0 y)
        by true false x y g = rests g
        by false b x y g = rests g

    module _ (back_law : (unit : ℕ) (dx dy : ℤ) (old new : PlainBoard) → IsMoved unit dx dy old new → IsMoved unit (neg_ℤ dx) (neg_ℤ dy) new old) where
      leads_by : (given : List ℕ) → given ≡ ids_touched old (shift unit dx dy) → IsInverseOperation (shifted_back unit dx dy given) new old
      leads_by [] same = record { fits = tt; leads = comes_back old new unit dx dy moved ∙ sym (none_moved same) }
      leads_by (id ∷ more) same = is_inverse back_law old new unit dx dy sound moved

  pub moved_made : ((unit : ℕ) (dx dy : ℤ) (old new : PlainBoard) → IsMoved unit dx dy old new → IsMoved unit (neg_ℤ dx) (neg_ℤ dy) new old)
      → (old new : PlainBoard) (unit : ℕ) (dx dy : ℤ) (made : Made) → IsSound old → IsSound new → IsMoved unit dx dy old new → HaveFirstPoints unit old.items
      → plain_operation made.back ≡ shifted_back unit dx dy made.ids.items → made.ids.items ≡ ids_touched old (shift unit dx dy) → IsMade (shift unit dx dy) old new made
  moved_made back_law old new unit dx dy made sound still moved first back given = record {
    after = moved;
    leads = subst (λ (d : PlainOperation). IsInverseOperation d new old) (sym back) (leads_by old new unit dx dy made.ids.items sound still moved back_law made.ids.items given);
    adds_none = subst AddsNone (sym back) (adds_none unit dx dy made.ids.items);
    none = λ gives. absurd gives;
    edited = edited old new unit dx dy made.ids.items sound still moved first given;
    known = touched_before given;
  }
