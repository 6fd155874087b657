-- A board after the items of a unit were moved.
use Rattle.std.proofs.Common.{◌≡◌, ◌⊎◌, ℕ, ◌+◌, ◌<◌, ◌≤◌, ℤ, pos, ◌+ℤ◌, ◌*ℤ◌, FitsSigned, Bool, true, false, cond, ◌&&◌, List, [], ◌∷◌, length, map, filter, All, Vec, nat_eq, Option, None, Some, is_some, inl, inr, refl, sym, ◌∙◌, ap, subst, arith}
use Rattle.std.proofs.lemmas.Bool.{and_from, and_parts}
use Rattle.int_algebra.proofs.Scalars.{passed, clean}
use mir.Syntax.{w64}
use Rattle.std.proofs.lemmas.List.Elements.{All-nil, All-cons}
use Rattle.std.specs.Prelude.{MatchBool}
use Rattle.std.specs.List.{AllZip, list_all}
use Rattle.geo_seg.specs.Shifts.{core_stays}
use Rattle.one_item.specs.declared.item.Item.{Item}
use Rattle.one_item.specs.ItemParts.{parts_of}
use Rattle.one_item.specs.Positions.{is_near, is_on_board}
use Rattle.one_item.specs.ItemKinds.{is_mark, is_note}
use Rattle.board_items.specs.Boards.{PlainBoard, IsSound, Rise, UnitsBelow, AllAdmitted, name_of, has_layers_of, is_admitted, ids_where}
use Rattle.std.proofs.lemmas.List.{with_items_is}
use Rattle.std.specs.Vec.{with_items}
use Rattle.std.specs.declared.alloc.Global.{Global}
use Rattle.board_items.specs.ItemNotes.{notes_of}
use Rattle.board_items.specs.BoardCaches.{IsKept}
use Rattle.board_items.proofs.NetIds.{ids_unchanged}
use Rattle.board_items.specs.ItemSlots.{present, is_slot_on_board, slot_stays, IsMovedSlot}
use Rattle.board_items.proofs.SlotLists.{stays_slots, moved_slots, same_row}
use Rattle.board_items.proofs.Admitted.{all_kept}
use Rattle.one_item.specs.ItemMoves.{IsShiftedItem, item_stays}
use Rattle.board_items.specs.UnitMoves.{IsMovedEntry, IsMoved, moves, unit_stays}
use Rattle.one_item.proofs.MovedParts.{parts_zip}
use Rattle.one_item.proofs.ShiftedKinds.{layers_same, mark_same, note_same}

module _ (unit : ℕ) (dx dy : ℤ) where
  -- ---- one entry
  abbrev Stays : ℕ × Item → Type 0
  Stays e = cond (moves unit e.1) (item_stays dx dy e.1) true ≡ true

  moved_or_same : (e f : ℕ × Item) → IsMovedEntry unit dx dy e f → ((moves unit e.1 ≡ true) × IsShiftedItem dx dy e.1 f.1) ⊎ (f.1 ≡ e.1)
  moved_or_same e f m = by (moves unit e.1) refl m.item
    where
      by : (b : Bool) → moves unit e.1 ≡ b → MatchBool b (IsShiftedItem dx dy e.1 f.1) (f.1 ≡ e.1) → ((moves unit e.1 ≡ true) × IsShiftedItem dx dy e.1 f.1) ⊎ (f.1 ≡ e.1)
      by true k h = inl (k, h)
      by false k h = inr h

  pub same_net : (e f : ℕ × Item) → IsMovedEntry unit dx dy e f → f.1.net ≡ e.1.net
  same_net e f m = by (moved_or_same e f m)
    where
      by : ((moves unit e.1 ≡ true) × IsShiftedItem dx dy e.1 f.1) ⊎ (f.1 ≡ e.1) → f.1.net ≡ e.1.net
      by (inl h) = h.1.net
      by (inr h) = ap (λ (i : Item). i.net) h

  same_unit : (e f : ℕ × Item) → IsMovedEntry unit dx dy e f → f.1.unit ≡ e.1.unit
  same_unit e f m = by (moved_or_same e f m)
    where
      by : ((moves unit e.1 ≡ true) × IsShiftedItem dx dy e.1 f.1) ⊎ (f.1 ≡ e.1) → f.1.unit ≡ e.1.unit
      by (inl h) = h.1.unit
      by (inr h) = ap (λ (i : Item). i.unit) h

  pub same_note : (e f : ℕ × Item) → IsMovedEntry unit dx dy e f → is_note f.1.what ≡ is_note e.1.what
  same_note e f m = by (moved_or_same e f m)
    where
      by : ((moves unit e.1 ≡ true) × IsShiftedItem dx dy e.1 f.1) ⊎ (f.1 ≡ e.1) → is_note f.1.what ≡ is_note e.1.what
      by (inl h) = note_same (pos 2 *ℤ dx) (pos 2 *ℤ dy) e.1.what f.1.what h.1.what
      by (inr h) = ap (λ (i : Item). is_note i.what) h

  pub same_mark : (e f : ℕ × Item) → IsMovedEntry unit dx dy e f → is_mark f.1.what ≡ is_mark e.1.what
  same_mark e f m = by (moved_or_same e f m)
    where
      by : ((moves unit e.1 ≡ true) × IsShiftedItem dx dy e.1 f.1) ⊎ (f.1 ≡ e.1) → is_mark f.1.what ≡ is_mark e.1.what
      by (inl h) = mark_same (pos 2 *ℤ dx) (pos 2 *ℤ dy) e.1.what f.1.what h.1.what
      by (inr h) = ap (λ (i : Item). is_mark i.what) h

  admitted_moved : (b : PlainBoard) (e f : ℕ × Item) → IsMovedEntry unit dx dy e f → Stays e → is_admitted b e.1 ≡ true → is_admitted b f.1 ≡ true
  admitted_moved b e f m stays h = by (moved_or_same e f m)
    where
      all : (is_on_board e.1 && is_some (name_of b e.1.net) ≡ true) × (has_layers_of b e.1 ≡ true)
      all = and_parts (is_on_board e.1 && is_some (name_of b e.1.net)) (has_layers_of b e.1) h

      by : ((moves unit e.1 ≡ true) × IsShiftedItem dx dy e.1 f.1) ⊎ (f.1 ≡ e.1) → is_admitted b f.1 ≡ true
      by (inl k) =
          let own : item_stays dx dy e.1 ≡ true = subst (λ t. cond t (item_stays dx dy e.1) true ≡ true) k.0 stays in
          let both = and_parts (is_near (e.1.x +ℤ dx) && is_near (e.1.y +ℤ dy)) (list_all (λ part. core_stays (pos 2 *ℤ dx) (pos 2 *ℤ dy) part.shape.core) (parts_of e.1)) own in
          let near = and_parts (is_near (e.1.x +ℤ dx)) (is_near (e.1.y +ℤ dy)) both.0 in
          let x : is_near f.1.x ≡ true = subst (λ (z : ℤ). is_near z ≡ true) (sym k.1.x) near.0 in
          let y : is_near f.1.y ≡ true = subst (λ (z : ℤ). is_near z ≡ true) (sym k.1.y) near.1 in
          let declared : is_some (name_of b f.1.net) ≡ true = subst (λ n. is_some (name_of b n) ≡ true) (sym k.1.net) (and_parts (is_on_board e.1) (is_some (name_of b e.1.net)) all.0).1 in
          and_from _ _ (and_from _ _ (and_from _ _ x y) declared) (layers_same (pos 2 *ℤ dx) (pos 2 *ℤ dy) b.copper (parts_of e.1) (parts_of f.1) (parts_zip dx dy e.1 f.1 k.1) ∙ all.1)
      by (inr k) = subst (λ (i : Item). is_admitted b i ≡ true) (sym k) h

  -- ---- lists
  abbrev AreMoved : List (ℕ × Item) → List (ℕ × Item) → Type 0
  AreMoved xs ys = AllZip (IsMovedEntry unit dx dy) xs ys

  pub same_ids : (test : Item → Bool) → ((e f : ℕ × Item) → IsMovedEntry unit dx dy e f → test f.1 ≡ test e.1) → (xs ys : List (ℕ × Item)) → AreMoved xs ys → ids_where test ys ≡ ids_where test xs
  same_ids test same [] [] h = refl
  same_ids test same [] (y ∷ ys) h = absurd h
  same_ids test same (x ∷ xs) [] h = absurd h
  same_ids test same (x ∷ xs) (y ∷ ys) h = by (test x.1) (test y.1) (same x y h.0) (same_ids test same xs ys h.1)
    where
      by : (s t : Bool) → t ≡ s → map (λ e. e.0) (filter (λ e. test e.1) ys) ≡ map (λ e. e.0) (filter (λ e. test e.1) xs)
          → map (λ e. e.0) (cond t (y ∷ filter (λ e. test e.1) ys) (filter (λ e. test e.1) ys)) ≡ map (λ e. e.0) (cond s (x ∷ filter (λ e. test e.1) xs) (filter (λ e. test e.1) xs))
      by true true k ih = ap (λ n. n ∷ map (λ e. e.0) (filter (λ e. test e.1) ys)) h.0.id ∙ ap (λ ids. x.0 ∷ ids) ih
      by true false k ih = absurd cc
      by false true k ih = absurd cc
      by false false k ih = ih

  same_rise : (low high : ℕ) (xs ys : List (ℕ × Item)) → AreMoved xs ys → Rise low high xs → Rise low high ys
  same_rise low high [] [] h r = r
  same_rise low high [] (y ∷ ys) h r = absurd h
  same_rise low high (x ∷ xs) [] h r = absurd h
  same_rise low high (x ∷ xs) (y ∷ ys) h r = (
    subst (λ n. low ≤ n) (sym h.0.id) r.0,
    subst (λ n. Rise (n + 1) high ys) (sym h.0.id) (same_rise (x.0 + 1) high xs ys h.1 r.1),
  )

  same_units : (high : ℕ) (xs ys : List (ℕ × Item)) → AreMoved xs ys → UnitsBelow high xs → UnitsBelow high ys
  same_units high [] [] h u = tt
  same_units high [] (y ∷ ys) h u = absurd h
  same_units high (x ∷ xs) [] h u = absurd h
  same_units high (x ∷ xs) (y ∷ ys) h u = (subst (λ n. n < high) (sym (same_unit x y h.0)) u.0, same_units high xs ys h.1 u.1)

  same_length : (xs ys : List (ℕ × Item)) → AreMoved xs ys → length ys ≡ length xs
  same_length [] [] h = refl
  same_length [] (y ∷ ys) h = absurd h
  same_length (x ∷ xs) [] h = absurd h
  same_length (x ∷ xs) (y ∷ ys) h = let rest = same_length xs ys h.1 in omega arith

  all_admitted : (b : PlainBoard) (xs ys : List (ℕ × Item)) → AreMoved xs ys → unit_stays unit dx dy xs ≡ true → AllAdmitted b xs → AllAdmitted b ys
  all_admitted b [] [] h s a = tt
  all_admitted b [] (y ∷ ys) h s a = absurd h
  all_admitted b (x ∷ xs) [] h s a = absurd h
  all_admitted b (x ∷ xs) (y ∷ ys) h s a =
      let both = and_parts (cond (moves unit x.1) (item_stays dx dy x.1) true) (unit_stays unit dx dy xs) s in
      (admitted_moved b x y h.0 both.0 a.0, all_admitted b xs ys h.1 both.1 a.1)

  pub sound_moved : (b : PlainBoard) (items : List (ℕ × Item)) → IsSound b → AreMoved b.items items → unit_stays unit dx dy b.items ≡ true → IsSound (record b { items = items })
  sound_moved b items s h stays = record {
    ids = same_rise 0 b.next_id b.items items h s.ids;
    units = same_units b.next_unit b.items items h s.units;
    last_id = s.last_id;
    last_unit = s.last_unit;
    few = subst (λ n. n ≤ 200000) (sym (same_length b.items items h)) s.few;
    first_net = s.first_net;
    distinct = s.distinct;
    no_net = s.no_net;
    admitted = all_kept b (record b { items = items }) (λ i k. k) items (all_admitted b b.items items h stays s.admitted);
  }

-- ---- before the move
pub on_board : (b : PlainBoard) (k : ℕ) (slots : List (Option Item)) → AllAdmitted b (present k slots) → All (λ slot. is_slot_on_board slot ≡ true) slots
on_board b k [] h = All-nil (λ slot. is_slot_on_board slot ≡ true)
on_board b k (None ∷ ss) h = All-cons (λ slot. is_slot_on_board slot ≡ true) None ss refl (on_board b (k + 1) ss h)
on_board b k (Some x ∷ ss) h =
    let own = (and_parts (is_on_board x) (is_some (name_of b x.net)) (and_parts (is_on_board x && is_some (name_of b x.net)) (has_layers_of b x) h.0).0).0 in
    All-cons (λ slot. is_slot_on_board slot ≡ true) (Some x) ss own (on_board b (k + 1) ss h.1)

-- ---- by distances that were passed on
pub stays_passed : (unit : ℕ) (dx dy : ℤ) (xs ys : List (Option Item)) → FitsSigned w64 dx → FitsSigned w64 dy → xs ≡ ys → unit_stays unit dx dy (present 0 ys) ≡ true
    → list_all (λ slot. slot_stays unit (passed dx) (passed dy) slot) xs ≡ true
stays_passed unit dx dy xs ys fits_x fits_y same stays =
    ap (λ (x : ℤ). list_all (λ slot. slot_stays unit x (passed dy) slot) xs) (clean dx fits_x)
    ∙ ap (λ (y : ℤ). list_all (λ slot. slot_stays unit dx y slot) xs) (clean dy fits_y)
    ∙ ap (list_all (λ slot. slot_stays unit dx dy slot)) same ∙ sym (stays_slots unit dx dy 0 ys) ∙ stays

-- ---- all that the board keeps
pub kept_moved : (b : PlainBoard) (unit : ℕ) (dx dy : ℤ) (v : Vec (Option Item) Global) (xs from ws : List (Option Item)) (marks : List ℕ) (lists : List (Vec ℕ Global)) (live : ℕ) → IsKept b marks lists live
    → b.items ≡ present 0 v.items → b.next_id ≡ length v.items → xs ≡ v.items → from ≡ v.items → length ws ≡ v.len → list_all (λ slot. slot_stays unit dx dy slot) xs ≡ true → AllZip (IsMovedSlot unit dx dy) from ws
    → IsKept (record b { items = present 0 (with_items v ws).items; next_id = length (with_items v ws).items }) marks lists live
kept_moved b unit dx dy v xs from ws marks lists live k items next e f long stays zip =
    subst (λ (ss : List (Option Item)). IsKept (record b { items = present 0 ss; next_id = length ss }) marks lists live) (sym (with_items_is v ws long))
    (subst (λ (n : ℕ). IsKept (record b { items = present 0 ws; next_id = n }) marks lists live) (next ∙ sym (same_row (IsMovedSlot unit dx dy) v.items ws zipped)) (record {
      sound = sound_moved unit dx dy b (present 0 ws) k.sound own (ap (unit_stays unit dx dy) items ∙ stays_slots unit dx dy 0 v.items ∙ ap (list_all (λ slot. slot_stays unit dx dy slot)) (sym e) ∙ stays);
      marks = k.marks ∙ sym (same_ids unit dx dy (λ item. is_mark item.what) (same_mark unit dx dy) b.items (present 0 ws) own);
      of_nets = ids_unchanged b.items (present 0 ws) (λ net. same_ids unit dx dy (λ item. nat_eq item.net net) (λ o n m. ap (λ k. nat_eq k net) (same_net unit dx dy o n m)) b.items (present 0 ws) own) b.nets lists k.of_nets;
      count = k.count ∙ sym (same_length unit dx dy b.items (present 0 ws) own);
    }))
  where
    zipped : AllZip (IsMovedSlot unit dx dy) v.items ws
    zipped = subst (λ (zs : List (Option Item)). AllZip (IsMovedSlot unit dx dy) zs ws) f zip

    own : AllZip (IsMovedEntry unit dx dy) b.items (present 0 ws)
    own = subst (λ (zs : List (ℕ × Item)). AllZip (IsMovedEntry unit dx dy) zs (present 0 ws)) (sym items) (moved_slots unit dx dy 0 v.items ws zipped)

pub notes_moved : (items : List (ℕ × Item)) (unit : ℕ) (dx dy : ℤ) (v : Vec (Option Item) Global) (from ws : List (Option Item)) (notes : List ℕ) → notes ≡ notes_of items → items ≡ present 0 v.items → from ≡ v.items → length ws ≡ v.len
    → AllZip (IsMovedSlot unit dx dy) from ws → notes ≡ notes_of (present 0 (with_items v ws).items)
notes_moved items unit dx dy v from ws notes h e f long zip =
    subst (λ (ss : List (Option Item)). notes ≡ notes_of (present 0 ss)) (sym (with_items_is v ws long))
    (h ∙ sym (same_ids unit dx dy (λ item. is_note item.what) (same_note unit dx dy) items (present 0 ws) own))
  where
    own : AllZip (IsMovedEntry unit dx dy) items (present 0 ws)
    own = subst (λ (zs : List (ℕ × Item)). AllZip (IsMovedEntry unit dx dy) zs (present 0 ws)) (sym e)
        (moved_slots unit dx dy 0 v.items ws (subst (λ (zs : List (Option Item)). AllZip (IsMovedSlot unit dx dy) zs ws) f zip))

pub board_moved : (b : PlainBoard) (unit : ℕ) (dx dy : ℤ) (v : Vec (Option Item) Global) (from ws : List (Option Item)) → b.items ≡ present 0 v.items → b.next_id ≡ length v.items → from ≡ v.items → length ws ≡ v.len
    → AllZip (IsMovedSlot unit dx dy) from ws → IsMoved unit dx dy b (record b { items = present 0 (with_items v ws).items; next_id = length (with_items v ws).items })
board_moved b unit dx dy v from ws items next f long zip =
    subst (λ (ss : List (Option Item)). IsMoved unit dx dy b (record b { items = present 0 ss; next_id = length ss })) (sym (with_items_is v ws long)) (record {
      items = subst (λ (zs : List (ℕ × Item)). AllZip (IsMovedEntry unit dx dy) zs (present 0 ws)) (sym items) (moved_slots unit dx dy 0 v.items ws zipped);
      others = ap (λ (n : ℕ). record b { items = present 0 ws; next_id = n }) (same_row (IsMovedSlot unit dx dy) v.items ws zipped ∙ sym next);
    })
  where
    zipped : AllZip (IsMovedSlot unit dx dy) v.items ws
    zipped = subst (λ (zs : List (Option Item)). AllZip (IsMovedSlot unit dx dy) zs ws) f zip
