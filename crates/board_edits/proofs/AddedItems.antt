-- What is known of items that were added.
use Rattle.std.proofs.Common.{◌≡◌, ◌⊎◌, inl, inr, refl, sym, ap, subst, ◌∙◌, ℕ, ◌+◌, ◌≤◌, Bool, true, false, not, nat_eq, List, [], ◌∷◌, ◌++◌, filter, if◌then◌else◌, None, Some, Result, Ok, Err, OnOk, is_err, append_assoc, append-nil, arith, eq-eqb, true≢false}
use Rattle.std.specs.List.{All, Contains, fold}
use Rattle.std.specs.List.Sorted.{IsStrictlyIncreasing}
use Rattle.std.proofs.lemmas.Bool.{ne_eqb}
use Rattle.std.proofs.lemmas.List.Elements.{All-nil, All-cons, All-head, All-tail, All-weaker, All-contains, All-contains_itself, Contains-append_cases, filter-append}
use Rattle.one_item.specs.declared.item.Item.{Item}
use Rattle.board_items.specs.Back.{entries_of}
use Rattle.board_items.specs.Boards.{PlainBoard, IsSound, UnitsBelow, item_at, with_item}
use Rattle.board_items.specs.Units.{without_unit}
use Rattle.board_laws.specs.Edits.{IsEdit}
use Rattle.board_laws.proofs.Rest.{Entry, rises, found_at, contains_filter, source, passed}
use Rattle.part_read.specs.Ready.{AreReady, IsReady}
use Rattle.pcb_read.specs.BoardOf.{with_items}
use Rattle.board_edits.specs.declared.making.Made.{Made}
use Rattle.board_edits.specs.Operations.{PlainOperation, nothing, append}
use Rattle.board_edits.specs.Fitting.{plain_operation, returned_board, IsInverseOperation, GivesNothing, AddsNone}
use Rattle.board_edits.specs.Making.{ids_of, without_added, IsMade}
use Rattle.board_edits.specs.TouchedItems.{AreEdited, brought}
use Rattle.board_edits.proofs.EntryIds.{to_ids, rise_filter, ids_rise, not_given, came, all_new}

abbrev left : ℕ → Entry → Bool
left unit e = not (nat_eq e.1.unit unit)

abbrev is_of : ℕ → Entry → Bool
is_of unit e = nat_eq e.1.unit unit

-- what was not refused was added
pub did_add : {T E : Type 0} (r : Result T E) (P : Type 0) → OnOk r P → is_err r ≡ false → P
did_add (Ok v) P h k = h
did_add (Err e) P h k = absurd (true≢false k)

-- ---- the new entries stand behind the others
folded : (board : PlainBoard) (items : List Item) → fold with_item board items ≡ with_items board items
folded board [] = refl
folded board (item ∷ items) = folded (with_item board item) items

abbrev more : PlainBoard → List Item → List Entry
more board [] = []
more board (item ∷ items) = (board.next_id, item) ∷ more (with_item board item) items

grown : (board : PlainBoard) (items : List Item) → (with_items board items).items ≡ board.items ++ more board items
grown board [] = sym (append-nil board.items)
grown board (item ∷ items) = grown (with_item board item) items ∙ append_assoc board.items ((board.next_id, item) ∷ []) (more (with_item board item) items)

from_next : (board : PlainBoard) (items : List Item) → All (λ (e : Entry). board.next_id ≤ e.0) (more board items)
from_next board [] = All-nil (λ (e : Entry). board.next_id ≤ e.0)
from_next board (item ∷ items) =
    All-cons (λ (e : Entry). board.next_id ≤ e.0) (board.next_id, item) (more (with_item board item) items) (omega arith)
    (All-weaker (λ (e : Entry). (board.next_id + 1) ≤ e.0) (λ (e : Entry). board.next_id ≤ e.0) (λ e l. omega arith) (more (with_item board item) items) (from_next (with_item board item) items))

own_unit : (board : PlainBoard) (unit : ℕ) (items : List Item) → All (λ (i : Item). i.unit ≡ unit) items → All (λ (e : Entry). e.1.unit ≡ unit) (more board items)
own_unit board unit [] h = All-nil (λ (e : Entry). e.1.unit ≡ unit)
own_unit board unit (item ∷ items) h =
    All-cons (λ (e : Entry). e.1.unit ≡ unit) (board.next_id, item) (more (with_item board item) items) (All-head (λ (i : Item). i.unit ≡ unit) item items h) (own_unit (with_item board item) unit items (All-tail (λ (i : Item). i.unit ≡ unit) item items h))

others_stay : (board : PlainBoard) (items : List Item) → with_items board items ≡ record board { items = (with_items board items).items; next_id = (with_items board items).next_id; next_unit = (with_items board items).next_unit }
others_stay board [] = refl
others_stay board (item ∷ items) = others_stay (with_item board item) items

-- ---- taken out again
none_of : (unit : ℕ) (es : List Entry) → UnitsBelow unit es → All (λ (e : Entry). nat_eq e.1.unit unit ≡ false) es
none_of unit [] h = All-nil (λ (e : Entry). nat_eq e.1.unit unit ≡ false)
none_of unit (e ∷ es) h = All-cons (λ (x : Entry). nat_eq x.1.unit unit ≡ false) e es (ne_eqb e.1.unit unit (λ q. omega (arith, h.0, q))) (none_of unit es h.1)

all_left : (unit : ℕ) (es : List Entry) → All (λ (e : Entry). nat_eq e.1.unit unit ≡ false) es → filter (left unit) es ≡ es
all_left unit [] h = refl
all_left unit (e ∷ es) h =
    ap (λ (b : Bool). if not b then e ∷ filter (left unit) es else filter (left unit) es) (All-head (λ (x : Entry). nat_eq x.1.unit unit ≡ false) e es h)
    ∙ ap (λ (xs : List Entry). e ∷ xs) (all_left unit es (All-tail (λ (x : Entry). nat_eq x.1.unit unit ≡ false) e es h))

rest_left : (board : PlainBoard) (unit : ℕ) (items : List Item) → All (λ (i : Item). i.unit ≡ unit) items → filter (left unit) (with_items board items).items ≡ filter (left unit) board.items
rest_left board unit [] h = refl
rest_left board unit (item ∷ items) h =
    rest_left (with_item board item) unit items (All-tail (λ (i : Item). i.unit ≡ unit) item items h)
    ∙ filter-append (left unit) board.items ((board.next_id, item) ∷ [])
    ∙ ap (λ (b : Bool). filter (left unit) board.items ++ (if not b then (board.next_id, item) ∷ [] else [])) (eq-eqb item.unit unit (All-head (λ (i : Item). i.unit ≡ unit) item items h))
    ∙ append-nil (filter (left unit) board.items)

leads : (board : PlainBoard) (unit : ℕ) (items : List Item) → All (λ (i : Item). i.unit ≡ unit) items → UnitsBelow unit board.items → returned_board board (with_items board items) ≡ without_unit (with_items board items) unit
leads board unit items own below = sym (
    ap (λ (b : PlainBoard). record b { items = filter (left unit) (with_items board items).items }) (others_stay board items)
    ∙ ap (λ (es : List Entry). record board { items = es; next_id = (with_items board items).next_id; next_unit = (with_items board items).next_unit }) (rest_left board unit items own ∙ all_left unit board.items (none_of unit board.items below))
    )

is_inverse : (board : PlainBoard) (unit : ℕ) (items : List Item) → All (λ (i : Item). i.unit ≡ unit) items → UnitsBelow unit board.items → IsInverseOperation (without_added unit items) (with_items board items) board
is_inverse board unit [] own below = record { fits = tt; leads = refl }
is_inverse board unit (item ∷ items) own below = record { fits = tt; leads = leads board unit (item ∷ items) own below }

adds_none : (unit : ℕ) (items : List Item) → AddsNone (without_added unit items)
adds_none unit [] = tt
adds_none unit (item ∷ items) = tt

nothing_added : (unit : ℕ) (items : List Item) → GivesNothing (append items) → without_added unit items ≡ nothing
nothing_added unit [] gives = refl
nothing_added unit (item ∷ items) gives = absurd gives

-- ---- the edit
module _ (law : (board : PlainBoard) (items : List Item) (ids : List ℕ) → IsSound board → IsSound (fold with_item board items) → ((e : Entry) → Contains (fold with_item board items).items e → board.next_id ≤ e.0 → Contains ids e.0) → IsEdit board (fold with_item board items) ids) where
  edits : (board : PlainBoard) (items : List Item) (ids : List ℕ) → IsSound board → IsSound (with_items board items) → ((e : Entry) → Contains (with_items board items).items e → board.next_id ≤ e.0 → Contains ids e.0) → IsEdit board (with_items board items) ids
  edits board items = subst (λ (new : PlainBoard). (ids : List ℕ) → IsSound board → IsSound new → ((e : Entry) → Contains new.items e → board.next_id ≤ e.0 → Contains ids e.0) → IsEdit board new ids) (folded board items) (law board items)

  module _ (old : PlainBoard) (items : List Item) (made : Made) (sound : IsSound old) (still : IsSound (with_items old items)) (ready : AreReady old old.next_unit items)
      (back : plain_operation made.back ≡ without_added old.next_unit items) (given : made.ids.items ≡ ids_of (entries_of old.next_unit (with_items old items).items)) where
    own : All (λ (i : Item). i.unit ≡ old.next_unit) items
    own = All-weaker (IsReady old old.next_unit) (λ (i : Item). i.unit ≡ old.next_unit) (λ i r. r.of_unit) items ready.each

    stood : (e : Entry) → Contains old.items e → nat_eq e.1.unit old.next_unit ≡ false
    stood e c = All-contains (λ (x : Entry). nat_eq x.1.unit old.next_unit ≡ false) old.items e (none_of old.next_unit old.items sound.units) c

    parted : (e : Entry) → Contains (with_items old items).items e → Contains old.items e ⊎ Contains (more old items) e
    parted e c = Contains-append_cases old.items (more old items) e (subst (λ (es : List Entry). Contains es e) (grown old items) c)

    -- an entry of the unit is new
    fresh : (e : Entry) → Contains (entries_of old.next_unit (with_items old items).items) e → item_at old.items e.0 ≡ None
    fresh e c = by (parted e (source (is_of old.next_unit) (with_items old items).items e c))
      where
        by : Contains old.items e ⊎ Contains (more old items) e → item_at old.items e.0 ≡ None
        by (inl k) = absurd (true≢false (sym (passed (is_of old.next_unit) (with_items old items).items e c) ∙ stood e k))
        by (inr k) = not_given 0 old.next_id e.0 old.items sound.ids (All-contains (λ (x : Entry). old.next_id ≤ x.0) (more old items) e (from_next old items) k)

    -- and an entry that is new is of the unit
    of_unit : (e : Entry) → Contains (with_items old items).items e → old.next_id ≤ e.0 → nat_eq e.1.unit old.next_unit ≡ true
    of_unit e c le = by (parted e c)
      where
        none_some : None ≡ Some e.1 → ⊥
        none_some q = cc

        by : Contains old.items e ⊎ Contains (more old items) e → nat_eq e.1.unit old.next_unit ≡ true
        by (inl k) = absurd (none_some (sym (not_given 0 old.next_id e.0 old.items sound.ids le) ∙ found_at old.items e (rises 0 old.next_id old.items sound.ids) k))
        by (inr k) = eq-eqb e.1.unit old.next_unit (All-contains (λ (x : Entry). x.1.unit ≡ old.next_unit) (more old items) e (own_unit old old.next_unit items own) k)

    abbrev entries : List Entry
    entries = entries_of old.next_unit (with_items old items).items

    all_fresh : All (λ (e : Entry). item_at old.items e.0 ≡ None) entries
    all_fresh = All-weaker (Contains entries) (λ (e : Entry). item_at old.items e.0 ≡ None) fresh entries (All-contains_itself entries)

    stands : (e : Entry) → Contains entries e → item_at (with_items old items).items e.0 ≡ Some e.1
    stands e c = found_at (with_items old items).items e (rises 0 (with_items old items).next_id (with_items old items).items still.ids) (source (is_of old.next_unit) (with_items old items).items e c)

    listed : (e : Entry) → Contains (with_items old items).items e → old.next_id ≤ e.0 → Contains made.ids.items e.0
    listed e c le = subst (λ (xs : List ℕ). Contains xs e.0) (sym given) (to_ids entries e (contains_filter (is_of old.next_unit) (with_items old items).items e c (of_unit e c le)))

    edited : AreEdited old (with_items old items) made.ids.items
    edited = record {
      rise = subst IsStrictlyIncreasing (sym given) (ids_rise 0 (with_items old items).next_id entries (rise_filter (is_of old.next_unit) 0 (with_items old items).next_id (with_items old items).items still.ids));
      edit = edits old items made.ids.items sound still listed;
      differ = came old (with_items old items) made.ids.items entries given all_fresh stands;
    }

    made_so : IsMade (append items) old (with_items old items) made
    made_so = record {
      after = refl;
      leads = subst (λ (d : PlainOperation). IsInverseOperation d (with_items old items) old) (sym back) (is_inverse old old.next_unit items own sound.units);
      adds_none = subst AddsNone (sym back) (adds_none old.next_unit items);
      none = λ gives. back ∙ nothing_added old.next_unit items gives;
      edited = edited;
      known = brought refl (all_new old made.ids.items entries given all_fresh);
    }

  pub added_made : (old new : PlainBoard) (items : List Item) (made : Made) → IsSound old → IsSound new → AreReady old old.next_unit items → new ≡ with_items old items → plain_operation made.back ≡ without_added old.next_unit items
      → made.ids.items ≡ ids_of (entries_of old.next_unit new.items) → IsMade (append items) old new made
  added_made old new items made sound still ready e back given =
      subst (λ (b : PlainBoard). IsMade (append items) old b made) (sym e)
      (made_so old items made sound (subst IsSound e still) ready back (given ∙ ap (λ (b : PlainBoard). ids_of (entries_of old.next_unit b.items)) e))
