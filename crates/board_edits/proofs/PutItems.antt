-- What is known of items that were put back.
use Rattle.std.proofs.Common.{◌≡◌, ◌≢◌, ◌⊎◌, inl, inr, refl, sym, ap, subst, ◌∙◌, ℕ, Bool, true, false, not, nat_eq, List, [], ◌∷◌, filter, Some, arith, eq-eqb, true≢false}
use Rattle.std.specs.List.{All, AllPairs, Contains}
use Rattle.std.specs.List.Sorted.{IsStrictlyIncreasing}
use Rattle.std.proofs.lemmas.Bool.{ne_eqb}
use Rattle.std.proofs.lemmas.List.Elements.{All-head, All-weaker, All-contains, All-contains_itself}
use Rattle.std.proofs.lemmas.List.Kept.{AllPairs-filter}
use Rattle.board_items.specs.Back.{FitsBack, IsPutBack}
use Rattle.board_items.specs.Boards.{PlainBoard, IsSound, item_at}
use Rattle.board_items.specs.Units.{without_unit}
use Rattle.board_laws.specs.Edits.{IsEdit}
use Rattle.board_laws.proofs.Rest.{Entry, Under, same_from_elements, rises, found_at, contains_filter, source, passed}
use Rattle.board_edits.specs.declared.making.Made.{Made}
use Rattle.board_edits.specs.Operations.{PlainOperation, put_back}
use Rattle.board_edits.specs.Fitting.{plain_operation, returned_board, IsInverseOperation, AddsNone}
use Rattle.board_edits.specs.Making.{ids_of, without_put, IsMade}
use Rattle.board_edits.specs.TouchedItems.{brought}
use Rattle.board_edits.proofs.EntryIds.{to_ids, ids_rise, came, all_new}
use Rattle.board_edits.proofs.Returned.{returned_same}

abbrev left : ℕ → Entry → Bool
left unit e = not (nat_eq e.1.unit unit)

-- ---- one board
put_to : (old a b : PlainBoard) (items : List Entry) → IsPutBack items old a → IsPutBack items old b → (e : Entry) → Contains a.items e → Contains b.items e
put_to old a b items h k e c = by (All-contains (λ (x : Entry). Contains old.items x ⊎ Contains items x) a.items e h.merged.only c)
  where
    by : Contains old.items e ⊎ Contains items e → Contains b.items e
    by (inl m) = All-contains (Contains b.items) old.items e k.merged.kept m
    by (inr m) = All-contains (Contains b.items) items e k.merged.back m

pub put_once : (old a b : PlainBoard) (items : List Entry) → IsPutBack items old a → IsPutBack items old b → a ≡ b
put_once old a b items h k =
    h.others ∙ ap (λ (es : List Entry). record old { items = es }) (same_from_elements a.items b.items h.merged.rises k.merged.rises (put_to old a b items h k) (put_to old b a items k h)) ∙ sym k.others

-- ---- taken out again
module _ (old new : PlainBoard) (sound : IsSound old) where
  abbrev up : AllPairs Under old.items
  up = rises 0 old.next_id old.items sound.ids

  again : (unit : ℕ) (items : List Entry) → All (λ (e : Entry). nat_eq e.1.unit unit ≡ true) items → All (λ (e : Entry). nat_eq e.1.unit unit ≡ false) old.items → IsPutBack items old new → without_unit new unit ≡ old
  again unit items own others back = ap (λ (b : PlainBoard). without_unit b unit) back.others ∙ ap (λ (es : List Entry). record old { items = es }) same
    where
      to : (e : Entry) → Contains (filter (left unit) new.items) e → Contains old.items e
      to e c = by (All-contains (λ (x : Entry). Contains old.items x ⊎ Contains items x) new.items e back.merged.only (source (left unit) new.items e c))
        where
          by : Contains old.items e ⊎ Contains items e → Contains old.items e
          by (inl k) = k
          by (inr k) = absurd (true≢false (sym (passed (left unit) new.items e c) ∙ ap not (All-contains (λ (x : Entry). nat_eq x.1.unit unit ≡ true) items e own k)))

      from : (e : Entry) → Contains old.items e → Contains (filter (left unit) new.items) e
      from e c =
          contains_filter (left unit) new.items e (All-contains (Contains new.items) old.items e back.merged.kept c) (ap not (All-contains (λ (x : Entry). nat_eq x.1.unit unit ≡ false) old.items e others c))

      same : filter (left unit) new.items ≡ old.items
      same = same_from_elements (filter (left unit) new.items) old.items (AllPairs-filter Under (left unit) new.items back.merged.rises) up to from

  none_back : IsPutBack [] old new → new ≡ old
  none_back back = back.others ∙ ap (λ (es : List Entry). record old { items = es }) (same_from_elements new.items old.items back.merged.rises up to from)
    where
      to : (e : Entry) → Contains new.items e → Contains old.items e
      to e c = by (All-contains (λ (x : Entry). Contains old.items x ⊎ Contains [] x) new.items e back.merged.only c)
        where
          by : Contains old.items e ⊎ Contains [] e → Contains old.items e
          by (inl k) = k
          by (inr k) = absurd (omega (arith, k.1))

      from : (e : Entry) → Contains old.items e → Contains new.items e
      from e c = All-contains (Contains new.items) old.items e back.merged.kept c

  stays : (items : List Entry) → IsPutBack items old new → returned_board old new ≡ old
  stays items back = returned_same old new (ap (λ (b : PlainBoard). b.next_id) back.others) (ap (λ (b : PlainBoard). b.next_unit) back.others)

  is_inverse : (items : List Entry) → FitsBack old items → IsPutBack items old new → IsInverseOperation (without_put items) new old
  is_inverse [] fits back = record { fits = tt; leads = stays [] back ∙ sym (none_back back) }
  is_inverse (e ∷ es) fits back = record { fits = tt; leads = stays (e ∷ es) back ∙ sym (again e.1.unit (e ∷ es) own others back) }
    where
      head : e.1.unit ≡ fits.unit
      head = All-head (λ (x : Entry). x.1.unit ≡ fits.unit) e es fits.own

      own : All (λ (x : Entry). nat_eq x.1.unit e.1.unit ≡ true) (e ∷ es)
      own = All-weaker (λ (x : Entry). x.1.unit ≡ fits.unit) (λ (x : Entry). nat_eq x.1.unit e.1.unit ≡ true) (λ x h. eq-eqb x.1.unit e.1.unit (h ∙ sym head)) (e ∷ es) fits.own

      others : All (λ (x : Entry). nat_eq x.1.unit e.1.unit ≡ false) old.items
      others = All-weaker (λ (x : Entry). x.1.unit ≢ fits.unit) (λ (x : Entry). nat_eq x.1.unit e.1.unit ≡ false) (λ x h. ne_eqb x.1.unit e.1.unit (λ q. h (q ∙ head))) old.items fits.gone

adds_none : (items : List Entry) → AddsNone (without_put items)
adds_none [] = tt
adds_none (e ∷ es) = tt

-- ---- the edit
module _ (law : (board new : PlainBoard) (items : List Entry) (ids : List ℕ) → IsSound board → IsSound new → IsPutBack items board new → All (λ (e : Entry). Contains ids e.0) items → IsEdit board new ids) where
  pub put_made : (old new : PlainBoard) (items : List Entry) (made : Made) → IsSound old → IsSound new → FitsBack old items → IsPutBack items old new → plain_operation made.back ≡ without_put items → made.ids.items ≡ ids_of items
      → IsMade (put_back items) old new made
  put_made old new items made sound still fits put back given = record {
    after = put;
    leads = subst (λ (d : PlainOperation). IsInverseOperation d new old) (sym back) (is_inverse old new sound items fits put);
    adds_none = subst AddsNone (sym back) (adds_none items);
    none = λ gives. absurd gives;
    edited = record {
      rise = subst IsStrictlyIncreasing (sym given) (ids_rise 0 old.next_id items fits.ids);
      edit = law old new items made.ids.items sound still put listed;
      differ = came old new made.ids.items items given fits.free stands;
    };
    known = brought refl (all_new old made.ids.items items given fits.free);
  }
    where
      listed : All (λ (e : Entry). Contains made.ids.items e.0) items
      listed = All-weaker (Contains items) (λ (e : Entry). Contains made.ids.items e.0) (λ e c. subst (λ (xs : List ℕ). Contains xs e.0) (sym given) (to_ids items e c)) items (All-contains_itself items)

      stands : (e : Entry) → Contains items e → item_at new.items e.0 ≡ Some e.1
      stands e c = found_at new.items e (rises 0 new.next_id new.items still.ids) (All-contains (Contains new.items) items e put.merged.back c)
