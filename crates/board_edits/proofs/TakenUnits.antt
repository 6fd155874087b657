-- What is known of a unit that was taken out.
use Rattle.std.proofs.Common.{◌≡◌, ◌≢◌, ◌⊎◌, inl, inr, refl, sym, ap, subst, ◌∙◌, ℕ, ◌+◌, ◌<◌, suc, Bool, true, false, cond, not, nat_eq, List, [], ◌∷◌, length, filter, Option, None, Some, arith, eq-eqb, true≢false}
use Rattle.std.specs.List.{All, AllPairs, Contains}
use Rattle.std.specs.List.Sorted.{IsStrictlyIncreasing}
use Rattle.std.proofs.lemmas.Bool.{eqb-true}
use Rattle.std.proofs.lemmas.List.Elements.{All-nil, All-cons, All-weaker, All-contains_itself, All-filter, filter_passes}
use Rattle.one_item.specs.declared.item.Item.{Item}
use Rattle.board_items.specs.Back.{AreMerged, FitsBack, entries_of}
use Rattle.board_items.specs.Boards.{PlainBoard, IsSound, UnitsBelow, AllAdmitted, item_at, is_admitted}
use Rattle.board_items.specs.Units.{without_unit}
use Rattle.board_laws.specs.Edits.{IsEdit}
use Rattle.board_laws.proofs.Rest.{Entry, Under, rises, found_at, in_list, contains_filter, source, passed}
use Rattle.board_edits.specs.declared.making.Made.{Made}
use Rattle.board_edits.specs.Operations.{PlainOperation, put_back, take_out}
use Rattle.board_edits.specs.Fitting.{plain_operation, IsInverseOperation, AddsNone}
use Rattle.board_edits.specs.Making.{ids_of, IsMade}
use Rattle.board_edits.specs.TouchedItems.{ids_touched, touched_before}
use Rattle.board_edits.proofs.EntryIds.{to_ids, rise_filter, ids_rise, went}

abbrev left : ℕ → Entry → Bool
left unit e = not (nat_eq e.1.unit unit)

abbrev is_of : ℕ → Entry → Bool
is_of unit e = nat_eq e.1.unit unit

some_once : {x y : Item} → Some x ≡ Some y → x ≡ y
some_once e = cc

units_all : (high : ℕ) (es : List Entry) → UnitsBelow high es → All (λ (e : Entry). e.1.unit < high) es
units_all high [] h = All-nil (λ (e : Entry). e.1.unit < high)
units_all high (e ∷ es) h = All-cons (λ (x : Entry). x.1.unit < high) e es h.0 (units_all high es h.1)

pub admitted_all : (board : PlainBoard) (es : List Entry) → AllAdmitted board es → All (λ (e : Entry). is_admitted board e.1 ≡ true) es
admitted_all board [] h = All-nil (λ (e : Entry). is_admitted board e.1 ≡ true)
admitted_all board (e ∷ es) h = All-cons (λ (x : Entry). is_admitted board x.1 ≡ true) e es h.0 (admitted_all board es h.1)

-- both filters together keep each entry once
both_count : (unit : ℕ) (es : List Entry) → length (filter (left unit) es) + length (filter (is_of unit) es) ≡ length es
both_count unit [] = refl
both_count unit (e ∷ es) = by (nat_eq e.1.unit unit) (both_count unit es)
  where
    by : (b : Bool) → length (filter (left unit) es) + length (filter (is_of unit) es) ≡ length es
        → length (cond (not b) (e ∷ filter (left unit) es) (filter (left unit) es)) + length (cond b (e ∷ filter (is_of unit) es) (filter (is_of unit) es)) ≡ suc (length es)
    by true h = omega arith
    by false h = omega arith

module _ (old : PlainBoard) (unit : ℕ) (sound : IsSound old) where
  abbrev up : AllPairs Under old.items
  up = rises 0 old.next_id old.items sound.ids

  abbrev own : List Entry
  own = entries_of unit old.items

  -- none of the unit is left
  gone_at : (e : Entry) → Contains own e → item_at (filter (left unit) old.items) e.0 ≡ None
  gone_at e c = by (item_at (filter (left unit) old.items) e.0) refl
    where
      by : (o : Option Item) → item_at (filter (left unit) old.items) e.0 ≡ o → o ≡ None
      by None h = refl
      by (Some j) h =
          let there = in_list (filter (left unit) old.items) e.0 j h in
          let now = found_at old.items (e.0, j) up (source (left unit) old.items (e.0, j) there) in
          let same : j ≡ e.1 = some_once (sym now ∙ found_at old.items e up (source (is_of unit) old.items e c)) in
          absurd (true≢false (sym (passed (left unit) old.items (e.0, j) there) ∙ (ap (λ (i : Item). not (nat_eq i.unit unit)) same ∙ ap not (passed (is_of unit) old.items e c))))

  free : All (λ (e : Entry). item_at (filter (left unit) old.items) e.0 ≡ None) own
  free = All-weaker (Contains own) (λ (e : Entry). item_at (filter (left unit) old.items) e.0 ≡ None) gone_at own (All-contains_itself own)

  fits : FitsBack (without_unit old unit) own
  fits = record {
    ids = rise_filter (is_of unit) 0 old.next_id old.items sound.ids;
    free = free;
    unit = unit;
    own = All-weaker (λ (e : Entry). nat_eq e.1.unit unit ≡ true) (λ (e : Entry). e.1.unit ≡ unit) (λ e h. eqb-true e.1.unit unit h) own (filter_passes (is_of unit) old.items);
    given = All-filter (is_of unit) (λ (e : Entry). e.1.unit < old.next_unit) old.items (units_all old.next_unit old.items sound.units);
    gone = All-weaker (λ (e : Entry). not (nat_eq e.1.unit unit) ≡ true) (λ (e : Entry). e.1.unit ≢ unit) (λ e h q. true≢false (sym h ∙ ap not (eq-eqb e.1.unit unit q))) (filter (left unit) old.items) (filter_passes (left unit) old.items);
    admitted = All-filter (is_of unit) (λ (e : Entry). is_admitted old e.1 ≡ true) old.items (admitted_all old old.items sound.admitted);
    few = let n = both_count unit old.items in let f = sound.few in omega (arith, n, f);
  }

  both : (e : Entry) → Contains old.items e → Contains (filter (left unit) old.items) e ⊎ Contains own e
  both e c = by (nat_eq e.1.unit unit) refl
    where
      by : (b : Bool) → nat_eq e.1.unit unit ≡ b → Contains (filter (left unit) old.items) e ⊎ Contains own e
      by true h = inr (contains_filter (is_of unit) old.items e c h)
      by false h = inl (contains_filter (left unit) old.items e c (ap not h))

  merged : AreMerged (filter (left unit) old.items) own old.items
  merged = record {
    rises = up;
    kept = All-filter (left unit) (Contains old.items) old.items (All-contains_itself old.items);
    back = All-filter (is_of unit) (Contains old.items) old.items (All-contains_itself old.items);
    only = All-weaker (Contains old.items) (λ (e : Entry). Contains (filter (left unit) old.items) e ⊎ Contains own e) both old.items (All-contains_itself old.items);
  }

  is_inverse : IsInverseOperation (put_back own) (without_unit old unit) old
  is_inverse = record { fits = fits; leads = record { merged = merged; others = refl } }

-- ---- the edit
module _ (law : (board : PlainBoard) (unit : ℕ) (ids : List ℕ) → IsSound board → IsSound (without_unit board unit) → ((e : Entry) → Contains board.items e → nat_eq e.1.unit unit ≡ true → Contains ids e.0) → IsEdit board (without_unit board unit) ids) where
  made_so : (old : PlainBoard) (unit : ℕ) (made : Made) → IsSound old → IsSound (without_unit old unit) → plain_operation made.back ≡ put_back (entries_of unit old.items) → made.ids.items ≡ ids_of (entries_of unit old.items)
      → IsMade (take_out unit) old (without_unit old unit) made
  made_so old unit made sound still back given = record {
    after = refl;
    leads = subst (λ (d : PlainOperation). IsInverseOperation d (without_unit old unit) old) (sym back) (is_inverse old unit sound);
    adds_none = subst AddsNone (sym back) tt;
    none = λ gives. absurd gives;
    edited = record {
      rise = subst IsStrictlyIncreasing (sym given) (ids_rise 0 old.next_id (entries_of unit old.items) (rise_filter (is_of unit) 0 old.next_id old.items sound.ids));
      edit = law old unit made.ids.items sound still listed;
      differ = went old (without_unit old unit) made.ids.items (entries_of unit old.items) given (free old unit sound) stood;
    };
    known = touched_before given;
  }
    where
      listed : (e : Entry) → Contains old.items e → nat_eq e.1.unit unit ≡ true → Contains made.ids.items e.0
      listed e c own = subst (λ (xs : List ℕ). Contains xs e.0) (sym given) (to_ids (entries_of unit old.items) e (contains_filter (is_of unit) old.items e c own))

      stood : (e : Entry) → Contains (entries_of unit old.items) e → item_at old.items e.0 ≡ Some e.1
      stood e c = found_at old.items e (rises 0 old.next_id old.items sound.ids) (source (is_of unit) old.items e c)

  pub taken_made : (old new : PlainBoard) (unit : ℕ) (items : List Entry) (made : Made) → IsSound old → IsSound new → new ≡ without_unit old unit → items ≡ entries_of unit old.items → plain_operation made.back ≡ put_back items
      → made.ids.items ≡ ids_touched old (take_out unit) → IsMade (take_out unit) old new made
  taken_made old new unit items made sound still e same back given =
      subst (λ (b : PlainBoard). IsMade (take_out unit) old b made) (sym e) (made_so old unit made sound (subst IsSound e still) (back ∙ ap (λ (es : List Entry). put_back es) same) given)
