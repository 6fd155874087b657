-- An index whose entries of some ids are found again.
use Rattle.std.proofs.Common.{◌≡◌, ◌≢◌, ◌⊎◌, inl, inr, refl, sym, ap, subst, ◌∙◌, ℕ, ◌+◌, ◌<◌, Bool, true, false, not, ◌==◌, nat_lt, List, [], ◌∷◌, ◌++◌, length, get_or, take, filter, Contains, Option, None, Some, arith, eq-eqb, true≢false}
use Rattle.std.proofs.lemmas.Bool.{ne_eqb, lt-ltb}
use Rattle.std.proofs.lemmas.List.{get_or_default}
use Rattle.std.proofs.lemmas.List.Elements.{All-weaker, filter_passes, Contains-append_left, Contains-append_right, Contains-append_cases}
use Rattle.geo_seg.specs.declared.boxes.Bounds.{Bounds}
use Rattle.one_item.specs.declared.item.Item.{Item}
use Rattle.board_items.specs.Boards.{PlainBoard, item_at}
use Rattle.one_item.specs.Extents.{AreBoundsOf}
use Rattle.one_item.specs.ItemParts.{parts_of}
use Rattle.box_index.specs.declared.entry.Entry.{Entry}
use Rattle.box_index.specs.Tiles.{PlainIndex, IsAbsent, placed, without}
use Rattle.board_index.specs.IndexedItems.{IsEntryOf, HasEntry, IsIndexOfItems}
use Rattle.board_index.proofs.OneList.{here, cons_case, behind}
use Rattle.board_laws.specs.Edits.{IsEdit, is_one_of}
use Rattle.board_laws.proofs.Rest.{one_of, is_there, contains_filter, source, passed}
use Rattle.drc_session.specs.Looks.{IsBoxAt, IsUpdated}
use Rattle.drc_session.proofs.Looked.{alone, seen, is_entry, no_parts}

-- an id is among them or not
pub among : (ids : List ℕ) (id : ℕ) → Contains ids id ⊎ ¬ (Contains ids id)
among ids id = by (is_one_of ids id) refl
  where
    by : (b : Bool) → is_one_of ids id ≡ b → Contains ids id ⊎ ¬ (Contains ids id)
    by true e = inl (one_of ids id e)
    by false e = inr (λ c. true≢false (sym (is_there ids id c) ∙ e))

-- ---- lists of entries

module _ (id : ℕ) (xs : List Entry) where
  abbrev is_other : Entry → Bool
  is_other x = not (x.id == id)

  in_without : (x : Entry) → Contains xs x → x.id ≢ id → Contains (without id xs) x
  in_without x c ne = contains_filter is_other xs x c (ap not (ne_eqb x.id id ne))

  from_without : (x : Entry) → Contains (without id xs) x → Contains xs x
  from_without x c = source is_other xs x c

  has_another : (x : Entry) → is_other x ≡ true → x.id ≢ id
  has_another x p e = true≢false (sym p ∙ ap not (eq-eqb x.id id e))

  out_without : (x : Entry) → Contains (without id xs) x → x.id ≢ id
  out_without x c = has_another x (passed is_other xs x c)

  absent : IsAbsent id (without id xs)
  absent = All-weaker (λ (x : Entry). is_other x ≡ true) (λ (x : Entry). x.id ≢ id) has_another (without id xs) (filter_passes is_other xs)

pub absent_after : (id : ℕ) (old new : PlainIndex) → new ≡ record old { entries = without id old.entries } → IsAbsent id new.entries
absent_after id old new is = subst (λ (index : PlainIndex). IsAbsent id index.entries) (sym is) (absent id old.entries)

apart : (a b : ℕ) → a ≢ b → (a < b) ⊎ (b < a)
apart a b ne = grind arith

module _ (e : Entry) (xs : List Entry) where
  abbrev is_lower : Entry → Bool
  is_lower x = nat_lt x.id e.id

  abbrev is_upper : Entry → Bool
  is_upper x = nat_lt e.id x.id

  placed_new : Contains (placed e xs) e
  placed_new = Contains-append_right (filter is_lower xs) (e ∷ filter is_upper xs) e (here e (filter is_upper xs))

  placed_old : (x : Entry) → Contains xs x → x.id ≢ e.id → Contains (placed e xs) x
  placed_old x c ne = by (apart x.id e.id ne)
    where
      by : (x.id < e.id) ⊎ (e.id < x.id) → Contains (placed e xs) x
      by (inl l) = Contains-append_left (filter is_lower xs) (e ∷ filter is_upper xs) x (contains_filter is_lower xs x c (lt-ltb x.id e.id l))
      by (inr l) = Contains-append_right (filter is_lower xs) (e ∷ filter is_upper xs) x
          (behind e x (filter is_upper xs) (contains_filter is_upper xs x c (lt-ltb e.id x.id l)))

  placed_cases : (x : Entry) → Contains (placed e xs) x → (e ≡ x) ⊎ Contains xs x
  placed_cases x c = by (Contains-append_cases (filter is_lower xs) (e ∷ filter is_upper xs) x c)
    where
      by_upper : (e ≡ x) ⊎ Contains (filter is_upper xs) x → (e ≡ x) ⊎ Contains xs x
      by_upper (inl same) = inl same
      by_upper (inr d) = inr (source is_upper xs x d)

      by : Contains (filter is_lower xs) x ⊎ Contains (e ∷ filter is_upper xs) x → (e ≡ x) ⊎ Contains xs x
      by (inl d) = inr (source is_lower xs x d)
      by (inr d) = by_upper (cons_case e x (filter is_upper xs) d)

-- ---- one id

module _ (board : PlainBoard) (id : ℕ) (found : Option Bounds) (h : IsBoxAt board id found) (old : PlainIndex) where
  own_id : (x : Entry) → ¬ (Contains (id ∷ []) x.id) → x.id ≢ id
  own_id x out e = out (subst (Contains (id ∷ [])) (sym e) (here id []))

  another : (x : Entry) → Contains (without id old.entries) x → (¬ (Contains (id ∷ []) x.id)) × Contains old.entries x
  another x c = ((λ d. out_without id old.entries x c (sym (alone id x.id d))), from_without id old.entries x c)

  gone : found ≡ None → IsUpdated board (id ∷ []) old (record old { entries = without id old.entries })
  gone e = record {
    only = λ x c. inr (another x c);
    holds = λ one item c at some. absurd (some (no_parts board id found h item (subst (λ (n : ℕ). item_at board.items n ≡ Some item) (sym (alone id one c)) at) e));
    kept = λ x out c. in_without id old.entries x c (own_id x out);
  }

  module _ (box : Bounds) (e : found ≡ Some box) where
    abbrev one : Entry
    one = record { id = id; bounds = box }

    abbrev put : PlainIndex
    put = record old { entries = placed one (without id old.entries) }

    only : (x : Entry) → (one ≡ x) ⊎ Contains (without id old.entries) x → (Contains (id ∷ []) x.id × IsEntryOf board x) ⊎ ((¬ (Contains (id ∷ []) x.id)) × Contains old.entries x)
    only x (inl same) = inl (subst (λ (y : Entry). Contains (id ∷ []) y.id × IsEntryOf board y) same (here id [], is_entry board id found h box e))
    only x (inr c) = inr (another x c)

    has : (item : Item) → item_at board.items id ≡ Some item → HasEntry put id item
    has item at = record { bounds = box; own = subst (AreBoundsOf (parts_of item)) e (h.some item at); entry = placed_new one (without id old.entries) }

    has_at : (other : ℕ) (item : Item) → id ≡ other → item_at board.items other ≡ Some item → HasEntry put other item
    has_at other item same at = subst (λ (n : ℕ). HasEntry put n item) same (has item (subst (λ (n : ℕ). item_at board.items n ≡ Some item) (sym same) at))

    is_put : IsUpdated board (id ∷ []) old put
    is_put = record {
      only = λ x c. only x (placed_cases one (without id old.entries) x c);
      holds = λ other item c at some. has_at other item (alone id other c) at;
      kept = λ x out c. (let ne = own_id x out in placed_old one (without id old.entries) x (in_without id old.entries x c ne) ne);
    }

-- nothing stands under the id
pub updated_gone : (board : PlainBoard) (id : ℕ) (old new : PlainIndex) → IsBoxAt board id None → new ≡ record old { entries = without id old.entries } → IsUpdated board (id ∷ []) old new
updated_gone board id old new h is = subst (IsUpdated board (id ∷ []) old) (sym is) (gone board id None h old refl)

-- its item's entry is put in
pub updated_put : (board : PlainBoard) (id : ℕ) (box : Bounds) (old mid new : PlainIndex) → IsBoxAt board id (Some box) → mid ≡ record old { entries = without id old.entries }
    → new ≡ record mid { entries = placed (record { id = id; bounds = box }) mid.entries } → IsUpdated board (id ∷ []) old new
updated_put board id box old mid new h cut is =
    subst (IsUpdated board (id ∷ []) old) (sym (is ∙ ap (λ (index : PlainIndex). record index { entries = placed (record { id = id; bounds = box }) index.entries }) cut)) (is_put board id (Some box) h old box refl)

-- ---- several ids

module _ (board : PlainBoard) where
  module _ (xs ys : List ℕ) (old mid new : PlainIndex) (h : IsUpdated board xs old mid) (k : IsUpdated board ys mid new) where
    neither : (id : ℕ) → ¬ (Contains xs id) → ¬ (Contains ys id) → Contains xs id ⊎ Contains ys id → ⊥
    neither id a b (inl c) = a c
    neither id a b (inr c) = b c

    earlier : (x : Entry) → ¬ (Contains ys x.id) → (Contains xs x.id × IsEntryOf board x) ⊎ ((¬ (Contains xs x.id)) × Contains old.entries x)
        → (Contains (xs ++ ys) x.id × IsEntryOf board x) ⊎ ((¬ (Contains (xs ++ ys) x.id)) × Contains old.entries x)
    earlier x out (inl a) = inl (Contains-append_left xs ys x.id a.0, a.1)
    earlier x out (inr a) = inr ((λ d. neither x.id a.0 out (Contains-append_cases xs ys x.id d)), a.1)

    only_both : (x : Entry) → (Contains ys x.id × IsEntryOf board x) ⊎ ((¬ (Contains ys x.id)) × Contains mid.entries x)
        → (Contains (xs ++ ys) x.id × IsEntryOf board x) ⊎ ((¬ (Contains (xs ++ ys) x.id)) × Contains old.entries x)
    only_both x (inl a) = inl (Contains-append_right xs ys x.id a.0, a.1)
    only_both x (inr a) = earlier x a.0 (h.only x a.1)

    stays : (id : ℕ) (item : Item) → ¬ (Contains ys id) → HasEntry mid id item → HasEntry new id item
    stays id item out has = record { bounds = has.bounds; own = has.own; entry = k.kept (record { id = id; bounds = has.bounds }) out has.entry }

    holds_both : (id : ℕ) (item : Item) → item_at board.items id ≡ Some item → parts_of item ≢ [] → Contains ys id ⊎ ¬ (Contains ys id) → Contains xs id ⊎ Contains ys id → HasEntry new id item
    holds_both id item at some (inl c) d = k.holds id item c at some
    holds_both id item at some (inr out) (inl c) = stays id item out (h.holds id item c at some)
    holds_both id item at some (inr out) (inr c) = absurd (out c)

    updated_joined : IsUpdated board (xs ++ ys) old new
    updated_joined = record {
      only = λ x c. only_both x (k.only x c);
      holds = λ id item c at some. holds_both id item at some (among ys id) (Contains-append_cases xs ys id c);
      kept = λ x out c. k.kept x (λ d. out (Contains-append_right xs ys x.id d)) (h.kept x (λ d. out (Contains-append_left xs ys x.id d)) c);
    }

  pub updated_more : (ids : List ℕ) (i d : ℕ) (old mid new : PlainIndex) → i < length ids → IsUpdated board (take i ids) old mid → IsUpdated board (get_or ids i d ∷ []) mid new → IsUpdated board (take (i + 1) ids) old new
  updated_more ids i d old mid new lt h k =
      let id = get_or ids i d in subst (λ (l : List ℕ). IsUpdated board l old new) (seen ids i id lt (get_or_default ids i d id lt)) (updated_joined (take i ids) (id ∷ []) old mid new h k)

-- ---- after an edit

module _ (old new : PlainBoard) (ids : List ℕ) (edit : IsEdit old new ids) (before now : PlainIndex) (is : IsIndexOfItems old before) (r : IsUpdated new ids before now) where
  only_new : (x : Entry) → (Contains ids x.id × IsEntryOf new x) ⊎ ((¬ (Contains ids x.id)) × Contains before.entries x) → IsEntryOf new x
  only_new x (inl a) = a.1
  only_new x (inr a) = let own = is.only x a.1 in record { item = own.item; stands = edit.rest x.id a.0 ∙ own.stands; own = own.own }

  each_new : (id : ℕ) (item : Item) → item_at new.items id ≡ Some item → parts_of item ≢ [] → Contains ids id ⊎ ¬ (Contains ids id) → HasEntry now id item
  each_new id item at some (inl c) = r.holds id item c at some
  each_new id item at some (inr out) =
      let has = is.holds.each id item (sym (edit.rest id out) ∙ at) some in record { bounds = has.bounds; own = has.own; entry = r.kept (record { id = id; bounds = has.bounds }) out has.entry }

  pub updated_index : IsIndexOfItems new now
  updated_index = record { only = λ x c. only_new x (r.only x c); holds = record { each = λ id item at some. each_new id item at some (among ids id) } }
