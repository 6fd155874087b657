-- The entries of a tile that are asked for.
use Rattle.std.proofs.Common.{◌≡◌, ℕ, zero, suc, ◌+◌, ◌<◌, ℤ, pos, All, Bool, true, false, cond, IsTrue, List, [], ◌∷◌, ◌++◌, length, get_or, set, take, Contains, Option, None, Some, refl, sym, subst, ap, ◌∙◌, arith}
use Rattle.std.proofs.lemmas.List.{take_more, append-nil, get_or_default}
use Rattle.std.proofs.lemmas.List.Elements.{All-filter}
use Rattle.geo_seg.specs.declared.boxes.Bounds.{Bounds}
use Rattle.geo_seg.specs.Boxes.{FitsWithin}
use Rattle.box_index.specs.Tiles.{PlainIndex, IsSoundIndex, near_of, is_in}
use Rattle.box_index.specs.declared.entry.Entry.{Entry}
use Rattle.net_groups.specs.ConnectedClasses.{Rises}
use Rattle.net_groups.specs.Labels.{label_at, IsLabelled, IsVisited}
use Rattle.net_groups.specs.Asking.{is_asked, ids_asked}
use Rattle.net_groups.specs.ItemBoxes.{HoldsItemBoxes}
use Rattle.net_groups.proofs.Marks.{distinct}
use Rattle.net_groups.proofs.Conductors.{contains_here, contains_later}
use Rattle.net_groups.proofs.Visits.{visited_skip, visited_push}

module _ (ids : List ℕ) (reach : ℤ) (tile : ℕ) (own : Entry) where
  -- one entry more
  asked_push : (es : List Entry) (e : Entry) → ids_asked ids reach tile own (es ++ e ∷ []) ≡ ids_asked ids reach tile own es ++ cond (is_asked reach tile own e) (get_or ids e.id 0 ∷ []) []
  asked_push [] e = refl
  asked_push (x ∷ es) e = by_test (is_asked reach tile own x) (asked_push es e)
    where
      by_test : (b : Bool) → ids_asked ids reach tile own (es ++ e ∷ []) ≡ ids_asked ids reach tile own es ++ cond (is_asked reach tile own e) (get_or ids e.id 0 ∷ []) []
          → cond b (get_or ids x.id 0 ∷ ids_asked ids reach tile own (es ++ e ∷ [])) (ids_asked ids reach tile own (es ++ e ∷ []))
          ≡ cond b (get_or ids x.id 0 ∷ ids_asked ids reach tile own es) (ids_asked ids reach tile own es) ++ cond (is_asked reach tile own e) (get_or ids e.id 0 ∷ []) []
      by_test true h = ap (λ (more : List ℕ). get_or ids x.id 0 ∷ more) h
      by_test false h = h

  -- an entry that is asked for
  pub asked_contains : (es : List Entry) (e : Entry) (k : ℕ) → k < length es → get_or es k e ≡ e → is_asked reach tile own e ≡ true → Contains (ids_asked ids reach tile own es) (get_or ids e.id 0)
  asked_contains [] e k lt is t = absurd (omega arith)
  asked_contains (x ∷ es) e zero lt is t =
      let same : is_asked reach tile own x ≡ true = subst (λ (y : Entry). is_asked reach tile own y ≡ true) (sym is) t in
      subst (λ (b : Bool). Contains (cond b (get_or ids x.id 0 ∷ ids_asked ids reach tile own es) (ids_asked ids reach tile own es)) (get_or ids e.id 0)) (sym same)
      (subst (λ (y : Entry). Contains (get_or ids x.id 0 ∷ ids_asked ids reach tile own es) (get_or ids y.id 0)) is (contains_here (get_or ids x.id 0) (ids_asked ids reach tile own es)))
  asked_contains (x ∷ es) e (suc k) lt is t = by_test (is_asked reach tile own x) (asked_contains es e k (omega arith) is t)
    where
      by_test : (b : Bool) → Contains (ids_asked ids reach tile own es) (get_or ids e.id 0) → Contains (cond b (get_or ids x.id 0 ∷ ids_asked ids reach tile own es) (ids_asked ids reach tile own es)) (get_or ids e.id 0)
      by_test true c = contains_later (get_or ids x.id 0) (ids_asked ids reach tile own es) (get_or ids e.id 0) c
      by_test false c = c

  module _ (Step : ℕ → ℕ → Type 0) (rises : Rises ids) (label : ℕ) (before labels : List (Option ℕ)) (first stack : List ℕ) (es : List Entry) (i : ℕ) (e : Entry) (lt : i < length es) (is : e ≡ get_or es i e) (inside : e.id < length ids)
      (v : IsVisited Step ids (ids_asked ids reach tile own (take i es)) own.id label before labels first stack) where
    seen : ids_asked ids reach tile own (take (i + 1) es) ≡ ids_asked ids reach tile own (take i es) ++ cond (is_asked reach tile own e) (get_or ids e.id 0 ∷ []) []
    seen =
        ap (ids_asked ids reach tile own) (take_more es i e lt) ∙ (asked_push (take i es) (get_or es i e)
        ∙ ap (λ (x : Entry). ids_asked ids reach tile own (take i es) ++ cond (is_asked reach tile own x) (get_or ids x.id 0 ∷ []) []) (sym is))

    along : (new_labels : List (Option ℕ)) (new_stack : List ℕ) → IsVisited Step ids (ids_asked ids reach tile own (take i es) ++ cond (is_asked reach tile own e) (get_or ids e.id 0 ∷ []) []) own.id label before new_labels first new_stack
        → IsVisited Step ids (ids_asked ids reach tile own (take (i + 1) es)) own.id label before new_labels first new_stack
    along new_labels new_stack w = subst (λ (others : List ℕ). IsVisited Step ids others own.id label before new_labels first new_stack) (sym seen) w

    pub asked_skip : (IsTrue (is_asked reach tile own e) → Step (get_or ids own.id 0) (get_or ids e.id 0) → IsLabelled labels e.id) → IsVisited Step ids (ids_asked ids reach tile own (take (i + 1) es)) own.id label before labels first stack
    asked_skip over = along labels stack (by_test (is_asked reach tile own e) refl)
      where
        by_test : (b : Bool) → is_asked reach tile own e ≡ b → IsVisited Step ids (ids_asked ids reach tile own (take i es) ++ cond b (get_or ids e.id 0 ∷ []) []) own.id label before labels first stack
        by_test true t =
            visited_skip Step ids (ids_asked ids reach tile own (take i es)) own.id label before labels first stack v (get_or ids e.id 0)
            (λ j at same s. subst (IsLabelled labels) (distinct ids rises e.id j inside at (sym same)) (over t s))
        by_test false f = subst (λ (others : List ℕ). IsVisited Step ids others own.id label before labels first stack) (sym (append-nil (ids_asked ids reach tile own (take i es)))) v

    pub asked_next : length labels ≡ length ids → IsTrue (is_asked reach tile own e) → Step (get_or ids own.id 0) (get_or ids e.id 0) → label_at labels e.id ≡ None
        → IsVisited Step ids (ids_asked ids reach tile own (take (i + 1) es)) own.id label before (set labels e.id (Some label)) first (stack ++ e.id ∷ [])
    asked_next many t touch free =
        along (set labels e.id (Some label)) (stack ++ e.id ∷ [])
        (subst (λ (b : Bool). IsVisited Step ids (ids_asked ids reach tile own (take i es) ++ cond b (get_or ids e.id 0 ∷ []) []) own.id label before (set labels e.id (Some label)) first (stack ++ e.id ∷ [])) (sym t)
        (visited_push Step ids (ids_asked ids reach tile own (take i es)) own.id label before labels first stack v (get_or ids e.id 0) rises e.id inside many refl touch free))

-- what is read past a list of boxes, and of entries
abbrev pub no_bounds : Bounds
no_bounds = record { left = pos 0; top = pos 0; right = pos 0; bottom = pos 0 }

abbrev pub no_entry : Entry
no_entry = record { id = 0; bounds = no_bounds }

pub itself : (es : List Entry) (i : ℕ) → i < length es → get_or es i no_entry ≡ get_or es i (get_or es i no_entry)
itself es i lt = get_or_default es i no_entry (get_or es i no_entry) lt

-- entries of an index fit
pub fits_at : (index : PlainIndex) (tile : ℕ) → IsSoundIndex index → (es : List Entry) → es ≡ near_of index tile → (i : ℕ) → i < length es → FitsWithin (pos 2000000000) (get_or es i no_entry).bounds
fits_at index tile sound es same i lt =
    subst (λ (xs : List Entry). All (λ e. FitsWithin (pos 2000000000) e.bounds) xs) (sym same) (All-filter (is_in index tile) (λ e. FitsWithin (pos 2000000000) e.bounds) index.entries sound.fit) i no_entry lt

-- the places of entries of an index of item boxes
pub place_at : (item_boxes : List Bounds) (index : PlainIndex) (tile : ℕ) → HoldsItemBoxes item_boxes index → (es : List Entry) → es ≡ near_of index tile → (i : ℕ) → i < length es → (get_or es i no_entry).id < length item_boxes
place_at item_boxes index tile holds es same i lt =
    subst (λ (xs : List Entry). All (λ e. e.id < length item_boxes) xs) (sym same) (All-filter (is_in index tile) (λ e. e.id < length item_boxes) index.entries holds.only) i no_entry lt
