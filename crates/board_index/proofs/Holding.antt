-- An index that holds the items of a board so far.
use Rattle.std.proofs.Common.{◌≡◌, ◌≢◌, ◌⊎◌, ℕ, ◌+◌, ◌<◌, ◌≤◌, ℤ, cond, nat_lt, List, [], ◌∷◌, filter, All, Contains, None, Some, inl, inr, refl, sym, subst, ap, ◌∙◌, arith, eq-eqb}
use Rattle.std.proofs.lemmas.Bool.{cases_eq, ne_eqb, lt-ltb}
use Rattle.std.proofs.lemmas.List.Elements.{All-nil, All-cons, All-append, All-filter, All-weaker, All-contains, Contains-append_left, Contains-append_right}
use Rattle.geo_seg.specs.declared.boxes.Bounds.{Bounds}
use Rattle.one_item.specs.declared.item.Item.{Item}
use Rattle.board_items.specs.Boards.{PlainBoard, Rise, IsSound, item_at}
use Rattle.one_item.specs.ItemParts.{parts_of}
use Rattle.one_item.specs.Extents.{AreBoundsOf}
use Rattle.box_index.specs.declared.entry.Entry.{Entry}
use Rattle.box_index.specs.Tiles.{PlainIndex, IsAbsent, placed}
use Rattle.box_index.proofs.Buckets.{contains_filter}
use Rattle.board_index.specs.IndexedItems.{IsEntryOf, HasEntry, IsIndexOfItems}
use Rattle.board_index.proofs.Bounds.{no_box}

-- the index holds all items but those that are left, whose ids are above all in it, and nothing else
pub record IsHeld (board : PlainBoard) (reach : ℤ) (left : List (ℕ × Item)) (index : PlainIndex) : Type 0 where
  pub low : ℕ
  pub high : ℕ
  pub rise : Rise low high left
  pub far : index.reach ≡ reach
  pub below : All (λ e. e.id < low) index.entries
  pub only : All (IsEntryOf board) index.entries
  pub same : (id : ℕ) (item : Item) → item_at left id ≡ Some item → item_at board.items id ≡ Some item
  pub each : (id : ℕ) (item : Item) → item_at board.items id ≡ Some item → parts_of item ≢ [] → HasEntry index id item ⊎ (item_at left id ≡ Some item)

pub held_none : (board : PlainBoard) (reach : ℤ) (index : PlainIndex) → IsSound board → index ≡ record { reach = reach; entries = [] } → IsHeld board reach board.items index
held_none board reach index sound is = subst (IsHeld board reach board.items) (sym is) record {
  low = 0;
  high = board.next_id;
  rise = sound.ids;
  far = refl;
  below = All-nil (λ e. e.id < 0);
  only = All-nil (IsEntryOf board);
  same = λ id item found. found;
  each = λ id item found some. inr found;
}

-- it is the index of all items of the board
pub held_all : (board : PlainBoard) (reach : ℤ) (index : PlainIndex) (left : List (ℕ × Item)) → left ≡ [] → IsHeld board reach left index → IsIndexOfItems board index
held_all board reach index left none h = record {
  only = λ e has. All-contains (IsEntryOf board) index.entries e h.only has;
  holds = record { each = λ id item found some. last id item (h.each id item found some) };
}
  where
    nothing : (id : ℕ) (item : Item) → item_at left id ≡ Some item → ⊥
    nothing id item f = let g : item_at [] id ≡ Some item = subst (λ (es : List (ℕ × Item)). item_at es id ≡ Some item) none f in cc

    last : (id : ℕ) (item : Item) → HasEntry index id item ⊎ (item_at left id ≡ Some item) → HasEntry index id item
    last id item (inl has) = has
    last id item (inr more) = absurd (nothing id item more)

-- ---- an entry more
placed_old : (e : Entry) (xs : List Entry) (x : Entry) → x.id < e.id → Contains xs x → Contains (placed e xs) x
placed_old e xs x lt c = Contains-append_left (filter (λ y. nat_lt y.id e.id) xs) (e ∷ filter (λ y. nat_lt e.id y.id) xs) x (contains_filter (λ (y : Entry). nat_lt y.id e.id) xs x c (lt-ltb x.id e.id lt))

placed_new : (e : Entry) (xs : List Entry) → Contains (placed e xs) e
placed_new e xs = Contains-append_right (filter (λ y. nat_lt y.id e.id) xs) (e ∷ filter (λ y. nat_lt e.id y.id) xs) e (0, omega arith, refl)

placed_all : (P : Entry → Type 0) (e : Entry) (xs : List Entry) → P e → All P xs → All P (placed e xs)
placed_all P e xs one all =
    All-append P (filter (λ y. nat_lt y.id e.id) xs) (e ∷ filter (λ y. nat_lt e.id y.id) xs) (All-filter (λ y. nat_lt y.id e.id) P xs all)
    (All-cons P e (filter (λ y. nat_lt e.id y.id) xs) one (All-filter (λ y. nat_lt e.id y.id) P xs all))

-- ---- the next item
some_same : (a b : Item) → Some a ≡ Some b → a ≡ b
some_same a b e = cc

none_below : (low high id : ℕ) (items : List (ℕ × Item)) → Rise low high items → id < low → item_at items id ≡ None
none_below low high id [] h lt = refl
none_below low high id (e ∷ es) h lt =
    ap (λ b. cond b (Some e.1) (item_at es id)) (ne_eqb id e.0 (λ same. omega (arith, h.0, same))) ∙ none_below (e.0 + 1) high id es h.1 (omega (arith, h.0))

module _ (board : PlainBoard) (reach : ℤ) (index : PlainIndex) (left : List (ℕ × Item)) (id : ℕ) (item : Item) (rest : List (ℕ × Item)) (same : left ≡ (id, item) ∷ rest) (h : IsHeld board reach left index) where
  rises : Rise h.low h.high ((id, item) ∷ rest)
  rises = subst (λ (es : List (ℕ × Item)). Rise h.low h.high es) same h.rise

  lower : All (λ e. e.id < id) index.entries
  lower = let up : h.low ≤ id = rises.0 in All-weaker (λ e. e.id < h.low) (λ e. e.id < id) (λ e lt. omega arith) index.entries h.below

  pub next_absent : IsAbsent id index.entries
  next_absent = All-weaker (λ e. e.id < id) (λ e. e.id ≢ id) (λ e lt is. omega arith) index.entries lower

  at_head : item_at ((id, item) ∷ rest) id ≡ Some item
  at_head = ap (λ b. cond b (Some item) (item_at rest id)) (eq-eqb id id refl)

  head_is : item_at board.items id ≡ Some item
  head_is = h.same id item (subst (λ (es : List (ℕ × Item)). item_at es id ≡ Some item) (sym same) at_head)

  behind_id : (other : ℕ) (that : Item) → item_at rest other ≡ Some that → other ≢ id
  behind_id other that found is = let none = none_below (id + 1) h.high other rest rises.1 (omega (arith, is)) in absurd (differ none found)
    where
      differ : item_at rest other ≡ None → item_at rest other ≡ Some that → ⊥
      differ e f = cc

  same_next : (other : ℕ) (that : Item) → item_at rest other ≡ Some that → item_at board.items other ≡ Some that
  same_next other that found =
      h.same other that (subst (λ (es : List (ℕ × Item)). item_at es other ≡ Some that) (sym same)
      (ap (λ b. cond b (Some item) (item_at rest other)) (ne_eqb other id (behind_id other that found)) ∙ found))

  -- an item is in the index, or is this one, or is left
  each_next : (other : ℕ) (that : Item) → item_at board.items other ≡ Some that → parts_of that ≢ [] → HasEntry index other that ⊎ (((other ≡ id) × (that ≡ item)) ⊎ (item_at rest other ≡ Some that))
  each_next other that found some = elim (h.each other that found some) [
    | inl has ↦ inl has
    | inr more ↦ inr (by_id (subst (λ (es : List (ℕ × Item)). item_at es other ≡ Some that) same more) (cases_eq other id))
  ]
    where
      by_id : item_at ((id, item) ∷ rest) other ≡ Some that → (other ≡ id) ⊎ (other ≢ id) → ((other ≡ id) × (that ≡ item)) ⊎ (item_at rest other ≡ Some that)
      by_id f (inl is) = inl (is, sym (some_same item that (sym (ap (λ b. cond b (Some item) (item_at rest other)) (eq-eqb other id is)) ∙ f)))
      by_id f (inr ne) = inr (sym (ap (λ b. cond b (Some item) (item_at rest other)) (ne_eqb other id ne)) ∙ f)

  -- it has no bounds
  pub held_skip : AreBoundsOf (parts_of item) None → IsHeld board reach rest index
  held_skip none = record {
    low = id + 1;
    high = h.high;
    rise = rises.1;
    far = h.far;
    below = All-weaker (λ e. e.id < id) (λ e. e.id < id + 1) (λ e lt. omega arith) index.entries lower;
    only = h.only;
    same = same_next;
    each = each;
  }
    where
      each : (other : ℕ) (that : Item) → item_at board.items other ≡ Some that → parts_of that ≢ [] → HasEntry index other that ⊎ (item_at rest other ≡ Some that)
      each other that found some = elim (each_next other that found some) [
        | inl has ↦ inl has
        | inr (inl this) ↦ absurd (some (ap parts_of this.1 ∙ no_box (parts_of item) none))
        | inr (inr more) ↦ inr more
      ]

  module _ (bounds : Bounds) (own : AreBoundsOf (parts_of item) (Some bounds)) where
    abbrev one : Entry
    one = record { id = id; bounds = bounds }

    abbrev put : PlainIndex
    put = record index { entries = placed one index.entries }

    more : (other : ℕ) (that : Item) → HasEntry index other that → HasEntry put other that
    more other that has = record {
      bounds = has.bounds;
      own = has.own;
      entry = placed_old one index.entries (record { id = other; bounds = has.bounds }) (All-contains (λ e. e.id < id) index.entries (record { id = other; bounds = has.bounds }) lower has.entry) has.entry;
    }

    this : (other : ℕ) (that : Item) → (other ≡ id) × (that ≡ item) → HasEntry put other that
    this other that e = record {
      bounds = bounds;
      own = subst (λ (a : Item). AreBoundsOf (parts_of a) (Some bounds)) (sym e.1) own;
      entry = subst (λ (n : ℕ). Contains (placed one index.entries) (record { id = n; bounds = bounds })) (sym e.0) (placed_new one index.entries);
    }

    held : IsHeld board reach rest put
    held = record {
      low = id + 1;
      high = h.high;
      rise = rises.1;
      far = h.far;
      below = placed_all (λ e. e.id < id + 1) one index.entries (omega arith) (All-weaker (λ e. e.id < id) (λ e. e.id < id + 1) (λ e lt. omega arith) index.entries lower);
      only = placed_all (IsEntryOf board) one index.entries (record { item = item; stands = head_is; own = own }) h.only;
      same = same_next;
      each = λ other that found some. elim (each_next other that found some) [
        | inl has ↦ inl (more other that has)
        | inr (inl e) ↦ inl (this other that e)
        | inr (inr left) ↦ inr left
      ];
    }

    -- it is put in
    pub held_more : (now : PlainIndex) → now ≡ put → IsHeld board reach rest now
    held_more now is = subst (IsHeld board reach rest) (sym is) held
