-- An index of areas and bodies, item by item.
use Rattle.std.proofs.Common.{◌≡◌, ◌≢◌, refl, sym, ap, subst, ◌∙◌, ◌⊎◌, inl, inr, ℕ, zero, suc, ◌+◌, ◌<◌, nat_lt, Bool, true, false, List, [], ◌∷◌, length, get_or, Contains, None, Some, arith}
use Rattle.std.specs.List.{filter}
use Rattle.std.proofs.lemmas.Bool.{cases_order, cases_eq, lt-ltb}
use Rattle.std.proofs.lemmas.List.Elements.{Contains-append_left, Contains-append_right, Contains-append_cases, All-contains, All-contains_itself, All-filter, All-weaker}
use Rattle.one_item.specs.declared.parts.Part.{Part}
use Rattle.one_item.specs.declared.item.Item.{Item}
use Rattle.one_item.specs.ItemKinds.{is_mark}
use Rattle.board_items.specs.Boards.{Rise, item_at, marks_of}
use Rattle.one_item.specs.ItemParts.{parts_of}
use Rattle.one_item.specs.Extents.{AreBoundsOf}
use Rattle.box_index.specs.declared.entry.Entry.{Entry}
use Rattle.box_index.specs.Tiles.{PlainIndex, IsAbsent, placed}
use Rattle.box_index.proofs.Buckets.{contains_filter}
use Rattle.item_facts.specs.NearItems.{DoRise, HasMark, HoldsMarks, IsMarked}
use Rattle.item_facts.proofs.NearIds.{ids_rise, ids_has}

one_of_filter : {X : Type 0} (p : X → Bool) (xs : List X) (x : X) → Contains (filter p xs) x → Contains xs x
one_of_filter p xs x c = All-contains (Contains xs) (filter p xs) x (All-filter p (Contains xs) xs (All-contains_itself xs)) c

head_of : {X : Type 0} (x : X) (xs : List X) → Contains (x ∷ xs) x
head_of x xs = (0, omega arith, refl)

behind_head : {X : Type 0} (x : X) (xs : List X) (y : X) → Contains xs y → Contains (x ∷ xs) y
behind_head x xs y c = let lt = c.1 in (suc c.0, omega arith, c.2)

head_cases : {X : Type 0} (x : X) (xs : List X) (y : X) → Contains (x ∷ xs) y → (x ≡ y) ⊎ Contains xs y
head_cases {X} x xs y c = by_place c.0 c.1 c.2
  where
    by_place : (k : ℕ) → k < length (x ∷ xs) → get_or (x ∷ xs) k y ≡ y → (x ≡ y) ⊎ Contains xs y
    by_place zero lt e = inl e
    by_place (suc k) lt e = inr (k, omega arith, e)

-- ---- an entry in its place

abbrev lesser : Entry → List Entry → List Entry
lesser one entries = filter (λ x. nat_lt x.id one.id) entries

abbrev greater : Entry → List Entry → List Entry
greater one entries = filter (λ x. nat_lt one.id x.id) entries

placed_has : (one : Entry) (entries : List Entry) → Contains (placed one entries) one
placed_has one entries = Contains-append_right (lesser one entries) (one ∷ greater one entries) one (head_of one (greater one entries))

placed_kept : (one : Entry) (entries : List Entry) (e : Entry) → e.id ≢ one.id → Contains entries e → Contains (placed one entries) e
placed_kept one entries e other c = elim (cases_order e.id one.id) [
  | inl same ↦ absurd (other same)
  | inr (inl less) ↦ Contains-append_left (lesser one entries) (one ∷ greater one entries) e (contains_filter (λ (x : Entry). nat_lt x.id one.id) entries e c (lt-ltb e.id one.id less))
  | inr (inr more) ↦
      Contains-append_right (lesser one entries) (one ∷ greater one entries) e
      (behind_head one (greater one entries) e (contains_filter (λ (x : Entry). nat_lt one.id x.id) entries e c (lt-ltb one.id e.id more)))
]

placed_only : (one : Entry) (entries : List Entry) (e : Entry) → e.id ≢ one.id → Contains (placed one entries) e → Contains entries e
placed_only one entries e other c = elim (Contains-append_cases (lesser one entries) (one ∷ greater one entries) e c) [
  | inl front ↦ one_of_filter (λ (x : Entry). nat_lt x.id one.id) entries e front
  | inr back ↦ elim (head_cases one (greater one entries) e back) [
    | inl same ↦ absurd (other (sym (ap (λ (x : Entry). x.id) same)))
    | inr later ↦ one_of_filter (λ (x : Entry). nat_lt one.id x.id) entries e later
  ]
]

-- ---- an item that is put in

pub is_marked : (item : Item) (one : Entry) (old new : PlainIndex) → IsAbsent one.id old.entries → AreBoundsOf (parts_of item) (Some one.bounds) → new.entries ≡ placed one old.entries → IsMarked one.id item old new
is_marked item one old new absent own is = record {
  kept = λ e c. back e (placed_kept one old.entries e (All-contains (λ (x : Entry). x.id ≢ one.id) old.entries e absent c) c);
  only = λ e c other. placed_only one old.entries e other (subst (λ (es : List Entry). Contains es e) is c);
  has = λ mark some. record { box = one.bounds; own = own; entry = back one (placed_has one old.entries) };
}
  where
    back : (e : Entry) → Contains (placed one old.entries) e → Contains new.entries e
    back e c = subst (λ (es : List Entry). Contains es e) (sym is) c

-- ---- an item that is not

pub no_mark : (id : ℕ) (item : Item) (index : PlainIndex) → is_mark item.what ≡ false → IsMarked id item index index
no_mark id item index none = record { kept = λ e c. c; only = λ e c other. c; has = λ mark some. absurd cc }

pub no_parts : (ps : List Part) → AreBoundsOf ps None → ps ≡ []
no_parts [] h = refl
no_parts (p ∷ ps) h = absurd h

pub no_bounds : (id : ℕ) (item : Item) (index : PlainIndex) → AreBoundsOf (parts_of item) None → IsMarked id item index index
no_bounds id item index none = record { kept = λ e c. c; only = λ e c other. c; has = λ mark some. absurd (some (no_parts (parts_of item) none)) }

-- ---- one after the other

-- the index has the areas and bodies that are not among the ids that are left, and its ids are below these
pub record AreMarked (items : List (ℕ × Item)) (left : List ℕ) (index : PlainIndex) : Type 0 where
  pub low : ℕ
  pub below : (e : Entry) → Contains index.entries e → e.id < low
  pub rises : DoRise low left
  pub each : (id : ℕ) (item : Item) → item_at items id ≡ Some item → is_mark item.what ≡ true → parts_of item ≢ [] → Contains left id ⊎ HasMark index id item

pub none_marked : (high : ℕ) (items : List (ℕ × Item)) (index : PlainIndex) → Rise 0 high items → index.entries ≡ [] → AreMarked items (marks_of items) index
none_marked high items index rise none = record {
  low = 0;
  below = λ e c. absurd (nothing e (subst (λ (es : List Entry). Contains es e) none c));
  rises = ids_rise (λ (item : Item). is_mark item.what) 0 high items rise;
  each = λ id item found mark some. inl (ids_has (λ (item : Item). is_mark item.what) items id item found mark);
}
  where
    nothing : (e : Entry) → Contains [] e → ⊥
    nothing e c = let lt = c.1 in omega arith

module _ (items : List (ℕ × Item)) (one : ℕ) (left : List ℕ) (old : PlainIndex) (h : AreMarked items (one ∷ left) old) where
  pub is_absent : IsAbsent one old.entries
  is_absent = All-weaker (Contains old.entries) (λ (e : Entry). e.id ≢ one) apart old.entries (All-contains_itself old.entries)
    where
      apart : (e : Entry) → Contains old.entries e → e.id ≢ one
      apart e c same = let less = h.below e c in let least = h.rises.0 in omega arith

  -- no item has the id
  pub none_there : item_at items one ≡ None → AreMarked items left old
  none_there none = record {
    low = one + 1;
    below = λ e c. let less = h.below e c in let least = h.rises.0 in omega arith;
    rises = h.rises.1;
    each = λ id item found mark some. elim (h.each id item found mark some) [
      | inl next ↦ elim (head_cases one left id next) [
        | inl here ↦ absurd (no_item id item here found)
        | inr later ↦ inl later
      ]
      | inr has ↦ inr has
    ];
  }
    where
      no_item : (id : ℕ) (item : Item) → one ≡ id → item_at items id ≡ Some item → ⊥
      no_item id item here found = let e : None ≡ Some item = sym none ∙ ap (item_at items) here ∙ found in cc

  pub more_marked : (its : Item) → item_at items one ≡ Some its → (new : PlainIndex) → IsMarked one its old new → AreMarked items left new
  more_marked its there new m = record { low = one + 1; below = below; rises = h.rises.1; each = each }
    where
      below : (e : Entry) → Contains new.entries e → e.id < one + 1
      below e c = elim (cases_eq e.id one) [
        | inl here ↦ omega (arith, here)
        | inr other ↦ let less = h.below e (m.only e c other) in let least = h.rises.0 in omega arith
      ]

      here : (id : ℕ) (item : Item) → one ≡ id → item_at items id ≡ Some item → is_mark item.what ≡ true → parts_of item ≢ [] → HasMark new id item
      here id item same found mark some =
          let is : its ≡ item = cc in
          subst (λ (k : ℕ). HasMark new k item) same
          (subst (λ (i : Item). HasMark new one i) is
          (m.has (subst (λ (i : Item). is_mark i.what ≡ true) (sym is) mark) (subst (λ (i : Item). parts_of i ≢ []) (sym is) some)))

      each : (id : ℕ) (item : Item) → item_at items id ≡ Some item → is_mark item.what ≡ true → parts_of item ≢ [] → Contains left id ⊎ HasMark new id item
      each id item found mark some = elim (h.each id item found mark some) [
        | inl next ↦ elim (head_cases one left id next) [
          | inl same ↦ inr (here id item same found mark some)
          | inr later ↦ inl later
        ]
        | inr has ↦ inr (record { box = has.box; own = has.own; entry = m.kept (record { id = id; bounds = has.box }) has.entry })
      ]

pub all_marked : (items : List (ℕ × Item)) (index : PlainIndex) → AreMarked items [] index → HoldsMarks items index
all_marked items index h = record { each = λ id item found mark some. last id item (h.each id item found mark some) }
  where
    last : (id : ℕ) (item : Item) → Contains [] id ⊎ HasMark index id item → HasMark index id item
    last id item (inl c) = let lt = c.1 in absurd (omega arith)
    last id item (inr has) = has
