-- An index of item boxes by their places.
use Rattle.std.proofs.Common.{◌≡◌, ◌≢◌, ℕ, ◌+◌, ◌<◌, nat_lt, List, [], ◌∷◌, length, get_or, filter, All, Contains, inl, inr, refl, sym, subst, ◌∙◌, arith}
use Rattle.std.proofs.lemmas.Bool.{cases_lt, lt-ltb}
use Rattle.std.proofs.lemmas.List.Elements.{All-cons, All-append, All-filter, All-weaker, Contains-append_left, Contains-append_right}
use Rattle.geo_seg.specs.declared.boxes.Bounds.{Bounds}
use Rattle.box_index.specs.declared.entry.Entry.{Entry}
use Rattle.box_index.specs.Tiles.{PlainIndex, IsAbsent, placed}
use Rattle.box_index.proofs.Buckets.{contains_filter}
use Rattle.net_groups.specs.ItemBoxes.{HoldsItemBoxes, AreItemBoxes, AreSpread}

placed_old : (e : Entry) (xs : List Entry) (x : Entry) → x.id < e.id → Contains xs x → Contains (placed e xs) x
placed_old e xs x lt c = Contains-append_left (filter (λ y. nat_lt y.id e.id) xs) (e ∷ filter (λ y. nat_lt e.id y.id) xs) x (contains_filter (λ (y : Entry). nat_lt y.id e.id) xs x c (lt-ltb x.id e.id lt))

placed_new : (e : Entry) (xs : List Entry) → Contains (placed e xs) e
placed_new e xs = Contains-append_right (filter (λ y. nat_lt y.id e.id) xs) (e ∷ filter (λ y. nat_lt e.id y.id) xs) e (0, omega arith, refl)

placed_all : (P : Entry → Type 0) (e : Entry) (xs : List Entry) → P e → All P xs → All P (placed e xs)
placed_all P e xs one all =
    All-append P (filter (λ y. nat_lt y.id e.id) xs) (e ∷ filter (λ y. nat_lt e.id y.id) xs) (All-filter (λ y. nat_lt y.id e.id) P xs all)
    (All-cons P e (filter (λ y. nat_lt e.id y.id) xs) one (All-filter (λ y. nat_lt e.id y.id) P xs all))

-- the index holds the first item boxes
pub record HoldsTo (item_boxes : List Bounds) (count : ℕ) (index : PlainIndex) : Type 0 where
  pub only : All (λ entry. entry.id < count) index.entries
  pub each : (i : ℕ) (d : Bounds) → i < count → Contains index.entries (record { id = i; bounds = get_or item_boxes i d })

pub held_none : (item_boxes : List Bounds) (index : PlainIndex) → index.entries ≡ [] → HoldsTo item_boxes 0 index
held_none item_boxes index none = record {
  only = subst (λ (es : List Entry). All (λ entry. entry.id < 0) es) (sym none) (λ k d lt. absurd (omega arith));
  each = λ i d lt. absurd (omega arith);
}

pub held_absent : (item_boxes : List Bounds) (count : ℕ) (index : PlainIndex) → HoldsTo item_boxes count index → IsAbsent count index.entries
held_absent item_boxes count index h = All-weaker (λ entry. entry.id < count) (λ entry. entry.id ≢ count) (λ entry lt same. absurd (omega arith)) index.entries h.only

pub held_more : (item_boxes : List Bounds) (count : ℕ) (index new : PlainIndex) (id : ℕ) (item_box : Bounds) → id ≡ count → HoldsTo item_boxes count index → ((d : Bounds) → item_box ≡ get_or item_boxes count d)
    → new.entries ≡ placed (record { id = id; bounds = item_box }) index.entries → HoldsTo item_boxes (count + 1) new
held_more item_boxes count index new id item_box same h is given = record {
  only = subst (λ (es : List Entry). All (λ entry. entry.id < count + 1) es) (sym put)
      (placed_all (λ entry. entry.id < count + 1) one index.entries (omega arith) (All-weaker (λ entry. entry.id < count) (λ entry. entry.id < count + 1) (λ entry lt. omega arith) index.entries h.only));
  each = λ i d lt. subst (λ (es : List Entry). Contains es (record { id = i; bounds = get_or item_boxes i d })) (sym put) (at i d lt);
}
  where
    put : new.entries ≡ placed (record { id = count; bounds = item_box }) index.entries
    put = subst (λ (n : ℕ). new.entries ≡ placed (record { id = n; bounds = item_box }) index.entries) same given

    one : Entry
    one = record { id = count; bounds = item_box }

    at : (i : ℕ) (d : Bounds) → i < count + 1 → Contains (placed one index.entries) (record { id = i; bounds = get_or item_boxes i d })
    at i d lt = elim (cases_lt i count) [
      | inl less ↦ placed_old one index.entries (record { id = i; bounds = get_or item_boxes i d }) less (h.each i d less)
      | inr last ↦
          let here : count ≡ i = omega arith in
          subst (λ (n : ℕ). Contains (placed one index.entries) (record { id = n; bounds = get_or item_boxes n d })) here
          (subst (λ (b : Bounds). Contains (placed one index.entries) (record { id = count; bounds = b })) (is d) (placed_new one index.entries))
    ]

pub held_all : (item_boxes : List Bounds) (count : ℕ) (index : PlainIndex) → count ≡ length item_boxes → HoldsTo item_boxes count index → HoldsItemBoxes item_boxes index
held_all item_boxes count index all h = record {
  only = All-weaker (λ entry. entry.id < count) (λ entry. entry.id < length item_boxes) (λ entry lt. omega arith) index.entries h.only;
  each = λ i d lt. h.each i d (omega arith);
}

-- item boxes that were spread serve as well
pub spread_item_boxes : (Step : ℕ → ℕ → Type 0) (ids : List ℕ) (item_boxes wide : List Bounds) → AreItemBoxes Step ids item_boxes → AreSpread item_boxes wide → AreItemBoxes Step ids wide
spread_item_boxes Step ids item_boxes wide are spread = record {
  many = spread.many ∙ are.many;
  fit = spread.fit;
  meet = λ i j d hi hj s. spread.meet i j d (omega (arith, hi, are.many)) (omega (arith, hj, are.many)) (are.meet i j d hi hj s);
}
