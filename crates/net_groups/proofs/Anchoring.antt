-- The anchors of items, one item after another.
use Rattle.std.proofs.Common.{◌≡◌, ◌⊎◌, ℕ, ◌*◌, ◌<◌, ◌≤◌, ◌*ℤ◌, neg_ℤ, ℤ, pos, true, List, [], ◌∷◌, ◌++◌, length, Contains, Option, None, Some, inl, inr, sym, subst, ap, ◌∙◌, arith, append_assoc, append-nil, length-append}
use Rattle.std.specs.Int.Signed.{le_z}
use Rattle.std.proofs.lemmas.Int.{ints}
use Rattle.std.proofs.lemmas.List.Elements.{Contains-append_cases, Contains-append_left, Contains-append_right, Contains-push_cases}
use Rattle.int_algebra.proofs.Tested.{front, back, le_by_test}
use Rattle.int_algebra.proofs.Scalars.{passed, passed_is}
use Rattle.geo_seg.specs.declared.points.Point.{Point}
use Rattle.one_item.specs.declared.item.Item.{Item}
use Rattle.one_item.specs.Positions.{is_near, is_on_board}
use Rattle.board_items.specs.Boards.{item_at}
use Rattle.ratsnest.specs.CoordinateRange.{IsInReach}
use Rattle.ratsnest.specs.declared.anchor.Anchor.{Anchor}
use Rattle.ratsnest.specs.NestOf.{IsBefore}
use Rattle.net_groups.specs.Anchors.{track_end, IsAnchorPoint, HasAnchor}
use Rattle.net_groups.specs.Numbering.{AreOwn, AreOwnAdded, IsAnchorAmong, AreAnchorsAmong, AreAdded}
use Rattle.net_groups.proofs.AnchorLists.{one_anchor, here, later, nothing, cases, only_one, rise_none, rise_one, rise_append}

-- ---- positions on the board
in_reach : (z : ℤ) → is_near z ≡ true → IsInReach z
in_reach z h = record {
  from = le_by_test (neg_ℤ (pos 500000000)) z (front (le_z (neg_ℤ (pos 500000000)) z) (le_z z (pos 500000000)) h);
  to = le_by_test z (pos 500000000) (back (le_z (neg_ℤ (pos 500000000)) z) (le_z z (pos 500000000)) h);
}

pub x_in_reach : (item : Item) → is_on_board item ≡ true → IsInReach item.x
x_in_reach item h = in_reach item.x (front (is_near item.x) (is_near item.y) h)

pub y_in_reach : (item : Item) → is_on_board item ≡ true → IsInReach item.y
y_in_reach item h = in_reach item.y (back (is_near item.x) (is_near item.y) h)

-- as they are passed to a call
reach_passed : (z : ℤ) → IsInReach z → passed z ≡ z
reach_passed z r = passed_is z (omega (arith, ints, r.from, r.to))

pub x_passed : (item : Item) → is_on_board item ≡ true → passed item.x ≡ item.x
x_passed item h = reach_passed item.x (x_in_reach item h)

pub y_passed : (item : Item) → is_on_board item ≡ true → passed item.y ≡ item.y
y_passed item h = reach_passed item.y (y_in_reach item h)

-- ---- one item
abbrev NoEnd : Item → Type 0
NoEnd item = (x y : ℤ) → ¬ (IsAnchorPoint (track_end item.what item.copper) x y)

abbrev HasEnd : Item → ℤ → ℤ → Type 0
HasEnd item x y = IsAnchorPoint (track_end item.what item.copper) x y

pub end_passed : (item : Item) (x y : ℤ) → IsInReach x → IsInReach y → HasEnd item x y → HasEnd item (passed x) (passed y)
end_passed item x y r t h =
    subst (λ (z : ℤ). HasEnd item z (passed y)) (sym (reach_passed x r)) (subst (λ (z : ℤ). HasEnd item x z) (sym (reach_passed y t)) h)

-- a point is one pair of coordinates
half_once : (x z v : ℤ) → pos 2 *ℤ x ≡ v → pos 2 *ℤ z ≡ v → x ≡ z
half_once x z v e f = omega (arith, ints, e, f)

anchor_point_once : (end : Option Point) (x y u v : ℤ) → IsAnchorPoint end x y → IsAnchorPoint end u v → (x ≡ u) × (y ≡ v)
anchor_point_once None x y u v h k = absurd h
anchor_point_once (Some p) x y u v h k = (half_once x u p.x h.0 k.0, half_once y v p.y h.1 k.1)

-- its position as an anchor
record IsStart (item : Item) (id group : ℕ) (a : Anchor) : Type 0 where
  pub id_is : a.id ≡ id
  pub number_is : a.number ≡ 0
  pub group_is : a.group ≡ group
  pub x_is : a.x ≡ item.x
  pub y_is : a.y ≡ item.y

-- the other end of a track
record IsEnd (item : Item) (id group : ℕ) (a : Anchor) : Type 0 where
  pub id_is : a.id ≡ id
  pub number_is : a.number ≡ 1
  pub group_is : a.group ≡ group
  pub place : HasEnd item a.x a.y

own_start : (item : Item) (id group : ℕ) (a : Anchor) → IsStart item id group a → (a.id ≡ id) × (a.group ≡ group) × HasAnchor item a.number a.x a.y
own_start item id group a s = (s.id_is, s.group_is, inl (s.number_is, s.x_is, s.y_is))

own_end : (item : Item) (id group : ℕ) (a : Anchor) → IsEnd item id group a → (a.id ≡ id) × (a.group ≡ group) × HasAnchor item a.number a.x a.y
own_end item id group a s = (s.id_is, s.group_is, inr (s.number_is, s.place))

one_start : (item : Item) (id group : ℕ) (a b : Anchor) → IsStart item id group a → b.id ≡ id → b.group ≡ group → b.number ≡ 0 → b.x ≡ item.x → b.y ≡ item.y → a ≡ b
one_start item id group a b s i g n x y = one_anchor a b (s.id_is ∙ sym i) (s.number_is ∙ sym n) (s.group_is ∙ sym g) (s.x_is ∙ sym x) (s.y_is ∙ sym y)

one_end : (item : Item) (id group : ℕ) (a b : Anchor) → IsEnd item id group a → b.id ≡ id → b.group ≡ group → b.number ≡ 1 → HasEnd item b.x b.y → a ≡ b
one_end item id group a b s i g n p =
    let at = anchor_point_once (track_end item.what item.copper) a.x a.y b.x b.y s.place p in
    one_anchor a b (s.id_is ∙ sym i) (s.number_is ∙ sym n) (s.group_is ∙ sym g) at.0 at.1

own_one : (item : Item) (id group : ℕ) (a : Anchor) → IsStart item id group a → NoEnd item → AreOwn item id group (a ∷ [])
own_one item id group a s none = record {
  rise = rise_one a;
  few = omega arith;
  only = λ b c. subst (λ (z : Anchor). (z.id ≡ id) × (z.group ≡ group) × HasAnchor item z.number z.x z.y) (only_one a b c) (own_start item id group a s);
  every = every;
}
  where
    every : (b : Anchor) → b.id ≡ id → b.group ≡ group → HasAnchor item b.number b.x b.y → Contains (a ∷ []) b
    every b i g p = elim p [
      | inl at ↦ subst (Contains (a ∷ [])) (one_start item id group a b s i g at.0 at.1 at.2) (here a [])
      | inr at ↦ absurd (none b.x b.y at.1)
    ]

own_two : (item : Item) (id group : ℕ) (a e : Anchor) → IsStart item id group a → IsEnd item id group e → AreOwn item id group (a ∷ e ∷ [])
own_two item id group a e s t = record {
  rise = rise_append (a ∷ []) (e ∷ []) (rise_one a) (rise_one e) before;
  few = omega arith;
  only = only;
  every = every;
}
  where
    before : (x y : Anchor) → Contains (a ∷ []) x → Contains (e ∷ []) y → IsBefore x y
    before x y c d =
        subst (λ (z : Anchor). IsBefore z y) (only_one a x c) (subst (IsBefore a) (only_one e y d)
        (inr (s.id_is ∙ sym t.id_is, let zero = s.number_is in let one = t.number_is in omega arith)))

    only : (b : Anchor) → Contains (a ∷ e ∷ []) b → (b.id ≡ id) × (b.group ≡ group) × HasAnchor item b.number b.x b.y
    only b c = elim (cases a (e ∷ []) b c) [
      | inl is ↦ subst (λ (z : Anchor). (z.id ≡ id) × (z.group ≡ group) × HasAnchor item z.number z.x z.y) is (own_start item id group a s)
      | inr more ↦ subst (λ (z : Anchor). (z.id ≡ id) × (z.group ≡ group) × HasAnchor item z.number z.x z.y) (only_one e b more) (own_end item id group e t)
    ]

    every : (b : Anchor) → b.id ≡ id → b.group ≡ group → HasAnchor item b.number b.x b.y → Contains (a ∷ e ∷ []) b
    every b i g p = elim p [
      | inl at ↦ subst (Contains (a ∷ e ∷ [])) (one_start item id group a b s i g at.0 at.1 at.2) (here a (e ∷ []))
      | inr at ↦ subst (Contains (a ∷ e ∷ [])) (one_end item id group e b t i g at.0 at.1) (later a (e ∷ []) e (here e []))
    ]

-- what a push or two leave
pub added_one : (item : Item) (id group : ℕ) (a : Anchor) (old new : List Anchor) → a.id ≡ id → a.number ≡ 0 → a.group ≡ group → a.x ≡ item.x → a.y ≡ item.y → NoEnd item
    → new ≡ old ++ a ∷ [] → AreOwnAdded item id group old new
added_one item id group a old new i n g x y none whole = record {
  more = a ∷ [];
  whole = whole;
  own = own_one item id group a (record { id_is = i; number_is = n; group_is = g; x_is = x; y_is = y }) none;
}

pub added_two : (item : Item) (id group : ℕ) (a e : Anchor) (old mid new : List Anchor) → a.id ≡ id → a.number ≡ 0 → a.group ≡ group → a.x ≡ item.x → a.y ≡ item.y
    → e.id ≡ id → e.number ≡ 1 → e.group ≡ group → HasEnd item e.x e.y → mid ≡ old ++ a ∷ [] → new ≡ mid ++ e ∷ [] → AreOwnAdded item id group old new
added_two item id group a e old mid new i n g x y j m h place first second = record {
  more = a ∷ e ∷ [];
  whole = second ∙ (ap (λ (l : List Anchor). l ++ e ∷ []) first ∙ append_assoc old (a ∷ []) (e ∷ []));
  own = own_two item id group a e (record { id_is = i; number_is = n; group_is = g; x_is = x; y_is = y }) (record { id_is = j; number_is = m; group_is = h; place = place });
}

-- ---- by ids
module _ (items : List (ℕ × Item)) (numbers : ℕ → Option ℕ) where
  item_once : (id : ℕ) (a b : Item) → item_at items id ≡ Some a → item_at items id ≡ Some b → a ≡ b
  item_once id a b e f = cc

  number_once : (id a b : ℕ) → numbers id ≡ Some a → numbers id ≡ Some b → a ≡ b
  number_once id a b e f = cc

  own_among : (id group : ℕ) (item : Item) → item_at items id ≡ Some item → numbers id ≡ Some group → (anchors : List Anchor) → AreOwn item id group anchors → AreAnchorsAmong items numbers (id ∷ []) anchors
  own_among id group item found numbered anchors own = record { rise = own.rise; few = own.few; only = only; every = every }
    where
      only : (a : Anchor) → Contains anchors a → IsAnchorAmong items numbers (id ∷ []) a
      only a c =
          let is = own.only a c in
          record {
            item = item;
            found = subst (λ k. item_at items k ≡ Some item) (sym is.0) found;
            listed = subst (Contains (id ∷ [])) (sym is.0) (here id []);
            numbered = subst (λ k. numbers k ≡ Some a.group) (sym is.0) (subst (λ g. numbers id ≡ Some g) (sym is.1) numbered);
            place = is.2;
          }

      every : (a : Anchor) → IsAnchorAmong items numbers (id ∷ []) a → Contains anchors a
      every a is =
          let at : a.id ≡ id = sym (only_one id a.id is.listed) in
          let one : is.item ≡ item = item_once id is.item item (subst (λ k. item_at items k ≡ Some is.item) at is.found) found in
          let in_group : a.group ≡ group = number_once id a.group group (subst (λ k. numbers k ≡ Some a.group) at is.numbered) numbered in
          own.every a at in_group (subst (λ (i : Item). HasAnchor i a.number a.x a.y) one is.place)

  pub added_own : (id group : ℕ) (item : Item) → item_at items id ≡ Some item → numbers id ≡ Some group → (old new : List Anchor) → AreOwnAdded item id group old new → AreAdded items numbers id old new
  added_own id group item found numbered old new added = record { more = added.more; whole = added.whole; own = own_among id group item found numbered added.more added.own }

  none_among : (ids : List ℕ) → ((a : Anchor) → ¬ (IsAnchorAmong items numbers ids a)) → AreAnchorsAmong items numbers ids []
  none_among ids none = record { rise = rise_none; few = omega arith; only = λ a c. absurd (nothing a c); every = λ a is. absurd (none a is) }

  pub among_nothing : AreAnchorsAmong items numbers [] []
  among_nothing = none_among [] (λ a is. nothing a.id is.listed)

  pub added_none : (id : ℕ) (old new : List Anchor) → new ≡ old → (numbers id ≡ None) ⊎ (item_at items id ≡ None) → AreAdded items numbers id old new
  added_none id old new same none = record { more = []; whole = same ∙ sym (append-nil old); own = none_among (id ∷ []) no }
    where
      no : (a : Anchor) → ¬ (IsAnchorAmong items numbers (id ∷ []) a)
      no a is = elim none [
        | inl n ↦ let m : numbers id ≡ Some a.group = subst (λ k. numbers k ≡ Some a.group) (sym (only_one id a.id is.listed)) is.numbered in absurd (cc)
        | inr n ↦ let m : item_at items id ≡ Some is.item = subst (λ k. item_at items k ≡ Some is.item) (sym (only_one id a.id is.listed)) is.found in absurd (cc)
      ]

  pub among_more : (ids next : List ℕ) (id : ℕ) → next ≡ ids ++ id ∷ [] → ((a : ℕ) → Contains ids a → a < id) → (old new : List Anchor) → AreAnchorsAmong items numbers ids old → AreAdded items numbers id old new
      → AreAnchorsAmong items numbers next new
  among_more ids next id is_next above old new so_far added =
      subst (λ (is : List ℕ). AreAnchorsAmong items numbers is new) (sym is_next) (subst (AreAnchorsAmong items numbers (ids ++ id ∷ [])) (sym added.whole)
      (record { rise = rise_append old added.more so_far.rise added.own.rise before; few = few; only = only; every = every }))
    where
      before : (a b : Anchor) → Contains old a → Contains added.more b → IsBefore a b
      before a b c d = inl (subst (λ k. a.id < k) (only_one id b.id (added.own.only b d).listed) (above a.id (so_far.only a c).listed))

      few : length (old ++ added.more) ≤ 2 * length (ids ++ id ∷ [])
      few = omega (arith, length-append old added.more, length-append ids (id ∷ []), so_far.few, added.own.few)

      only : (a : Anchor) → Contains (old ++ added.more) a → IsAnchorAmong items numbers (ids ++ id ∷ []) a
      only a c = elim (Contains-append_cases old added.more a c) [
        | inl d ↦ let is = so_far.only a d in
            record { item = is.item; found = is.found; listed = Contains-append_left ids (id ∷ []) a.id is.listed; numbered = is.numbered; place = is.place }
        | inr d ↦ let is = added.own.only a d in
            record { item = is.item; found = is.found; listed = Contains-append_right ids (id ∷ []) a.id is.listed; numbered = is.numbered; place = is.place }
      ]

      every : (a : Anchor) → IsAnchorAmong items numbers (ids ++ id ∷ []) a → Contains (old ++ added.more) a
      every a is = elim (Contains-push_cases ids id a.id is.listed) [
        | inl in_ids ↦ Contains-append_left old added.more a (so_far.every a (record { item = is.item; found = is.found; listed = in_ids; numbered = is.numbered; place = is.place }))
        | inr same ↦ Contains-append_right old added.more a
            (added.own.every a (record { item = is.item; found = is.found; listed = subst (Contains (id ∷ [])) same (here id []); numbered = is.numbered; place = is.place }))
      ]
