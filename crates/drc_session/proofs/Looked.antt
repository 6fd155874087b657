-- Boxes and nets of the items of some ids, found id by id.
use Rattle.std.proofs.Common.{◌≡◌, ◌⊎◌, inl, inr, refl, sym, ap, subst, ◌∙◌, ℕ, ◌+◌, ◌<◌, List, [], ◌∷◌, ◌++◌, length, get_or, take, Contains, Option, None, Some}
use Rattle.std.proofs.lemmas.List.{take_more, get_or_default}
use Rattle.std.proofs.lemmas.List.Elements.{Contains-append_left, Contains-append_right, Contains-append_cases}
use Rattle.geo_seg.specs.declared.boxes.Bounds.{Bounds}
use Rattle.one_item.specs.declared.item.Item.{Item}
use Rattle.board_items.specs.Boards.{PlainBoard, item_at}
use Rattle.one_item.specs.Extents.{AreBoundsOf}
use Rattle.one_item.specs.ItemParts.{parts_of}
use Rattle.box_index.specs.declared.entry.Entry.{Entry}
use Rattle.board_index.specs.IndexedItems.{IsEntryOf}
use Rattle.board_index.proofs.Bounds.{one_box, has_parts, no_box}
use Rattle.board_index.proofs.OneList.{here, nothing, cons_case}
use Rattle.drc_session.specs.Looks.{IsBoxAt, AreBoxesIn, HasNetsOf}

-- ---- lists

pub alone : {X : Type 0} (x y : X) → Contains (x ∷ []) y → x ≡ y
alone x y c = by (cons_case x y [] c)
  where
    by : (x ≡ y) ⊎ Contains [] y → x ≡ y
    by (inl e) = e
    by (inr d) = absurd (nothing y d)

none_more : {X : Type 0} (xs : List X) → xs ≡ xs ++ []
none_more [] = refl
none_more (x ∷ xs) = ap (λ ys. x ∷ ys) (none_more xs)

joined_more : {X : Type 0} (xs ys zs : List X) → (xs ++ ys) ++ zs ≡ xs ++ (ys ++ zs)
joined_more [] ys zs = refl
joined_more (x ∷ xs) ys zs = ap (λ l. x ∷ l) (joined_more xs ys zs)

-- one id more
pub seen : (ids : List ℕ) (i id : ℕ) → i < length ids → id ≡ get_or ids i id → take i ids ++ id ∷ [] ≡ take (i + 1) ids
seen ids i id lt is = ap (λ (e : ℕ). take i ids ++ e ∷ []) is ∙ sym (take_more ids i id lt)

-- ---- the box of one item

no_box_is : (box : Bounds) → None ≡ Some box → ⊥
no_box_is box e = cc

same_box : (a b : Bounds) → Some a ≡ Some b → a ≡ b
same_box a b e = cc

module _ (board : PlainBoard) (id : ℕ) (found : Option Bounds) (h : IsBoxAt board id found) where
  pub is_entry : (box : Bounds) → found ≡ Some box → IsEntryOf board (record { id = id; bounds = box })
  is_entry box e = by (item_at board.items id) refl
    where
      by : (x : Option Item) → item_at board.items id ≡ x → IsEntryOf board (record { id = id; bounds = box })
      by None g = absurd (no_box_is box (sym (h.none g) ∙ e))
      by (Some item) g = record { item = item; stands = g; own = subst (AreBoundsOf (parts_of item)) e (h.some item g) }

  pub found_is : (entry : Entry) → entry.id ≡ id → IsEntryOf board entry → found ≡ Some entry.bounds
  found_is entry same own = by found (h.some own.item (subst (λ (n : ℕ). item_at board.items n ≡ Some own.item) same own.stands))
    where
      by : (x : Option Bounds) → AreBoundsOf (parts_of own.item) x → x ≡ Some entry.bounds
      by None g = absurd (has_parts (parts_of own.item) entry.bounds own.own (no_box (parts_of own.item) g))
      by (Some box) g = ap (λ (b : Bounds). Some b) (one_box (parts_of own.item) box entry.bounds g own.own)

  pub no_parts : (item : Item) → item_at board.items id ≡ Some item → found ≡ None → parts_of item ≡ []
  no_parts item e none = no_box (parts_of item) (subst (AreBoundsOf (parts_of item)) none (h.some item e))

  boxes_one : (box : Bounds) → found ≡ Some box → AreBoxesIn board (id ∷ []) (box ∷ [])
  boxes_one box e = record {
    only = λ b c. (record { id = id; bounds = b }, refl, here id [], is_entry b (e ∙ ap (λ (x : Bounds). Some x) (alone box b c)));
    all = λ entry c own. subst (Contains (box ∷ [])) (same_box box entry.bounds (sym e ∙ found_is entry (sym (alone id entry.id c)) own)) (here box []);
  }

-- ---- boxes of several

module _ (board : PlainBoard) where
  boxes_joined : (xs ys : List ℕ) (bs cs : List Bounds) → AreBoxesIn board xs bs → AreBoxesIn board ys cs → AreBoxesIn board (xs ++ ys) (bs ++ cs)
  boxes_joined xs ys bs cs h k = record { only = λ box c. only box (Contains-append_cases bs cs box c); all = λ entry c own. all entry own (Contains-append_cases xs ys entry.id c) }
    where
      only : (box : Bounds) → Contains bs box ⊎ Contains cs box → (entry : Entry) × (entry.bounds ≡ box) × Contains (xs ++ ys) entry.id × IsEntryOf board entry
      only box (inl c) = let a = h.only box c in (a.0, a.1, Contains-append_left xs ys a.0.id a.2, a.3)
      only box (inr c) = let a = k.only box c in (a.0, a.1, Contains-append_right xs ys a.0.id a.2, a.3)

      all : (entry : Entry) → IsEntryOf board entry → Contains xs entry.id ⊎ Contains ys entry.id → Contains (bs ++ cs) entry.bounds
      all entry own (inl c) = Contains-append_left bs cs entry.bounds (h.all entry c own)
      all entry own (inr c) = Contains-append_right bs cs entry.bounds (k.all entry c own)

  -- the boxes of these ids were appended
  abbrev pub HasBoxes : List ℕ → List Bounds → List Bounds → Type 0
  HasBoxes ids old now = (found : List Bounds) × (now ≡ old ++ found) × AreBoxesIn board ids found

  has_joined : (xs ys : List ℕ) (old mid now : List Bounds) → HasBoxes xs old mid → HasBoxes ys mid now → HasBoxes (xs ++ ys) old now
  has_joined xs ys old mid now h k =
      (h.0 ++ k.0, k.1 ∙ (ap (λ (l : List Bounds). l ++ k.0) h.1 ∙ joined_more old h.0 k.0), boxes_joined xs ys h.0 k.0 h.2 k.2)

  pub box_more : (id : ℕ) (box : Bounds) (old now : List Bounds) → IsBoxAt board id (Some box) → now ≡ old ++ box ∷ [] → HasBoxes (id ∷ []) old now
  box_more id box old now h is = (box ∷ [], is, boxes_one board id (Some box) h box refl)

  pub has_more : (ids : List ℕ) (i d : ℕ) (old mid now : List Bounds) → i < length ids → HasBoxes (take i ids) old mid → HasBoxes (get_or ids i d ∷ []) mid now → HasBoxes (take (i + 1) ids) old now
  has_more ids i d old mid now lt h k =
      let id = get_or ids i d in subst (λ (l : List ℕ). HasBoxes l old now) (seen ids i id lt (get_or_default ids i d id lt)) (has_joined (take i ids) (id ∷ []) old mid now h k)

  -- ---- nets

  pub nets_more : (ids : List ℕ) (i d : ℕ) (mid now : List ℕ) → i < length ids → HasNetsOf board (take i ids) mid → ((net : ℕ) → Contains mid net → Contains now net) → HasNetsOf board (get_or ids i d ∷ []) now → HasNetsOf board (take (i + 1) ids) now
  nets_more ids i d mid now lt h kept k =
      subst (λ (l : List ℕ). HasNetsOf board l now) (seen ids i id lt (get_or_default ids i d id lt)) record { all = λ one item c e. by one item e (Contains-append_cases (take i ids) (id ∷ []) one c) }
    where
      id : ℕ
      id = get_or ids i d

      by : (one : ℕ) (item : Item) → item_at board.items one ≡ Some item → Contains (take i ids) one ⊎ Contains (id ∷ []) one → Contains now item.net
      by one item e (inl c) = kept item.net (h.all one item c e)
      by one item e (inr c) = k.all one item c e
