-- The rows of the pairs that are tested are those of the tile.
use Rattle.std.proofs.Common.{◌≡◌, ◌∙◌, ap, sym, subst, refl, ℕ, ◌<◌, ◌⊎◌, inl, inr, Bool, true, false, ◌&&◌, ◌||◌, ◌==◌, Some, List, [], ◌∷◌, map, arith}
use Rattle.std.specs.List.{filter, All, Contains}
use Rattle.std.proofs.lemmas.Bool.Decides.{nat_tests}
use Rattle.std.proofs.lemmas.List.Folds.{list_any_at, Any-from_list_any}
use Rattle.std.proofs.lemmas.List.Elements.{All-nil, All-head, All-tail, All-append, All-map, All-filter, All-contains, All-contains_itself, filter_passes, Contains-append_left, Contains-append_right}
use Rattle.geo_seg.specs.Boxes.{are_near}
use Rattle.one_item.specs.declared.item.Item.{Item}
use Rattle.board_items.specs.Boards.{PlainBoard, item_at}
use Rattle.one_item.specs.ItemParts.{parts_of}
use Rattle.one_item.specs.Extents.{AreBoundsOf}
use Rattle.box_index.specs.declared.entry.Entry.{Entry}
use Rattle.box_index.specs.Tiles.{PlainIndex, IsSoundIndex, IsRising, AnswersForNone, margin, owner_of}
use Rattle.box_index.proofs.EntryLists.{pairs_first, pairs_rest}
use Rattle.box_index.proofs.Buckets.{contains_filter}
use Rattle.pair_check.specs.PlainRow.{PlainRow}
use Rattle.pair_check.specs.Rows.{Checked, IsRowOfTwo}
use Rattle.board_index.specs.IndexedItems.{IsEntryOf}
use Rattle.row_check.specs.RowsOfTile.{IsIndexOf, IsAskedIn, AreRowsOfTile, pairs_of, is_changed}
use Rattle.row_check.specs.EntryWalks.{is_owned, AreRowsOfPairs}
use Rattle.board_index.proofs.OneList.{here, behind, nothing, cons_case}
use Rattle.row_check.proofs.RowLists.{alike, no_rows}
use Rattle.row_check.proofs.PairLists.{Pair, Passes}
use Rattle.row_check.proofs.TestedPairs.{touches, test_of}
use Rattle.row_check.proofs.NearPairs.{broken_near}

-- ---- lists
pub contains_map : {X Y : Type 0} (f : X → Y) (xs : List X) (x : X) → Contains xs x → Contains (map f xs) (f x)
contains_map f [] x c = absurd (nothing x c)
contains_map {X} {Y} f (z ∷ xs) x c = by_case (contains_map f xs x) (cons_case z x xs c)
  where
    by_case : (Contains xs x → Contains (map f xs) (f x)) → (z ≡ x) ⊎ Contains xs x → Contains (map f (z ∷ xs)) (f x)
    by_case again (inl e) = subst (λ w. Contains (map f (z ∷ xs)) (f w)) e (here (f z) (map f xs))
    by_case again (inr k) = behind (f z) (f x) (map f xs) (again k)

all_in : (zs xs : List Entry) → All (Contains zs) xs → All (λ (p : Pair). Contains zs p.0 × Contains zs p.1) (pairs_of xs)
all_in zs [] h = All-nil (λ (p : Pair). Contains zs p.0 × Contains zs p.1)
all_in zs (x ∷ xs) h =
    let P : Pair → Type 0 = λ p. Contains zs p.0 × Contains zs p.1 in
    let f : Entry → Pair = λ y. (x, y) in
    All-append P (map f xs) (pairs_of xs) (All-map P f xs (λ k d l. (All-head (Contains zs) x xs h, All-tail (Contains zs) x xs h k d l))) (all_in zs xs (All-tail (Contains zs) x xs h))

-- both of a pair stand in the list
pub both_in : (xs : List Entry) (p : Pair) → Contains (pairs_of xs) p → Contains xs p.0 × Contains xs p.1
both_in xs p h = All-contains (λ (q : Pair). Contains xs q.0 × Contains xs q.1) (pairs_of xs) p (all_in xs xs (All-contains_itself xs)) h

-- and each two of which the first has the lesser id are a pair
pub pair_in : (xs : List Entry) → IsRising xs → (a b : Entry) → Contains xs a → Contains xs b → a.id < b.id → Contains (pairs_of xs) (a, b)
pair_in [] r a b ca cb l = absurd (nothing a ca)
pair_in (x ∷ xs) r a b ca cb l = by_case (λ ka kb. pair_in xs (pairs_rest (λ (y z : Entry). y.id < z.id) x xs r) a b ka kb l) (cons_case x a xs ca) (cons_case x b xs cb)
  where
    R : Entry → Entry → Type 0
    R y z = y.id < z.id

    f : Entry → Pair
    f y = (x, y)

    by_case : (Contains xs a → Contains xs b → Contains (pairs_of xs) (a, b)) → (x ≡ a) ⊎ Contains xs a → (x ≡ b) ⊎ Contains xs b → Contains (pairs_of (x ∷ xs)) (a, b)
    by_case again (inl e) (inl g) = let s : a.id ≡ b.id = ap (λ (y : Entry). y.id) (sym e ∙ g) in absurd (omega arith)
    by_case again (inl e) (inr k) = subst (λ (y : Entry). Contains (pairs_of (x ∷ xs)) (y, b)) e (Contains-append_left (map f xs) (pairs_of xs) (x, b) (contains_map f xs b k))
    by_case again (inr k) (inl g) =
        let s : x.id ≡ b.id = ap (λ (y : Entry). y.id) g in
        let t : x.id < a.id = All-contains (R x) xs a (pairs_first R x xs r) k in absurd (omega arith)
    by_case again (inr k) (inr m) = Contains-append_right (map f xs) (pairs_of xs) (a, b) (again k m)

-- ---- tests
same_from : (a b : ℕ) → (a == b) ≡ true → a ≡ b
same_from a b h = grind (arith, nat_tests)

pub same_test : (a b : ℕ) → a ≡ b → (a == b) ≡ true
same_test a b h = grind (arith, nat_tests)

pub changed_in : (changed : List ℕ) (id : ℕ) → is_changed changed id ≡ true → Contains changed id
changed_in changed id h = let a = Any-from_list_any (λ c. c == id) changed h in subst (Contains changed) (same_from a.1 id a.4) (a.0, a.2, a.3)

pub in_changed : (changed : List ℕ) (id : ℕ) → Contains changed id → is_changed changed id ≡ true
in_changed changed id c = list_any_at (λ x. x == id) changed c.0 id c.1 (same_test _ _ c.2)

and_first : (a b : Bool) → (a && b) ≡ true → a ≡ true
and_first true b h = refl
and_first false b h = h

and_second : (a b : Bool) → (a && b) ≡ true → b ≡ true
and_second true b h = h
and_second false b h = cc

both_true : (a b : Bool) → a ≡ true → b ≡ true → (a && b) ≡ true
both_true true b h k = k
both_true false b h k = cc

or_case : (a b : Bool) → (a || b) ≡ true → (a ≡ true) ⊎ (b ≡ true)
or_case true b h = inl refl
or_case false b h = inr h

or_first : (a b : Bool) → a ≡ true → (a || b) ≡ true
or_first true b h = refl
or_first false b h = cc

or_second : (a b : Bool) → b ≡ true → (a || b) ≡ true
or_second true b h = refl
or_second false b h = h

-- ---- entries
some_once : {X : Type 0} {x y : X} → Some x ≡ Some y → x ≡ y
some_once e = cc

-- the bounds of the entry are those of the item of its id
pub its_bounds : (board : PlainBoard) (e : Entry) (id : ℕ) (item : Item) → IsEntryOf board e → e.id ≡ id → item_at board.items id ≡ Some item → AreBoundsOf (parts_of item) (Some e.bounds)
its_bounds board e id item is same at =
    let one : is.item ≡ item = some_once (sym is.stands ∙ ap (item_at board.items) same ∙ at) in
    subst (λ (i : Item). AreBoundsOf (parts_of i) (Some e.bounds)) one is.own

module _ (c : Checked) (index : PlainIndex) (sound : IsSoundIndex index) (is : IsIndexOf c index) where
  -- the entries of what is broken are near
  pub entries_near : (row : PlainRow) → IsRowOfTwo c row → (a b : Entry) → Contains index.entries a → Contains index.entries b → a.id ≡ row.first → b.id ≡ row.second → are_near (margin index) a.bounds b.bounds ≡ true
  entries_near row two a b ca cb ea eb =
      broken_near c row index.reach is.reach two a.bounds b.bounds
      (its_bounds c.board a row.first two.pair.a (is.items.only a ca) ea two.first.item_is)
      (its_bounds c.board b row.second two.pair.b (is.items.only b cb) eb two.second.item_is)

  module _ (tile : ℕ) (changed : List ℕ) where
    abbrev Q : Pair → Bool
    Q = test_of (touches changed) (is_owned index tile)

    abbrev ps : List Pair
    ps = pairs_of index.entries

    on : (row : PlainRow) → Passes c (filter Q ps) row → IsRowOfTwo c row × IsAskedIn index tile changed row.first row.second
    on row h =
        let p = h.1.pair in
        let test : Q p ≡ true = All-contains (λ q. Q q ≡ true) (filter Q ps) p (filter_passes Q ps) h.1.among in
        let there = both_in index.entries p (All-contains (Contains ps) (filter Q ps) p (All-filter Q (Contains ps) ps (All-contains_itself ps)) h.1.among) in
        let ch = and_first (touches changed p.0 || touches changed p.1) (is_owned index tile p.0 p.1) test in
        let own = and_second (touches changed p.0 || touches changed p.1) (is_owned index tile p.0 p.1) test in (
          h.0,
          record {
            first = p.0;
            second = p.1;
            has_first = there.0;
            has_second = there.1;
            is_first = sym h.1.first;
            is_second = sym h.1.second;
            owner = same_from _ _ (and_second (are_near (margin index) p.0.bounds p.1.bounds) (owner_of (margin index) p.0.bounds p.1.bounds == tile) own);
            touched = by_case (or_case (touches changed p.0) (touches changed p.1) ch);
          },
        )
      where
        by_case : (touches changed h.1.pair.0 ≡ true) ⊎ (touches changed h.1.pair.1 ≡ true) → Contains changed row.first ⊎ Contains changed row.second
        by_case (inl t) = inl (subst (Contains changed) (sym h.1.first) (changed_in changed h.1.pair.0.id t))
        by_case (inr t) = inr (subst (Contains changed) (sym h.1.second) (changed_in changed h.1.pair.1.id t))

    back : (row : PlainRow) → IsRowOfTwo c row × IsAskedIn index tile changed row.first row.second → Passes c (filter Q ps) row
    back row h =
        let a = h.1.first in
        let b = h.1.second in
        let near = entries_near row h.0 a b h.1.has_first h.1.has_second h.1.is_first h.1.is_second in
        let lt = less a.id b.id row.first row.second h.1.is_first h.1.is_second h.0.ordered in
        let test = both_true (touches changed a || touches changed b) (is_owned index tile a b) (by_case h.1.touched)
        (both_true (are_near (margin index) a.bounds b.bounds) (owner_of (margin index) a.bounds b.bounds == tile) near (same_test _ _ h.1.owner)) in (
          h.0,
          record {
            pair = (a, b);
            among = contains_filter Q ps (a, b) (pair_in index.entries sound.rising a b h.1.has_first h.1.has_second lt) test;
            first = sym h.1.is_first;
            second = sym h.1.is_second;
          },
        )
      where
        less : (m n i j : ℕ) → m ≡ i → n ≡ j → i < j → m < n
        less m n i j e f l = omega arith

        by_case : Contains changed row.first ⊎ Contains changed row.second → (touches changed h.1.first || touches changed h.1.second) ≡ true
        by_case (inl k) = or_first (touches changed h.1.first) (touches changed h.1.second) (in_changed changed h.1.first.id (subst (Contains changed) (sym h.1.is_first) k))
        by_case (inr k) = or_second (touches changed h.1.first) (touches changed h.1.second) (in_changed changed h.1.second.id (subst (Contains changed) (sym h.1.is_second) k))

    pub tile_rows : (rows : List PlainRow) → AreRowsOfPairs c (filter (test_of (touches changed) (is_owned index tile)) (pairs_of index.entries)) rows → AreRowsOfTile c index tile changed rows
    tile_rows rows r = alike (Passes c (filter Q ps)) (λ row. IsRowOfTwo c row × IsAskedIn index tile changed row.first row.second) rows on back r

    -- a tile that answers for no near entries has no rows
    pub none_answered : AnswersForNone index tile → AreRowsOfTile c index tile changed []
    none_answered none =
        no_rows (λ row. IsRowOfTwo c row × IsAskedIn index tile changed row.first row.second)
        (λ row h. none h.1.first h.1.second h.1.has_first h.1.has_second (entries_near row h.0 h.1.first h.1.second h.1.has_first h.1.has_second h.1.is_first h.1.is_second) h.1.owner)
