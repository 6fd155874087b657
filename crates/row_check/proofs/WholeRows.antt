-- The rows of all tiles and of all items.
use Rattle.std.proofs.Common.{◌≡◌, ◌∙◌, ap, sym, subst, refl, ℕ, ℤ, ◌-ℤ◌, ◌+◌, ◌*◌, ◌<◌, ◌≤◌, ◌⊎◌, inl, inr, Bool, true, false, cond, ◌&&◌, ◌||◌, nat_eq, Some, IsSome, List, [], ◌∷◌, ◌++◌, map, take, length, get_or, arith, eq-eqb}
use Rattle.std.specs.List.{All, AllPairs, Contains}
use Rattle.std.specs.List.Sorted.{IsStrictlyIncreasing}
use Rattle.std.proofs.lemmas.Bool.{eqb-true}
use Rattle.std.proofs.lemmas.List.{take_more}
use Rattle.std.proofs.lemmas.List.Folds.{list_any_at}
use Rattle.std.proofs.lemmas.List.Elements.{All-nil, All-cons, All-weaker, All-append, All-contains, Contains-append_left, Contains-append_right, Contains-push, Contains-push_cases, filter_passes}
use Rattle.std.proofs.lemmas.List.Kept.{AllPairs-cons, AllPairs-from_increasing, IsStrictlyIncreasing-filter}
use Rattle.std.specs.Int.{int_max}
use Rattle.geo_seg.specs.declared.boxes.Bounds.{Bounds}
use Rattle.one_item.specs.declared.item.Item.{Item}
use Rattle.board_items.specs.Boards.{PlainBoard, Rise, item_at}
use Rattle.box_index.specs.declared.entry.Entry.{Entry}
use Rattle.box_index.specs.Tiles.{PlainIndex, IsSoundIndex, IsRising, margin, owner_of, lane, is_in, near_of, is_held, is_met_by, numbers_below, dirty_of, tile_count}
use Rattle.box_index.proofs.TileLemmas.{lane-within}
use Rattle.box_index.proofs.EntryLists.{pairs_first, pairs_rest}
use Rattle.box_index.proofs.Buckets.{contains_filter, complete}
use Rattle.pair_check.specs.PlainRow.{PlainRow}
use Rattle.pair_check.specs.Rows.{Checked, IsRowOfTwo, IsRowOfOne, IsRow, AreRows, AreRowsWhere}
use Rattle.board_index.proofs.Numbers.{all_rise, has_number}
use Rattle.row_check.specs.RowsOfTile.{IsIndexOf, IsAskedIn, AreRowsOfTile}
use Rattle.row_check.specs.EntryWalks.{HasAddedRows}
use Rattle.row_check.specs.Whole.{StandApart, AreOnceWhere, AreEnough, AreSingles, IsAskedInOne, IsOfTiles, IsOfChanged, ids_of}
use Rattle.board_index.proofs.OneList.{here, behind, nothing, cons_case}
use Rattle.row_check.proofs.RowLists.{pairs_append, across, alike}
use Rattle.row_check.proofs.PairLists.{pairs_take}
use Rattle.row_check.proofs.TileRows.{entries_near}
use Rattle.row_check.proofs.NearPairs.{broken_has_parts}
use Rattle.row_check.proofs.Sorting.{apart_from, once_from_rows}

-- ---- lists
pub once_append : (P Q R : PlainRow → Type 0) (xs ys : List PlainRow) → ((r s : PlainRow) → P r → Q s → StandApart r s) → ((row : PlainRow) → P row → R row) → ((row : PlainRow) → Q row → R row) → ((row : PlainRow) → R row → P row ⊎ Q row)
    → AreOnceWhere P xs → AreOnceWhere Q ys → AreOnceWhere R (xs ++ ys)
once_append P Q R xs ys apart on_p on_q back p q = record {
  apart = pairs_append StandApart xs ys p.apart q.apart (All-weaker P (λ r. All (StandApart r) ys) (λ r h. All-weaker Q (StandApart r) (λ s k. apart r s h k) ys q.only) xs p.only);
  only = All-append R xs ys (All-weaker P R on_p xs p.only) (All-weaker Q R on_q ys q.only);
  all = λ row h. by_side row (back row h);
}
  where
    by_side : (row : PlainRow) → P row ⊎ Q row → Contains (xs ++ ys) row
    by_side row (inl h) = Contains-append_left xs ys row (p.all row h)
    by_side row (inr h) = Contains-append_right xs ys row (q.all row h)

once_joined : (P Q R : PlainRow → Type 0) (xs ys : List PlainRow) → ((r s : PlainRow) → P r → Q s → StandApart r s) → ((row : PlainRow) → P row → R row) → ((row : PlainRow) → Q row → R row) → ((row : PlainRow) → R row → P row ⊎ Q row)
    → AreOnceWhere P xs → AreRowsWhere Q ys → AreOnceWhere R (xs ++ ys)
once_joined P Q R xs ys apart on_p on_q back p q = once_append P Q R xs ys apart on_p on_q back p (once_from_rows Q ys q)

-- what stands before the one at k is below it
pub below_next : (xs : List ℕ) (k : ℕ) → IsStrictlyIncreasing xs → k < length xs → (x : ℕ) → Contains (take k xs) x → x < get_or xs k 0
below_next xs k up l x c =
    let R : ℕ → ℕ → Type 0 = λ a b. a < b in
    let prefix = subst (AllPairs R) (take_more xs k 0 l) (pairs_take R (k + 1) xs (AllPairs-from_increasing xs up)) in
    across R (take k xs) (get_or xs k 0 ∷ []) prefix x (get_or xs k 0) c (here (get_or xs k 0) [])

increasing : (xs : List ℕ) → AllPairs (λ a b. a < b) xs → IsStrictlyIncreasing xs
increasing xs h k l = h k (k + 1) 0 (omega arith) l

-- ---- ids
high_ids : (low high : ℕ) (es : List (ℕ × Item)) → Rise low high es → All (λ i. low ≤ i) (map (λ e. e.0) es)
high_ids low high [] h = All-nil (λ i. low ≤ i)
high_ids low high (e ∷ es) h = All-cons (λ i. low ≤ i) e.0 (map (λ e. e.0) es) h.0 (All-weaker (λ i. (e.0 + 1) ≤ i) (λ i. low ≤ i) (λ i l. let f = h.0 in omega arith) (map (λ e. e.0) es) (high_ids (e.0 + 1) high es h.1))

rise_pairs : (low high : ℕ) (es : List (ℕ × Item)) → Rise low high es → AllPairs (λ a b. a < b) (map (λ e. e.0) es)
rise_pairs low high [] h = λ i j d l m. absurd (omega arith)
rise_pairs low high (e ∷ es) h =
    let R : ℕ → ℕ → Type 0 = λ a b. a < b in
    AllPairs-cons R e.0 (map (λ e. e.0) es) (All-weaker (λ i. (e.0 + 1) ≤ i) (R e.0) (λ i l. omega arith) (map (λ e. e.0) es) (high_ids (e.0 + 1) high es h.1)) (rise_pairs (e.0 + 1) high es h.1)

pub ids_rise : (board : PlainBoard) (high : ℕ) (ids : List ℕ) → Rise 0 high board.items → ids ≡ ids_of board → IsStrictlyIncreasing ids
ids_rise board high ids h e = subst IsStrictlyIncreasing (sym e) (increasing (ids_of board) (rise_pairs 0 high board.items h))

-- an item is found by each of the ids, and by no other
pub found_by_id : (items : List (ℕ × Item)) (id : ℕ) → Contains (map (λ e. e.0) items) id → IsSome (item_at items id)
found_by_id [] id c = absurd (nothing id c)
found_by_id (e ∷ es) id c = by_test (λ k. found_by_id es id k) (nat_eq id e.0) refl (cons_case e.0 id (map (λ e. e.0) es) c)
  where
    by_test : (Contains (map (λ e. e.0) es) id → IsSome (item_at es id)) → (t : Bool) → nat_eq id e.0 ≡ t → (e.0 ≡ id) ⊎ Contains (map (λ e. e.0) es) id → IsSome (cond (nat_eq id e.0) (Some e.1) (item_at es id))
    by_test again true h k = rw h refl
    by_test again false h (inl g) = let t = eq-eqb id e.0 (sym g) in absurd cc
    by_test again false h (inr k) = rw h (again k)

pub id_of_found : (items : List (ℕ × Item)) (id : ℕ) (item : Item) → item_at items id ≡ Some item → Contains (map (λ e. e.0) items) id
id_of_found [] id item h = absurd cc
id_of_found (e ∷ es) id item h = by_test (λ k. id_of_found es id item k) (nat_eq id e.0) refl
  where
    by_test : (item_at es id ≡ Some item → Contains (map (λ e. e.0) es) id) → (t : Bool) → nat_eq id e.0 ≡ t → Contains (map (λ e. e.0) (e ∷ es)) id
    by_test again true k = subst (Contains (map (λ e. e.0) (e ∷ es))) (sym (eqb-true id e.0 k)) (here e.0 (map (λ e. e.0) es))
    by_test again false k = behind e.0 id (map (λ e. e.0) es) (again (subst (λ b. cond b (Some e.1) (item_at es id) ≡ Some item) k h))

-- ---- tiles
pub dirty_rise : (index : PlainIndex) (tiles : List ℕ) → tiles ≡ dirty_of index [] true → IsStrictlyIncreasing tiles
dirty_rise index tiles e =
    subst IsStrictlyIncreasing (sym e) (IsStrictlyIncreasing-filter (λ tile. is_held index tile && (true || is_met_by (margin index) [] tile)) (numbers_below tile_count) (all_rise tile_count))

one_entry : (xs : List Entry) → IsRising xs → (a b : Entry) → Contains xs a → Contains xs b → a.id ≡ b.id → a ≡ b
one_entry [] r a b ca cb e = absurd (nothing a ca)
one_entry (x ∷ xs) r a b ca cb e = by_case (λ ka kb. one_entry xs (pairs_rest R x xs r) a b ka kb e) (cons_case x a xs ca) (cons_case x b xs cb)
  where
    R : Entry → Entry → Type 0
    R y z = y.id < z.id

    later : (y z : Entry) → x ≡ y → Contains xs z → y.id < z.id
    later y z g k = subst (λ (w : Entry). w.id < z.id) g (All-contains (R x) xs z (pairs_first R x xs r) k)

    by_case : (Contains xs a → Contains xs b → a ≡ b) → (x ≡ a) ⊎ Contains xs a → (x ≡ b) ⊎ Contains xs b → a ≡ b
    by_case again (inl g) (inl h) = sym g ∙ h
    by_case again (inl g) (inr k) = let l = later a b g k in absurd (omega arith)
    by_case again (inr k) (inl h) = let l = later b a h k in absurd (omega arith)
    by_case again (inr k) (inr m) = again k m

one_owner : (index : PlainIndex) (t u : ℕ) (changed : List ℕ) (i j : ℕ) → IsSoundIndex index → IsAskedIn index t changed i j → IsAskedIn index u changed i j → t ≡ u
one_owner index t u changed i j sound p q =
    let a = one_entry index.entries sound.rising p.first q.first p.has_first q.has_first (p.is_first ∙ sym q.is_first) in
    let b = one_entry index.entries sound.rising p.second q.second p.has_second q.has_second (p.is_second ∙ sym q.is_second) in
    sym p.owner ∙ ap (λ (e : Entry). owner_of (margin index) e.bounds p.second.bounds) a ∙ ap (λ (e : Entry). owner_of (margin index) q.first.bounds e.bounds) b ∙ q.owner

tile_below : (x y : ℕ) → x ≤ 124 → y ≤ 124 → (y * 125 + x) < 15625
tile_below x y h k = omega arith

owner_below : (m : ℤ) (a b : Bounds) → owner_of m a b < tile_count
owner_below m a b = tile_below (lane (int_max (a.left -ℤ m) b.left)) (lane (int_max (a.top -ℤ m) b.top)) (lane-within (int_max (a.left -ℤ m) b.left)) (lane-within (int_max (a.top -ℤ m) b.top))

module _ (c : Checked) (index : PlainIndex) (sound : IsSoundIndex index) (is : IsIndexOf c index) where
  -- one tile more
  module _ (tiles changed : List ℕ) (up : IsStrictlyIncreasing tiles) (k : ℕ) (l : k < length tiles) where
    abbrev P : PlainRow → Type 0
    P row = IsOfTiles c index (take k tiles) changed row

    abbrev Q : PlainRow → Type 0
    Q row = IsRowOfTwo c row × IsAskedIn index (get_or tiles k 0) changed row.first row.second

    abbrev R : PlainRow → Type 0
    R row = IsOfTiles c index (take k tiles ++ get_or tiles k 0 ∷ []) changed row

    tiles_apart : (r s : PlainRow) → P r → Q s → StandApart r s
    tiles_apart r s p q = apart_from r s (λ e f.
        let asked = subst (λ i. IsAskedIn index p.1.tile changed i s.second) e (subst (λ j. IsAskedIn index p.1.tile changed r.first j) f p.1.asked) in
        let same = one_owner index p.1.tile (get_or tiles k 0) changed s.first s.second sound asked q.1 in
        let less = below_next tiles k up l p.1.tile p.1.among in
        omega arith)

    tile_back : (row : PlainRow) → R row → P row ⊎ Q row
    tile_back row h = by_case (Contains-push_cases (take k tiles) (get_or tiles k 0) h.1.tile h.1.among)
      where
        by_case : Contains (take k tiles) h.1.tile ⊎ (get_or tiles k 0 ≡ h.1.tile) → P row ⊎ Q row
        by_case (inl m) = inl (h.0, record { tile = h.1.tile; among = m; asked = h.1.asked })
        by_case (inr e) = inr (h.0, subst (λ t. IsAskedIn index t changed row.first row.second) (sym e) h.1.asked)

    pub one_tile_more : (rows now : List PlainRow) → HasAddedRows (AreRowsOfTile c index (get_or tiles k 0) changed) rows now → AreOnceWhere (IsOfTiles c index (take k tiles) changed) rows → AreOnceWhere (IsOfTiles c index (take (k + 1) tiles) changed) now
    one_tile_more rows now more r =
        let both = once_joined P Q R rows more.more tiles_apart
        (λ row h. (h.0, record { tile = h.1.tile; among = Contains-append_left (take k tiles) (get_or tiles k 0 ∷ []) h.1.tile h.1.among; asked = h.1.asked }))
        (λ row h. (h.0, record { tile = get_or tiles k 0; among = Contains-push (take k tiles) (get_or tiles k 0); asked = h.1 }))
        tile_back r more.pass in
        subst (λ ts. AreOnceWhere (IsOfTiles c index ts changed) now) (sym (take_more tiles k 0 l)) (subst (AreOnceWhere R) (sym more.is) both)

  -- a row of two items of which one changed is asked for in one of the tiles, where these are enough
  pub asked : (changed tiles : List ℕ) → AreEnough index changed tiles → (row : PlainRow) → IsRowOfTwo c row → Contains changed row.first ⊎ Contains changed row.second → IsAskedInOne index tiles changed row.first row.second
  asked changed tiles enough row two touched =
      let parts = broken_has_parts c row two in
      let ea = is.items.holds.each row.first two.pair.a two.first.item_is parts.0 in
      let eb = is.items.holds.each row.second two.pair.b two.second.item_is parts.1 in
      let a : Entry = record { id = row.first; bounds = ea.bounds } in
      let b : Entry = record { id = row.second; bounds = eb.bounds } in
      let near = entries_near c index sound is row two a b ea.entry eb.entry refl refl in
      let tile = owner_of (margin index) ea.bounds eb.bounds in
      let lent = complete index sound a b ea.entry eb.entry near in
      record {
        tile = tile;
        among = by_item a b ea.entry eb.entry tile (owner_below (margin index) ea.bounds eb.bounds) (passes tile a lent.0) (passes tile b lent.1) touched;
        asked = record {
          first = a;
          second = b;
          has_first = ea.entry;
          has_second = eb.entry;
          is_first = refl;
          is_second = refl;
          owner = refl;
          touched = touched;
        };
      }
    where
      passes : (tile : ℕ) (e : Entry) → Contains (near_of index tile) e → is_in index tile e ≡ true
      passes tile e h = All-contains (λ x. is_in index tile x ≡ true) (near_of index tile) e (filter_passes (is_in index tile) index.entries) h

      by_item : (a b : Entry) → Contains index.entries a → Contains index.entries b → (tile : ℕ) → tile < tile_count → is_in index tile a ≡ true → is_in index tile b ≡ true → Contains changed a.id ⊎ Contains changed b.id → Contains tiles tile
      by_item a b ca cb tile lt ia ib (inl h) = enough.all tile a lt ca h ia
      by_item a b ca cb tile lt ia ib (inr h) = enough.all tile b lt cb h ib

  -- all tiles that hold an entry are enough
  all_enough : (tiles ids : List ℕ) → tiles ≡ dirty_of index [] true → AreEnough index ids tiles
  all_enough tiles ids e = record { rise = dirty_rise index tiles e; all = all }
    where
      all : (tile : ℕ) (entry : Entry) → tile < tile_count → Contains index.entries entry → Contains ids entry.id → is_in index tile entry ≡ true → Contains tiles tile
      all tile entry lt has among met =
          let held : is_held index tile ≡ true = list_any_at (is_in index tile) index.entries has.0 entry has.1 (subst (λ (x : Entry). is_in index tile x ≡ true) (sym has.2) met) in
          let test : (is_held index tile && (true || is_met_by (margin index) [] tile)) ≡ true = ap (λ t. t && true) held in
          subst (λ ts. Contains ts tile) (sym e) (contains_filter (λ t. is_held index t && (true || is_met_by (margin index) [] t)) (numbers_below tile_count) tile (has_number tile_count tile lt) test)

  -- the rows of tiles with those of single items
  pub changed_once : (tiles changed : List ℕ) (pairs now : List PlainRow) → AreOnceWhere (IsOfTiles c index tiles changed) pairs → HasAddedRows (AreSingles c changed) pairs now → AreOnceWhere (IsOfChanged c index tiles changed) now
  changed_once tiles changed pairs now p more =
      subst (AreOnceWhere (IsOfChanged c index tiles changed)) (sym more.is)
      (once_joined (IsOfTiles c index tiles changed) (λ row. IsRowOfOne c row × Contains changed row.first) (IsOfChanged c index tiles changed) pairs more.more
      (λ r s two one. apart_from r s (λ e f. let less = two.0.ordered in let same = one.0.same in omega arith)) (λ row h. inl h) (λ row h. inr h) (λ row h. h) p more.pass)

  -- where all items changed and the tiles are enough, they are all rows
  pub every_row : (tiles ids : List ℕ) (rows : List PlainRow) → AreEnough index ids tiles → ids ≡ ids_of c.board → AreRowsWhere (IsOfChanged c index tiles ids) rows → AreRows c rows
  every_row tiles ids rows enough same r = alike (IsOfChanged c index tiles ids) (IsRow c) rows on back r
    where
      on : (row : PlainRow) → IsOfChanged c index tiles ids row → IsRow c row
      on row (inl h) = inl h.0
      on row (inr h) = inr h.0

      there : (id : ℕ) (item : Item) → item_at c.board.items id ≡ Some item → Contains ids id
      there id item found = subst (λ xs. Contains xs id) (sym same) (id_of_found c.board.items id item found)

      back : (row : PlainRow) → IsRow c row → IsOfChanged c index tiles ids row
      back row (inl two) = inl (two, asked ids tiles enough row two (inl (there row.first two.pair.a two.first.item_is)))
      back row (inr one) = inr (one, there row.first one.item one.first.item_is)

  pub all_rows : (tiles ids : List ℕ) (rows : List PlainRow) → tiles ≡ dirty_of index [] true → ids ≡ ids_of c.board → AreRowsWhere (IsOfChanged c index tiles ids) rows → AreRows c rows
  all_rows tiles ids rows e same r = every_row tiles ids rows (all_enough tiles ids e) same r
