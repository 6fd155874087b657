-- The walk over the others of an entry: from each for which the tile answers to the next.
use Rattle.std.proofs.Common.{◌≡◌, ◌∙◌, ap, sym, subst, refl, ℕ, pos, ◌+◌, ◌<◌, ◌≤◌, List, [], ◌∷◌, ◌++◌, map, cond, length, false, None, arith}
use Rattle.std.specs.List.{filter, All, AllPairs}
use Rattle.std.proofs.lemmas.List.{append-nil, append_assoc, length-append, nil_from_length}
use Rattle.std.proofs.lemmas.List.Elements.{All-cons, All-head, All-tail, filter-append}
use Rattle.std.proofs.lemmas.List.Kept.{AllPairs-cons}
use Rattle.geo_seg.specs.Boxes.{FitsWithin}
use Rattle.board_items.specs.Boards.{PlainBoard, item_at}
use Rattle.board_index.specs.IndexedItems.{IsEntryOf}
use Rattle.box_index.specs.declared.entry.Entry.{Entry}
use Rattle.box_index.specs.Tiles.{PlainIndex, IsRising}
use Rattle.box_index.proofs.EntryLists.{pairs_first, pairs_rest}
use Rattle.pair_check.specs.PlainRow.{PlainRow}
use Rattle.pair_check.specs.Rows.{Checked, AreRowsOfPair}
use Rattle.row_check.specs.declared.blocks.Boxes.{Boxes}
use Rattle.row_check.specs.Blocks.{AreBoxes, StartsOwned}
use Rattle.row_check.specs.EntryWalks.{is_owned, pairs_with, IsEndOf, AreRowsOfPairs, HasAddedRows}
use Rattle.row_check.proofs.BlockLists.{boxes_end}
use Rattle.row_check.proofs.PairLists.{Pair, Comes, with_rise, no_pairs, join_pairs, one_pair}
use Rattle.row_check.proofs.RowLists.{pairs_prefix}

back_all : (P : Entry → Type 0) (prefix end : List Entry) → All P (prefix ++ end) → All P end
back_all P [] end h = h
back_all P (x ∷ xs) end h = back_all P xs end (All-tail P x (xs ++ end) h)

back_pairs : (R : Entry → Entry → Type 0) (prefix end : List Entry) → AllPairs R (prefix ++ end) → AllPairs R end
back_pairs R [] end h = h
back_pairs R (x ∷ xs) end h = back_pairs R xs end (pairs_rest R x (xs ++ end) h)

abbrev pub Fits : Entry → Type 0
Fits e = FitsWithin (pos 2000000000) e.bounds

module _ (index : PlainIndex) (tile : ℕ) (a : Entry) where
  -- one less for which the tile does not answer
  pub one_less : (others left rest : List Entry) (x : Entry) → left ≡ x ∷ rest → is_owned index tile a x ≡ false → IsEndOf index tile a others left → IsEndOf index tile a others rest
  one_less others left rest x e owned h = record {
    prefix = h.prefix ++ x ∷ [];
    split = h.split ∙ ap (λ ys. h.prefix ++ ys) e ∙ sym (append_assoc h.prefix (x ∷ []) rest);
    none =
        filter-append (is_owned index tile a) h.prefix (x ∷ [])
        ∙ ap (λ ys. ys ++ filter (is_owned index tile a) (x ∷ [])) h.none
        ∙ ap (λ b. cond b (x ∷ []) []) owned;
  }

  module _ (others end : List Entry) (h : IsEndOf index tile a others end) where
    pub end_all : (P : Entry → Type 0) → All P (a ∷ others) → All P (a ∷ end)
    end_all P all = All-cons P a end (All-head P a others all) (back_all P h.prefix end (subst (λ ys. All P ys) h.split (All-tail P a others all)))

    pub end_rises : IsRising (a ∷ others) → IsRising (a ∷ end)
    end_rises r =
        let R : Entry → Entry → Type 0 = λ x y. x.id < y.id in
        AllPairs-cons R a end (back_all (R a) h.prefix end (subst (λ ys. All (R a) ys) h.split (pairs_first R a others r)))
        (back_pairs R h.prefix end (subst (λ ys. AllPairs R ys) h.split (pairs_rest R a others r)))

    pub end_pairs : pairs_with index tile a others ≡ pairs_with index tile a end
    end_pairs =
        let f : Entry → Pair = λ y. (a, y) in
        let q = is_owned index tile a in
        ap (λ ys. map f (filter q ys)) h.split ∙ ap (map f) (filter-append q h.prefix end ∙ ap (λ ys. ys ++ filter q end) h.none)

    pub end_blocks : (boxes : Boxes) → AreBoxes boxes others → AreBoxes boxes end
    end_blocks boxes b = boxes_end boxes others h.prefix end h.split b

    pub no_pairs_left : length end ≡ 0 → pairs_with index tile a others ≡ []
    no_pairs_left e = end_pairs ∙ ap (pairs_with index tile a) (nil_from_length end e)

-- nothing is tested where there is no pair
pub none_at_all : (c : Checked) (pairs : List Pair) (rows : List PlainRow) → pairs ≡ [] → HasAddedRows (AreRowsOfPairs c pairs) rows rows
none_at_all c pairs rows e = record { more = []; is = sym (append-nil rows); pass = subst (λ ps. AreRowsOfPairs c ps []) (sym e) (no_pairs c) }

-- what stands on the board has an item
pub not_there : (board : PlainBoard) (e : Entry) → item_at board.items e.id ≡ None → IsEntryOf board e → ⊥
not_there board e none is = let some = is.stands in cc

-- the rows of a pair, by the ids of its entries
pub of_ids : (c : Checked) (i j k l : ℕ) (old new : List PlainRow) → i ≡ k → j ≡ l → HasAddedRows (AreRowsOfPair c i j) old new → HasAddedRows (AreRowsOfPair c k l) old new
of_ids c i j k l old new e f h = subst (λ m. HasAddedRows (AreRowsOfPair c m l) old new) e (subst (λ m. HasAddedRows (AreRowsOfPair c i m) old new) f h)

-- how far the walk has come
pub record IsPushedTo (c : Checked) (index : PlainIndex) (tile : ℕ) (a : Entry) (boxes : Boxes) (others left : List Entry) (old now : List PlainRow) (start steps : ℕ) : Type 0 where
  pub done : List Pair
  pub whole : done ++ pairs_with index tile a left ≡ pairs_with index tile a others
  pub rows : HasAddedRows (AreRowsOfPairs c done) old now
  pub counted : steps ≡ start + length done
  pub rise : AllPairs Comes (pairs_with index tile a others)
  pub rising : IsRising (a ∷ left)
  pub fit : All Fits (a ∷ left)
  pub there : All (IsEntryOf c.board) (a ∷ left)
  pub blocks : AreBoxes boxes left
  pub owned : StartsOwned index tile a left

module _ (c : Checked) (index : PlainIndex) (tile : ℕ) (a : Entry) (boxes : Boxes) (others : List Entry) where
  pub at_start : (old : List PlainRow) (start : ℕ) → IsRising (a ∷ others) → All Fits (a ∷ others) → All (IsEntryOf c.board) (a ∷ others) → AreBoxes boxes others → StartsOwned index tile a others → IsPushedTo c index tile a boxes others others old old start start
  at_start old start r f t b s = record {
    done = [];
    whole = refl;
    rows = none_at_all c [] old refl;
    counted = omega arith;
    rise = with_rise index tile a others r;
    rising = r;
    fit = f;
    there = t;
    blocks = b;
    owned = s;
  }

  module _ (left rest : List Entry) (x : Entry) (old now : List PlainRow) (start steps : ℕ) (e : left ≡ x ∷ rest) (h : IsPushedTo c index tile a boxes others left old now start steps) where
    pub its_place : IsEntryOf c.board x
    its_place = All-head (IsEntryOf c.board) x rest (All-tail (IsEntryOf c.board) a (x ∷ rest) (subst (λ ys. All (IsEntryOf c.board) (a ∷ ys)) e h.there))

    pub own_place : IsEntryOf c.board a
    own_place = All-head (IsEntryOf c.board) a left h.there

    pub its_fit : Fits x
    its_fit = All-head Fits x rest (All-tail Fits a (x ∷ rest) (subst (λ ys. All Fits (a ∷ ys)) e h.fit))

    pub own_fit : Fits a
    own_fit = All-head Fits a left h.fit

    pub its_order : a.id < x.id
    its_order =
        let R : Entry → Entry → Type 0 = λ y z. y.id < z.id in
        All-head (R a) x rest (pairs_first R a (x ∷ rest) (subst (λ ys. IsRising (a ∷ ys)) e h.rising))

    skip : (P : Entry → Type 0) → All P (a ∷ left) → All P (a ∷ rest)
    skip P all = let on = subst (λ ys. All P (a ∷ ys)) e all in All-cons P a rest (All-head P a (x ∷ rest) on) (All-tail P x rest (All-tail P a (x ∷ rest) on))

    pub rest_fit : All Fits (a ∷ rest)
    rest_fit = skip Fits h.fit

    pub rest_blocks : AreBoxes boxes rest
    rest_blocks = boxes_end boxes left (x ∷ []) rest e h.blocks

    rest_rising : IsRising (a ∷ rest)
    rest_rising =
        let R : Entry → Entry → Type 0 = λ y z. y.id < z.id in
        let on = subst (λ ys. IsRising (a ∷ ys)) e h.rising in
        AllPairs-cons R a rest (All-tail (R a) x rest (pairs_first R a (x ∷ rest) on)) (pairs_rest R x rest (pairs_rest R a (x ∷ rest) on))

    here : pairs_with index tile a left ≡ (a, x) ∷ pairs_with index tile a rest
    here = ap (pairs_with index tile a) e ∙ ap (λ b. map (λ y. (a, y)) (cond b (x ∷ filter (is_owned index tile a) rest) (filter (is_owned index tile a) rest))) (h.owned x rest e)

    more_whole : (h.done ++ (a, x) ∷ []) ++ pairs_with index tile a rest ≡ pairs_with index tile a others
    more_whole = append_assoc h.done ((a, x) ∷ []) (pairs_with index tile a rest) ∙ ap (λ ys. h.done ++ ys) (sym here) ∙ h.whole

    pub one_more : (end : List Entry) (new : List PlainRow) (later : ℕ) → HasAddedRows (AreRowsOfPair c a.id x.id) now new → later ≡ steps + 1 → IsEndOf index tile a rest end → StartsOwned index tile a end → IsPushedTo c index tile a boxes others end old new start later
    one_more end new later more step is owned =
        let before = h.counted in
        let long = length-append h.done ((a, x) ∷ []) in record {
          done = h.done ++ (a, x) ∷ [];
          whole = ap (λ ys. (h.done ++ (a, x) ∷ []) ++ ys) (sym (end_pairs index tile a rest end is)) ∙ more_whole;
          rows = record {
            more = h.rows.more ++ more.more;
            is = more.is ∙ ap (λ zs. zs ++ more.more) h.rows.is ∙ append_assoc old h.rows.more more.more;
            pass = join_pairs c h.done ((a, x) ∷ []) h.rows.more more.more (pairs_prefix Comes (h.done ++ (a, x) ∷ []) (pairs_with index tile a rest) (subst (AllPairs Comes) (sym more_whole) h.rise)) h.rows.pass
                (one_pair c a x more.more more.pass);
          };
          counted = omega arith;
          rise = h.rise;
          rising = end_rises index tile a rest end is rest_rising;
          fit = end_all index tile a rest end is Fits rest_fit;
          there = end_all index tile a rest end is (IsEntryOf c.board) (skip (IsEntryOf c.board) h.there);
          blocks = end_blocks index tile a rest end is boxes rest_blocks;
          owned = owned;
        }

    -- where the rows of the pair have no room
    pub one_within : (later : ℕ) → later ≡ steps + 1 → later ≤ start + length (pairs_with index tile a others)
    one_within later step =
        let before = h.counted in
        let long = length-append h.done ((a, x) ∷ []) in
        let longer = length-append (h.done ++ (a, x) ∷ []) (pairs_with index tile a rest) in
        let same = ap length more_whole in omega arith

  module _ (left : List Entry) (old now : List PlainRow) (start steps : ℕ) (end : length left ≡ 0) (h : IsPushedTo c index tile a boxes others left old now start steps) where
    all_done : h.done ≡ pairs_with index tile a others
    all_done = sym (append-nil h.done) ∙ ap (λ ys. h.done ++ pairs_with index tile a ys) (sym (nil_from_length left end)) ∙ h.whole

    pub all_rows : HasAddedRows (AreRowsOfPairs c (pairs_with index tile a others)) old now
    all_rows = subst (λ ps. HasAddedRows (AreRowsOfPairs c ps) old now) all_done h.rows

    pub all_steps : steps ≡ start + length (pairs_with index tile a others)
    all_steps = h.counted ∙ ap (λ ps. start + length ps) all_done
