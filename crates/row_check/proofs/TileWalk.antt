-- The walk over the entries of a tile, step by step.
use Rattle.std.proofs.Common.{◌≡◌, ◌∙◌, ap, sym, subst, refl, ℕ, pos, ◌+◌, ◌<◌, ◌≤◌, Bool, true, false, cond, ◌==◌, List, [], ◌∷◌, ◌++◌, length, get_or, slice_index_or, arith}
use Rattle.std.specs.Prelude.{Result, Ok, Err, is_ok, MatchResult}
use Rattle.std.specs.List.{filter, All, AllPairs}
use Rattle.std.specs.List.Sorted.{IsBinarySearchResult, IsStrictlyIncreasing}
use Rattle.std.specs.Ordering.{nat_cmp}
use Rattle.std.proofs.lemmas.Bool.Decides.{nat_tests}
use Rattle.std.proofs.lemmas.List.Sorted.{searched}
use Rattle.std.proofs.lemmas.List.Kept.{AllPairs-from_increasing, AllPairs-filter, AllPairs-cons}
use Rattle.std.proofs.lemmas.List.Folds.{list_any_at, list_any_none}
use Rattle.std.proofs.lemmas.List.{append_assoc, append-nil, length-append, nil_from_length, get_or_default}
use Rattle.std.proofs.lemmas.List.Elements.{All-cons, All-head, All-tail, All-filter, Contains-get_or}
use Rattle.geo_seg.specs.Boxes.{FitsWithin}
use Rattle.box_index.specs.declared.entry.Entry.{Entry}
use Rattle.box_index.specs.Tiles.{PlainIndex, IsSoundIndex, IsRising, is_in, near_of}
use Rattle.box_index.proofs.EntryLists.{pairs_first, pairs_rest}
use Rattle.pair_check.specs.PlainRow.{PlainRow}
use Rattle.pair_check.specs.Rows.{Checked}
use Rattle.board_index.specs.IndexedItems.{IsEntryOf}
use Rattle.row_check.specs.RowsOfTile.{IsIndexOf, AreRowsOfTile, pairs_of, is_changed, most_steps}
use Rattle.row_check.specs.EntryWalks.{is_owned, partners_of, pairs_with, AreRowsOfPairs, HasAddedRows}
use Rattle.row_check.proofs.PairLists.{Pair, Comes, no_pairs, join_pairs, pairs_rise}
use Rattle.row_check.proofs.TestedPairs.{tested, test_of, tested_is, tested_all, steps_are, touches}
use Rattle.row_check.proofs.RowLists.{pairs_prefix}
use Rattle.row_check.proofs.TileRows.{tile_rows}

-- ---- the ids that changed
le_pair : (a b i j : ℕ) → i ≤ j → (i < j → a < b) → (i ≡ j → a ≡ b) → a ≤ b
le_pair a b i j l f g = grind (arith, f, g)

equal_test : (a b : ℕ) → a ≡ b → (a == b) ≡ true
equal_test a b h = grind (arith, nat_tests)

other_test : (a b : ℕ) → (a ≡ b → ⊥) → (a == b) ≡ false
other_test a b h = grind (arith, nat_tests)

differ_at : (k i y x : ℕ) → (k < i → y < x) → (i ≤ k → x < y) → y ≡ x → ⊥
differ_at k i y x f g e = grind (arith, f, g, e)

found : (xs : List ℕ) (x : ℕ) (r : Result ℕ ℕ) → MatchResult r (λ i. (i < length xs) × (slice_index_or xs i 0 ≡ x)) (λ i. (i ≤ length xs) × ((k : ℕ) → k < i → slice_index_or xs k 0 < x) × ((k : ℕ) → i ≤ k → k < length xs → x < slice_index_or xs k 0)) → is_ok r ≡ is_changed xs x
found xs x (Ok i) h = sym (list_any_at (λ c. c == x) xs i 0 h.0 (equal_test _ _ h.1))
found xs x (Err i) h = sym (list_any_none (λ c. c == x) xs (λ k d l. other_test _ _ (λ e. differ_at k i _ x (λ m. h.1 k m) (λ m. h.2 k m l) (get_or_default xs k 0 d l ∙ e))))

pub changed_is : (xs : List ℕ) (x : ℕ) (r : Result ℕ ℕ) → IsBinarySearchResult (λ y. nat_cmp y x) xs r → IsStrictlyIncreasing xs → is_ok r ≡ is_changed xs x
changed_is xs x r h up =
    let pairs = AllPairs-from_increasing xs up in
    found xs x r (searched xs x r h (λ i j l m. le_pair _ _ i j l (λ s. pairs i j 0 s m) (λ e. ap (λ k. slice_index_or xs k 0) e)))

-- ---- the partners of an entry
pub head_changed : (p : Entry → Bool) (first head : Entry) (later rest : List Entry) → IsRising (first ∷ later) → head.id ≡ first.id → (b : Bool) → p first ≡ b → head ∷ rest ≡ cond b (first ∷ filter p later) (filter p later) → (p first ≡ true) × (rest ≡ filter p later)
head_changed p first head later rest r same true t e = (t, cc)
head_changed p first head later rest r same false f e =
    let R : Entry → Entry → Type 0 = λ a b. a.id < b.id in
    let above = All-head (R first) head rest (subst (All (R first)) (sym e) (All-filter p (R first) later (pairs_first R first later r))) in
    absurd (omega arith)

pub all_partners : (P : Entry → Type 0) (p : Entry → Bool) (first : Entry) (later : List Entry) (b : Bool) → All P later → All P (cond b later (filter p later))
all_partners P p first later true h = h
all_partners P p first later false h = All-filter p P later h

pub pair_partners : (R : Entry → Entry → Type 0) (p : Entry → Bool) (later : List Entry) (b : Bool) → AllPairs R later → AllPairs R (cond b later (filter p later))
pair_partners R p later true h = h
pair_partners R p later false h = AllPairs-filter R p later h

-- what holds of the entries of a tile
pub record AreEntries (c : Checked) (xs : List Entry) : Type 0 where
  pub rising : IsRising xs
  pub fit : All (λ e. FitsWithin (pos 2000000000) e.bounds) xs
  pub there : All (IsEntryOf c.board) xs

pub rest_entries : (c : Checked) (first : Entry) (others : List Entry) → AreEntries c (first ∷ others) → AreEntries c others
rest_entries c first others a = record {
  rising = pairs_rest (λ (x y : Entry). x.id < y.id) first others a.rising;
  fit = All-tail (λ (e : Entry). FitsWithin (pos 2000000000) e.bounds) first others a.fit;
  there = All-tail (IsEntryOf c.board) first others a.there;
}

pub partner_entries : (c : Checked) (ch : Entry → Bool) (first : Entry) (others : List Entry) → AreEntries c (first ∷ others) → AreEntries c (first ∷ partners_of ch first others)
partner_entries c ch first others a =
    let R : Entry → Entry → Type 0 = λ x y. x.id < y.id in
    let F : Entry → Type 0 = λ e. FitsWithin (pos 2000000000) e.bounds in
    let kept = partners_of ch first others in record {
      rising = AllPairs-cons R first kept (all_partners (R first) ch first others (ch first) (pairs_first R first others a.rising)) (pair_partners R ch others (ch first) (pairs_rest R first others a.rising));
      fit = All-cons F first kept (All-head F first others a.fit) (all_partners F ch first others (ch first) (All-tail F first others a.fit));
      there = All-cons (IsEntryOf c.board) first kept (All-head (IsEntryOf c.board) first others a.there) (all_partners (IsEntryOf c.board) ch first others (ch first) (All-tail (IsEntryOf c.board) first others a.there));
    }

tested_rise : (ch : Entry → Bool) (q : Entry → Entry → Bool) (xs : List Entry) → IsRising xs → AllPairs Comes (tested ch q xs)
tested_rise ch q xs r = subst (AllPairs Comes) (sym (tested_is ch q xs)) (AllPairs-filter Comes (test_of ch q) (pairs_of xs) (pairs_rise xs r))

-- how far the walk over the entries has come
pub record IsTestedTo (c : Checked) (index : PlainIndex) (tile : ℕ) (changed : List ℕ) (all later touched : List Entry) (rows : List PlainRow) (start steps : ℕ) : Type 0 where
  pub touched_are : touched ≡ filter (touches changed) later
  pub entries : AreEntries c later
  pub rise : AllPairs Comes (tested (touches changed) (is_owned index tile) all)
  pub done : List Pair
  pub whole : done ++ tested (touches changed) (is_owned index tile) later ≡ tested (touches changed) (is_owned index tile) all
  pub rows_are : AreRowsOfPairs c done rows
  pub counted : steps ≡ start + length done

module _ (c : Checked) (index : PlainIndex) (tile : ℕ) (changed : List ℕ) where
  abbrev Tested : List Entry → List Pair
  Tested xs = tested (touches changed) (is_owned index tile) xs

  module _ (all later touched : List Entry) (rows : List PlainRow) (start steps : ℕ) (t : IsTestedTo c index tile changed all later touched rows start steps) (first : Entry) (others : List Entry) (cons : later ≡ first ∷ others) where
    abbrev With : List Pair
    With = pairs_with index tile first (partners_of (touches changed) first others)

    whole_now : (t.done ++ With) ++ Tested others ≡ Tested all
    whole_now = append_assoc t.done With (Tested others) ∙ ap (λ xs. t.done ++ Tested xs) (sym cons) ∙ t.whole

    pub prefix_entries : AreEntries c (first ∷ others)
    prefix_entries = subst (AreEntries c) cons t.entries

    pub first_touched : touched ≡ filter (touches changed) (first ∷ others)
    first_touched = t.touched_are ∙ ap (filter (touches changed)) cons

    pub its_entries : (with : List Entry) → with ≡ partners_of (touches changed) first others → AreEntries c (first ∷ with)
    its_entries with w = subst (λ xs. AreEntries c (first ∷ xs)) (sym w) (partner_entries c (touches changed) first others prefix_entries)

    pub tested_more : (with rest : List Entry) (now : List PlainRow) (later_steps : ℕ) → with ≡ partners_of (touches changed) first others → rest ≡ filter (touches changed) others
        → HasAddedRows (AreRowsOfPairs c (pairs_with index tile first with)) rows now → later_steps ≡ steps + length (pairs_with index tile first with) → IsTestedTo c index tile changed all others rest now start later_steps
    tested_more with rest now later_steps w r more counted =
        let pass = subst (λ xs. AreRowsOfPairs c (pairs_with index tile first xs) more.more) w more.pass in
        let long = length-append t.done With in
        let count = counted ∙ ap (λ xs. steps + length (pairs_with index tile first xs)) w in
        let before = t.counted in record {
          touched_are = r;
          entries = rest_entries c first others prefix_entries;
          rise = t.rise;
          done = t.done ++ With;
          whole = whole_now;
          rows_are = subst (AreRowsOfPairs c (t.done ++ With)) (sym more.is)
              (join_pairs c t.done With rows more.more (pairs_prefix Comes (t.done ++ With) (Tested others) (subst (AllPairs Comes) (sym whole_now) t.rise)) t.rows_are pass);
          counted = omega arith;
        }

    -- where the rows of an entry have no room
    pub steps_within : (with : List Entry) (later_steps most : ℕ) → with ≡ partners_of (touches changed) first others → later_steps ≤ steps + length (pairs_with index tile first with) → length (Tested all) ≤ most → later_steps ≤ start + most
    steps_within with later_steps most w h fits =
        let here : later_steps ≤ steps + length With = subst (λ xs. later_steps ≤ steps + length (pairs_with index tile first xs)) w h in
        let before = t.counted in
        let long = length-append t.done With in
        let longer = length-append (t.done ++ With) (Tested others) in
        let same = ap length whole_now in
        omega arith

  module _ (near : List Entry) (sound : IsSoundIndex index) (is : IsIndexOf c index) (e : near ≡ near_of index tile) where
    entries_on : All (IsEntryOf c.board) index.entries
    entries_on = λ k d l. is.items.only (get_or index.entries k d) (Contains-get_or index.entries k d l)

    near_entries : AreEntries c near
    near_entries = record {
      rising = subst IsRising (sym e) (AllPairs-filter (λ (a b : Entry). a.id < b.id) (is_in index tile) index.entries sound.rising);
      fit = subst (All (λ (x : Entry). FitsWithin (pos 2000000000) x.bounds)) (sym e) (All-filter (is_in index tile) (λ (x : Entry). FitsWithin (pos 2000000000) x.bounds) index.entries sound.fit);
      there = subst (All (IsEntryOf c.board)) (sym e) (All-filter (is_in index tile) (IsEntryOf c.board) index.entries entries_on);
    }

    pub none_tested : (touched : List Entry) (rows : List PlainRow) (start : ℕ) → touched ≡ filter (touches changed) near → rows ≡ [] → IsTestedTo c index tile changed near near touched rows start start
    none_tested touched rows start f none = record {
      touched_are = f;
      entries = near_entries;
      rise = tested_rise (touches changed) (is_owned index tile) near near_entries.rising;
      done = [];
      whole = refl;
      rows_are = subst (AreRowsOfPairs c []) (sym none) (no_pairs c);
      counted = omega arith;
    }

    pub most_tested : length (Tested near) ≤ most_steps index tile changed
    most_tested = subst (λ (xs : List Entry). length (Tested xs) ≤ most_steps index tile changed) (sym e) (steps_are index tile changed sound)

    module _ (later touched : List Entry) (rows : List PlainRow) (start steps : ℕ) (t : IsTestedTo c index tile changed near later touched rows start steps) (end : length later ≡ 0) where
      whole_done : t.done ≡ Tested near
      whole_done = sym (append-nil t.done) ∙ ap (λ xs. t.done ++ Tested xs) (sym (nil_from_length later end)) ∙ t.whole

      pub all_counted : steps ≤ start + most_steps index tile changed
      all_counted =
          let before = t.counted in
          let same = ap length whole_done in
          let most = most_tested in
          omega arith

      pub all_tested : AreRowsOfTile c index tile changed rows
      all_tested = tile_rows c index sound is tile changed rows (subst (λ (ps : List Pair). AreRowsOfPairs c ps rows) (whole_done ∙ ap (λ xs. Tested xs) e ∙ tested_all index tile changed sound) t.rows_are)
