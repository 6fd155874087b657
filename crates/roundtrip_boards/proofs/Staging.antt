-- The lists that were added, through all commands.
use Rattle.std.proofs.Common.{◌≡◌, ◌∙◌, refl, sym, ap, subst, ℕ, suc, ◌+◌, arith, List, [], ◌∷◌, ◌++◌, length, length-append, append_assoc, None, Some, Ok}
use Rattle.sexpr_read.specs.Tree.{Tree}
use Rattle.one_item.specs.declared.item.Item.{Item}
use Rattle.board_items.specs.Boards.{PlainBoard}
use Rattle.roundtrip_lists.specs.Carried.{ItemsOf}
use Rattle.pcb_read.specs.ItemText.{SaysList}
use Rattle.roundtrip_boards.specs.Roots.{SameLayersAndNets}
use Rattle.roundtrip_boards.specs.TextChanges.{Change, unchanged, takes_out, shifts, appends, Changes, ChangeAll}
use Rattle.roundtrip_boards.specs.WrittenBoard.{Draft, Added, with_change, with_changes}
use Rattle.roundtrip_boards.specs.Ledger.{Entry, AreKept, IsLedger, SameReads}
use Rattle.roundtrip_boards.specs.AddedReads.{WasRead, AddedRead, ends, nothing as without_items, unit as with_unit}
use Rattle.roundtrip_boards.proofs.Roots.{same_with}
use Rattle.roundtrip_boards.proofs.Ledger.{entries_with, numbered}
use Rattle.roundtrip_boards.proofs.Commands.{after_change, change_keeps}
use Rattle.roundtrip_boards.proofs.Adding.{same_reads}

-- so many entries as units
pub kept_count : (draft : Draft) (k : ℕ) (es : List Entry) → AreKept draft k es → k + length es ≡ draft.next_unit
kept_count draft k [] h = omega (arith, h)
kept_count draft k (e ∷ es) h = let r = kept_count draft (suc k) es h.1 in omega (arith, r)

split_reads : (xs ys zs : List Entry) → SameReads (xs ++ ys) zs → (us : List Entry) × (vs : List Entry) × (zs ≡ us ++ vs) × SameReads xs us × SameReads ys vs
split_reads [] ys zs h = ([], zs, refl, tt, h)
split_reads (x ∷ xs) ys [] h = absurd h
split_reads (x ∷ xs) ys (z ∷ zs) h = let k = split_reads xs ys zs h.1 in (z ∷ k.0, k.1, ap (λ (l : List Entry). z ∷ l) k.2, (h.0, k.3), k.4)

reads_join : (xs ys zs : List Entry) → SameReads xs ys → SameReads ys zs → SameReads xs zs
reads_join [] [] [] h k = tt
reads_join [] [] (z ∷ zs) h k = absurd k
reads_join [] (y ∷ ys) zs h k = absurd h
reads_join (x ∷ xs) [] zs h k = absurd h
reads_join (x ∷ xs) (y ∷ ys) [] h k = absurd k
reads_join (x ∷ xs) (y ∷ ys) (z ∷ zs) h k = (k.0 ∙ h.0, reads_join xs ys zs h.1 k.1)

pub length_reads : (xs ys : List Entry) → SameReads xs ys → length ys ≡ length xs
length_reads [] [] h = refl
length_reads [] (y ∷ ys) h = absurd h
length_reads (x ∷ xs) [] h = absurd h
length_reads (x ∷ xs) (y ∷ ys) h = ap suc (length_reads xs ys h.1)

-- one list more
more_without : (g : PlainBoard) {k : ℕ} {lists : List Added} {es : List Entry} (tree : Tree) → WasRead g tree [] → AddedRead g k lists es → AddedRead g k (lists ++ record { unit = None; tree = tree } ∷ []) es
more_without g tree was ends = without_items tree was ends
more_without g tree was (without_items t w rest) = without_items t w (more_without g tree was rest)
more_without g tree was (with_unit t e w rest) = with_unit t e w (more_without g tree was rest)

more_with : (g : PlainBoard) {k : ℕ} {lists : List Added} {es : List Entry} (tree : Tree) (e : Entry) (n : ℕ) → n ≡ k + length es → WasRead g tree e.read → AddedRead g k lists es
    → AddedRead g k (lists ++ record { unit = Some n; tree = tree } ∷ []) (es ++ e ∷ [])
more_with g {k = k} tree e n at was ends =
    let same : n ≡ k = omega (arith, at) in
    subst (λ m. AddedRead g k (record { unit = Some m; tree = tree } ∷ []) (e ∷ [])) (sym same) (with_unit tree e was ends)
more_with g tree e n at was (without_items t w rest) = without_items t w (more_with g tree e n at was rest)
more_with g {k = k} tree e n at was (with_unit {es = es} t f w rest) = with_unit t f w (more_with g tree e n (omega (arith, at)) was rest)

module _ (ready : (board : PlainBoard) (list : Tree) (items : List Item) → SaysList board board.next_unit list (Ok items) → ItemsOf board.next_unit items)
    (ground : PlainBoard) (first : List Entry) where
  -- how far the commands have come: the entries of the text's units, and those of the added ones
  pub record Stage (draft : Draft) (board : PlainBoard) : Type 0 where
    pub texts : List Entry
    pub news : List Entry
    pub ledger : IsLedger draft (texts ++ news) board
    pub same : SameLayersAndNets ground board
    pub of_text : SameReads first texts
    pub added : AddedRead ground (length first) draft.added news

  same_after : (board new : PlainBoard) (change : Change) → SameLayersAndNets ground board → Changes board change new → SameLayersAndNets ground new
  same_after board new unchanged h e = subst (SameLayersAndNets ground) (sym e) h
  same_after board new (takes_out u) h (named, e) = subst (SameLayersAndNets ground) (sym e) (record { copper = h.copper; nets = h.nets })
  same_after board new (shifts u by) h (named, stay, m) = subst (SameLayersAndNets ground) (sym m.others) (record { copper = h.copper; nets = h.nets })
  same_after board new (appends list items) h (added, e) = let k = same_with board items in subst (SameLayersAndNets ground) (sym e) (record { copper = k.copper ∙ h.copper; nets = k.nets ∙ h.nets })

  -- where the same units were read
  plain_stage : (draft next : Draft) (board new : PlainBoard) (s : Stage draft board) (fs : List Entry) → IsLedger next fs new → SameLayersAndNets ground new → SameReads (s.texts ++ s.news) fs → next.added ≡ draft.added → Stage next new
  plain_stage draft next board new s fs ledger same reads e =
      let k = split_reads s.texts s.news fs reads in
      record {
        texts = k.0;
        news = k.1;
        ledger = subst (λ (l : List Entry). IsLedger next l new) k.2 ledger;
        same = same;
        of_text = reads_join first s.texts k.0 s.of_text k.3;
        added = subst (λ (l : List Added). AddedRead ground (length first) l k.1) (sym e) (same_reads ground s.added k.1 k.4);
      }

  added_stage : (draft : Draft) (board new : PlainBoard) (s : Stage draft board) (tree : Tree) (items : List Item) (fs : List Entry) → SaysList board board.next_unit tree (Ok items) → IsLedger (with_change draft (appends tree items)) fs new → SameLayersAndNets ground new
      → SameReads (entries_with (s.texts ++ s.news) board items) fs → Stage (with_change draft (appends tree items)) new
  unfolding entries_with
  added_stage draft board new s tree [] fs says ledger same reads =
      let k = split_reads s.texts s.news fs reads in
      record {
        texts = k.0;
        news = k.1;
        ledger = subst (λ (l : List Entry). IsLedger (with_change draft (appends tree [])) l new) k.2 ledger;
        same = same;
        of_text = reads_join first s.texts k.0 s.of_text k.3;
        added = more_without ground tree (record { board = board; same = s.same; says = says }) (same_reads ground s.added k.1 k.4);
      }
  added_stage draft board new s tree (i ∷ items) fs says ledger same reads =
      let last : Entry = record { read = i ∷ items; now = numbered board.next_id (i ∷ items) } in
      let k = split_reads s.texts (s.news ++ last ∷ []) fs (subst (λ (l : List Entry). SameReads l fs) (append_assoc s.texts s.news (last ∷ [])) reads) in
      let count = kept_count draft 0 (s.texts ++ s.news) s.ledger.kept in
      let joined = length-append s.texts s.news in
      let of = length_reads first s.texts s.of_text in
      let at : draft.next_unit ≡ length first + length s.news = omega (arith, count, joined, of) in
      record {
        texts = k.0;
        news = k.1;
        ledger = subst (λ (l : List Entry). IsLedger (with_change draft (appends tree (i ∷ items))) l new) k.2 ledger;
        same = same;
        of_text = reads_join first s.texts k.0 s.of_text k.3;
        added = same_reads ground (more_with ground tree last draft.next_unit at (record { board = board; same = s.same; says = says }) s.added) k.1 k.4;
      }

  one_stage : (draft : Draft) (board new : PlainBoard) (s : Stage draft board) (change : Change) (fs : List Entry) → Changes board change new
      → IsLedger (with_change draft change) fs new → SameLayersAndNets ground new → SameReads (after_change (s.texts ++ s.news) board change) fs → Stage (with_change draft change) new
  one_stage draft board new s unchanged fs one ledger same reads = plain_stage draft draft board new s fs ledger same reads refl
  one_stage draft board new s (takes_out u) fs one ledger same reads = plain_stage draft (with_change draft (takes_out u)) board new s fs ledger same reads refl
  one_stage draft board new s (shifts u by) fs one ledger same reads = plain_stage draft (with_change draft (shifts u by)) board new s fs ledger same reads refl
  one_stage draft board new s (appends tree items) fs ((text, is, says), e) ledger same reads = added_stage draft board new s tree items fs says ledger same reads

  pub stages : (changes : List Change) (draft : Draft) (board last : PlainBoard) → Stage draft board → ChangeAll board changes last → Stage (with_changes draft changes) last
  stages [] draft board last s same = subst (Stage draft) (sym same) s
  stages (change ∷ changes) draft board last s (new, one, more) =
      let k = change_keeps ready draft (s.texts ++ s.news) board s.ledger change new one in
      stages changes (with_change draft change) new last (one_stage draft board new s change k.0 one k.1 (same_after board new change s.same one) k.2) more
