-- The ledger of a board that was read: an entry for each list that gave items.
use Rattle.std.proofs.Common.{◌≡◌, ◌∙◌, refl, sym, ap, subst, ℕ, suc, arith, List, [], ◌∷◌, ◌++◌, append-nil, append_assoc, Option, None, Some, Result, Ok, Err, inl, inr}
use Rattle.sexpr_read.specs.Tree.{Tree}
use Rattle.board_errors.specs.declared.errors.BoardError.{BoardError}
use Rattle.one_item.specs.declared.item.Item.{Item}
use Rattle.board_items.specs.Boards.{PlainBoard}
use Rattle.list_read.specs.FirstRefusals.{◌>>=◌}
use Rattle.roundtrip_lists.specs.Carried.{ItemsOf}
use Rattle.pcb_read.specs.declared.sorts.Sort.{Sort}
use Rattle.pcb_read.specs.Sorts.{sort_of}
use Rattle.pcb_read.specs.ItemsOf.{SaysItems}
use Rattle.pcb_read.specs.BoardOf.{Reading, with_items, with_other, with_board, SaysPartBy, SaysParts}
use Rattle.roundtrip_boards.specs.TextChanges.{appends}
use Rattle.roundtrip_boards.specs.WrittenBoard.{Draft, untouched, with_change, is_gone, shift_of_unit}
use Rattle.roundtrip_boards.specs.Ledger.{Entry, AreKept, IsLedger}
use Rattle.roundtrip_boards.specs.Reads.{Takes, IsUnit, TextReads}
use Rattle.roundtrip_boards.proofs.Ledger.{same_kept, appended, entries_with, numbered}

-- a draft with the same units that are gone and moved has the same ledger
same_ledger : (draft new : Draft) (es : List Entry) (board : PlainBoard) → new.next_unit ≡ draft.next_unit → ((k : ℕ) → is_gone new k ≡ is_gone draft k) → ((k : ℕ) → shift_of_unit new k ≡ shift_of_unit draft k)
    → IsLedger draft es board → IsLedger new es board
same_ledger draft new es board next gone moves h = record {
  items = h.items;
  next = next ∙ h.next;
  kept = all_kept 0 es h.kept;
  gone_below = λ unit high. gone unit ∙ h.gone_below unit (omega (arith, next, high));
  moved_below = λ unit high. moves unit ∙ h.moved_below unit (omega (arith, next, high));
}
  where
    all_kept : (k : ℕ) (es : List Entry) → AreKept draft k es → AreKept new k es
    all_kept k [] h = h ∙ sym next
    all_kept k (e ∷ es) h = (same_kept draft new gone moves k e h.0, all_kept (suc k) es h.1)

-- a list of items, as an added one takes its entry
grown_by : (next_unit : ℕ) (tree : Tree) (items : List Item) (es : List Entry) (board : PlainBoard) → IsLedger (with_change (untouched next_unit) (appends tree items)) es board → IsLedger (untouched board.next_unit) es board
grown_by next_unit tree [] es board h = same_ledger (with_change (untouched next_unit) (appends tree [])) (untouched board.next_unit) es board (sym h.next) (λ k. refl) (λ k. refl) h
grown_by next_unit tree (i ∷ items) es board h = same_ledger (with_change (untouched next_unit) (appends tree (i ∷ items))) (untouched board.next_unit) es board (sym h.next) (λ k. refl) (λ k. refl) h

new_entries : PlainBoard → List Item → List Entry
new_entries board [] = []
new_entries board (i ∷ items) = record { read = i ∷ items; now = numbered board.next_id (i ∷ items) } ∷ []

with_new : (es : List Entry) (board : PlainBoard) (items : List Item) → entries_with es board items ≡ es ++ new_entries board items
unfolding entries_with new_entries
with_new es board [] = sym (append-nil es)
with_new es board (i ∷ items) = refl

takes_new : (board : PlainBoard) (items : List Item) (rest : List Entry) (K : List Entry → Type 0) → K rest → Takes items (new_entries board items ++ rest) K
unfolding new_entries
takes_new board [] rest K k = k
takes_new board (i ∷ items) rest K k = (refl, k)

ok_same : {x y : Reading} → (let r : Result Reading BoardError = Ok x in r) ≡ Ok y → x ≡ y
ok_same h = cc

module _ (ready : (board : PlainBoard) (t : Tree) (sort : Sort) (items : List Item) → SaysItems board board.next_unit t sort (Ok items) → ItemsOf board.next_unit items)
    (other_keeps : (a next : Reading) (t : Tree) → with_other a t ≡ Ok next → (next.board.items ≡ a.board.items) × (next.board.next_unit ≡ a.board.next_unit)) where
  -- what a part that is a list of items gives
  unit_is : (a next : Reading) (t : Tree) (sort : Sort) → sort_of t ≡ Some sort → SaysPartBy a t (Some sort) (Ok next) → (items : List Item) × IsUnit a next t items
  unit_is a next t sort is (board, (items, says, with), from) = by_items items says board with from
    where
      by_items : (items : Result (List Item) BoardError) → SaysItems a.board a.board.next_unit t sort items → (board : Result PlainBoard BoardError) → board ≡ (items >>= λ found. Ok (with_items a.board found)) → Ok next ≡ with_board a board
          → (items : List Item) × IsUnit a next t items
      by_items (Err e) says board w f = absurd (let k : Ok next ≡ with_board a (Err e) = f ∙ ap (with_board a) w in cc)
      by_items (Ok found) says board w f = (found, record { sort = sort; is_sort = is; says = says; after = ok_same (f ∙ ap (with_board a) w) })

  same_items : (n : ℕ) (es : List Entry) (a b : PlainBoard) → b.items ≡ a.items → b.next_unit ≡ a.next_unit → IsLedger (untouched a.next_unit) es a → IsLedger (untouched b.next_unit) es b
  same_items n es a b items next h =
      same_ledger (untouched a.next_unit) (untouched b.next_unit) es b next (λ k. refl) (λ k. refl)
      (record { items = items ∙ h.items; next = h.next ∙ sym next; kept = h.kept; gone_below = h.gone_below; moved_below = h.moved_below })

  abbrev pub Started : Reading → Reading → List Tree → List Entry → Type 0
  Started a z ts es = (new : List Entry) × TextReads a ts z new × IsLedger (untouched z.board.next_unit) (es ++ new) z.board

  pub starts : (ts : List Tree) (a z : Reading) (es : List Entry) → SaysParts a ts (Ok z) → IsLedger (untouched a.board.next_unit) es a.board → Started a z ts es
  starts [] a z es says h =
      let same : z ≡ a = ok_same says in
      ([], (same, refl), subst (λ (r : Reading). IsLedger (untouched r.board.next_unit) (es ++ []) r.board) (sym same) (subst (λ (l : List Entry). IsLedger (untouched a.board.next_unit) l a.board) (sym (append-nil es)) h))
  starts (t ∷ ts) a z es (inr (e, says, answer)) h = absurd cc
  starts (t ∷ ts) a z es (inl (next, says, rest)) h = by_sort (sort_of t) refl says (λ fs k. starts ts next z fs rest k)
    where
      by_sort : (o : Option Sort) → sort_of t ≡ o → SaysPartBy a t o (Ok next) → ((fs : List Entry) → IsLedger (untouched next.board.next_unit) fs next.board → Started next z ts fs) → Started a z (t ∷ ts) es
      by_sort None s part more =
          let k = other_keeps a next t (sym part) in
          let m = more es (same_items 0 es a.board next.board k.0 k.1 h) in
          (m.0, inl (next, s, says, k.1, m.1), m.2)
      by_sort (Some sort) s part more =
          let k = unit_is a next t sort s part in
          let unit = k.1 in
          let own = ready a.board t unit.sort k.0 unit.says in
          let grown : IsLedger (untouched (with_items a.board k.0).next_unit) (entries_with es a.board k.0) (with_items a.board k.0) =
          grown_by a.board.next_unit t k.0 (entries_with es a.board k.0) (with_items a.board k.0) (appended (untouched a.board.next_unit) es a.board t k.0 h own) in
          let there : IsLedger (untouched next.board.next_unit) (entries_with es a.board k.0) next.board = subst (λ (r : Reading). IsLedger (untouched r.board.next_unit) (entries_with es a.board k.0) r.board) (sym unit.after) grown in
          let m = more (entries_with es a.board k.0) there in
          let joined : entries_with es a.board k.0 ++ m.0 ≡ es ++ (new_entries a.board k.0 ++ m.0) = ap (λ (l : List Entry). l ++ m.0) (with_new es a.board k.0) ∙ append_assoc es (new_entries a.board k.0) m.0 in
          (new_entries a.board k.0 ++ m.0, inr (next, k.0, unit, says, takes_new a.board k.0 m.0 (λ rest. TextReads next ts z rest) m.1), subst (λ (l : List Entry). IsLedger (untouched z.board.next_unit) l z.board) joined m.2)
