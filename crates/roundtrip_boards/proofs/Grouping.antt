-- The board that is read back is the one that the ledger tells of, but for ids and unit numbers.
use Rattle.std.proofs.Common.{◌≡◌, ◌∙◌, refl, sym, ap, subst, ℕ, zero, suc, ◌≤◌, arith, List, [], ◌∷◌, ◌++◌, map, append-nil, append_assoc, Option, Some, ◌⊎◌, inl, inr}
use Rattle.std.specs.Prelude.{◌↔◌}
use Rattle.std.specs.List.{AllZip, slice_get}
use Rattle.one_item.specs.declared.item.Item.{Item}
use Rattle.board_items.specs.Boards.{PlainBoard}
use Rattle.pcb_read.specs.BoardOf.{with_items}
use Rattle.roundtrip_boards.specs.Roots.{with_units}
use Rattle.roundtrip_boards.specs.WrittenBoard.{Draft}
use Rattle.roundtrip_boards.specs.SameBoards.{IsSameItem}
use Rattle.roundtrip_boards.specs.Ledger.{Entry, all_now, AreOf, AreKept}
use Rattle.roundtrip_boards.proofs.Ledger.{numbered, with_numbered, numbered_of, next_with, UnitsOf}
use Rattle.roundtrip_lists.specs.Carried.{of_unit}
use Rattle.roundtrip_boards.proofs.Following.{items_now}

-- two lists of runs: the items of a run are the same but for their units, each run has one unit in either list, and units rise
pub data Grouped : ℕ → ℕ → List (ℕ × Item) → List (ℕ × Item) → Type 0 where
  ends : {u v : ℕ} → Grouped u v [] []
  group : {u v : ℕ} {rest others : List (ℕ × Item)} (m n : ℕ) (xs ys : List (ℕ × Item)) → u ≤ m → v ≤ n → AreOf m xs → AreOf n ys → AllZip IsSameItem xs ys → Grouped (suc m) (suc n) rest others
      → Grouped u v (xs ++ rest) (ys ++ others)

lower : {u v w z : ℕ} {xs ys : List (ℕ × Item)} → w ≤ u → z ≤ v → Grouped u v xs ys → Grouped w z xs ys
lower h k ends = ends
lower h k (group m n xs ys a b c d e more) = group m n xs ys (omega (arith, h, a)) (omega (arith, k, b)) c d e more

zip_both : (xs ys us vs : List (ℕ × Item)) → AllZip IsSameItem xs ys → AllZip IsSameItem us vs → AllZip IsSameItem (xs ++ us) (ys ++ vs)
zip_both [] [] us vs h k = k
zip_both [] (y ∷ ys) us vs h k = absurd h
zip_both (x ∷ xs) [] us vs h k = absurd h
zip_both (x ∷ xs) (y ∷ ys) us vs h k = (h.0, zip_both xs ys us vs h.1 k)

pub same_items : {u v : ℕ} {xs ys : List (ℕ × Item)} → Grouped u v xs ys → AllZip IsSameItem xs ys
same_items ends = tt
same_items (group {rest = rest} {others = others} m n xs ys a b c d e more) = zip_both xs ys rest others e (same_items more)

-- ---- units

-- at a place of two lists: both in the first runs, or both behind them
abbrev Looked : ℕ → ℕ → List (ℕ × Item) → List (ℕ × Item) → ℕ × Item → ℕ × Item → Type 0
Looked m n rest others p r = ((p.1.unit ≡ m) × (r.1.unit ≡ n)) ⊎ ((k : ℕ) × (slice_get rest k ≡ Some p) × (slice_get others k ≡ Some r))

some_same : {x y : ℕ × Item} → (let o : Option (ℕ × Item) = Some x in o) ≡ Some y → x ≡ y
some_same h = cc

look : (m n : ℕ) (xs ys rest others : List (ℕ × Item)) → AreOf m xs → AreOf n ys → AllZip IsSameItem xs ys → (i : ℕ) (p r : ℕ × Item) → slice_get (xs ++ rest) i ≡ Some p → slice_get (ys ++ others) i ≡ Some r → Looked m n rest others p r
look m n [] [] rest others a b z i p r h k = inr (i, h, k)
look m n [] (y ∷ ys) rest others a b z i p r h k = absurd z
look m n (x ∷ xs) [] rest others a b z i p r h k = absurd z
look m n (x ∷ xs) (y ∷ ys) rest others a b z zero p r h k =
    inl (subst (λ (w : ℕ × Item). w.1.unit ≡ m) (some_same h) a.0, subst (λ (w : ℕ × Item). w.1.unit ≡ n) (some_same k) b.0)
look m n (x ∷ xs) (y ∷ ys) rest others a b z (suc i) p r h k = look m n xs ys rest others a.1 b.1 z.1 i p r h k

-- units are not below the bounds
abbrev IsFrom : ℕ → ℕ → ℕ × Item → ℕ × Item → Type 0
IsFrom u v p r = (u ≤ p.1.unit) × (v ≤ r.1.unit)

from_bounds : {u v : ℕ} {xs ys : List (ℕ × Item)} → Grouped u v xs ys → (i : ℕ) (p r : ℕ × Item) → slice_get xs i ≡ Some p → slice_get ys i ≡ Some r → IsFrom u v p r
from_bounds ends i p r h k = absurd cc
from_bounds {u = u} {v = v} (group {rest = rest} {others = others} m n xs ys a b c d e more) i p r h k = by_place (look m n xs ys rest others c d e i p r h k) (λ j f g. from_bounds more j p r f g)
  where
    by_place : Looked m n rest others p r → ((j : ℕ) → slice_get rest j ≡ Some p → slice_get others j ≡ Some r → IsFrom (suc m) (suc n) p r) → IsFrom u v p r
    by_place (inl (f, g)) later = (omega (arith, a, f), omega (arith, b, g))
    by_place (inr (j, f, g)) later = let l = later j f g in let x = l.0 in let y = l.1 in (omega (arith, a, x), omega (arith, b, y))

abbrev pub Share : ℕ × Item → ℕ × Item → ℕ × Item → ℕ × Item → Type 0
Share p q r s = (p.1.unit ≡ q.1.unit) ↔ (r.1.unit ≡ s.1.unit)

pub share_units : {u v : ℕ} {xs ys : List (ℕ × Item)} → Grouped u v xs ys → (i j : ℕ) (p q r s : ℕ × Item) → slice_get xs i ≡ Some p → slice_get xs j ≡ Some q → slice_get ys i ≡ Some r → slice_get ys j ≡ Some s → Share p q r s
share_units ends i j p q r s h k l o = absurd cc
share_units (group {rest = rest} {others = others} m n xs ys a b c d e more) i j p q r s h k l o =
    by_places (look m n xs ys rest others c d e i p r h l) (look m n xs ys rest others c d e j q s k o) (λ x y f g e1 e2. share_units more x y p q r s f g e1 e2) (λ x w z f g. from_bounds more x w z f g)
  where
    by_places : Looked m n rest others p r → Looked m n rest others q s
        → ((x y : ℕ) → slice_get rest x ≡ Some p → slice_get rest y ≡ Some q → slice_get others x ≡ Some r → slice_get others y ≡ Some s → Share p q r s)
        → ((x : ℕ) (w z : ℕ × Item) → slice_get rest x ≡ Some w → slice_get others x ≡ Some z → IsFrom (suc m) (suc n) w z) → Share p q r s
    by_places (inl (f, g)) (inl (f2, g2)) later bounds = (λ h. g ∙ sym g2, λ h. f ∙ sym f2)
    by_places (inl (f, g)) (inr (y, f2, g2)) later bounds =
        let l = bounds y q s f2 g2 in
        let x = l.0 in
        let w = l.1 in
        (λ h. absurd (omega (arith, h, f, x)), λ h. absurd (omega (arith, h, g, w)))
    by_places (inr (x, f, g)) (inl (f2, g2)) later bounds =
        let l = bounds x p r f g in
        let y = l.0 in
        let w = l.1 in
        (λ h. absurd (omega (arith, h, f2, y)), λ h. absurd (omega (arith, h, g2, w)))
    by_places (inr (x, f, g)) (inr (y, f2, g2)) later bounds = later x y f f2 g g2

-- ---- the board that is read back

pub read_back : PlainBoard → List Entry → List (ℕ × Item)
read_back board [] = []
read_back board (f ∷ fs) = numbered board.next_id (of_unit board.next_unit (items_now f)) ++ read_back (with_items board (of_unit board.next_unit (items_now f))) fs

pub reads_back : (board : PlainBoard) (fs : List Entry) → (with_units board (map items_now fs)).items ≡ board.items ++ read_back board fs
unfolding read_back
reads_back board [] = sym (append-nil board.items)
reads_back board (f ∷ fs) =
    let now : List Item = of_unit board.next_unit (items_now f) in
    reads_back (with_items board now) fs ∙ ap (λ (l : List (ℕ × Item)). l ++ read_back (with_items board now) fs) (with_numbered board now)
    ∙ append_assoc board.items (numbered board.next_id now) (read_back (with_items board now) fs)

items_of : (unit : ℕ) (items : List Item) → UnitsOf unit (of_unit unit items)
items_of unit [] = tt
items_of unit (i ∷ items) = (refl, items_of unit items)

run_same : (unit id : ℕ) (now : List (ℕ × Item)) → AllZip IsSameItem (numbered id (of_unit unit (map (λ (x : ℕ × Item). x.1) now))) now
unfolding numbered
run_same unit id [] = tt
run_same unit id (x ∷ now) = (refl, run_same unit (suc id) now)

pub are_grouped : (draft : Draft) (k : ℕ) (fs : List Entry) (board : PlainBoard) → AreKept draft k fs → Grouped board.next_unit k (read_back board fs) (all_now fs)
unfolding read_back numbered
are_grouped draft k [] board h = ends
are_grouped draft k (f ∷ fs) board h = by_now f.now refl (λ b l. are_grouped draft (suc k) fs b h.1)
  where
    by_now : (now : List (ℕ × Item)) → f.now ≡ now → ((b : PlainBoard) → Unit {0} → Grouped b.next_unit (suc k) (read_back b fs) (all_now fs))
        → Grouped board.next_unit k (numbered board.next_id (of_unit board.next_unit (map (λ (x : ℕ × Item). x.1) f.now)) ++ read_back (with_items board (of_unit board.next_unit (map (λ (x : ℕ × Item). x.1) f.now))) fs) (f.now ++ all_now fs)
    by_now [] e later =
        subst (λ (l : List (ℕ × Item)). Grouped board.next_unit k (numbered board.next_id (of_unit board.next_unit (map (λ (x : ℕ × Item). x.1) l)) ++ read_back (with_items board (of_unit board.next_unit (map (λ (x : ℕ × Item). x.1) l))) fs) (l ++ all_now fs))
        (sym e) (lower (omega arith) (omega arith) (later board tt))
    by_now (x ∷ now) e later =
        let items : List Item = of_unit board.next_unit (map (λ (y : ℕ × Item). y.1) (x ∷ now)) in
        let more : PlainBoard = with_items board items in
        let next : more.next_unit ≡ suc board.next_unit = next_with board (record x.1 { unit = board.next_unit }) (of_unit board.next_unit (map (λ (y : ℕ × Item). y.1) now)) (items_of board.next_unit (map (λ (y : ℕ × Item). y.1) (x ∷ now))) in
        let rest : Grouped (suc board.next_unit) (suc k) (read_back more fs) (all_now fs) = subst (λ n. Grouped n (suc k) (read_back more fs) (all_now fs)) next (later more tt) in
        subst (λ (l : List (ℕ × Item)). Grouped board.next_unit k (numbered board.next_id (of_unit board.next_unit (map (λ (y : ℕ × Item). y.1) l)) ++ read_back (with_items board (of_unit board.next_unit (map (λ (y : ℕ × Item). y.1) l))) fs) (l ++ all_now fs))
        (sym e)
        (group board.next_unit k (numbered board.next_id items) (x ∷ now) (omega arith) (omega arith) (numbered_of board.next_unit board.next_id items (items_of board.next_unit (map (λ (y : ℕ × Item). y.1) (x ∷ now))))
        (subst (λ (l : List (ℕ × Item)). AreOf k l) e h.0.units) (run_same board.next_unit board.next_id (x ∷ now)) rest)
