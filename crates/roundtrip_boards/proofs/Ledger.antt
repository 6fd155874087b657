-- Each command keeps the ledger of units.
use Rattle.std.proofs.Common.{◌≡◌, ◌∙◌, refl, sym, ap, subst, ℕ, suc, ◌+◌, ◌<◌, ◌≤◌, arith, ℤ, pos, ◌+ℤ◌, Bool, true, false, not, ◌&&◌, cond, List, [], ◌∷◌, ◌++◌, filter, max, append-nil, append_assoc, ◌*ℤ◌, Option, None, Some}
use Rattle.std.specs.Prelude.{MatchBool, nat_eq, find, bytes_eq, option_map}
use Rattle.sexpr_read.specs.Tree.{Tree}
use Rattle.std.specs.List.{AllZip}
use Rattle.std.proofs.lemmas.Int.{ints}
use Rattle.std.proofs.lemmas.Bool.{eqb-true, eq-eqb}
use Rattle.int_algebra.proofs.Tested.{front, back}
use Rattle.roundtrip_lists.proofs.Shapes.{two_pass}
use Rattle.std.proofs.lemmas.List.Elements.{filter-append}
use Rattle.one_item.specs.declared.item.What.{What}
use Rattle.one_item.specs.declared.item.What.TheVariants.{Track, Via, Pad, Graphic, Fill, Edge, Area, Body, Note}
use Rattle.one_item.specs.declared.item.Item.{Item}
use Rattle.geo_seg.specs.declared.points.Point.{Point}
use Rattle.geo_seg.specs.declared.shapes.Core.{Core}
use Rattle.geo_seg.specs.declared.shapes.Core.TheVariants.{Line as LineCore, Area as AreaCore}
use Rattle.geo_seg.specs.Shifts.{IsShiftedPoint, IsShiftedCore}
use Rattle.one_item.specs.declared.parts.Part.{Part}
use Rattle.one_item.specs.declared.item.Hole.{Hole}
use Rattle.one_item.specs.Positions.{is_near, is_on_board}
use Rattle.board_items.specs.Boards.{PlainBoard, with_item}
use Rattle.pcb_read.specs.BoardOf.{with_items}
use Rattle.board_items.specs.Units.{without_unit, first_named}
use Rattle.one_item.specs.ItemMoves.{IsShiftedPart, AreShifted, HoleIsShifted, KindIsShifted, IsShiftedItem, item_stays}
use Rattle.one_item.specs.ItemKinds.{is_note}
use Rattle.board_items.specs.UnitMoves.{moves, unit_stays as units_stay, IsMovedEntry, IsMoved}
use Rattle.roundtrip_lists.specs.Translated.{Shift}
use Rattle.roundtrip_lists.specs.Carried.{shift_of, IsCarried, ItemsOf}
use Rattle.roundtrip_lists.proofs.Composing.{carried_both}
use Rattle.roundtrip_boards.specs.TextChanges.{takes_out, shifts, appends}
use Rattle.roundtrip_boards.specs.WrittenBoard.{Draft, with_change, is_gone, plus, summed, shift_of_unit}
use Rattle.roundtrip_boards.specs.Ledger.{Entry, all_now, IsNow, AreNow, AreOf, IsKept, AreKept, IsLedger, SameReads}

-- ---- tests on units

pub same_unit : (a b : ℕ) → a ≡ b → nat_eq a b ≡ true
same_unit a b e = eq-eqb a b e

other_unit : (a b : ℕ) → (a ≡ b → ⊥) → nat_eq a b ≡ false
other_unit a b h = by_test (nat_eq a b) refl
  where
    by_test : (t : Bool) → nat_eq a b ≡ t → nat_eq a b ≡ false
    by_test true e = absurd (h (eqb-true a b e))
    by_test false e = e

-- ---- taking out

abbrev stays_in : ℕ → ℕ × Item → Bool
stays_in u entry = not (nat_eq entry.1.unit u)

all_gone : (u : ℕ) (xs : List (ℕ × Item)) → AreOf u xs → filter (stays_in u) xs ≡ []
all_gone u [] h = refl
all_gone u (x ∷ xs) h = rw (same_unit x.1.unit u h.0) (all_gone u xs h.1)

all_stay : (u v : ℕ) (xs : List (ℕ × Item)) → (v ≡ u → ⊥) → AreOf v xs → filter (stays_in u) xs ≡ xs
all_stay u v [] apart h = refl
all_stay u v (x ∷ xs) apart h =
    let e : nat_eq x.1.unit u ≡ false = other_unit x.1.unit u (λ k. apart (sym h.0 ∙ k)) in
    rw e (ap (λ (l : List (ℕ × Item)). x ∷ l) (all_stay u v xs apart h.1))

-- what of a unit's entry is left
emptied : Bool → Entry → Entry
emptied true e = record e { now = [] }
emptied false e = e

module _ (draft : Draft) (u : ℕ) where
  abbrev without : Draft
  without = with_change draft (takes_out u)

  left : ℕ → List Entry → List Entry
  left k [] = []
  left k (e ∷ es) = emptied (nat_eq k u) e ∷ left (suc k) es

  one_left : (k : ℕ) (e : Entry) (b : Bool) → nat_eq k u ≡ b → IsKept draft k e → (filter (stays_in u) e.now ≡ (emptied b e).now) × IsKept without k (emptied b e) × ((emptied b e).read ≡ e.read)
  unfolding emptied
  one_left k e true t h =
      let same : k ≡ u = eqb-true k u t in
      (all_gone u e.now (subst (λ v. AreOf v e.now) same h.units), record { units = tt; items = rw t refl }, refl)
  one_left k e false t h =
      let apart : k ≡ u → ⊥ = λ s. (let c : true ≡ false = sym (same_unit k u s) ∙ t in cc) in
      (all_stay u k e.now apart h.units, record { units = h.units; items = rw t h.items }, refl)

  all_left : (k : ℕ) (es : List Entry) → AreKept draft k es → (filter (stays_in u) (all_now es) ≡ all_now (left k es)) × AreKept without k (left k es) × SameReads es (left k es)
  unfolding left
  all_left k [] h = (refl, h, tt)
  all_left k (e ∷ es) h =
      let first = one_left k e (nat_eq k u) refl h.0 in
      let rest = all_left (suc k) es h.1 in (
        filter-append (stays_in u) e.now (all_now es) ∙ ap (λ (x : List (ℕ × Item)). x ++ filter (stays_in u) (all_now es)) first.0 ∙ ap (λ (x : List (ℕ × Item)). (emptied (nat_eq k u) e).now ++ x) rest.0,
        (first.1, rest.1),
        (first.2, rest.2),
      )

  pub taken_out : (es : List Entry) (board : PlainBoard) → IsLedger draft es board → u < draft.next_unit → (fs : List Entry) × IsLedger without fs (without_unit board u) × SameReads es fs
  taken_out es board h low =
      let k = all_left 0 es h.kept in (
        left 0 es,
        record {
          items = ap (filter (stays_in u)) h.items ∙ k.0;
          next = h.next;
          kept = k.1;
          gone_below = λ unit high. rw (other_unit unit u (λ e. absurd (omega (arith, e, high, low)))) (h.gone_below unit high);
          moved_below = h.moved_below;
        },
        k.2,
      )

-- ---- moving

kind_note : (dx dy : ℤ) (a b : What) → KindIsShifted dx dy a b → is_note b ≡ is_note a
kind_note dx dy (Edge xs) b h = ap is_note h.1
kind_note dx dy (Area title bans shape) b h = ap is_note h.1
kind_note dx dy (Body reference front back on_back) b h = ap is_note h.2
kind_note dx dy (Track w) b h = ap is_note h
kind_note dx dy (Via s r m l) b h = ap is_note h
kind_note dx dy (Pad n r) b h = ap is_note h
kind_note dx dy Graphic b h = ap is_note h
kind_note dx dy Fill b h = ap is_note h
kind_note dx dy (Note about layer) b h = ap is_note h

shift_same : (a b c d : ℤ) → a ≡ c → b ≡ d → (let s : Shift = record { dx = a; dy = b } in s) ≡ record { dx = c; dy = d }
shift_same a b c d h k = ap (λ (z : ℤ). let s : Shift = record { dx = z; dy = b } in s) h ∙ ap (λ (z : ℤ). let s : Shift = record { dx = c; dy = z } in s) k

with_zero : (a : ℤ) → a ≡ pos 0 +ℤ a
with_zero a = omega (arith, ints)

zero_with : (a : ℤ) → a ≡ a +ℤ pos 0
zero_with a = omega (arith, ints)

regrouped : (a b c : ℤ) → a +ℤ (b +ℤ c) ≡ (a +ℤ b) +ℤ c
regrouped a b c = omega (arith, ints)

abbrev sum : Shift → Shift → Shift
sum a b = record { dx = a.dx +ℤ b.dx; dy = a.dy +ℤ b.dy }

plus_is : (a : Shift) (o : Option Shift) → shift_of (plus a o) ≡ sum a (shift_of o)
plus_is a None = shift_same a.dx a.dy (a.dx +ℤ pos 0) (a.dy +ℤ pos 0) (zero_with a.dx) (zero_with a.dy)
plus_is a (Some b) = refl

sum_regrouped : (a b c : Shift) → sum a (sum b c) ≡ sum (sum a b) c
sum_regrouped a b c = shift_same (a.dx +ℤ (b.dx +ℤ c.dx)) (a.dy +ℤ (b.dy +ℤ c.dy)) ((a.dx +ℤ b.dx) +ℤ c.dx) ((a.dy +ℤ b.dy) +ℤ c.dy) (regrouped a.dx b.dx c.dx) (regrouped a.dy b.dy c.dy)

plus_sum : (u : ℕ) (ms : List (ℕ × Shift)) (by : Shift) → shift_of (summed u (ms ++ (u, by) ∷ [])) ≡ sum (shift_of (summed u ms)) by
plus_sum u [] by = rw (same_unit u u refl) (shift_same by.dx by.dy (pos 0 +ℤ by.dx) (pos 0 +ℤ by.dy) (with_zero by.dx) (with_zero by.dy))
plus_sum u (m ∷ ms) by = by_unit (nat_eq m.0 u) (plus_sum u ms by)
  where
    by_unit : (b : Bool) → shift_of (summed u (ms ++ (u, by) ∷ [])) ≡ sum (shift_of (summed u ms)) by
        → shift_of (cond b (plus m.1 (summed u (ms ++ (u, by) ∷ []))) (summed u (ms ++ (u, by) ∷ []))) ≡ sum (shift_of (cond b (plus m.1 (summed u ms)) (summed u ms))) by
    by_unit true h =
        plus_is m.1 (summed u (ms ++ (u, by) ∷ [])) ∙ ap (sum m.1) h ∙ sum_regrouped m.1 (shift_of (summed u ms)) by ∙ ap (λ (s : Shift). sum s by) (sym (plus_is m.1 (summed u ms)))
    by_unit false h = h

summed_other : (u v : ℕ) (ms : List (ℕ × Shift)) (by : Shift) → (v ≡ u → ⊥) → summed u (ms ++ (v, by) ∷ []) ≡ summed u ms
summed_other u v [] by apart = rw (other_unit v u apart) refl
summed_other u v (m ∷ ms) by apart = ap (λ (o : Option Shift). cond (nat_eq m.0 u) (plus m.1 o) o) (summed_other u v ms by apart)

-- the two lists of which a list is that goes with two lists
split : (R : ℕ × Item → ℕ × Item → Type 0) (xs ys zs : List (ℕ × Item)) → AllZip R (xs ++ ys) zs → (us : List (ℕ × Item)) × (vs : List (ℕ × Item)) × (zs ≡ us ++ vs) × AllZip R xs us × AllZip R ys vs
split R [] ys zs h = ([], zs, refl, tt, h)
split R (x ∷ xs) ys [] h = absurd h
split R (x ∷ xs) ys (z ∷ zs) h = let k = split R xs ys zs h.1 in (z ∷ k.0, k.1, ap (λ (l : List (ℕ × Item)). z ∷ l) k.2, (h.0, k.3), k.4)

module _ (draft : Draft) (u : ℕ) (by : Shift) where
  abbrev moved : Draft
  moved = with_change draft (shifts u by)

  -- what moves stays on the board
  abbrev pub AllStay : List (ℕ × Item) → Type 0
  AllStay [] = Unit {0}
  AllStay (x ∷ xs) = (moves u x.1 ≡ true → item_stays by.dx by.dy x.1 ≡ true) × AllStay xs

  pub all_stay_by : (xs : List (ℕ × Item)) → units_stay u by.dx by.dy xs ≡ true → AllStay xs
  all_stay_by [] h = tt
  all_stay_by (x ∷ xs) h = (by_moves (moves u x.1) (front _ _ h), all_stay_by xs (back _ _ h))
    where
      by_moves : (b : Bool) → cond b (item_stays by.dx by.dy x.1) true ≡ true → b ≡ true → item_stays by.dx by.dy x.1 ≡ true
      by_moves true k e = k
      by_moves false k e = absurd cc

  stay_split : (xs ys : List (ℕ × Item)) → AllStay (xs ++ ys) → AllStay xs × AllStay ys
  stay_split [] ys h = (tt, h)
  stay_split (x ∷ xs) ys h = let k = stay_split xs ys h.1 in ((h.0, k.0), k.1)

  on_board : (old new : Item) → item_stays by.dx by.dy old ≡ true → IsShiftedItem by.dx by.dy old new → is_on_board new ≡ true
  on_board old new h k =
      let near = front _ _ h in
      let x : is_near (old.x +ℤ by.dx) ≡ true = front _ _ near in
      let y : is_near (old.y +ℤ by.dy) ≡ true = back _ _ near in
      two_pass (is_near new.x) (is_near new.y) (ap is_near k.x ∙ x) (ap is_near k.y ∙ y)

  -- one item of the unit
  one_moved : (d : Shift) (read : Item) (old new : ℕ × Item) → old.1.unit ≡ u → (moves u old.1 ≡ true → item_stays by.dx by.dy old.1 ≡ true) → IsNow d read old → IsMovedEntry u by.dx by.dy old new → IsNow (record { dx = d.dx +ℤ by.dx; dy = d.dy +ℤ by.dy }) read new × (new.1.unit ≡ u)
  one_moved d read old new of stay h k = by_note (is_note read.what) refl h
    where
      by_note : (b : Bool) → is_note read.what ≡ b → MatchBool b (old.1 ≡ read) (IsCarried d read old.1 × (is_on_board old.1 ≡ true)) → IsNow (record { dx = d.dx +ℤ by.dx; dy = d.dy +ℤ by.dy }) read new × (new.1.unit ≡ u)
      by_note true e same =
          let stays : moves u old.1 ≡ false = rw (ap (λ (i : Item). is_note i.what) same ∙ e) (by_and (nat_eq old.1.unit u)) in
          let equal : new.1 ≡ old.1 = rw stays at k.item in
          (rw e (equal ∙ same), ap (λ (i : Item). i.unit) equal ∙ of)
        where
          by_and : (b : Bool) → b && false ≡ false
          by_and true = refl
          by_and false = refl
      by_note false e (carried, was) =
          let goes : moves u old.1 ≡ true = rw (same_unit old.1.unit u of, kind_note _ _ read.what old.1.what carried.what ∙ e) refl in
          let shifted : IsShiftedItem by.dx by.dy old.1 new.1 = rw goes at k.item in
          (rw e (carried_both d by read old.1 new.1 carried shifted, on_board old.1 new.1 (stay goes) shifted), shifted.unit ∙ of)

  unit_moved : (d : Shift) (reads : List Item) (olds news : List (ℕ × Item)) → AreOf u olds → AllStay olds → AllZip (IsNow d) reads olds → AllZip (IsMovedEntry u by.dx by.dy) olds news
      → AllZip (IsNow (record { dx = d.dx +ℤ by.dx; dy = d.dy +ℤ by.dy })) reads news × AreOf u news
  unit_moved d [] [] [] of stay h k = (tt, tt)
  unit_moved d [] [] (n ∷ news) of stay h k = absurd k
  unit_moved d [] (o ∷ olds) news of stay h k = absurd h
  unit_moved d (r ∷ reads) [] news of stay h k = absurd h
  unit_moved d (r ∷ reads) (o ∷ olds) [] of stay h k = absurd k
  unit_moved d (r ∷ reads) (o ∷ olds) (n ∷ news) of stay h k =
      let first = one_moved d r o n of.0 stay.0 h.0 k.0 in
      let rest = unit_moved d reads olds news of.1 stay.1 h.1 k.1 in
      ((first.0, rest.0), (first.1, rest.1))

  -- an item of another unit is as it was
  unit_stays : (v : ℕ) (olds news : List (ℕ × Item)) → (v ≡ u → ⊥) → AreOf v olds → AllZip (IsMovedEntry u by.dx by.dy) olds news → news ≡ olds
  unit_stays v [] [] apart of h = refl
  unit_stays v [] (n ∷ news) apart of h = absurd h
  unit_stays v (o ∷ olds) [] apart of h = absurd h
  unit_stays v (o ∷ olds) (n ∷ news) apart of h =
      let e : nat_eq o.1.unit u ≡ false = other_unit o.1.unit u (λ k. apart (sym of.0 ∙ k)) in
      let stays : moves u o.1 ≡ false = rw e refl in
      let equal : n.1 ≡ o.1 = rw stays at h.0.item in
      ap (λ (i : ℕ). (i, n.1) ∷ news) h.0.id ∙ ap (λ (i : Item). (o.0, i) ∷ news) equal ∙ ap (λ (l : List (ℕ × Item)). o ∷ l) (unit_stays v olds news apart of.1 h.1)

  none_moved : (news : List (ℕ × Item)) → AllZip (IsMovedEntry u by.dx by.dy) [] news → news ≡ []
  none_moved [] h = refl
  none_moved (n ∷ news) h = absurd h

  entry_moved : (k : ℕ) (e : Entry) (news : List (ℕ × Item)) → IsKept draft k e → AllStay e.now → AllZip (IsMovedEntry u by.dx by.dy) e.now news → IsKept moved k (record e { now = news })
  entry_moved k e news h stay zip = by_gone (is_gone draft k) refl h.items
    where
      by_unit : (g : is_gone draft k ≡ false) (b : Bool) → nat_eq k u ≡ b → AreNow (shift_of (shift_of_unit draft k)) e → IsKept moved k (record e { now = news })
      by_unit g true t items =
          let same : k ≡ u = eqb-true k u t in
          let of : AreOf u e.now = subst (λ v. AreOf v e.now) same h.units in
          let m = unit_moved (shift_of (shift_of_unit draft k)) e.read e.now news of stay items zip in
          let total : shift_of (shift_of_unit moved k) ≡ sum (shift_of (shift_of_unit draft k)) by =
          subst (λ v. shift_of (summed v (draft.moves ++ (u, by) ∷ [])) ≡ sum (shift_of (summed v draft.moves)) by) (sym same) (plus_sum u draft.moves by) in
          record { units = subst (λ v. AreOf v news) (sym same) m.1; items = rw g (subst (λ (d : Shift). AllZip (IsNow d) e.read news) (sym total) m.0) }
      by_unit g false t items =
          let apart : k ≡ u → ⊥ = λ s. (let c : true ≡ false = sym (same_unit k u s) ∙ t in cc) in
          let equal : news ≡ e.now = unit_stays k e.now news apart h.units zip in
          let total : shift_of_unit moved k ≡ shift_of_unit draft k = summed_other k u draft.moves by (λ s. apart (sym s)) in
          record {
            units = subst (λ (l : List (ℕ × Item)). AreOf k l) (sym equal) h.units;
            items = rw g (subst (λ (l : List (ℕ × Item)). AllZip (IsNow (shift_of (shift_of_unit moved k))) e.read l) (sym equal) (subst (λ (o : Option Shift). AllZip (IsNow (shift_of o)) e.read e.now) (sym total) items));
          }

      by_gone : (b : Bool) → is_gone draft k ≡ b → MatchBool b (e.now ≡ []) (AreNow (shift_of (shift_of_unit draft k)) e) → IsKept moved k (record e { now = news })
      by_gone true g empty =
          let gone : news ≡ [] = none_moved news (subst (λ (l : List (ℕ × Item)). AllZip (IsMovedEntry u by.dx by.dy) l news) empty zip) in
          record { units = subst (λ (l : List (ℕ × Item)). AreOf k l) (sym gone) tt; items = rw g gone }
      by_gone false g items = by_unit g (nat_eq k u) refl items

  entries_moved : (k : ℕ) (es : List Entry) (zs : List (ℕ × Item)) → AreKept draft k es → AllStay (all_now es) → AllZip (IsMovedEntry u by.dx by.dy) (all_now es) zs → (fs : List Entry) × (zs ≡ all_now fs) × AreKept moved k fs × SameReads es fs
  entries_moved k [] [] h stay zip = ([], refl, h, tt)
  entries_moved k [] (z ∷ zs) h stay zip = absurd zip
  entries_moved k (e ∷ es) zs h stay zip =
      let stays = stay_split e.now (all_now es) stay in
      let s = split (IsMovedEntry u by.dx by.dy) e.now (all_now es) zs zip in
      let rest = entries_moved (suc k) es s.1 h.1 stays.1 s.4 in
      (record e { now = s.0 } ∷ rest.0, s.2 ∙ ap (λ (l : List (ℕ × Item)). s.0 ++ l) rest.1, (entry_moved k e s.0 h.0 stays.0 s.3, rest.2), (refl, rest.3))

  pub moved_unit : (es : List Entry) (board new : PlainBoard) → IsLedger draft es board → u < draft.next_unit → units_stay u by.dx by.dy board.items ≡ true → IsMoved u by.dx by.dy board new → (fs : List Entry) × IsLedger moved fs new × SameReads es fs
  moved_unit es board new h low stay m =
      let all : AllStay (all_now es) = subst AllStay h.items (all_stay_by board.items stay) in
      let k = entries_moved 0 es new.items h.kept all (subst (λ (l : List (ℕ × Item)). AllZip (IsMovedEntry u by.dx by.dy) l new.items) h.items m.items) in
      let next : board.next_unit ≡ new.next_unit = sym (ap (λ (b : PlainBoard). b.next_unit) m.others) in (
        k.0,
        record {
          items = k.1;
          next = h.next ∙ next;
          kept = k.2;
          gone_below = h.gone_below;
          moved_below = λ unit high. summed_other unit u draft.moves by (λ e. absurd (omega (arith, e, high, low))) ∙ h.moved_below unit high;
        },
        k.3,
      )

-- ---- adding

unfoldable pub numbered : ℕ → List Item → List (ℕ × Item)
numbered id [] = []
numbered id (item ∷ items) = (id, item) ∷ numbered (suc id) items

-- the items are of this unit
abbrev pub UnitsOf : ℕ → List Item → Type 0
UnitsOf unit [] = Unit {0}
UnitsOf unit (item ∷ items) = (item.unit ≡ unit) × UnitsOf unit items

pub units_of : (unit : ℕ) (items : List Item) → ItemsOf unit items → UnitsOf unit items
units_of unit [] h = tt
units_of unit (item ∷ items) h = (h.0, units_of unit items h.2)

pub with_numbered : (board : PlainBoard) (items : List Item) → (with_items board items).items ≡ board.items ++ numbered board.next_id items
unfolding numbered
with_numbered board [] = sym (append-nil board.items)
with_numbered board (item ∷ items) =
    let k = with_numbered (with_item board item) items in
    let n : board.next_id + 1 ≡ suc board.next_id = omega arith in
    k ∙ ap (λ i. (board.items ++ (board.next_id, item) ∷ []) ++ numbered i items) n ∙ append_assoc board.items ((board.next_id, item) ∷ []) (numbered (suc board.next_id) items)

unit_with : (board : PlainBoard) (unit : ℕ) (items : List Item) → UnitsOf unit items → unit < board.next_unit → (with_items board items).next_unit ≡ board.next_unit
unit_with board unit [] h low = refl
unit_with board unit (item ∷ items) h low =
    let e = h.0 in
    let same : max board.next_unit (item.unit + 1) ≡ board.next_unit = omega (arith, e, low) in
    unit_with (with_item board item) unit items h.1 (omega (arith, same, low)) ∙ same

pub numbered_of : (unit id : ℕ) (items : List Item) → UnitsOf unit items → AreOf unit (numbered id items)
unfolding numbered
numbered_of unit id [] h = tt
numbered_of unit id (item ∷ items) h = (h.0, numbered_of unit (suc id) items h.1)

zero_with_2 : (a : ℤ) → a ≡ a +ℤ (pos 2 *ℤ pos 0)
zero_with_2 a = omega (arith, ints)

point_itself : (p : Point) → IsShiftedPoint (pos 2 *ℤ pos 0) (pos 2 *ℤ pos 0) p p
point_itself p = record { x = zero_with_2 p.x; y = zero_with_2 p.y }

zip_itself : {A : Type 0} (R : A → A → Type 0) → ((a : A) → R a a) → (xs : List A) → AllZip R xs xs
zip_itself R f [] = tt
zip_itself R f (x ∷ xs) = (f x, zip_itself R f xs)

core_itself : (c : Core) → IsShiftedCore (pos 2 *ℤ pos 0) (pos 2 *ℤ pos 0) c c
core_itself (LineCore s) = (point_itself s.a, point_itself s.b)
core_itself (AreaCore ps) = zip_itself (IsShiftedPoint (pos 2 *ℤ pos 0) (pos 2 *ℤ pos 0)) point_itself ps

part_itself : (p : Part) → IsShiftedPart (pos 2 *ℤ pos 0) (pos 2 *ℤ pos 0) p p
part_itself p = record { layers = refl; shape = record { core = core_itself p.shape.core; radius = refl } }

parts_itself : (ps : List Part) → AreShifted (pos 2 *ℤ pos 0) (pos 2 *ℤ pos 0) ps ps
parts_itself ps = zip_itself (IsShiftedPart (pos 2 *ℤ pos 0) (pos 2 *ℤ pos 0)) part_itself ps

hole_itself : (h : Option Hole) → HoleIsShifted (pos 2 *ℤ pos 0) (pos 2 *ℤ pos 0) h h
hole_itself None = tt
hole_itself (Some h) = record { shape = record { core = core_itself h.shape.core; radius = refl }; layers = refl; plated = refl; least = refl }

kind_itself : (w : What) → KindIsShifted (pos 2 *ℤ pos 0) (pos 2 *ℤ pos 0) w w
kind_itself (Edge xs) = (xs, refl, parts_itself xs)
kind_itself (Area title bans shape) = (shape, refl, part_itself shape)
kind_itself (Body reference front back on_back) = (front, back, refl, parts_itself front, parts_itself back)
kind_itself (Track w) = refl
kind_itself (Via s r m l) = refl
kind_itself (Pad n r) = refl
kind_itself Graphic = refl
kind_itself Fill = refl
kind_itself (Note about layer) = refl

pub carried_itself : (i : Item) → IsCarried (shift_of None) i i
carried_itself i = record { name = refl; net = refl; x = zero_with i.x; y = zero_with i.y; copper = parts_itself i.copper; hole = hole_itself i.hole; local = refl; what = kind_itself i.what }

now_itself : (id : ℕ) (i : Item) → is_on_board i ≡ true → IsNow (shift_of None) i (id, i)
now_itself id i there = by_note (is_note i.what)
  where
    by_note : (b : Bool) → MatchBool b (i ≡ i) (IsCarried (shift_of None) i i × (is_on_board i ≡ true))
    by_note true = refl
    by_note false = (carried_itself i, there)

all_itself : (unit id : ℕ) (items : List Item) → ItemsOf unit items → AllZip (IsNow (shift_of None)) items (numbered id items)
unfolding numbered
all_itself unit id [] h = tt
all_itself unit id (i ∷ items) h = (now_itself id i h.1, all_itself unit (suc id) items h.2)

pub same_kept : (draft new : Draft) → ((k : ℕ) → is_gone new k ≡ is_gone draft k) → ((k : ℕ) → shift_of_unit new k ≡ shift_of_unit draft k) → (k : ℕ) (e : Entry) → IsKept draft k e → IsKept new k e
same_kept draft new gone moves k e h = record {
  units = h.units;
  items = rw (gone k) (subst (λ (o : Option Shift). MatchBool (is_gone draft k) (e.now ≡ []) (AreNow (shift_of o) e)) (sym (moves k)) h.items);
}

module _ (draft : Draft) (tree : Tree) (item : Item) (items : List Item) where
  abbrev grown : Draft
  grown = with_change draft (appends tree (item ∷ items))

  kept_more : (k : ℕ) (es : List Entry) (last : Entry) → AreKept draft k es → IsKept grown draft.next_unit last → AreKept grown k (es ++ last ∷ [])
  kept_more k [] last h own = (subst (λ u. IsKept grown u last) (sym h) own, ap suc h)
  kept_more k (e ∷ es) last h own = (same_kept draft grown (λ u. refl) (λ u. refl) k e h.0, kept_more (suc k) es last h.1 own)

all_more : (es : List Entry) (last : Entry) → all_now (es ++ last ∷ []) ≡ all_now es ++ last.now
all_more [] last = append-nil last.now
all_more (e ∷ es) last = ap (λ (l : List (ℕ × Item)). e.now ++ l) (all_more es last) ∙ sym (append_assoc e.now (all_now es) last.now)

pub next_with : (board : PlainBoard) (item : Item) (items : List Item) → UnitsOf board.next_unit (item ∷ items) → (with_items board (item ∷ items)).next_unit ≡ suc board.next_unit
next_with board item items h =
    let e = h.0 in
    let first : max board.next_unit (item.unit + 1) ≡ suc board.next_unit = omega (arith, e) in
    unit_with (with_item board item) board.next_unit items h.1 (omega (arith, first)) ∙ first

-- the entries after an added list: one more if it gave items
unfoldable pub entries_with : List Entry → PlainBoard → List Item → List Entry
entries_with es board [] = es
entries_with es board (item ∷ items) = es ++ record { read = item ∷ items; now = numbered board.next_id (item ∷ items) } ∷ []

pub appended : (draft : Draft) (es : List Entry) (board : PlainBoard) (tree : Tree) (items : List Item) → IsLedger draft es board → ItemsOf board.next_unit items
    → IsLedger (with_change draft (appends tree items)) (entries_with es board items) (with_items board items)
unfolding entries_with
appended draft es board tree [] h of = record { items = h.items; next = h.next; kept = kept_same 0 es h.kept; gone_below = h.gone_below; moved_below = h.moved_below }
  where
    kept_same : (k : ℕ) (es : List Entry) → AreKept draft k es → AreKept (with_change draft (appends tree [])) k es
    kept_same k [] h = h
    kept_same k (e ∷ es) h = (same_kept draft (with_change draft (appends tree [])) (λ u. refl) (λ u. refl) k e h.0, kept_same (suc k) es h.1)
appended draft es board tree (item ∷ items) h of =
    let all : List Item = item ∷ items in
    let last : Entry = record { read = all; now = numbered board.next_id all } in
    let gone : is_gone draft draft.next_unit ≡ false = h.gone_below draft.next_unit (omega arith) in
    let own : IsKept (with_change draft (appends tree all)) draft.next_unit last = record {
      units = subst (λ u. AreOf u (numbered board.next_id all)) (sym h.next) (numbered_of board.next_unit board.next_id all (units_of board.next_unit all of));
      items = rw gone (subst (λ (o : Option Shift). AreNow (shift_of o) last) (sym (h.moved_below draft.next_unit (omega arith))) (all_itself board.next_unit board.next_id all of));
    } in
    record {
      items = with_numbered board all ∙ ap (λ (l : List (ℕ × Item)). l ++ numbered board.next_id all) h.items ∙ sym (all_more es last);
      next = ap suc h.next ∙ sym (next_with board item items (units_of board.next_unit all of));
      kept = kept_more draft tree item items 0 es last h.kept own;
      gone_below = λ unit high. h.gone_below unit (omega (arith, high));
      moved_below = λ unit high. h.moved_below unit (omega (arith, high));
    }

-- ---- each command

-- a unit that is found is one of those that are there
abbrev pub AreLow : ℕ → List (ℕ × Item) → Type 0
AreLow n [] = Unit {0}
AreLow n (x ∷ xs) = (x.1.unit < n) × AreLow n xs

of_low : (v n : ℕ) (xs : List (ℕ × Item)) → v < n → AreOf v xs → AreLow n xs
of_low v n [] low h = tt
of_low v n (x ∷ xs) low h = let e = h.0 in (omega (arith, e, low), of_low v n xs low h.1)

low_both : (n : ℕ) (xs ys : List (ℕ × Item)) → AreLow n xs → AreLow n ys → AreLow n (xs ++ ys)
low_both n [] ys h k = k
low_both n (x ∷ xs) ys h k = (h.0, low_both n xs ys h.1 k)

pub kept_low : (draft : Draft) (k : ℕ) (es : List Entry) → AreKept draft k es → (k ≤ draft.next_unit) × AreLow draft.next_unit (all_now es)
kept_low draft k [] h = (omega (arith, h), tt)
kept_low draft k (e ∷ es) h =
    let rest = kept_low draft (suc k) es h.1 in
    let low = rest.0 in
    (omega (arith, low), low_both draft.next_unit e.now (all_now es) (of_low k draft.next_unit e.now (omega (arith, low)) h.0.units) rest.1)

pub named_low : (n : ℕ) (name : List ℕ) (xs : List (ℕ × Item)) (u : ℕ) → AreLow n xs → first_named name xs ≡ Some u → u < n
named_low n name [] u h e = absurd cc
named_low n name (x ∷ xs) u h e = by_name (bytes_eq x.1.name name) (named_low n name xs u h.1) e
  where
    by_name : (b : Bool) → (first_named name xs ≡ Some u → u < n) → option_map (λ (y : ℕ × Item). y.1.unit) (cond b (Some x) (find (λ (y : ℕ × Item). bytes_eq y.1.name name) xs)) ≡ Some u → u < n
    by_name true later k = let same : x.1.unit ≡ u = cc in let low = h.0 in omega (arith, same, low)
    by_name false later k = later k
