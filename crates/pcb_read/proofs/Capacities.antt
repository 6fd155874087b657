-- Items for which there is room, one after another.
use Rattle.std.proofs.Common.{◌≡◌, refl, ℕ, suc, ◌≤◌, arith, List, [], ◌∷◌, ◌++◌, length, length-append, true, All, Result, Ok, Err, OnOk, sym, ap, subst}
use Rattle.std.proofs.lemmas.List.Elements.{All-head, All-tail}
use Rattle.sexpr_read.specs.Tree.{Tree}
use Rattle.board_errors.specs.declared.errors.BoardError.{BoardError}
use Rattle.one_item.specs.declared.item.Item.{Item}
use Rattle.board_items.specs.Boards.{PlainBoard, with_item}
use Rattle.part_read.specs.declared.graphics.LayerRole.{LayerRole}
use Rattle.part_read.specs.declared.graphics.LayerRole.TheVariants.{Copper, Outlines, Front, Back, Elsewhere}
use Rattle.part_read.specs.Ready.{IsReady, AreReady}
use Rattle.part_read.specs.Graphics.{curve_by}
use Rattle.part_read.proofs.Capacities.{capacity_by, none_ready}
use Rattle.pcb_read.specs.ItemsOf.{has_capacity}
use Rattle.pcb_read.specs.BoardOf.{with_items}

-- the board takes items for which it has room
pub all_ready : (board : PlainBoard) (unit : ℕ) (items : List Item) → All (IsReady board unit) items → has_capacity board unit items ≡ true → AreReady board unit items
all_ready board unit [] each h = none_ready board unit
all_ready board unit (item ∷ items) each h =
    let capacity = capacity_by (length items) board unit h in
    record { each = each; capacity = omega (arith, capacity.0); numbered = λ n. capacity.1 }

-- an arc or a curve gives no items
pub curve_ready : (board : PlainBoard) (unit : ℕ) (tree : Tree) (lies : LayerRole) (items : List Item) → curve_by tree lies ≡ Ok items → AreReady board unit items
curve_ready board unit tree (Copper layer) items h = absurd cc
curve_ready board unit tree Outlines items h = absurd cc
curve_ready board unit tree Front [] h = none_ready board unit
curve_ready board unit tree Back [] h = none_ready board unit
curve_ready board unit tree Elsewhere [] h = none_ready board unit
curve_ready board unit tree Front (item ∷ items) h = absurd cc
curve_ready board unit tree Back (item ∷ items) h = absurd cc
curve_ready board unit tree Elsewhere (item ∷ items) h = absurd cc

-- ---- one after another

still_ready : (board : PlainBoard) (unit : ℕ) (item other : Item) → IsReady board unit other → IsReady (with_item board item) unit other
still_ready board unit item other h = record { admitted = h.admitted; of_unit = h.of_unit }

-- the board takes the others after the first
pub others_ready : (board : PlainBoard) (unit : ℕ) (item : Item) (items : List Item) → AreReady board unit (item ∷ items) → AreReady (with_item board item) unit items
others_ready board unit item items h =
    let more = length-append board.items ((board.next_id, item) ∷ []) in
    let capacity = h.capacity in
    record { each = λ k d lt. still_ready board unit item _ (All-tail (IsReady board unit) item items h.each k d lt); capacity = omega (arith, more, capacity); numbered = λ n. h.numbered (omega arith) }

pub first_ready : (board : PlainBoard) (unit : ℕ) (item : Item) (items : List Item) → AreReady board unit (item ∷ items) → IsReady board unit item
first_ready board unit item items h = All-head (IsReady board unit) item items h.each

-- the layers of the board stay
pub same_copper : (items : List Item) (board : PlainBoard) → (with_items board items).copper ≡ board.copper
same_copper [] board = refl
same_copper (item ∷ items) board = same_copper items (with_item board item)

-- the last item is added to the board that has the others
pub item_last : (items : List Item) (item : Item) (board : PlainBoard) → with_items board (items ++ item ∷ []) ≡ with_item (with_items board items) item
item_last [] item board = refl
item_last (other ∷ items) item board = item_last items item (with_item board other)

-- ---- numbers of units

-- with items the number of the next unit never falls
pub items_low : (items : List Item) (board : PlainBoard) → board.next_unit ≤ (with_items board items).next_unit
items_low [] board = omega arith
items_low (item ∷ items) board = let low = items_low items (with_item board item) in omega (arith, low)

-- items of one unit take one number at most
pub items_high : (items : List Item) (board : PlainBoard) (unit : ℕ) → AreReady board unit items → board.next_unit ≤ suc unit → (with_items board items).next_unit ≤ suc unit
items_high [] board unit ready low = low
items_high (item ∷ items) board unit ready low =
    let own = (first_ready board unit item items ready).of_unit in
    items_high items (with_item board item) unit (others_ready board unit item items ready) (omega (arith, own, low))

-- the same of what a call leaves of a board
pub rise_low : (r : Result (Unit {0}) BoardError) (board new : PlainBoard) (items : List Item) → OnOk r (new ≡ with_items board items) → OnOk r (board.next_unit ≤ new.next_unit)
rise_low (Ok x) board new items e = subst (λ (b : PlainBoard). board.next_unit ≤ b.next_unit) (sym e) (items_low items board)
rise_low (Err x) board new items e = tt

pub rise_high : (r : Result (Unit {0}) BoardError) (board new : PlainBoard) (unit : ℕ) (items : List Item) → unit ≡ board.next_unit → AreReady board unit items → OnOk r (new ≡ with_items board items)
    → OnOk r (new.next_unit ≤ suc board.next_unit)
rise_high (Ok x) board new unit items u ready e =
    let high = items_high items board unit ready (omega (arith, u)) in
    let same : new.next_unit ≡ (with_items board items).next_unit = ap (λ (b : PlainBoard). b.next_unit) e in
    omega (arith, high, same, u)
rise_high (Err x) board new unit items u ready e = tt
