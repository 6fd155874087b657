-- What the units of a board have become: one entry for each that is there, in order.
use Rattle.std.specs.Prelude.{◌≡◌, ℕ, suc, ◌≤◌, false, List, [], ◌∷◌, ◌++◌, MatchBool, ⊤, None}
use Rattle.std.specs.List.{AllZip}
use Rattle.one_item.specs.declared.item.Item.{Item}
use Rattle.board_items.specs.Boards.{PlainBoard}
use Rattle.roundtrip_lists.specs.Translated.{Shift}
use Rattle.roundtrip_lists.specs.Carried.{shift_of, Becomes}
use Rattle.roundtrip_boards.specs.WrittenBoard.{Draft, is_gone, shift_of_unit}

-- a unit: its items as they were read, and as they now are, with their ids; entry k of a ledger is that of unit k
pub record Entry : Type 0 where
  pub read : List Item
  pub now : List (ℕ × Item)

abbrev pub all_now : List Entry → List (ℕ × Item)
all_now [] = []
all_now (e ∷ es) = e.now ++ all_now es

-- what the item of an entry has become
abbrev pub IsNow : Shift → Item → ℕ × Item → Type 0
IsNow d item entry = Becomes d item entry.1

abbrev pub AreNow : Shift → Entry → Type 0
AreNow d entry = AllZip (IsNow d) entry.read entry.now

abbrev pub AreOf : ℕ → List (ℕ × Item) → Type 0
AreOf unit [] = ⊤
AreOf unit (e ∷ es) = (e.1.unit ≡ unit) × AreOf unit es

-- a unit that is gone has no items, and those of another are of it and were moved with it
pub record IsKept (draft : Draft) (unit : ℕ) (entry : Entry) : Type 0 where
  pub units : AreOf unit entry.now
  pub items : MatchBool (is_gone draft unit) (entry.now ≡ []) (AreNow (shift_of (shift_of_unit draft unit)) entry)

-- the entries are those of all units from this one on
abbrev pub AreKept : Draft → ℕ → List Entry → Type 0
AreKept draft unit [] = unit ≡ draft.next_unit
AreKept draft unit (e ∷ es) = IsKept draft unit e × AreKept draft (suc unit) es

pub record IsLedger (draft : Draft) (entries : List Entry) (board : PlainBoard) : Type 0 where
  pub items : board.items ≡ all_now entries
  pub next : draft.next_unit ≡ board.next_unit
  pub kept : AreKept draft 0 entries
  -- no unit that is still to come was taken out or moved
  pub gone_below : (unit : ℕ) → draft.next_unit ≤ unit → is_gone draft unit ≡ false
  pub moved_below : (unit : ℕ) → draft.next_unit ≤ unit → shift_of_unit draft unit ≡ None

-- what was read of each unit is still known
abbrev pub SameReads : List Entry → List Entry → Type 0
SameReads es fs = AllZip (λ (e f : Entry). f.read ≡ e.read) es fs
