-- Items that are carried to another place and another unit.
use Rattle.std.specs.Prelude.{◌≡◌, ℕ, pos, ◌+ℤ◌, ◌*ℤ◌, true, false, List, [], ◌∷◌, map, MatchBool, Option, None, Some, Result, Ok, Err, ⊤}
use Rattle.std.specs.List.{AllZip}
use Rattle.board_errors.specs.declared.errors.BoardError.{BoardError}
use Rattle.one_item.specs.declared.item.Item.{Item}
use Rattle.one_item.specs.ItemMoves.{AreShifted, HoleIsShifted, KindIsShifted}
use Rattle.one_item.specs.ItemKinds.{is_note}
use Rattle.one_item.specs.Positions.{is_on_board}
use Rattle.roundtrip_lists.specs.Translated.{Shift}

-- moved by nothing where there is no shift
abbrev pub shift_of : Option Shift → Shift
shift_of None = record { dx = pos 0; dy = pos 0 }
shift_of (Some d) = d

-- the second item is the first, moved; it may be of another unit
pub record IsCarried (d : Shift) (item moved : Item) : Type 0 where
  pub name : moved.name ≡ item.name
  pub net : moved.net ≡ item.net
  pub x : moved.x ≡ item.x +ℤ d.dx
  pub y : moved.y ≡ item.y +ℤ d.dy
  pub copper : AreShifted (pos 2 *ℤ d.dx) (pos 2 *ℤ d.dy) item.copper moved.copper
  pub hole : HoleIsShifted (pos 2 *ℤ d.dx) (pos 2 *ℤ d.dy) item.hole moved.hole
  pub local : moved.local ≡ item.local
  pub what : KindIsShifted (pos 2 *ℤ d.dx) (pos 2 *ℤ d.dy) item.what moved.what

-- what an item has become: a note is as it was, and any other item is carried, and lies on a board
abbrev pub Becomes : Shift → Item → Item → Type 0
Becomes d item now = MatchBool (is_note item.what) (now ≡ item) (IsCarried d item now × (is_on_board now ≡ true))

-- the items, as ones of this unit
abbrev pub of_unit : ℕ → List Item → List Item
of_unit unit items = map (λ (item : Item). record item { unit = unit }) items

-- the items are of this unit, and each lies on a board
abbrev pub ItemsOf : ℕ → List Item → Type 0
ItemsOf unit [] = ⊤
ItemsOf unit (item ∷ items) = (item.unit ≡ unit) × (is_on_board item ≡ true) × ItemsOf unit items

-- where the one is accepted, the other answer is so related to what it gives
abbrev pub IfAccepted : {A B : Type 0} → (A → Result B BoardError → Type 0) → Result A BoardError → Result B BoardError → Type 0
IfAccepted Q (Ok x) answer = Q x answer
IfAccepted Q (Err e) answer = ⊤

-- the item is no note, and wherever it is carried on a board, that is what is read
abbrev pub ReadsCarried : Shift → ℕ → Item → Result Item BoardError → Type 0
ReadsCarried d unit item answer = (is_note item.what ≡ false) × ((moved : Item) → IsCarried d item moved → is_on_board moved ≡ true → moved.unit ≡ unit → answer ≡ Ok moved)

-- the same of the items of a list
abbrev pub ReadsItems : Shift → ℕ → List Item → Result (List Item) BoardError → Type 0
ReadsItems d unit items answer = (now : List Item) → AllZip (Becomes d) items now → answer ≡ Ok (of_unit unit now)
