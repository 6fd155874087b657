-- The rows of a board: everything that its items break, over all pairs and all items.
use Rattle.std.specs.Prelude.{◌≡◌, ◌⊎◌, ℕ, ◌<◌, List, length, All, Contains, Some, IsSome}
use Rattle.std.specs.List.{AllPairs}
use Rattle.one_item.specs.declared.item.Item.{Item}
use Rattle.board_items.specs.Boards.{PlainBoard, item_at}
use Rattle.net_class.specs.NetClasses.{PlainClasses}
use Rattle.cond_lang.specs.CheckKinds.{kind_number}
use Rattle.cond_lang.specs.Rules.{PlainRule}
use Rattle.rule_pick.specs.declared.facts.Facts.{Facts}
use Rattle.rule_pick.specs.declared.kinds.Source.TheVariants.{Rule}
use Rattle.rule_pick.specs.FactsOf.{AreFactsOf}
use Rattle.pair_check.specs.PlainRow.{PlainRow}
use Rattle.pair_check.specs.Pairs.{Deciders, Pair, Breaks}
use Rattle.pair_check.specs.Singles.{BreaksAlone}

-- what is checked: a board, by the classes of a project and rules
pub record Checked : Type 0 where
  pub board : PlainBoard
  pub classes : PlainClasses
  pub rules : List PlainRule

abbrev pub deciders : Checked → Deciders
deciders c = record { copper = c.board.copper; mins = c.classes.mins; rules = c.rules }

-- the item of the id, with its facts
pub record Stands (c : Checked) (id : ℕ) (item : Item) (facts : Facts) : Type 0 where
  pub item_is : item_at c.board.items id ≡ Some item
  pub facts_are : AreFactsOf c.board c.classes item facts

-- the row says what two items break, the one with the lesser id first
pub record IsRowOfTwo (c : Checked) (row : PlainRow) : Type 0 where
  pub pair : Pair
  pub first : Stands c row.first pair.a pair.facts_a
  pub second : Stands c row.second pair.b pair.facts_b
  pub ordered : row.first < row.second
  pub broken : Breaks (deciders c) row.kind pair row

-- the row says what a single item breaks, which stands in it twice
pub record IsRowOfOne (c : Checked) (row : PlainRow) : Type 0 where
  pub item : Item
  pub facts : Facts
  pub first : Stands c row.first item facts
  pub same : row.second ≡ row.first
  pub broken : BreaksAlone (deciders c) row.kind item facts row

abbrev pub IsRow : Checked → PlainRow → Type 0
IsRow c row = IsRowOfTwo c row ⊎ IsRowOfOne c row

-- by the first item, then by the second, then by the kind
abbrev pub Before : PlainRow → PlainRow → Type 0
Before r s =
    (r.first < s.first)
    ⊎ ((r.first ≡ s.first) × (r.second < s.second))
    ⊎ ((r.first ≡ s.first) × (r.second ≡ s.second) × (kind_number r.kind < kind_number s.kind))

-- in order, each of the rows that pass and nothing else
pub record AreRowsWhere (Passes : PlainRow → Type 0) (rows : List PlainRow) : Type 0 where
  pub ordered : AllPairs Before rows
  pub only : All Passes rows
  pub all : (row : PlainRow) → Passes row → Contains rows row

-- all rows of the board and nothing else, each once, in order
abbrev pub AreRows : Checked → List PlainRow → Type 0
AreRows c rows = AreRowsWhere (IsRow c) rows

-- those of the two items of these ids
abbrev pub AreRowsOfPair : Checked → ℕ → ℕ → List PlainRow → Type 0
AreRowsOfPair c first second rows = AreRowsWhere (λ row. IsRowOfTwo c row × (row.first ≡ first) × (row.second ≡ second)) rows

-- those of the single item of this id
abbrev pub AreRowsOfItem : Checked → ℕ → List PlainRow → Type 0
AreRowsOfItem c id rows = AreRowsWhere (λ row. IsRowOfOne c row × (row.first ≡ id)) rows

-- the ids of the row are those of items of the board
pub record HasItems (board : PlainBoard) (row : PlainRow) : Type 0 where
  pub first : IsSome (item_at board.items row.first)
  pub second : IsSome (item_at board.items row.second)

-- where a rule asks for what the row says, it is one of the rules
abbrev pub HasSource : List PlainRule → PlainRow → Type 0
HasSource rules row = (n : ℕ) → row.source ≡ Rule n → n < length rules
