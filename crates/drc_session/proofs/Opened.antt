-- The index of a board that is opened, where the rules were lent.
use Rattle.std.proofs.Common.{◌≡◌, sym, subst, ℤ, List, map}
use Rattle.board_items.specs.Boards.{PlainBoard}
use Rattle.net_class.specs.NetClasses.{PlainClasses}
use Rattle.cond_lang.specs.declared.constraints.Rule.{Rule}
use Rattle.cond_lang.specs.Rules.{plain_rule}
use Rattle.rule_pick.specs.Reach.{IsReach}
use Rattle.box_index.specs.Tiles.{PlainIndex}
use Rattle.board_index.specs.IndexedItems.{IsIndexOfItems}
use Rattle.pair_check.specs.PlainRow.{PlainRow}
use Rattle.pair_check.specs.Rows.{Checked, AreRows}
use Rattle.row_check.specs.RowsOfTile.{IsIndexOf}

module _ (board : PlainBoard) (classes : PlainClasses) where
  abbrev checked : List Rule → Checked
  checked rules = record { board = board; classes = classes; rules = map plain_rule rules }

  pub opened_index : (lent rules : List Rule) → lent ≡ rules → (reach : ℤ) → IsReach board classes (map plain_rule lent) reach → (index : PlainIndex) → index.reach ≡ reach → IsIndexOfItems board index → IsIndexOf (checked rules) index
  opened_index lent rules same reach far index e items =
      record { reach = subst (λ (z : ℤ). IsReach board classes (map plain_rule rules) z) (sym e) (subst (λ (q : List Rule). IsReach board classes (map plain_rule q) reach) same far); items = items }

  pub opened_rows : (lent rules : List Rule) → lent ≡ rules → (rows : List PlainRow) → AreRows (checked lent) rows → AreRows (checked rules) rows
  opened_rows lent rules same rows are = subst (λ (q : List Rule). AreRows (checked q) rows) same are
