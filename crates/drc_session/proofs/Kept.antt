-- What a session holds, said of plain values.
use Rattle.std.proofs.Common.{◌≡◌, sym, subst, ℕ, ◌<◌, ℤ, List, length, Option}
use Rattle.std.proofs.lemmas.List.{length-map}
use Rattle.plain_types.specs.Lengths.{IsLength}
use Rattle.board_items.specs.Boards.{PlainBoard}
use Rattle.net_class.specs.NetClasses.{PlainClasses}
use Rattle.cond_lang.specs.Rules.{plain_rule}
use Rattle.rule_text.specs.RulesOf.{PlainRules}
use Rattle.rule_text.specs.RuleValues.{plain_rules}
use Rattle.rule_pick.specs.declared.facts.Facts.{Facts}
use Rattle.rule_pick.specs.AllFacts.{HasFacts}
use Rattle.box_index.specs.Tiles.{PlainIndex}
use Rattle.pair_check.specs.PlainRow.{PlainRow}
use Rattle.pair_check.specs.Rows.{AreRows}
use Rattle.row_check.specs.RowsOfTile.{IsIndexOf}
use Rattle.net_groups.specs.NetParts.{PlainNetPart, AreParts}
use Rattle.drc_session.specs.declared.parts.Parts.{Parts}
use Rattle.drc_session.specs.SessionContents.{IsKept}

record IsWholeOf (board : PlainBoard) (classes : PlainClasses) (rules : PlainRules) (facts : List (Option Facts)) (reach : ℤ) (index : PlainIndex) (rows : List PlainRow) (nets : List PlainNetPart) : Type 0 where
  facts_are : HasFacts board classes facts
  index_is : IsIndexOf (record { board = board; classes = classes; rules = rules.rules }) index
  reach_is : reach ≡ index.reach
  in_range : IsLength reach
  rows_are : AreRows (record { board = board; classes = classes; rules = rules.rules }) rows
  nets_are : AreParts board nets
  few : length rules.rules < 4294967295

whole_of : (parts : Parts) → IsKept parts → IsWholeOf parts.board parts.classes (plain_rules parts.rules) parts.facts parts.reach parts.index parts.rows.items parts.nets.items
whole_of parts k =
    record { facts_are = k.facts; index_is = k.index; reach_is = k.reach; in_range = k.in_range; rows_are = k.rows; nets_are = k.nets; few = subst (λ (n : ℕ). n < 4294967295) (sym (length-map parts.rules.rules plain_rule)) k.few }

kept_of : (parts : Parts) → IsWholeOf parts.board parts.classes (plain_rules parts.rules) parts.facts parts.reach parts.index parts.rows.items parts.nets.items → IsKept parts
kept_of parts w =
    record { facts = w.facts_are; index = w.index_is; reach = w.reach_is; in_range = w.in_range; rows = w.rows_are; nets = w.nets_are; few = subst (λ (n : ℕ). n < 4294967295) (length-map parts.rules.rules plain_rule) w.few }

module _ (old new : Parts) (board : new.board ≡ old.board) (classes : new.classes ≡ old.classes) (rules : plain_rules new.rules ≡ plain_rules old.rules) (facts : new.facts ≡ old.facts) (reach : new.reach ≡ old.reach) (index : new.index ≡ old.index)
    (rows : new.rows.items ≡ old.rows.items) (nets : new.nets.items ≡ old.nets.items) where
  -- what has the same is kept too
  pub kept_alike : IsKept old → IsKept new
  kept_alike k =
      let a = whole_of old k in
      let b = subst (λ (x : PlainBoard). IsWholeOf x old.classes (plain_rules old.rules) old.facts old.reach old.index old.rows.items old.nets.items) (sym board) a in
      let c = subst (λ (x : PlainClasses). IsWholeOf new.board x (plain_rules old.rules) old.facts old.reach old.index old.rows.items old.nets.items) (sym classes) b in
      let d = subst (λ (x : PlainRules). IsWholeOf new.board new.classes x old.facts old.reach old.index old.rows.items old.nets.items) (sym rules) c in
      let e = subst (λ (x : List (Option Facts)). IsWholeOf new.board new.classes (plain_rules new.rules) x old.reach old.index old.rows.items old.nets.items) (sym facts) d in
      let f = subst (λ (x : ℤ). IsWholeOf new.board new.classes (plain_rules new.rules) new.facts x old.index old.rows.items old.nets.items) (sym reach) e in
      let g = subst (λ (x : PlainIndex). IsWholeOf new.board new.classes (plain_rules new.rules) new.facts new.reach x old.rows.items old.nets.items) (sym index) f in
      let h = subst (λ (x : List PlainRow). IsWholeOf new.board new.classes (plain_rules new.rules) new.facts new.reach new.index x old.nets.items) (sym rows) g in
      kept_of new (subst (λ (x : List PlainNetPart). IsWholeOf new.board new.classes (plain_rules new.rules) new.facts new.reach new.index new.rows.items x) (sym nets) h)
