use Rattle.std.proofs.Common.{drop}
use Rattle.rule_pick.specs.FactsOf.{MeetsArea}
use Rattle.item_facts.specs.FoundNames.{ArePrefix}
use Rattle.item_facts.specs.NearItems.{picked}
use Rattle.item_facts.proofs.names.areas_near.Given as goal

abbrev pub invariant-loop-id : goal.invariant-loop-id
invariant-loop-id l = ArePrefix (MeetsArea l.item) (picked l.board.items l.ids) (picked l.board.items (drop l.id-index l.ids)) l.names.items
