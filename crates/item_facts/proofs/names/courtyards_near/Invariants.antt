use Rattle.std.proofs.Common.{drop}
use Rattle.rule_pick.specs.FactsOf.{MeetsCourtyard}
use Rattle.item_facts.specs.FoundNames.{ArePrefix}
use Rattle.item_facts.specs.NearItems.{picked}
use Rattle.item_facts.proofs.names.courtyards_near.Given as goal

abbrev pub invariant-loop-id : goal.invariant-loop-id
invariant-loop-id l = ArePrefix (MeetsCourtyard l.item) (picked l.board.items l.ids) (picked l.board.items (drop l.id-index l.ids)) l.names.items
