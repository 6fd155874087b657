use Rattle.board_items.specs.BoardIterators.{items_left}
use Rattle.item_facts.proofs.Filled.{HaveSoFar}
use Rattle.item_facts.proofs.threads.have_all.Given as goal

-- each item is left, or has facts
abbrev pub invariant-loop-id : goal.invariant-loop-id
invariant-loop-id l = HaveSoFar l.board l.facts (items_left l.id-iterator)
