use Rattle.kept_facts.specs.ConcernedItems.{AreAskedTo}
use Rattle.kept_facts.proofs.asking.asked_for.Given as goal

abbrev pub invariant-loop-place : goal.invariant-loop-place
invariant-loop-place l = AreAskedTo l.place l.board l.ids l.before l.asked.items
