use Rattle.item_facts.specs.Known.{AreKnown}
use Rattle.item_facts.proofs.threads.classes_of.Given as goal

abbrev pub invariant-loop-net : goal.invariant-loop-net
invariant-loop-net l = AreKnown l.classes l.board l.known
