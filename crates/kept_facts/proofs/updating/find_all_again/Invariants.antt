use Rattle.std.proofs.Common.{take}
use Rattle.item_facts.specs.Known.{AreKnown}
use Rattle.kept_facts.specs.ConcernedItems.{AreFoundAgain}
use Rattle.kept_facts.proofs.updating.find_all_again.Given as goal

abbrev pub invariant-loop-place : goal.invariant-loop-place
invariant-loop-place l = AreKnown l.sources.classes.now l.sources.board.now l.known × AreFoundAgain l.sources.board.now l.sources.classes.now l.ids (take l.place l.asked) l.fn.facts l.facts l.changed.items
