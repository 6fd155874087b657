use Rattle.std.proofs.Common.{take}
use Rattle.std.specs.Option.{option_copied}
use Rattle.kept_facts.specs.ConcernedItems.{HasOthers}
use Rattle.kept_facts.proofs.asking.push_others.Given as goal

abbrev pub invariant-loop-id : goal.invariant-loop-id
invariant-loop-id l = HasOthers l.board (take l.id-index l.near) (option_copied l.before) (option_copied l.now) l.fn.asked.items l.asked.items
