use Rattle.std.proofs.Common.{◌≡◌, ◌++◌, drop}
use Rattle.one_item.proofs.copying.copy_list.Given as goal

abbrev pub invariant-loop-part : goal.invariant-loop-part
invariant-loop-part l = l.parts ≡ l.list.items ++ drop l.part-index l.parts
