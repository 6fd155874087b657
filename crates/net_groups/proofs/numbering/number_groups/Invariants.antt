use Rattle.std.proofs.Common.{◌≡◌, length}
use Rattle.net_groups.specs.Numbering.{number_of}
use Rattle.net_groups.proofs.Numbers.{AreNumberedTo}
use Rattle.net_groups.proofs.numbering.number_groups.Given as goal

abbrev pub invariant-loop-number : goal.invariant-loop-number
invariant-loop-number l = record {
  many : length l.numbers.items ≡ length l.ids;
  numbered : AreNumberedTo l.groups l.number (number_of l.ids l.numbers.items);
}
