use Rattle.std.proofs.Common.{◌≡◌, length, take}
use Rattle.net_groups.specs.Numbering.{number_of, IsEntered}
use Rattle.net_groups.proofs.numbering.enter.Given as goal

-- the members that have passed are entered
abbrev pub invariant-loop-id : goal.invariant-loop-id
invariant-loop-id l = record {
  many : length l.numbers ≡ length l.ids;
  entered : IsEntered (take l.id-index l.members) l.number (number_of l.ids l.fn.numbers) (number_of l.ids l.numbers);
}
