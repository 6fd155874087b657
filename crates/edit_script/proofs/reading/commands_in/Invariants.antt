use Rattle.std.proofs.Common.{◌≡◌, ◌≤◌, ◌+◌, length, map, sum_by, All}
use Rattle.sexpr_read.specs.TreeViews.{trees_left}
use Rattle.list_read.specs.FirstRefusals.{each_of}
use Rattle.edit_script.specs.CommandsOf.{command_of}
use Rattle.edit_script.specs.Fits.{IsRead, FormsStandIn, FormsShallow, size_of, added_by}
use Rattle.edit_script.specs.Commands.{plain_command}
use Rattle.edit_script.proofs.OneByOne.{read_on}
use Rattle.edit_script.proofs.reading.commands_in.Given as goal

-- what was read so far, and what is left, give what all gives
abbrev pub invariant-loop-form : goal.invariant-loop-form
invariant-loop-form l = record {
  read : read_on (command_of l.text) (map plain_command l.commands.items) (trees_left l.form-iterator) ≡ each_of (command_of l.text) (trees_left l.fn.forms);
  stand : FormsStandIn (length l.text) (trees_left l.form-iterator);
  shallow : FormsShallow l.text (trees_left l.form-iterator);
  together : sum_by added_by (map plain_command l.commands.items) + sum_by size_of (trees_left l.form-iterator) ≤ length l.text;
  known : All IsRead (map plain_command l.commands.items);
}
