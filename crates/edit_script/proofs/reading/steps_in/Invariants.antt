use Rattle.std.proofs.Common.{◌≡◌, ◌≤◌, ◌+◌, length, map, sum_by, All}
use Rattle.sexpr_read.specs.TreeViews.{trees_left}
use Rattle.list_read.specs.FirstRefusals.{each_of}
use Rattle.edit_script.specs.CommandsOf.{step_of}
use Rattle.edit_script.specs.Fits.{IsReadStep, FormsStandIn, FormsShallow, size_of, added_by_step}
use Rattle.edit_script.specs.Commands.{plain_step}
use Rattle.edit_script.proofs.OneByOne.{read_on}
use Rattle.edit_script.proofs.reading.steps_in.Given as goal

-- what was read so far, and what is left, give what all gives
abbrev pub invariant-loop-form : goal.invariant-loop-form
invariant-loop-form l = record {
  read : read_on (step_of l.text) (map plain_step l.steps.items) (trees_left l.form-iterator) ≡ each_of (step_of l.text) (trees_left l.fn.forms);
  stand : FormsStandIn (length l.text) (trees_left l.form-iterator);
  shallow : FormsShallow l.text (trees_left l.form-iterator);
  together : sum_by added_by_step (map plain_step l.steps.items) + sum_by size_of (trees_left l.form-iterator) ≤ length l.text;
  known : All IsReadStep (map plain_step l.steps.items);
}
