use Rattle.std.proofs.Common.{◌≤◌, length, map, vec_capacity}
use Rattle.edit_script.specs.Commands.{plain_command}
use Rattle.tile_pool.specs.NumberedValues.{AreAnswers}
use Rattle.what_if.specs.Trials.{IsCountAt}
use Rattle.what_if.proofs.runs.in_order.Given as goal

abbrev pub invariant-loop-place : goal.invariant-loop-place
invariant-loop-place l = record {
  room : length l.commands ≤ vec_capacity l.counts;
  so_far : AreAnswers (IsCountAt l.session.state (map plain_command l.commands)) l.place l.counts.items;
}
